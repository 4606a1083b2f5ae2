-- What a number that was tried as an operation's tells.
use Rattle.std.proofs.Common.{◌≡◌, ℕ, ◌<◌, ◌&&◌, Bool, true, false, eqb, leb, refl, sym, arith}
use Rattle.std.specs.Prelude.{Ok, Err}
use Rattle.std.specs.Result.{result_unwrap_or}
use borrow.Author.Tests.{leb-false, ne_eqb}
use Rattle.refusal.specs.declared.Refusal.{Refusal}
use Rattle.refusal.specs.declared.Refusal.TheVariants.{BadOperation}
use Rattle.sketch.specs.Lists.{ite}
use Rattle.message.specs.declared.Operation.{Operation}
use Rattle.message.specs.declared.Operation.TheVariants.{Trim, Split, Extend}
use Rattle.message.specs.Message.{is_operation, operation_of, operation_numbered}

-- a number that is taken means an operation, and gives it
pub known_operation : (n : ℕ) (o : Operation) → Ok o ≡ operation_numbered n → (is_operation n ≡ true) × (o ≡ operation_of n)
known_operation n o h = go (is_operation n) h refl
  where
    go : (b : Bool) → Ok o ≡ ite b (Ok (operation_of n)) (Err BadOperation) → is_operation n ≡ b → (is_operation n ≡ true) × (o ≡ operation_of n)
    go true h e = (e, cc)
    go false h e = cc

-- a number that is refused means none
pub unknown_operation : (n : ℕ) (r : Refusal) → Err r ≡ operation_numbered n → (is_operation n ≡ false) × (r ≡ BadOperation)
unknown_operation n r h = go (is_operation n) h refl
  where
    go : (b : Bool) → Err r ≡ ite b (Ok (operation_of n)) (Err BadOperation) → is_operation n ≡ b → (is_operation n ≡ false) × (r ≡ BadOperation)
    go true h e = cc
    go false h e = (e, cc)

-- the operation of any number: one that means none is an extend
pub or_extend : (n : ℕ) → result_unwrap_or (operation_numbered n) Extend ≡ operation_of n
unfolding operation_of
or_extend n = go (leb 1 n) (leb n 3) refl refl
  where
    none : (n ≡ 1 → ⊥) → (n ≡ 2 → ⊥) → Extend ≡ ite (eqb n 1) Trim (ite (eqb n 2) Split Extend)
    none h k = sym (rw (ne_eqb n 1 h, ne_eqb n 2 k))

    go : (a b : Bool) → leb 1 n ≡ a → leb n 3 ≡ b → result_unwrap_or (ite (a && b) (Ok (ite (eqb n 1) Trim (ite (eqb n 2) Split Extend))) (Err BadOperation)) Extend ≡ ite (eqb n 1) Trim (ite (eqb n 2) Split Extend)
    go true true p q = refl
    go true false p q = let h : 3 < n = omega (arith, leb-false n 3 q) in none (λ z. omega arith) (λ z. omega arith)
    go false b p q = let h : n < 1 = omega (arith, leb-false 1 n p) in none (λ z. omega arith) (λ z. omega arith)
