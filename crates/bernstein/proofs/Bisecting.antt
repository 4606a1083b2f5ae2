-- Laws of halving: how a sign is compared, and what each way through a turn makes of the rest. Assumes nothing.
use mathlib.Core.Path.{◌≡◌, refl, sym, ap, ◌∙◌}
use mathlib.Core.List.{List}
use mathlib.Core.Bool.{Bool, true, false, not, beq, false≢true}
use Prim.Native.Nat.{ℕ, suc, ◌+◌, ◌-◌, ◌<◌}
use native.Mathlib.Omega.{arith}
use borrow.Author.Tests.{eq-eqb, ne_eqb}
use lib.Ieee.{Float, nan, inf, fin, eq, ne, neg, of_bits}
use Rattle.std.specs.Prelude.{Some, None}
use Rattle.bernstein.specs.declared.Bisected.{Bisected}
use Rattle.float.specs.Sign.{negative, signum}
use Rattle.float.proofs.Signs.{the_nan, nan_is}
use Rattle.bernstein.specs.Evaluate.{evaluate_of}
use Rattle.bernstein.specs.Bisect.{middle, narrow, same_sign, bisect_of}

-- ---- signs

pub nan_first : (f g : Float) → eq f f ≡ false → false ≡ same_sign f g
unfolding same_sign signum eq ne
nan_first f g h = rw (the_nan f (sym (nan_is f) ∙ ap not h))

pub nan_second : (f g : Float) → eq g g ≡ false → false ≡ same_sign f g
unfolding same_sign signum eq ne of_bits neg
nan_second f g h = rw (the_nan g (sym (nan_is g) ∙ ap not h)) (go f)
  where
    go : (x : Float) → false ≡ eq (signum x) nan
    go nan = refl
    go (inf true) = refl
    go (inf false) = refl
    go (fin true m e) = refl
    go (fin false m e) = refl

pub signs : (f g : Float) → eq f f ≡ true → eq g g ≡ true → beq (negative f) (negative g) ≡ same_sign f g
unfolding same_sign signum negative eq of_bits neg
signs nan g h k = absurd (false≢true h)
signs (inf s) nan h k = absurd (false≢true k)
signs (inf true) (inf true) h k = refl
signs (inf true) (inf false) h k = refl
signs (inf false) (inf true) h k = refl
signs (inf false) (inf false) h k = refl
signs (inf true) (fin true m e) h k = refl
signs (inf true) (fin false m e) h k = refl
signs (inf false) (fin true m e) h k = refl
signs (inf false) (fin false m e) h k = refl
signs (fin s m e) nan h k = absurd (false≢true k)
signs (fin true m e) (inf true) h k = refl
signs (fin true m e) (inf false) h k = refl
signs (fin false m e) (inf true) h k = refl
signs (fin false m e) (inf false) h k = refl
signs (fin true m e) (fin true n d) h k = refl
signs (fin true m e) (fin false n d) h k = refl
signs (fin false m e) (fin true n d) h k = refl
signs (fin false m e) (fin false n d) h k = refl

-- ---- a turn

abbrev pub ended_at : Float → ℕ → Bisected
ended_at m b = record { at = m; budget = b }

one_more : (k : ℕ) → k < 64 → 64 - k ≡ suc (64 - (k + 1))
one_more k h = omega arith

module _ (c : List Float) (lo hi fl : Float) (k b : ℕ) (h : k < 64) where
  pub none_left : b ≡ 0 → bisect_of c (64 - k) lo hi fl b ≡ None
  unfolding bisect_of
  none_left e = rw (one_more k h, eq-eqb b 0 e)

  module _ (g : b ≡ 0 → ⊥) where
    pub near : narrow lo hi ≡ true → bisect_of c (64 - k) lo hi fl b ≡ Some (ended_at (middle lo hi) (b - 1))
    unfolding bisect_of
    near e = rw (one_more k h, ne_eqb b 0 g, e)

    module _ (w : narrow lo hi ≡ false) (f : Float) (ef : f ≡ evaluate_of c (middle lo hi)) (s : Bool) (es : s ≡ same_sign f fl) where
      pub above : s ≡ true → bisect_of c (64 - (k + 1)) (middle lo hi) hi f (b - 1) ≡ bisect_of c (64 - k) lo hi fl b
      unfolding bisect_of
      above t =
          let e : same_sign (evaluate_of c (middle lo hi)) fl ≡ true = ap (λ (x : Float). same_sign x fl) (sym ef) ∙ sym es ∙ t in
          rw (ef, one_more k h, ne_eqb b 0 g, w, e)

      pub below : s ≡ false → bisect_of c (64 - (k + 1)) lo (middle lo hi) fl (b - 1) ≡ bisect_of c (64 - k) lo hi fl b
      unfolding bisect_of
      below t =
          let e : same_sign (evaluate_of c (middle lo hi)) fl ≡ false = ap (λ (x : Float). same_sign x fl) (sym ef) ∙ sym es ∙ t in
          rw (one_more k h, ne_eqb b 0 g, w, e)

pub ended : (c : List Float) (n : ℕ) (lo hi fl : Float) (b : ℕ) → n ≡ 0 → Some (ended_at (middle lo hi) b) ≡ bisect_of c n lo hi fl b
unfolding bisect_of
ended c n lo hi fl b e = rw e
