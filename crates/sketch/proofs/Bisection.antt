-- What the answer of a look-up says.
use mathlib.Core.Path.{◌≡◌, sym, subst}
use mathlib.Core.List.{List}
use Prim.Native.Nat.{ℕ, ◌≤◌, ◌<◌}
use native.Mathlib.Omega.{arith}
use lib.ListN.{length, get_or, get_or-eq_default}
use lib.Dec.{ltb}
use Rattle.std.specs.Prelude.{Option, Some, None, Result, Ok, Err, is_some, IfOk}
use Rattle.std.proofs.Common.{Ordering}
use Rattle.std.specs.declared.cmp.Ordering.TheVariants.{Equal}
use Rattle.std.specs.Ordering.{nat_cmp, MatchOrdering}
use Rattle.std.specs.Cmp.{ranks}
use Rattle.std.specs.Result.{result_ok}
use Rattle.std.specs.List.{HoldsAt}
use Rattle.std.specs.List.Sorted.{IsBinarySearchResult, IsSearchInRange}
use Rattle.std.proofs.lemmas.List.Sorted.{searched}
use Rattle.sketch.specs.Lookup.{among, Ascends, Found, FoundAt, sort_among}
use Rattle.sketch.proofs.Ascent.{order, among_at, among_nowhere, sort_at_lem, sort_nowhere}
use Rattle.sketch.proofs.Bools.{at_most_or_above}
use borrow.Author.Tests.{lt-ltb, le-ltb}

-- a place where the id stands is an answer, however it was come by
pub found_here : (id : ℕ) (ids : List ℕ) (r : ℕ) → r < length ids → get_or ids r 0 ≡ id → Found id ids r
found_here id ids r q e = record { within = omega arith; here = λ u. e; nowhere = λ a u. absurd (omega arith) }

module _ (id : ℕ) (ids : List ℕ) (r : ℕ) (f : Found id ids r) (h : Ascends ids) where
  pub found_among_lem : ltb r (length ids) ≡ among id ids
  found_among_lem =
      at_most_or_above (length ids) r
      (λ q. rw (le-ltb r (length ids) q) (sym (f.nowhere h (omega arith))))
      (λ q. rw (lt-ltb r (length ids) q) (sym (among_at id ids r q (f.here q))))

  pub found_sort : (ss : List ℕ) → length ids ≡ length ss → get_or ss r 0 ≡ sort_among id ids ss
  found_sort ss e =
      at_most_or_above (length ids) r
      (λ q. let u : length ss ≤ r = omega arith in rw (get_or-eq_default ss 0 u) (sym (sort_nowhere id ids ss (f.nowhere h (omega arith)))))
      (λ q. sym (sort_at_lem id ids ss r h q (f.here q)))

-- ---- a look-up's answer as an option

-- ids that rise do not fall
rises : (ids : List ℕ) → Ascends ids → (i j : ℕ) → i ≤ j → j < length ids → get_or ids i 0 ≤ get_or ids j 0
rises ids a i j p q =
    at_most_or_above j i (λ u. let e : i ≡ j = omega arith in rw e (omega arith)) (λ u. let v = order ids i j a u q in omega arith)

-- what a binary search answers
pub found_by_search : (id : ℕ) (ids : List ℕ) (r : Result ℕ ℕ) → IsSearchInRange r (length ids) → IfOk r (HoldsAt (λ y. nat_cmp y id ≡ Equal) ids) → IsBinarySearchResult (λ y. nat_cmp y id) ids r
    → FoundAt id ids (result_ok r)
found_by_search id ids (Ok k) within here h =
    (within, subst (λ (o : Ordering). MatchOrdering o (get_or ids k 0 < id) (get_or ids k 0 ≡ id) (id < get_or ids k 0)) (here 0) (ranks (get_or ids k 0) id))
found_by_search id ids (Err i) within here h = λ a. among_nowhere id ids (λ k q e. apart a k q e)
  where
    apart : Ascends ids → (k : ℕ) → k < length ids → get_or ids k 0 ≡ id → ⊥
    apart a k q e =
        let w = searched ids id (Err i) h (rises ids a) in
        at_most_or_above i k (λ u. let v = w.2 k u q in omega arith) (λ u. let v = w.1 k u in omega arith)

pub found_among : (id : ℕ) (ids : List ℕ) (r : Option ℕ) → FoundAt id ids r → Ascends ids → is_some r ≡ among id ids
found_among id ids (Some k) f h = sym (among_at id ids k f.0 f.1)
found_among id ids None f h = sym (f h)
