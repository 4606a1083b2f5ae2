-- Laws of what the search for roots hands back. Assumes nothing.
use mathlib.Core.Path.{◌≡◌, sym, ap, ◌∙◌}
use mathlib.Core.List.{List, []}
use Prim.Native.Nat.{ℕ, ◌≤◌}
use native.Mathlib.Omega.{arith}
use lib.ListN.{length, take, drop, length-append}
use lib.Seq.{take_at, length-take-le}
use lib.Ieee.{Float}
use Rattle.shape.specs.declared.Shape.{Shape}
use Rattle.bernstein.specs.Answers as R
use Rattle.bernstein.specs.Roots as B
use Rattle.bernstein.specs.Roots.{roots_of, search_of, left_in, Searched}
use Rattle.bernstein.proofs.Levels.{room_enough}
use Rattle.bernstein.specs.Answers.{Refused}
use Rattle.support.specs.Freeform.{Freeform}
use Rattle.support.specs.Hits.{resolved, resolved_at}
use Rattle.support.specs.Pieces.{HitsWritten}
use Rattle.support.proofs.Answers.{met_refused}

refusal_is : (o : B.RootsResult) (n left : ℕ) → B.answer_of o ≡ R.Refused n left → o ≡ B.refused n left
unfolding B.answer_of
refusal_is (B.found l b) n left e = let z : ◌≡◌ {A = ℕ} 0 1 = cc in absurd (omega arith)
refusal_is (B.refused m b) n left e = cc

found_is : (o : B.RootsResult) (m left : ℕ) (lent later : List Float) → B.answer_of o ≡ R.Found m left → later ≡ left_in o lent → o ≡ B.found (take m later) left
unfolding B.answer_of left_in
found_is (B.found l b) m left lent later e g =
    let n : length l ≡ m = cc in
    let k : b ≡ left = cc in
    let t : take m later ≡ l = rw (g, take_at l (drop (length l) lent) m n) in
    rw (t, k)
found_is (B.refused w b) m left lent later e g = let z : ◌≡◌ {A = ℕ} 0 1 = cc in absurd (omega arith)

found_fits : (o : B.RootsResult) (m left : ℕ) (lent later : List Float) → B.answer_of o ≡ R.Found m left → later ≡ left_in o lent → m ≤ length later
unfolding B.answer_of left_in
found_fits (B.found l b) m left lent later e g =
    let n : length l ≡ m = cc in
    omega (arith, ap length g, length-append l (drop (length l) lent))
found_fits (B.refused w b) m left lent later e g = let z : ◌≡◌ {A = ℕ} 0 1 = cc in absurd (omega arith)

module _ (line : Shape) (f : Freeform) (c ts₀ ts : List Float) (b : ℕ) (r : R.Answer) (s : Searched (search_of (length ts₀) c b) ts₀ ts r) (room : 28 ≤ length ts₀) where
  roots_are : search_of (length ts₀) c b ≡ roots_of c b
  roots_are = room_enough (length ts₀) c b room

  pub none_resolved : (n left : ℕ) → r ≡ R.Refused n left → (hx hy : List Float) → HitsWritten (resolved_at line f (roots_of c b)) hx hy hx hy (Refused n left)
  unfolding resolved_at
  none_resolved n left e hx hy =
      let o : roots_of c b ≡ B.refused n left = sym roots_are ∙ refusal_is (search_of (length ts₀) c b) n left (sym s.answer ∙ e) in
      rw o (met_refused hx hy left n)

  module _ (m left : ℕ) (e : r ≡ R.Found m left) where
    pub roots_fit : m ≤ length ts
    roots_fit = found_fits (search_of (length ts₀) c b) m left ts₀ ts (sym s.answer ∙ e) s.buffer

    pub roots_counted : m ≡ length (take m ts)
    roots_counted = sym (length-take-le m ts roots_fit)

    pub roots_few : (n : ℕ) → length ts ≡ n → length (take m ts) ≤ n
    roots_few n same = omega (arith, roots_counted, roots_fit)

    pub roots_resolved : resolved_at line f (roots_of c b) ≡ resolved line f [] (take m ts) left
    unfolding resolved_at
    roots_resolved =
        let o : roots_of c b ≡ B.found (take m ts) left = sym roots_are ∙ found_is (search_of (length ts₀) c b) m left ts₀ ts (sym s.answer ∙ e) s.buffer in
        rw o
