-- A root between two places at which the signs differ, by halving. Definitions only.
use Rattle.std.specs.Prelude.{ℕ, zero, suc, ◌-◌, List, Bool, cond, Option, Some, None, eqb, Float}
use Rattle.std.specs.Float.Ieee.{lt, eq}
use Rattle.float.specs.Numbers.{◌⊕◌, ◌⊖◌, ◌⊗◌, ½, 2e-14}
use Rattle.float.specs.Sign.{signum}
use Rattle.bernstein.specs.Evaluate.{evaluate_of}
use Rattle.bernstein.specs.declared.Bisected.{Bisected}

unfoldable pub middle : Float → Float → Float
middle lo hi = (lo ⊕ hi) ⊗ ½

unfoldable pub narrow : Float → Float → Bool
narrow lo hi = lt (hi ⊖ lo) 2e-14

-- A zero has the sign of its sign bit, and a NaN shares none with anything.
unfoldable pub same_sign : Float → Float → Bool
same_sign f g = eq (signum f) (signum g)

-- At most k steps from lo, with the value fl, to hi. Each takes one of the budget b, the last, at which the two are near enough, too.
-- (Whole branches are named first, so that only the one that is chosen is worked out.)
unfoldable pub bisect_of : List Float → ℕ → Float → Float → Float → ℕ → Option Bisected
bisect_of c zero lo hi fl b = Some (record { at = middle lo hi; budget = b })
bisect_of c (suc k) lo hi fl b =
    let m = middle lo hi in
    let f = evaluate_of c m in
    let above = bisect_of c k m hi f (b - 1) in
    let below = bisect_of c k lo m fl (b - 1) in
    let ended = Some (record { at = m; budget = b - 1 }) in
    cond (eqb b 0) None (cond (narrow lo hi) ended (cond (same_sign f fl) above below))
