-- How much a plan adds, and what is left of a relation: small numbers. Assumes nothing.
use mathlib.Core.Path.{◌≡◌}
use mathlib.Core.Bool.{Bool, true, false, not, ◌&&◌, ◌||◌}
use mathlib.Core.List.{[], ◌∷◌}
use mathlib.Core.Option.{Option, some, none}
use Prim.Native.Nat.{ℕ, ◌+◌, ◌-◌, ◌≤◌}
use native.Mathlib.Omega.{arith}
use lib.Dec.{eqb, leb, ltb}
use lib.ListN.{length}
use borrow.Author.Tests.{lt-ltb, le-ltb, le-leb, lt-leb}
use Rattle.sketch.specs.declared.CurveKind.{CurveKind}
use Rattle.sketch.specs.declared.Relation.{Relation}
use Rattle.sketch.specs.declared.Relation.TheVariants.{Coincident, PointOnCurve, Collinear, Equal, Length, Distance, Midpoint, ArcLength, ArcSweep}
use Rattle.sketch.specs.Lists.{ite}
use Rattle.sketch.proofs.Bools.{at_most_or_above}
use Rattle.edit_plan.specs.declared.Plan.{Plan}
use Rattle.edit_plan.specs.declared.Plan.TheVariants.{Whole, Cut, CutTwo, Divide, DivideTwo, Move}
use Rattle.edit_plan.specs.declared.Additions.{Additions}
use Rattle.edit_plan.specs.Steps.{is_some, drop_if, measured, release_relation}
use Rattle.edit_plan.specs.Changes.{is_circle}
use Rattle.edit_plan.specs.Room.{mk_additions, additions_for}

-- ---- how many relations are left

dropped_one : (b : Bool) (r : Relation) → length (drop_if b r) ≤ 1
dropped_one true r = omega arith
dropped_one false r = omega arith

pub released_one : (t : ℕ) (e : Option (ℕ × ℕ)) (r : Relation) → length (release_relation t e r) ≤ 1
unfolding release_relation measured
released_one t e (Coincident p q) = omega arith
released_one t e (PointOnCurve p c) = omega arith
released_one t e (Collinear a b) = omega arith
released_one t e (Equal a b) = dropped_one (is_some e && (eqb a t || eqb b t)) (Equal a b)
released_one t e (Length l v) = go (eqb l t) e
  where
    go : (b : Bool) (e : Option (ℕ × ℕ)) → length (ite b (measured e v) (Length l v ∷ [])) ≤ 1
    go true none = omega arith
    go true (some x) = omega arith
    go false e = omega arith
released_one t e (Distance p q v) = omega arith
released_one t e (Midpoint p l) = dropped_one (eqb l t) (Midpoint p l)
released_one t e (ArcLength c v) = dropped_one (eqb c t) (ArcLength c v)
released_one t e (ArcSweep c v) = dropped_one (eqb c t) (ArcSweep c v)

-- the relations don't fit beside those that are left
pub full_is : (left more : ℕ) → more ≤ 2 → leb (256 - more) left ≡ not (ltb (left + more) 256)
full_is left more h =
    at_most_or_above (256 - more) left (λ k. rw (le-leb (256 - more) left k, le-ltb (left + more) 256 (omega arith)))
    (λ k. rw (lt-leb (256 - more) left k, lt-ltb (left + more) 256 (omega arith)))

-- ---- additions are few

pub record Small (d : Additions) : Type 0 where
  pub points : d.points ≤ 1
  pub curves : d.curves ≤ 1
  pub relations : d.relations ≤ 2

small_for : (k : CurveKind) (p : Plan) → Small (additions_for k p)
unfolding additions_for
small_for k Whole = record { points = omega arith; curves = omega arith; relations = omega arith }
small_for k (Cut w b) = record { points = omega arith; curves = omega arith; relations = omega arith }
small_for k (CutTwo w v b) = go (is_circle k)
  where
    go : (x : Bool) → Small (ite x (mk_additions w.at v.at 1 0 1) (mk_additions w.at v.at 1 1 2))
    go true = record { points = omega arith; curves = omega arith; relations = omega arith }
    go false = record { points = omega arith; curves = omega arith; relations = omega arith }
small_for k (Divide v) = record { points = omega arith; curves = omega arith; relations = omega arith }
small_for k (DivideTwo v u) = record { points = omega arith; curves = omega arith; relations = omega arith }
small_for k (Move b v w) = record { points = omega arith; curves = omega arith; relations = omega arith }

pub small : (d : Additions) (k : CurveKind) (p : Plan) → d ≡ additions_for k p → Small d
small d k p e = rw e (small_for k p)
