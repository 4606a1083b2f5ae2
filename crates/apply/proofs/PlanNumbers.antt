-- What an edit makes of a drawing of numbers that fit is such a drawing. Assumes nothing.
use mathlib.Core.Path.{refl, sym, subst}
use mathlib.Core.Bool.{Bool, true, false, ◌&&◌, ◌||◌}
use mathlib.Core.List.{List, [], ◌∷◌}
use mathlib.Core.Option.{Option, some, none}
use Prim.Native.Nat.{ℕ, zero, suc, ◌<◌}
use native.Mathlib.Omega.{arith}
use lib.Dec.{T, eqb}
use lib.ListN.{length, take, drop, set, get_or}
use lib.Ieee.{binary64}
use lib.Ieee.Bits.{of_bits-fits}
use mir.Val.{Val}
use denote.Shadow.{shadow}
use Rattle.geom.specs.declared.Vec2.{Vec2}
use Rattle.geom.specs.Plane.{origin}
use Rattle.geom.specs.contracts.Vec2 as G
use Rattle.std.specs.Prelude.{Some, None}
use Rattle.sketch.specs.declared.Curve.{Curve}
use Rattle.sketch.specs.declared.CurveKind.{CurveKind}
use Rattle.sketch.specs.declared.CurveKind.TheVariants.{Line, Arc, Circle, Bezier, Conic}
use Rattle.sketch.specs.declared.Relation.{Relation}
use Rattle.sketch.specs.declared.Relation.TheVariants.{Coincident, PointOnCurve, Collinear, Equal, Length, Distance, Midpoint, ArcLength, ArcSweep}
use Rattle.sketch.specs.Lists.{ite, every, keep, concat_map}
use Rattle.sketch.specs.Lookup.{among}
use Rattle.sketch.specs.Drawing.{Drawing, points_of}
use Rattle.sketch.specs.Blanks.{no_curve}
use Rattle.image.specs.Stored.{Each, Binary64}
use Rattle.edit_plan.specs.declared.Pin.{Pin}
use Rattle.edit_plan.specs.declared.Pin.TheVariants.{On, At}
use Rattle.edit_plan.specs.declared.PinnedPoint.{PinnedPoint}
use Rattle.edit_plan.specs.declared.Plan.{Plan}
use Rattle.edit_plan.specs.declared.Plan.TheVariants.{Whole, Cut, CutTwo, Divide, DivideTwo, Move}
use Rattle.edit_plan.specs.declared.Extent.{Extent}
use Rattle.edit_plan.specs.declared.Change.{Change}
use Rattle.edit_plan.specs.Tables.{curves_of}
use Rattle.edit_plan.specs.Steps.{is_some, is_line, measured, release_relation, tie_relation, drop_if}
use Rattle.edit_plan.specs.Changes.{is_circle, is_whole, start_of, end_of, piece_of, kept_piece, pin_relation, halves_of, half_circles, no_halves, cut_once, divide_once, cut_middle, change_for, points_new, curves_new, relations_new, staying, chord, left_by, left_of}
use Rattle.edit_plan.specs.contracts.PinnedPoint as W
use Rattle.edit_plan.specs.contracts.Plan as P
use Rattle.apply.specs.Applied.{target_in, plan_extent, plan_orphans, plan_change, changed_by, without_curve, drawing_after}
use Rattle.apply.specs.Moved.{pinned_by, moved_to, point_at_place, drawing_moved}
use Rattle.apply.proofs.RowRuns.{each_append, each_take, each_drop, each_set, each_keep, each_all}
use Rattle.apply.proofs.NewImages.{PointNumbers, KindNumber, CurveNumbers, RelationNumber, Numbers}

-- ---- the coordinates in a plan

abbrev pub VecNumbers : Vec2 → Type 0
VecNumbers v = Binary64 v.x × Binary64 v.y

abbrev pub PlanNumbers : Plan → Type 0
PlanNumbers Whole = Unit {0}
PlanNumbers (Cut w first_goes) = VecNumbers w.at
PlanNumbers (CutTwo w v first_goes) = VecNumbers w.at × VecNumbers v.at
PlanNumbers (Divide v) = VecNumbers v
PlanNumbers (DivideTwo v u) = VecNumbers v × VecNumbers u
PlanNumbers (Move at_end v w) = VecNumbers v

-- any vector and any plan of the code's types have numbers that fit
pub vec_typed : (v : Vec2) (u : List Val) → shadow ((G.the_field).row.own_val ((G.the_type).to v) u) → VecNumbers v
vec_typed v u h = (subst T (sym h.1.1.0.1) tt, subst T (sym h.1.1.1.0.1) tt)

pinned_typed : (w : PinnedPoint) (u : List Val) → shadow ((W.the_field).row.own_val ((W.the_type).to w) u) → VecNumbers w.at
pinned_typed w u h = vec_typed w.at _ h.1.1.0

pub plan_typed : (plan : Plan) (u : List Val) → shadow ((P.the_field).row.own_val ((P.the_type).to plan) u) → PlanNumbers plan
plan_typed Whole u h = tt
plan_typed (Cut w b) u h = let f = h.1.1.1.1 in pinned_typed w _ f.0
plan_typed (CutTwo w v b) u h = let f = h.1.1.1.1 in (pinned_typed w _ f.0, pinned_typed v _ f.1.0)
plan_typed (Divide v) u h = let f = h.1.1.1.1 in vec_typed v _ f.0
plan_typed (DivideTwo v t) u h = let f = h.1.1.1.1 in (vec_typed v _ f.0, vec_typed t _ f.1.0)
plan_typed (Move b v w) u h = let f = h.1.1.1.1 in vec_typed v _ f.1.0

-- ---- pieces, and relations that are added or left

origin_fits : VecNumbers origin
origin_fits = (of_bits-fits binary64 0, of_bits-fits binary64 0)

piece_number : (k : CurveKind) (p q : ℕ) → KindNumber k → KindNumber (piece_of k p q)
unfolding piece_of
piece_number (Line a b) p q w = tt
piece_number (Arc c a b) p q w = tt
piece_number (Circle c r) p q w = tt
piece_number (Bezier n) p q w = tt
piece_number (Conic a u b rho) p q w = w

kept_number : (k : CurveKind) (first_goes : Bool) (a m b : ℕ) → KindNumber k → KindNumber (kept_piece k first_goes a m b)
kept_number k true a m b w = piece_number k m b w
kept_number k false a m b w = piece_number k a m w

pin_number : (w : Pin) (p : ℕ) → RelationNumber (pin_relation w p)
unfolding pin_relation
pin_number (On c) p = tt
pin_number (At e) p = tt

tie_number : (line : Bool) (a b : ℕ) → RelationNumber (tie_relation line a b)
tie_number true a b = tt
tie_number false a b = tt

drop_number : (b : Bool) (r : Relation) → RelationNumber r → Each RelationNumber (drop_if b r)
drop_number true r w = tt
drop_number false r w = (w, tt)

release_number : (t : ℕ) (e : Option (ℕ × ℕ)) (r : Relation) → RelationNumber r → Each RelationNumber (release_relation t e r)
unfolding release_relation measured
release_number t e (Coincident p q) w = (tt, tt)
release_number t e (PointOnCurve p c) w = (tt, tt)
release_number t e (Collinear a b) w = (tt, tt)
release_number t e (Equal a b) w = drop_number (is_some e && (eqb a t || eqb b t)) (Equal a b) tt
release_number t e (Length l v) w = go (eqb l t) e
  where
    go : (b : Bool) (e : Option (ℕ × ℕ)) → Each RelationNumber (ite b (measured e v) (Length l v ∷ []))
    go true none = tt
    go true (some x) = (w, tt)
    go false x = (w, tt)
release_number t e (Distance p q v) w = (w, tt)
release_number t e (Midpoint p l) w = drop_number (eqb l t) (Midpoint p l) tt
release_number t e (ArcLength c v) w = drop_number (eqb c t) (ArcLength c v) w
release_number t e (ArcSweep c v) w = drop_number (eqb c t) (ArcSweep c v) w

left_numbers : (e : Extent) (os : List ℕ) (r : Relation) → RelationNumber r → Each RelationNumber (left_of e os r)
left_numbers e os r w = each_keep RelationNumber (λ r. every (staying os) (points_of r)) (left_by e r) (go e.whole)
  where
    go : (b : Bool) → Each RelationNumber (ite b (drop_if (among e.id (curves_of r)) r) (release_relation e.id (chord e) r))
    go true = drop_number (among e.id (curves_of r)) r w
    go false = release_number e.id (chord e) r w

-- ---- what is written

record ChangeNumbers (h : Change) : Type 0 where
  points : Each PointNumbers (points_new h)
  kept : CurveNumbers h.kept
  curves : Each CurveNumbers (curves_new h)
  relations : Each RelationNumber (relations_new h)

module _ (c : Curve) (w : CurveNumbers c) where
  cut_numbers : (v : Vec2) (i : ℕ) (first_goes : Bool) (x : Pin) → VecNumbers v → ChangeNumbers (cut_once c (halves_of c.kind v i) first_goes (pin_relation x i) None)
  cut_numbers v i b x p = record { points = (p, tt); kept = (kept_number c.kind b (start_of c.kind) i (end_of c.kind) w.0, w.1); curves = tt; relations = (pin_number x i, tt) }

  circle_numbers : (v u : Vec2) (i : ℕ) (first_goes : Bool) (x y : Pin) → VecNumbers v → VecNumbers u → ChangeNumbers (cut_once c (half_circles v u i) first_goes (pin_relation x i) (Some (pin_relation y (suc i))))
  circle_numbers v u i b x y p q =
      record { points = (p, (q, tt)); kept = (kept_number c.kind b i (suc i) i w.0, w.1); curves = tt; relations = (pin_number x i, (pin_number y (suc i), tt)) }

  divide_numbers : (v : Vec2) (i : ℕ) → VecNumbers v → ChangeNumbers (divide_once c (halves_of c.kind v i))
  divide_numbers v i p =
      record {
        points = (p, tt);
        kept = (piece_number c.kind (start_of c.kind) i w.0, w.1);
        curves = ((piece_number c.kind i (end_of c.kind) w.0, refl), tt);
        relations = (tie_number (is_line c.kind) c.id (suc i), tt);
      }

  halve_numbers : (v u : Vec2) (i : ℕ) → VecNumbers v → VecNumbers u → ChangeNumbers (divide_once c (half_circles v u i))
  halve_numbers v u i p q =
      record {
        points = (p, (q, tt));
        kept = (piece_number c.kind i (suc i) w.0, w.1);
        curves = ((piece_number c.kind (suc i) i w.0, refl), tt);
        relations = (tie_number (is_line c.kind) c.id (suc (suc i)), tt);
      }

  -- where the plan divides nothing
  blank_numbers : (i : ℕ) → ChangeNumbers (divide_once c (no_halves i))
  blank_numbers i =
      let piece = piece_number c.kind 0 0 w.0 in
      record { points = (origin_fits, tt); kept = (piece, w.1); curves = ((piece, refl), tt); relations = (tie_number (is_line c.kind) c.id 0, tt) }

  middle_numbers : (x y : PinnedPoint) (i : ℕ) → VecNumbers x.at → VecNumbers y.at → ChangeNumbers (cut_middle c x y i)
  middle_numbers x y i p q =
      record {
        points = (p, (q, tt));
        kept = (piece_number c.kind (start_of c.kind) i w.0, w.1);
        curves = ((piece_number c.kind (suc i) (end_of c.kind) w.0, refl), tt);
        relations = (pin_number x.pin i, (pin_number y.pin (suc i), (tie_number (is_line c.kind) c.id (suc (suc (suc i))), tt)));
      }

  change_numbers : (i : ℕ) (plan : Plan) → PlanNumbers plan → ChangeNumbers (change_for c plan i)
  unfolding change_for
  change_numbers i Whole v = blank_numbers i
  change_numbers i (Cut x b) v = cut_numbers x.at i b x.pin v
  change_numbers i (CutTwo x y b) v = go (is_circle c.kind)
    where
      go : (z : Bool) → ChangeNumbers (ite z (cut_once c (half_circles x.at y.at i) b (pin_relation x.pin i) (Some (pin_relation y.pin (suc i)))) (cut_middle c x y i))
      go true = circle_numbers x.at y.at i b x.pin y.pin v.0 v.1
      go false = middle_numbers x y i v.0 v.1
  change_numbers i (Divide x) v = divide_numbers x i v
  change_numbers i (DivideTwo x y) v = halve_numbers x y i v.0 v.1
  change_numbers i (Move b x y) v = blank_numbers i

module _ (h : Change) (w : ChangeNumbers h) where
  points_new_lem : Each PointNumbers (points_new h)
  points_new_lem = w.points

  curves_new_lem : Each CurveNumbers (curves_new h)
  curves_new_lem = w.curves

  relations_new_lem : Each RelationNumber (relations_new h)
  relations_new_lem = w.relations

-- ---- the drawing

each_at : {A : Type 0} (P : A → Type 0) (z : A) (l : List A) (k : ℕ) → k < length l → Each P l → P (get_or l k z)
each_at P z [] k q w = absurd (omega arith)
each_at P z (a ∷ l) zero q w = w.0
each_at P z (a ∷ l) (suc k) q w = each_at P z l k (omega arith) w.1

module _ (d : Drawing) (w : Numbers d) where
  changed_numbers : (k : ℕ) (e : Extent) (os : List ℕ) (h : Change) → ChangeNumbers h → Numbers (changed_by d k e os h)
  changed_numbers k e os h v =
      record {
        points = each_append PointNumbers (keep (λ p. staying os p.id) d.points) (points_new h) (each_keep PointNumbers (λ p. staying os p.id) d.points w.points) (points_new_lem h v);
        curves = each_append CurveNumbers (set d.curves k h.kept) (curves_new h) (each_set CurveNumbers k d.curves h.kept v.kept w.curves) (curves_new_lem h v);
        relations = each_append RelationNumber (concat_map (left_of e os) d.relations) (relations_new h) (each_all RelationNumber (left_of e os) RelationNumber (left_numbers e os) d.relations w.relations) (relations_new_lem h v);
      }

  without_numbers : (k : ℕ) (e : Extent) (os : List ℕ) → Numbers (without_curve d k e os)
  without_numbers k e os =
      record {
        points = each_keep PointNumbers (λ p. staying os p.id) d.points w.points;
        curves = each_append CurveNumbers (take k d.curves) (drop (suc k) d.curves) (each_take CurveNumbers k d.curves w.curves) (each_drop CurveNumbers (suc k) d.curves w.curves);
        relations = each_all RelationNumber (left_of e os) RelationNumber (left_numbers e os) d.relations w.relations;
      }

-- for every plan, whether it suits the curve or not
pub plan_numbers : (d : Drawing) (k : ℕ) (plan : Plan) → Numbers d → k < length d.curves → PlanNumbers plan → Numbers (drawing_after d k plan)
plan_numbers d k plan w q v = go (is_whole plan)
  where
    go : (b : Bool) → Numbers (ite b (without_curve d k (plan_extent d k plan) (plan_orphans d k plan)) (changed_by d k (plan_extent d k plan) (plan_orphans d k plan) (plan_change d k plan)))
    go true = without_numbers d w k (plan_extent d k plan) (plan_orphans d k plan)
    go false =
        changed_numbers d w k (plan_extent d k plan) (plan_orphans d k plan) (plan_change d k plan)
        (change_numbers (target_in d k) (each_at CurveNumbers no_curve d.curves k q w.curves) d.next plan v)

pinned_numbers : (w : Pin) (p : ℕ) → Each RelationNumber (pinned_by w p)
unfolding pinned_by
pinned_numbers (On c) p = (tt, tt)
pinned_numbers (At e) p = go (eqb e p)
  where
    go : (b : Bool) → Each RelationNumber (ite b [] (Coincident p e ∷ []))
    go true = tt
    go false = (tt, tt)

pub move_numbers : (d : Drawing) (k : ℕ) (v : Vec2) (w : Pin) → Numbers d → Binary64 v.x → Binary64 v.y → Numbers (drawing_moved d k v w)
move_numbers d k v w n x y =
    record {
      points = each_set PointNumbers k d.points (moved_to v (point_at_place d k)) (x, y) n.points;
      curves = n.curves;
      relations = each_append RelationNumber d.relations (pinned_by w (point_at_place d k).id) n.relations (pinned_numbers w (point_at_place d k).id);
    }
