-- Every plan that suits, at once; and a curve that goes whole. Assumes nothing.
use mathlib.Core.Path.{◌≡◌, refl, sym, ap, ◌∙◌}
use mathlib.Core.Bool.{Bool, true, false, not, ◌&&◌}
use mathlib.Core.List.{List, [], ◌∷◌, ◌++◌, append-nil}
use mathlib.Core.Option.{some}
use Prim.Native.Nat.{ℕ}
use Rattle.geom.specs.declared.Vec2.{Vec2}
use Rattle.sketch.specs.declared.Curve.{Curve}
use Rattle.sketch.specs.declared.CurveKind.{CurveKind}
use Rattle.sketch.specs.declared.CurveKind.TheVariants.{Line, Arc, Circle, Bezier, Conic}
use Rattle.sketch.specs.declared.Relation.{Relation}
use Rattle.sketch.specs.Lists.{ite, every, keep, concat_map}
use Rattle.sketch.specs.Lookup.{among}
use Rattle.sketch.specs.Drawing.{Drawing, Limits, curve_in, uses_of, points_of}
use Rattle.sketch.specs.Facts.{Valid}
use Rattle.sketch.proofs.Bools.{never}
use Rattle.edit_plan.specs.declared.Pin.{Pin}
use Rattle.edit_plan.specs.declared.PinnedPoint.{PinnedPoint}
use Rattle.edit_plan.specs.declared.Plan.{Plan}
use Rattle.edit_plan.specs.declared.Plan.TheVariants.{Whole, Cut, CutTwo, Divide, DivideTwo, Move}
use Rattle.edit_plan.specs.declared.Extent.{Extent}
use Rattle.edit_plan.specs.Outcome.{accepted}
use Rattle.edit_plan.specs.Tables.{curves_of, uses, others, orphans}
use Rattle.edit_plan.specs.Steps.{ends_of, ends_at, drop_if, reported}
use Rattle.edit_plan.specs.ApplyPlan.{apply_plan_to}
use Rattle.edit_plan.specs.Suited.{suits, suits_open, suits_closed, Suited}
use Rattle.edit_plan.specs.Changes.{is_circle, is_whole, start_of, end_of, change_for, extent_of, orphan_list, staying, left_of, unused_by, own_points, candidates_for}
use Rattle.edit_plan.proofs.Gone.{of_found}
use Rattle.edit_plan.proofs.Bridge.{unless_refused}
use Rattle.edit_plan.proofs.AtOnce.{open_cut, open_divide, circle_divide, open_middle, final_of, orphans_of, room_number}
use Rattle.edit_plan.proofs.Applied.{cut_bridge, middle_bridge}
use Rattle.edit_plan.proofs.Rounds.{cut_circle_bridge, divide_bridge, divide_circle_bridge}

-- a move suits no curve yet
pub no_move : {A : Type 0} (k : CurveKind) (b : Bool) (p : Vec2) (w : Pin) → suits k (Move b p w) ≡ true → A
unfolding suits suits_open suits_closed
no_move (Line x y) b p w h = never h
no_move (Arc o x y) b p w h = never h
no_move (Circle o r) b p w h = never h
no_move (Bezier n) b p w h = never h
no_move (Conic x q y rho) b p w h = never h

-- ---- a curve that goes whole

own_points_lem : (k : CurveKind) (s : List ℕ) → suits k Whole ≡ true → orphan_list (own_points k) ≡ uses_of k s
unfolding suits suits_open suits_closed own_points uses_of
own_points_lem (Line a b) s h = refl
own_points_lem (Arc c a b) s h = refl
own_points_lem (Circle c r) s h = refl
own_points_lem (Bezier n) s h = never h
own_points_lem (Conic a p b rho) s h = never h

ends_answered : (g : ℕ) (k : CurveKind) → reported g (ends_of k) ≡ record { curve = g; from = start_of k; to = end_of k }
unfolding reported ends_of start_of end_of
ends_answered g (Line a b) = refl
ends_answered g (Arc c a b) = refl
ends_answered g (Circle c r) = refl
ends_answered g (Bezier n) = refl
ends_answered g (Conic a p b rho) = refl

-- two tests of a relation, one after the other
left_whole : (n f : Relation → Bool) (l : List Relation) → keep (λ r. not (n r) && f r) l ≡ concat_map (λ v. keep f (drop_if (n v) v)) l
left_whole n f [] = refl
left_whole n f (v ∷ l) = go (n v) (f v) refl (left_whole n f l)
  where
    go : (x y : Bool) → f v ≡ y → keep (λ r. not (n r) && f r) l ≡ concat_map (λ v. keep f (drop_if (n v) v)) l → ite (not x && y) (v ∷ keep (λ r. not (n r) && f r) l) (keep (λ r. not (n r) && f r) l) ≡ keep f (drop_if x v) ++ concat_map (λ v. keep f (drop_if (n v) v)) l
    go true y e ih = ih
    go false true e ih = rw e (ap (λ t. v ∷ t) ih)
    go false false e ih = rw e ih

-- the drawing without a curve, without the points os and without what named them
abbrev pub rest_of : Drawing → Curve → Extent → List ℕ → Drawing
rest_of d c e os =
    record {
      next = d.next;
      points = keep (λ p. staying os p.id) d.points;
      curves = others c.id d.curves;
      relations = concat_map (left_of e os) d.relations;
    }

module _ {m : Limits} {d : Drawing} (v : Valid m d) (c : Curve) (found : curve_in d.curves c.id ≡ some c) (met : Drawing → Bool) where
  orphans_are : suits c.kind Whole ≡ true → orphans c.id d.curves ≡ orphans_of d c Whole
  unfolding candidates_for
  orphans_are h =
      ap (λ l. unused_by (others c.id d.curves) (uses l)) (of_found c.id c d.next 0 d.curves v.curves_rise found)
      ∙ ap (unused_by (others c.id d.curves)) (append-nil (uses_of c.kind c.slots) ∙ sym (own_points_lem c.kind c.slots h))

  abbrev e : Extent
  e = extent_of c.kind c.id Whole

  pub whole_bridge : suits c.kind Whole ≡ true → apply_plan_to met m d c Whole ≡ accepted (rest_of d c e (orphans_of d c Whole)) (record { curve = c.id; from = start_of c.kind; to = end_of c.kind })
  unfolding apply_plan_to ends_at is_whole
  whole_bridge h =
      let os = orphans c.id d.curves in
      let report = reported c.id (ends_at (curve_in d.curves c.id)) in
      ap (λ l. accepted (record { next = d.next; points = keep (λ p. staying os p.id) d.points; curves = others c.id d.curves; relations = l }) report)
      (left_whole (λ r. among c.id (curves_of r)) (λ r. every (staying os) (points_of r)) d.relations)
      ∙ ap (λ o. accepted (rest_of d c e o) report) (orphans_are h)
      ∙ ap (λ x. accepted (rest_of d c e (orphans_of d c Whole)) (reported c.id (ends_at x))) found
      ∙ ap (accepted (rest_of d c e (orphans_of d c Whole))) (ends_answered c.id c.kind)

  -- ---- cuts and divisions

  abbrev pub AtOnce : Plan → Type 0
  AtOnce plan =
      apply_plan_to met m d c plan
      ≡ unless_refused (room_number m d c plan (extent_of c.kind c.id plan)) (accepted (final_of d c (change_for c plan d.next) (extent_of c.kind c.id plan) (orphans_of d c plan)) (change_for c plan d.next).removed)

  two_cuts : (w u : PinnedPoint) (b : Bool) → Suited d c (CutTwo w u b) → (x : Bool) → is_circle c.kind ≡ x → AtOnce (CutTwo w u b)
  two_cuts w u b s true o = cut_circle_bridge v c found met w u b o s.pins.0 s.pins.1
  two_cuts w u true s false o = never (sym (open_middle c.kind w u true o s.kind).1)
  two_cuts w u false s false o = middle_bridge v c found met w u (open_middle c.kind w u false o s.kind).0 o s.pins.0 s.pins.1

  pub cuts_bridge : (plan : Plan) → Suited d c plan → is_whole plan ≡ false → AtOnce plan
  unfolding is_whole
  cuts_bridge Whole s h = never (sym h)
  cuts_bridge (Cut w b) s h = cut_bridge v c found met w b (open_cut c.kind w b s.kind) s.pins
  cuts_bridge (CutTwo w u b) s h = two_cuts w u b s (is_circle c.kind) refl
  cuts_bridge (Divide p) s h = divide_bridge v c found met p (open_divide c.kind p s.kind)
  cuts_bridge (DivideTwo p q) s h = divide_circle_bridge v c found met p q (circle_divide c.kind p q s.kind)
  cuts_bridge (Move b p w) s h = no_move c.kind b p w s.kind
