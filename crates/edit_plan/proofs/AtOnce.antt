-- Applying at once: which kinds plans suit, the drawing that is made, and what a valid drawing gives for it. Assumes nothing.
use mathlib.Core.Path.{◌≡◌, refl, sym, ap, ◌∙◌}
use mathlib.Core.Bool.{Bool, true, false, not}
use mathlib.Core.List.{List, [], ◌∷◌, ◌++◌, map}
use mathlib.Core.Option.{some, none}
use Prim.Native.Nat.{ℕ, suc, ◌+◌, ◌≤◌, ◌<◌}
use native.Mathlib.Omega.{arith}
use lib.Dec.{eqb, ltb}
use lib.ListN.{length}
use borrow.Author.Tests.{eq-eqb, ne_eqb}
use Rattle.std.specs.Prelude.{Some}
use Rattle.geom.specs.declared.Vec2.{Vec2}
use Rattle.sketch.specs.declared.Point.{Point}
use Rattle.sketch.specs.declared.Curve.{Curve}
use Rattle.sketch.specs.declared.CurveKind.{CurveKind}
use Rattle.sketch.specs.declared.CurveKind.TheVariants.{Line, Arc, Circle, Bezier, Conic}
use Rattle.sketch.specs.declared.Relation.{Relation}
use Rattle.sketch.specs.Lists.{ite, every, keep, concat_map}
use Rattle.sketch.specs.Lookup.{among}
use Rattle.sketch.specs.Drawing.{Drawing, Limits, point_ids, curve_ids, curve_in, uses_of, points_of}
use Rattle.sketch.specs.Valid.{distinct, sound_curve, has_point}
use Rattle.sketch.specs.Facts.{Valid}
use Rattle.sketch.proofs.Bools.{never, and_left}
use Rattle.edit_plan.specs.declared.Pin.{Pin}
use Rattle.edit_plan.specs.declared.Pin.TheVariants.{On, At}
use Rattle.edit_plan.specs.declared.PinnedPoint.{PinnedPoint}
use Rattle.edit_plan.specs.declared.Plan.{Plan}
use Rattle.edit_plan.specs.declared.Plan.TheVariants.{Whole, Cut, CutTwo, Divide, DivideTwo, Move}
use Rattle.edit_plan.specs.declared.Extent.{Extent}
use Rattle.edit_plan.specs.declared.Change.{Change}
use Rattle.edit_plan.specs.Tables.{rekind, curves_of, others}
use Rattle.edit_plan.specs.Steps.{line_ends, is_line, drop_if, release_relation}
use Rattle.edit_plan.specs.Suited.{suits, suits_open, suits_closed, PinHolds}
use Rattle.edit_plan.specs.Changes.{is_circle, is_whole, start_of, end_of, piece_of, kept_piece, recut, pin_relation, half_circles, cut_once, cut_middle, change_for, points_new, curves_new, relations_new, extent_of, chord, orphan_list, staying, left_of, unused_by, candidates_for}
use Rattle.edit_plan.specs.Room.{additions_for, room_with, left_over}
use Rattle.edit_plan.proofs.Every.{every_in, every_at, rising_among, rising_look, member_look}
use Rattle.edit_plan.proofs.Leaves.{or_true, or_two}
use Rattle.sketch.proofs.Lists.{keep_true}
use Rattle.edit_plan.proofs.Fresh.{new_curve_lem, new_unnamed, point_old, curve_old}
use Rattle.edit_plan.proofs.Bridge.{freed, is_open, Apart}
use Rattle.edit_plan.proofs.Finals.{Given}

-- ---- the curve that stays has another kind alone

pub kept_recut : (c : Curve) (plan : Plan) (i : ℕ) → (change_for c plan i).kept ≡ recut c (change_for c plan i).kept.kind
unfolding change_for
kept_recut c Whole i = refl
kept_recut c (Cut w b) i = refl
kept_recut c (CutTwo w v b) i = go (is_circle c.kind)
  where
    go : (x : Bool) → let h = ite x (cut_once c (half_circles w.at v.at i) b (pin_relation w.pin i) (Some (pin_relation v.pin (suc i)))) (cut_middle c w v i) in h.kept ≡ recut c h.kept.kind
    go true = refl
    go false = refl
kept_recut c (Divide v) i = refl
kept_recut c (DivideTwo v u) i = refl
kept_recut c (Move b v w) i = refl

-- ---- kinds that plans suit

pub open_cut : (k : CurveKind) (w : PinnedPoint) (b : Bool) → suits k (Cut w b) ≡ true → is_open k ≡ true
unfolding suits suits_open suits_closed is_open
open_cut (Line x y) w b h = refl
open_cut (Arc c x y) w b h = refl
open_cut (Circle c r) w b h = h
open_cut (Bezier n) w b h = h
open_cut (Conic x p y rho) w b h = h

pub open_divide : (k : CurveKind) (v : Vec2) → suits k (Divide v) ≡ true → is_open k ≡ true
unfolding suits suits_open suits_closed is_open
open_divide (Line x y) v h = refl
open_divide (Arc c x y) v h = refl
open_divide (Circle c r) v h = h
open_divide (Bezier n) v h = h
open_divide (Conic x p y rho) v h = h

pub circle_divide : (k : CurveKind) (v u : Vec2) → suits k (DivideTwo v u) ≡ true → is_circle k ≡ true
unfolding suits suits_open suits_closed is_circle
circle_divide (Line x y) v u h = h
circle_divide (Arc c x y) v u h = h
circle_divide (Circle c r) v u h = refl
circle_divide (Bezier n) v u h = h
circle_divide (Conic x p y rho) v u h = h

pub open_middle : (k : CurveKind) (w v : PinnedPoint) (b : Bool) → is_circle k ≡ false → suits k (CutTwo w v b) ≡ true → (is_open k ≡ true) × (b ≡ false)
unfolding suits suits_open suits_closed is_open is_circle
open_middle (Line x y) w v true o h = never h
open_middle (Line x y) w v false o h = (refl, refl)
open_middle (Arc c x y) w v true o h = never h
open_middle (Arc c x y) w v false o h = (refl, refl)
open_middle (Circle c r) w v b o h = never (sym o)
open_middle (Bezier n) w v b o h = never h
open_middle (Conic x p y rho) w v b o h = never h

chord_is : (k : CurveKind) → ite (is_line k) (some (start_of k, end_of k)) none ≡ line_ends k
unfolding start_of end_of
chord_is (Line x y) = refl
chord_is (Arc c x y) = refl
chord_is (Circle c r) = refl
chord_is (Bezier n) = refl
chord_is (Conic x p y rho) = refl

-- ---- the drawing made at once

abbrev pub final_of : Drawing → Curve → Change → Extent → List ℕ → Drawing
final_of d c h e os =
    record {
      next = h.next;
      points = keep (λ p. staying os p.id) (d.points ++ points_new h);
      curves = map (rekind c.id h.kept.kind) d.curves ++ curves_new h;
      relations = concat_map (left_of e os) d.relations ++ relations_new h;
    }

abbrev pub orphans_of : Drawing → Curve → Plan → List ℕ
orphans_of d c plan = unused_by (others c.id d.curves) (orphan_list (candidates_for c.kind plan))

abbrev pub room_number : Limits → Drawing → Curve → Plan → Extent → ℕ
room_number m d c plan e =
    room_with m d.next (length d.points) (length d.curves) (not (ltb (left_over e d.relations + (additions_for c.kind plan).relations) m.relations)) (additions_for c.kind plan)

every_none : (l : List ℕ) → every (staying []) l ≡ true
every_none [] = refl
every_none (p ∷ l) = every_none l

none_left : (f : Relation → List Relation) (l : List Relation) → concat_map (λ v. keep (λ r. every (staying []) (points_of r)) (f v)) l ≡ concat_map f l
none_left f [] = refl
none_left f (v ∷ l) = ap (λ t. t ++ concat_map (λ v. keep (λ r. every (staying []) (points_of r)) (f v)) l) (keep_true (λ r. every (staying []) (points_of r)) (λ r. every_none (points_of r)) (f v)) ∙ ap (λ t. f v ++ t) (none_left f l)

-- where the curve is cut, and not removed, what is left of the relations is released
pub left_cut : (c : Curve) (plan : Plan) (os : List ℕ) (l : List Relation) → is_whole plan ≡ false → concat_map (λ v. keep (λ r. every (staying os) (points_of r)) (release_relation c.id (line_ends c.kind) v)) l ≡ concat_map (left_of (extent_of c.kind c.id plan) os) l
left_cut c plan os l h =
    ap (λ e. concat_map (λ v. keep (λ r. every (staying os) (points_of r)) (release_relation c.id e v)) l) (sym (chord_is c.kind))
    ∙ ap (λ b. concat_map (λ v. keep (λ r. every (staying os) (points_of r)) (ite b (drop_if (among c.id (curves_of v)) v) (release_relation c.id (chord (extent_of c.kind c.id plan)) v))) l) (sym h)

pub freed_is : (c : Curve) (plan : Plan) (l : List Relation) → left_over (extent_of c.kind c.id plan) l ≡ length (freed c l)
freed_is c plan l = ap (λ e. length (concat_map (release_relation c.id e) l)) (chord_is c.kind)

start_own : (k : CurveKind) (s : List ℕ) → is_open k ≡ true → among (start_of k) (uses_of k s) ≡ true
unfolding start_of uses_of is_open
start_own (Line x y) s o = rw (eq-eqb x x refl)
start_own (Arc w x y) s o = rw (eq-eqb x x refl) (or_true (eqb x w))
start_own (Circle w r) s o = never o
start_own (Bezier n) s o = never o
start_own (Conic x p y rho) s o = never o

end_own : (k : CurveKind) (s : List ℕ) → is_open k ≡ true → among (end_of k) (uses_of k s) ≡ true
unfolding end_of uses_of is_open
end_own (Line x y) s o = rw (eq-eqb y y refl) (or_true (eqb y x))
end_own (Arc w x y) s o = rw (eq-eqb y y refl) (or_two (eqb y w) (eqb y x))
end_own (Circle w r) s o = never o
end_own (Bezier n) s o = never o
end_own (Conic x p y rho) s o = never o

pub nobody_goes : (ps : List Point) → keep (λ (p : Point). staying [] p.id) ps ≡ ps
nobody_goes ps = keep_true (λ (p : Point). staying [] p.id) (λ p. refl) ps

pub left_all : (c : Curve) (plan : Plan) (l : List Relation) → is_whole plan ≡ false → freed c l ≡ concat_map (left_of (extent_of c.kind c.id plan) []) l
left_all c plan l h = sym (none_left (release_relation c.id (line_ends c.kind)) l) ∙ left_cut c plan [] l h

-- both ends of a circle's half are its two points
pub seam_used : (b : Bool) (k : CurveKind) (i j : ℕ) (s : List ℕ) → is_circle k ≡ true → among i (uses_of (kept_piece k b i j i) s) ≡ true
unfolding uses_of piece_of is_circle
seam_used b (Line x y) i j s o = never o
seam_used b (Arc w x y) i j s o = never o
seam_used true (Circle w r) i j s o = rw (eq-eqb i i refl) (or_two (eqb i w) (eqb i j))
seam_used false (Circle w r) i j s o = rw (eq-eqb i i refl) (or_true (eqb i w))
seam_used b (Bezier n) i j s o = never o
seam_used b (Conic x p y rho) i j s o = never o

module _ {m : Limits} {d : Drawing} (v : Valid m d) (c : Curve) (found : curve_in d.curves c.id ≡ some c) where
  pub given : (g : ℕ) → d.next ≤ g → Given d c g
  given g h = record { rise = v.curves_rise; found = found; new = new_curve_lem v g h; names = new_unnamed v g h }

  pub sound : sound_curve (has_point d.points) c ≡ true
  sound = every_at (sound_curve (has_point d.points)) d.curves c (member_look d.curves c.id c found) v.curves_sound

  own_old : (p : ℕ) → among p (uses_of c.kind c.slots) ≡ true → p < d.next
  own_old p h =
      (rising_among d.next 0 p (point_ids d.points) v.points_rise
      (every_in (has_point d.points) (uses_of c.kind c.slots) p (and_left (every (has_point d.points) (uses_of c.kind c.slots)) (distinct c.kind) sound) h)).1

  pub start_old : is_open c.kind ≡ true → start_of c.kind < d.next
  start_old o = own_old (start_of c.kind) (start_own c.kind c.slots o)

  pub end_old : is_open c.kind ≡ true → end_of c.kind < d.next
  end_old o = own_old (end_of c.kind) (end_own c.kind c.slots o)

  pub target_old : c.id < d.next
  target_old = rising_look d.curves 0 c.id c v.curves_rise found

  -- a pin is to something that is not new
  pub pin_apart : (w : Pin) (p : ℕ) → PinHolds d c.id w → d.next ≤ p → Apart p w
  pin_apart (On i) p h n = tt
  pin_apart (At e) p h n = ne_eqb e p (λ q. omega (arith, point_old v c.id e h))

  pub old_other : (g : ℕ) → d.next ≤ g → (i : ℕ) → among i (curve_ids d.curves) ≡ true → g ≡ i → ⊥
  old_other g n i h q = omega (arith, curve_old v i h)
