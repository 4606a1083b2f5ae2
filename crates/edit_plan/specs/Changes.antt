-- All that applying a plan writes, as one record: the new points and pieces, the curve's new kind, what is removed. Definitions only.
use Rattle.std.specs.Prelude as P
use Rattle.std.specs.Prelude.{ℕ, suc, Bool, true, false, not, List, [], ◌∷◌, ◌++◌, eqb, Some, None, option_to_list}
use Rattle.std.proofs.Math.Option.{Option, some, none}
use Rattle.geom.specs.declared.Vec2.{Vec2}
use Rattle.geom.specs.Plane.{origin}
use Rattle.sketch.specs.declared.Point.{Point}
use Rattle.sketch.specs.declared.Curve.{Curve}
use Rattle.sketch.specs.declared.CurveKind.{CurveKind}
use Rattle.sketch.specs.declared.CurveKind.TheVariants.{Line, Arc, Circle, Bezier, Conic}
use Rattle.sketch.specs.declared.Relation.{Relation}
use Rattle.sketch.specs.declared.Relation.TheVariants.{Coincident, PointOnCurve}
use Rattle.sketch.specs.Lists.{ite, every, keep}
use Rattle.sketch.specs.Lookup.{among}
use Rattle.sketch.specs.Drawing.{points_of}
use Rattle.edit_plan.specs.declared.Pin.{Pin}
use Rattle.edit_plan.specs.declared.Pin.TheVariants.{On, At}
use Rattle.edit_plan.specs.declared.PinnedPoint.{PinnedPoint}
use Rattle.edit_plan.specs.declared.Plan.{Plan}
use Rattle.edit_plan.specs.declared.Plan.TheVariants.{Whole, Cut, CutTwo, Divide, DivideTwo, Move}
use Rattle.edit_plan.specs.declared.Removed.{Removed}
use Rattle.edit_plan.specs.declared.Extent.{Extent}
use Rattle.edit_plan.specs.declared.Orphans.{Orphans}
use Rattle.edit_plan.specs.declared.Halves.{Halves}
use Rattle.edit_plan.specs.declared.Change.{Change}
use Rattle.edit_plan.specs.Tables.{new_point, new_curve, curves_of, uses}
use Rattle.edit_plan.specs.Steps.{is_line, drop_if, release_relation, tie_relation, nothing}

-- ---- kinds and plans

unfoldable pub is_circle : CurveKind → Bool
is_circle (Line a b) = false
is_circle (Arc c a b) = false
is_circle (Circle c r) = true
is_circle (Bezier n) = false
is_circle (Conic a p b rho) = false

unfoldable pub is_whole : Plan → Bool
is_whole Whole = true
is_whole (Cut w first_goes) = false
is_whole (CutTwo w v first_goes) = false
is_whole (Divide v) = false
is_whole (DivideTwo v u) = false
is_whole (Move at_end v w) = false

-- the ends of a line or an arc, 0 elsewhere
unfoldable pub start_of : CurveKind → ℕ
start_of (Line a b) = a
start_of (Arc c a b) = a
start_of (Circle c r) = 0
start_of (Bezier n) = 0
start_of (Conic a p b rho) = 0

unfoldable pub end_of : CurveKind → ℕ
end_of (Line a b) = b
end_of (Arc c a b) = b
end_of (Circle c r) = 0
end_of (Bezier n) = 0
end_of (Conic a p b rho) = 0

-- the piece from point to point
unfoldable pub piece_of : CurveKind → ℕ → ℕ → CurveKind
piece_of (Line a b) p q = Line p q
piece_of (Arc c a b) p q = Arc c p q
piece_of (Circle c r) p q = Arc c p q
piece_of (Bezier n) p q = Bezier n
piece_of (Conic a u b rho) p q = Conic a u b rho

-- of the pieces from a to m and from m to b, the one that stays and the one that is removed
abbrev pub kept_piece : CurveKind → Bool → ℕ → ℕ → ℕ → CurveKind
kept_piece k first_goes a m b = ite first_goes (piece_of k m b) (piece_of k a m)

abbrev pub gone_piece : CurveKind → Bool → ℕ → ℕ → ℕ → CurveKind
gone_piece k first_goes a m b = ite first_goes (piece_of k a m) (piece_of k m b)

abbrev pub gone_as : ℕ → Bool → ℕ → ℕ → ℕ → Removed
gone_as g first_goes a m b =
    ite first_goes (record { curve = g; from = a; to = m }) (record { curve = g; from = m; to = b })

-- the relation that pins p
unfoldable pub pin_relation : Pin → ℕ → Relation
pin_relation (On c) p = PointOnCurve p c
pin_relation (At e) p = Coincident p e

abbrev pub recut : Curve → CurveKind → Curve
recut c k =
    record {
      id = c.id;
      construction = c.construction;
      centerline = c.centerline;
      infinite = c.infinite;
      kind = k;
      slots = c.slots;
    }

-- ---- what is written, i being the next id

abbrev pub halves_of : CurveKind → Vec2 → ℕ → Halves
halves_of k v i =
    record {
      point = new_point i v;
      second_point = None;
      from = start_of k;
      at = i;
      to = end_of k;
      half = suc i;
      next = suc (suc i);
    }

abbrev pub half_circles : Vec2 → Vec2 → ℕ → Halves
half_circles v u i =
    record {
      point = new_point i v;
      second_point = Some (new_point (suc i) u);
      from = i;
      at = suc i;
      to = i;
      half = suc (suc i);
      next = suc (suc (suc i));
    }

abbrev pub no_halves : ℕ → Halves
no_halves i =
    record {
      point = new_point 0 origin;
      second_point = None;
      from = 0;
      at = 0;
      to = 0;
      half = 0;
      next = i;
    }

abbrev pub cut_once : Curve → Halves → Bool → Relation → P.Option Relation → Change
cut_once c h first_goes r s =
    record {
      next = h.next;
      point = h.point;
      second_point = h.second_point;
      kept = recut c (kept_piece c.kind first_goes h.from h.at h.to);
      added = None;
      relation = r;
      second_relation = s;
      third_relation = None;
      removed = gone_as h.half first_goes h.from h.at h.to;
    }

abbrev pub divide_once : Curve → Halves → Change
divide_once c h =
    record {
      next = h.next;
      point = h.point;
      second_point = h.second_point;
      kept = recut c (piece_of c.kind h.from h.at);
      added = Some (new_curve h.half (piece_of c.kind h.at h.to) c.construction);
      relation = tie_relation (is_line c.kind) c.id h.half;
      second_relation = None;
      third_relation = None;
      removed = nothing;
    }

abbrev pub cut_middle : Curve → PinnedPoint → PinnedPoint → ℕ → Change
cut_middle c w v i =
    record {
      next = suc (suc (suc (suc i)));
      point = new_point i w.at;
      second_point = Some (new_point (suc i) v.at);
      kept = recut c (piece_of c.kind (start_of c.kind) i);
      added = Some (new_curve (suc (suc (suc i))) (piece_of c.kind (suc i) (end_of c.kind)) c.construction);
      relation = pin_relation w.pin i;
      second_relation = Some (pin_relation v.pin (suc i));
      third_relation = Some (tie_relation (is_line c.kind) c.id (suc (suc (suc i))));
      removed = record { curve = suc (suc i); from = i; to = suc i };
    }

-- for the curve c
unfoldable pub change_for : Curve → Plan → ℕ → Change
change_for c Whole i = divide_once c (no_halves i)
change_for c (Cut w first_goes) i = cut_once c (halves_of c.kind w.at i) first_goes (pin_relation w.pin i) None
change_for c (CutTwo w v first_goes) i =
    ite (is_circle c.kind)
    (cut_once c (half_circles w.at v.at i) first_goes (pin_relation w.pin i) (Some (pin_relation v.pin (suc i))))
    (cut_middle c w v i)
change_for c (Divide v) i = divide_once c (halves_of c.kind v i)
change_for c (DivideTwo v u) i = divide_once c (half_circles v u i)
change_for c (Move at_end v w) i = divide_once c (no_halves i)

abbrev pub points_new : Change → List Point
points_new h = h.point ∷ option_to_list h.second_point

abbrev pub curves_new : Change → List Curve
curves_new h = option_to_list h.added

abbrev pub relations_new : Change → List Relation
relations_new h = h.relation ∷ (option_to_list h.second_relation ++ option_to_list h.third_relation)

-- ---- what is removed

abbrev pub extent_of : CurveKind → ℕ → Plan → Extent
extent_of k i plan = record { id = i; line = is_line k; whole = is_whole plan; from = start_of k; to = end_of k }

-- the report of a curve that is removed whole: its ends are zeros where it has none
abbrev pub whole_gone : Extent → Removed
whole_gone e = record { curve = e.id; from = e.from; to = e.to }

abbrev pub chord : Extent → Option (ℕ × ℕ)
chord e = ite e.line (some (e.from, e.to)) none

abbrev pub orphan_list : Orphans → List ℕ
orphan_list o = option_to_list o.first ++ (option_to_list o.second ++ option_to_list o.third)

abbrev pub staying : List ℕ → ℕ → Bool
staying os p = not (among p os)

-- what is left of a relation without the curve, and then without the points
abbrev pub left_by : Extent → Relation → List Relation
left_by e v = ite e.whole (drop_if (among e.id (curves_of v)) v) (release_relation e.id (chord e) v)

abbrev pub left_of : Extent → List ℕ → Relation → List Relation
left_of e os v = keep (λ r. every (staying os) (points_of r)) (left_by e v)

-- the points that are not used by curves, of those given
abbrev pub unused_by : List Curve → List ℕ → List ℕ
unused_by cs ps = keep (λ p. not (among p (uses cs))) ps

abbrev pub no_orphans : Orphans
no_orphans = record { first = None; second = None; third = None }

abbrev pub lone_orphan : ℕ → Orphans
lone_orphan p = record { first = Some p; second = None; third = None }

-- all points of a curve that is removed
unfoldable pub own_points : CurveKind → Orphans
own_points (Line a b) = record { first = Some a; second = Some b; third = None }
own_points (Arc c a b) = record { first = Some c; second = Some a; third = Some b }
own_points (Circle c r) = lone_orphan c
own_points (Bezier n) = no_orphans
own_points (Conic a p b rho) = no_orphans

-- the far end of a curve that loses its first piece, or its last
abbrev pub far_end : Bool → CurveKind → Orphans
far_end first_goes k = lone_orphan (ite first_goes (start_of k) (end_of k))

unfoldable pub candidates_for : CurveKind → Plan → Orphans
candidates_for k Whole = own_points k
candidates_for k (Cut w first_goes) = far_end first_goes k
candidates_for k (CutTwo w v first_goes) = no_orphans
candidates_for k (Divide v) = no_orphans
candidates_for k (DivideTwo v u) = no_orphans
candidates_for k (Move at_end v w) = no_orphans
