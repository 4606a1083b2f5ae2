-- Whether there is room for what a plan adds: the number that its additions come to, from numbers alone. Definitions only.
use Rattle.std.specs.Prelude.{ℕ, suc, ◌+◌, Bool, not, List, length, ltb}
use Rattle.geom.specs.declared.Vec2.{Vec2}
use Rattle.geom.specs.Plane.{origin}
use Rattle.sketch.specs.declared.CurveKind.{CurveKind}
use Rattle.sketch.specs.declared.Relation.{Relation}
use Rattle.sketch.specs.Lists.{ite, guard_number, concat_map}
use Rattle.sketch.specs.Drawing.{Limits, limits}
use Rattle.edit_plan.specs.declared.Plan.{Plan}
use Rattle.edit_plan.specs.declared.Plan.TheVariants.{Whole, Cut, CutTwo, Divide, DivideTwo, Move}
use Rattle.edit_plan.specs.declared.Additions.{Additions}
use Rattle.edit_plan.specs.declared.Extent.{Extent}
use Rattle.edit_plan.specs.Tables.{ok_position}
use Rattle.edit_plan.specs.Steps.{release_relation}
use Rattle.edit_plan.specs.Changes.{is_circle, is_whole, chord}

abbrev pub mk_additions : Vec2 → Vec2 → ℕ → ℕ → ℕ → Additions
mk_additions v u points curves relations =
    record { first = v; second = u; points = points; curves = curves; relations = relations }

-- one point, one curve and one relation
abbrev pub one_place : Vec2 → Additions
one_place v = mk_additions v v 0 0 0

unfoldable pub additions_for : CurveKind → Plan → Additions
additions_for k Whole = mk_additions origin origin 0 0 0
additions_for k (Cut w first_goes) = mk_additions w.at w.at 0 0 0
additions_for k (CutTwo w v first_goes) = ite (is_circle k) (mk_additions w.at v.at 1 0 1) (mk_additions w.at v.at 1 1 2)
additions_for k (Divide v) = mk_additions v v 0 0 0
additions_for k (DivideTwo v u) = mk_additions v u 1 0 0
additions_for k (Move at_end v w) = mk_additions origin origin 0 0 0

-- a point more, then the rest; a curve more, then the rest
abbrev pub point_room : Limits → ℕ → ℕ → Vec2 → ℕ → ℕ
point_room m i n v rest = guard_number (ltb i m.ids) 23 (guard_number (ltb n m.points) 22 (guard_number (ok_position v) 24 rest))

abbrev pub curve_room : Limits → ℕ → ℕ → ℕ → ℕ
curve_room m i n rest = guard_number (ltb i m.ids) 23 (guard_number (ltb n m.curves) 22 rest)

-- where no second point or curve is added, the first is tested again; `full` says that the relations don't fit
unfoldable pub room_with : Limits → ℕ → ℕ → ℕ → Bool → Additions → ℕ
room_with m i np nc full d =
    point_room m i np d.first
    (point_room m (i + d.points) (np + d.points) d.second
    (curve_room m (suc (i + d.points)) nc
    (curve_room m (suc (i + d.points) + d.curves) (nc + d.curves) (guard_number (not full) 22 0))))

-- how many relations a release leaves
abbrev pub left_over : Extent → List Relation → ℕ
left_over e rs = length (concat_map (release_relation e.id (chord e)) rs)

-- by numbers alone, so many relations being left
abbrev pub room_with_left : ℕ → ℕ → ℕ → ℕ → Additions → ℕ
room_with_left i np nc left d = room_with limits i np nc (not (ltb (left + d.relations) limits.relations)) d

-- a curve that is removed whole needs no room
abbrev pub room_for : CurveKind → Plan → ℕ → ℕ → ℕ → ℕ → ℕ
room_for k plan i np nc left = ite (is_whole plan) 0 (room_with_left i np nc left (additions_for k plan))

-- how many ids a plan takes
unfoldable pub takes : CurveKind → Plan → ℕ
takes k Whole = 0
takes k (Cut w first_goes) = 2
takes k (CutTwo w v first_goes) = ite (is_circle k) 3 4
takes k (Divide v) = 2
takes k (DivideTwo v u) = 3
takes k (Move at_end v w) = 0
