-- What is added to a drawing, altered in it and taken out of it. Definitions only.
use Rattle.std.specs.Prelude.{ℕ, suc, Bool, false, not, ◌&&◌, List, [], ◌∷◌, ◌++◌, map, length, ltb, eqb}
use Rattle.geom.specs.declared.Vec2.{Vec2}
use Rattle.sketch.specs.declared.Point.{Point}
use Rattle.sketch.specs.declared.Curve.{Curve}
use Rattle.sketch.specs.declared.CurveKind.{CurveKind}
use Rattle.sketch.specs.declared.Relation.{Relation}
use Rattle.sketch.specs.declared.Relation.TheVariants.{Coincident, PointOnCurve, Collinear, Equal, Length, Distance, Midpoint, ArcLength, ArcSweep}
use Rattle.sketch.specs.Lists.{ite, every, keep, concat_map}
use Rattle.sketch.specs.Lookup.{among}
use Rattle.sketch.specs.Drawing.{Drawing, Limits, uses_of, points_of, no_slots}
use Rattle.sketch.specs.Valid.{ok_coordinate}
use Rattle.edit_plan.specs.Outcome.{Outcome, accepted, guard}

-- ---- additions: a point tests 23, 22 and 24, a curve 23 and 22, a relation 22

abbrev pub ok_position : Vec2 → Bool
ok_position v = ok_coordinate v.x && ok_coordinate v.y

abbrev pub new_point : ℕ → Vec2 → Point
new_point i v = record { id = i; fixed = false; x = v.x; y = v.y }

abbrev pub with_point : Drawing → Vec2 → Drawing
with_point d v =
    record { next = suc d.next; points = d.points ++ (new_point d.next v ∷ []); curves = d.curves; relations = d.relations }

-- of its curve's flags a new piece keeps construction only
abbrev pub new_curve : ℕ → CurveKind → Bool → Curve
new_curve i k construction =
    record { id = i; construction = construction; centerline = false; infinite = false; kind = k; slots = no_slots }

abbrev pub with_curve : Drawing → CurveKind → Bool → Drawing
with_curve d k b =
    record { next = suc d.next; points = d.points; curves = d.curves ++ (new_curve d.next k b ∷ []); relations = d.relations }

abbrev pub with_relation : Drawing → Relation → Drawing
with_relation d r = record { next = d.next; points = d.points; curves = d.curves; relations = d.relations ++ (r ∷ []) }

-- what is new takes the next id, which is answered, and stands last
abbrev pub add_point : Limits → Drawing → Vec2 → Outcome Drawing ℕ
add_point m d v =
    guard (ltb d.next m.ids) 23
    (guard (ltb (length d.points) m.points) 22
    (guard (ok_position v) 24 (accepted (with_point d v) d.next)))

abbrev pub add_curve : Limits → Drawing → CurveKind → Bool → Outcome Drawing ℕ
add_curve m d k b =
    guard (ltb d.next m.ids) 23
    (guard (ltb (length d.curves) m.curves) 22 (accepted (with_curve d k b) d.next))

abbrev pub add_relation : Limits → Drawing → Relation → Outcome Drawing (Unit {0})
add_relation m d r = guard (ltb (length d.relations) m.relations) 22 (accepted (with_relation d r) tt)

-- ---- changes that nothing refuses

abbrev pub rekind : ℕ → CurveKind → Curve → Curve
rekind t k c =
    record {
      id = c.id;
      construction = c.construction;
      centerline = c.centerline;
      infinite = c.infinite;
      kind = ite (eqb t c.id) k c.kind;
      slots = c.slots;
    }

-- the curve t gets the kind k, and keeps its flags
abbrev pub set_kind : ℕ → CurveKind → Drawing → Drawing
set_kind t k d = record { next = d.next; points = d.points; curves = map (rekind t k) d.curves; relations = d.relations }

abbrev pub moved : ℕ → Vec2 → Point → Point
moved i v p =
    record { id = p.id; fixed = p.fixed; x = ite (eqb i p.id) v.x p.x; y = ite (eqb i p.id) v.y p.y }

-- the point i is moved to v
abbrev pub move_point : ℕ → Vec2 → Drawing → Drawing
move_point i v d = record { next = d.next; points = map (moved i v) d.points; curves = d.curves; relations = d.relations }

-- ---- removal: with a curve go the relations that name it, and the points that it alone used with theirs

-- the curves that a relation names
unfoldable pub curves_of : Relation → List ℕ
curves_of (Coincident p q) = []
curves_of (PointOnCurve p c) = c ∷ []
curves_of (Collinear a b) = a ∷ b ∷ []
curves_of (Equal a b) = a ∷ b ∷ []
curves_of (Length l v) = l ∷ []
curves_of (Distance p q v) = []
curves_of (Midpoint p l) = l ∷ []
curves_of (ArcLength c v) = c ∷ []
curves_of (ArcSweep c v) = c ∷ []

abbrev pub uses : List Curve → List ℕ
uses cs = concat_map (λ c. uses_of c.kind c.slots) cs

abbrev pub others : ℕ → List Curve → List Curve
others g cs = keep (λ c. not (eqb g c.id)) cs

abbrev pub of_id : ℕ → List Curve → List Curve
of_id g cs = keep (λ c. eqb g c.id) cs

-- the points that the curve g uses and no other does
abbrev pub orphans : ℕ → List Curve → List ℕ
orphans g cs = keep (λ p. not (among p (uses (others g cs)))) (uses (of_id g cs))

abbrev pub stays : ℕ → List Curve → ℕ → Bool
stays g cs p = not (among p (orphans g cs))

abbrev pub remove : ℕ → Drawing → Drawing
remove g d =
    record {
      next = d.next;
      points = keep (λ p. stays g d.curves p.id) d.points;
      curves = others g d.curves;
      relations = keep (λ r. not (among g (curves_of r)) && every (stays g d.curves) (points_of r)) d.relations;
    }
