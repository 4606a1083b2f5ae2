-- Which drawings an image can give: the number of the first broken rule (3, 4 or 5, in an image's order), 0 where none is.
use Rattle.std.specs.Prelude.{Bool, true, not, ◌&&◌, ◌||◌, List, [], ◌∷◌, ℕ, suc, length, drop, leb, ltb, eqb, Float}
use Rattle.std.proofs.Math.Option.{Option, some, none}
use Rattle.std.specs.Float.{binary64}
use Rattle.std.specs.Float.Ieee.{of_bits, le, lt, neg}
use Rattle.sketch.specs.declared.Point.{Point}
use Rattle.sketch.specs.declared.Curve.{Curve}
use Rattle.sketch.specs.declared.CurveKind.{CurveKind}
use Rattle.sketch.specs.declared.CurveKind.TheVariants.{Line, Arc, Circle, Bezier, Conic}
use Rattle.sketch.specs.declared.Relation.{Relation}
use Rattle.sketch.specs.declared.Relation.TheVariants.{Coincident, PointOnCurve, Collinear, Equal, Length, Distance, Midpoint, ArcLength, ArcSweep}
use Rattle.sketch.specs.declared.Sketch.{Sketch}
use Rattle.sketch.specs.Lists.{every, guard_number}
use Rattle.sketch.specs.Lookup.{among}
use Rattle.sketch.specs.Drawing.{Drawing, view, Limits, limits, point_ids, curve_in, uses_of, points_of}

-- ---- values: 4 where one is out of its range

-- a coordinate is finite, and of magnitude at most 1,000,000
unfoldable pub ok_coordinate : Float → Bool
ok_coordinate x = le (neg (of_bits binary64 0x412e_8480_0000_0000)) x && le x (of_bits binary64 0x412e_8480_0000_0000)

-- a radius is from 1e-6 to 1e6
unfoldable pub ok_radius : Float → Bool
ok_radius r = le (of_bits binary64 0x3eb0_c6f7_a0b5_ed8d) r && le r (of_bits binary64 0x412e_8480_0000_0000)

-- a rho is above 0 and below 1
unfoldable pub ok_rho : Float → Bool
ok_rho r = lt (of_bits binary64 0) r && lt r (of_bits binary64 0x3ff0_0000_0000_0000)

-- what a relation measures is from 0 to 4,000,000
unfoldable pub ok_measure : Float → Bool
ok_measure v = le (of_bits binary64 0) v && le v (of_bits binary64 0x414e_8480_0000_0000)

abbrev pub ok_point : Point → Bool
ok_point p = ok_coordinate p.x && ok_coordinate p.y

-- the sorts of curves that relations distinguish: 1 a line, 2 a round (the glossary's term for an arc or a circle), 3 freeform; 0 stands for no curve
unfoldable pub sort_of : CurveKind → ℕ
sort_of (Line a b) = 1
sort_of (Arc c a b) = 2
sort_of (Circle c r) = 2
sort_of (Bezier n) = 3
sort_of (Conic a p b rho) = 3

abbrev pub is_line_sort : ℕ → Bool
is_line_sort sort = eqb sort 1

abbrev pub is_round_sort : ℕ → Bool
is_round_sort sort = eqb sort 2

-- a circle's radius, a Bézier curve's degree, a conic's rho
unfoldable pub ok_number : CurveKind → Bool
ok_number (Line a b) = true
ok_number (Arc c a b) = true
ok_number (Circle c r) = ok_radius r
ok_number (Bezier n) = leb 1 n && leb n 7
ok_number (Conic a p b rho) = ok_rho rho

-- how many of the slots beside it a kind uses
unfoldable pub in_slots : CurveKind → ℕ
in_slots (Line a b) = 0
in_slots (Arc c a b) = 0
in_slots (Circle c r) = 0
in_slots (Bezier n) = suc n
in_slots (Conic a p b rho) = 0

-- only lines are infinite; slots that are not in use hold 0
abbrev pub ok_curve : Curve → Bool
ok_curve c =
    (not c.infinite || is_line_sort (sort_of c.kind)) && ok_number c.kind && every (λ i. eqb i 0) (drop (in_slots c.kind) c.slots)

unfoldable pub ok_relation : Relation → Bool
ok_relation (Coincident p q) = true
ok_relation (PointOnCurve p c) = true
ok_relation (Collinear a b) = true
ok_relation (Equal a b) = true
ok_relation (Length l v) = ok_measure v
ok_relation (Distance p q v) = ok_measure v
ok_relation (Midpoint p l) = true
ok_relation (ArcLength c v) = ok_measure v
ok_relation (ArcSweep c v) = ok_measure v

-- ---- references: 5 where one is missing, of the wrong sort, or equal to another that it must differ from

abbrev pub differ : ℕ → ℕ → Bool
differ a b = not (eqb a b)

-- a line's two points differ as ids, and so do an arc's three
unfoldable pub distinct : CurveKind → Bool
distinct (Line a b) = differ a b
distinct (Arc c a b) = differ c a && differ c b && differ a b
distinct (Circle c r) = true
distinct (Bezier n) = true
distinct (Conic a p b rho) = true

-- a curve's points are there, and differ where they must; `has` says which points there are
abbrev pub sound_curve : (ℕ → Bool) → Curve → Bool
sound_curve has c = every has (uses_of c.kind c.slots) && distinct c.kind

-- the curves that a relation names are of its sorts; `sort` gives the sort of a curve by id
unfoldable pub fits : (ℕ → ℕ) → Relation → Bool
fits sort (Coincident p q) = true
fits sort (PointOnCurve p c) = ltb 0 (sort c)
fits sort (Collinear a b) = is_line_sort (sort a) && is_line_sort (sort b)
fits sort (Equal a b) = (is_line_sort (sort a) && is_line_sort (sort b)) || (is_round_sort (sort a) && is_round_sort (sort b))
fits sort (Length l v) = is_line_sort (sort l)
fits sort (Distance p q v) = true
fits sort (Midpoint p l) = is_line_sort (sort l)
fits sort (ArcLength c v) = is_round_sort (sort c)
fits sort (ArcSweep c v) = is_round_sort (sort c)

-- two ids of one sort differ
unfoldable pub apart : Relation → Bool
apart (Coincident p q) = differ p q
apart (PointOnCurve p c) = true
apart (Collinear a b) = differ a b
apart (Equal a b) = differ a b
apart (Length l v) = true
apart (Distance p q v) = differ p q
apart (Midpoint p l) = true
apart (ArcLength c v) = true
apart (ArcSweep c v) = true

abbrev pub sound_relation : (ℕ → Bool) → (ℕ → ℕ) → Relation → Bool
sound_relation has sort r = every has (points_of r) && fits sort r && apart r

-- ---- the rules in order

unfoldable pub sort_at : Option Curve → ℕ
sort_at none = 0
sort_at (some c) = sort_of c.kind

-- which points a list of them has, and the sort of the curve with an id
abbrev pub has_point : List Point → ℕ → Bool
has_point ps p = among p (point_ids ps)

abbrev pub sort_in : List Curve → ℕ → ℕ
sort_in cs i = sort_at (curve_in cs i)

-- a table with ids: of each record first its values, then its id, which is above the last and below the next id, and its references
abbrev pub table_fault : {A : Type 0} → (A → ℕ) → (A → Bool) → (A → Bool) → ℕ → ℕ → List A → ℕ → ℕ
table_fault id ok sound next last [] rest = rest
table_fault id ok sound next last (a ∷ l) rest =
    guard_number (ok a) 4 (guard_number (ltb last (id a) && ltb (id a) next && sound a) 5 (table_fault id ok sound next (id a) l rest))

-- a table without: of each record first its values, then its references
abbrev pub list_fault : {A : Type 0} → (A → Bool) → (A → Bool) → List A → ℕ
list_fault ok sound [] = 0
list_fault ok sound (a ∷ l) = guard_number (ok a) 4 (guard_number (sound a) 5 (list_fault ok sound l))

abbrev pub points_fault : ℕ → List Point → ℕ → ℕ
points_fault next ps rest = table_fault (λ p. p.id) ok_point (λ p. true) next 0 ps rest

abbrev pub curves_fault : ℕ → List Point → List Curve → ℕ → ℕ
curves_fault next ps cs rest = table_fault (λ c. c.id) ok_curve (sound_curve (has_point ps)) next 0 cs rest

abbrev pub relations_fault : List Point → List Curve → List Relation → ℕ
relations_fault ps cs rs = list_fault ok_relation (sound_relation (has_point ps) (sort_in cs)) rs

-- the tables' sizes, the next id, then the records of each table
abbrev pub fault_of : Limits → Drawing → ℕ
fault_of m d =
    guard_number (leb (length d.points) m.points && leb (length d.curves) m.curves && leb (length d.relations) m.relations) 3
    (guard_number (leb 1 d.next && leb d.next m.ids) 4
    (points_fault d.next d.points
    (curves_fault d.next d.points d.curves
    (relations_fault d.points d.curves d.relations))))

-- a sketch's counts are within its tables
abbrev pub counts_fit : Sketch → Bool
counts_fit s = leb s.npoints limits.points && leb s.ncurves limits.curves && leb s.nrelations limits.relations

-- the first broken rule of a sketch, whose counts may be anything
abbrev pub sketch_fault : Sketch → ℕ
sketch_fault s =
    guard_number (counts_fit s) 3
    (fault_of limits (view s))
