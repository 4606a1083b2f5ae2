-- What the walks over a sketch's tables answer: the first broken rule, and the columns that they fill where none is.
use Rattle.std.specs.Prelude.{ℕ, ◌≡◌, List, map, length, take}
use Rattle.sketch.specs.declared.Point.{Point}
use Rattle.sketch.specs.declared.Curve.{Curve}
use Rattle.sketch.specs.declared.Relation.{Relation}
use Rattle.sketch.specs.Lookup.{among, sort_among}
use Rattle.sketch.specs.Drawing.{Drawing, point_ids, curve_ids}
use Rattle.sketch.specs.Valid.{sort_of, table_fault, list_fault, points_fault, curves_fault, relations_fault, ok_curve, sound_curve, ok_relation, sound_relation}

abbrev pub sorts_of : List Curve → List ℕ
sorts_of cs = map (λ c. sort_of c.kind) cs

pub record PointsChecked (next : ℕ) (ps : List Point) (n : ℕ) (before ids : List ℕ) (r : ℕ) : Type 0 where
  pub number : r ≡ points_fault next ps 0
  pub long : length ids ≡ length before
  pub column : r ≡ 0 → take n ids ≡ point_ids ps

pub record CurvesChecked (next : ℕ) (points : List ℕ) (cs : List Curve) (n : ℕ) (before was ids sorts : List ℕ) (r : ℕ) : Type 0 where
  pub number : r ≡ table_fault (λ c. c.id) ok_curve (sound_curve (λ p. among p points)) next 0 cs 0
  pub long : length ids ≡ length before
  pub as_long : length sorts ≡ length was
  pub column : r ≡ 0 → take n ids ≡ curve_ids cs
  pub beside : r ≡ 0 → take n sorts ≡ sorts_of cs

pub record RelationsChecked (points curves sorts : List ℕ) (rs : List Relation) (r : ℕ) : Type 0 where
  pub number : r ≡ list_fault ok_relation (sound_relation (λ p. among p points) (λ i. sort_among i curves sorts)) rs

-- the first broken rule of a drawing whose points are right
abbrev pub shapes_fault : Drawing → ℕ
shapes_fault d = curves_fault d.next d.points d.curves (relations_fault d.points d.curves d.relations)
