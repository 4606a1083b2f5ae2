-- What makes a sketch valid, as facts: those that `sketch_fault` tests.
use Rattle.std.specs.Prelude.{◌≡◌, Bool, true, List, [], ◌∷◌, ℕ, ◌≤◌, ◌<◌, length}
use Rattle.sketch.specs.declared.Sketch.{Sketch}
use Rattle.sketch.specs.Drawing.{Drawing, Limits, limits, point_ids, curve_ids}
use Rattle.sketch.specs.Valid.{ok_point, ok_curve, ok_relation, sound_curve, sound_relation, has_point, sort_in}

abbrev pub Every : {A : Type 0} → (A → Bool) → List A → Type 0
Every f [] = Unit {0}
Every f (a ∷ l) = (f a ≡ true) × Every f l

-- ids rise strictly, from above `below` to below `next`
abbrev pub Rising : ℕ → ℕ → List ℕ → Type 0
Rising next below [] = Unit {0}
Rising next below (i ∷ is) = (below < i) × (i < next) × Rising next i is

pub record Valid (m : Limits) (d : Drawing) : Type 0 where
  pub points_fit : length d.points ≤ m.points
  pub curves_fit : length d.curves ≤ m.curves
  pub relations_fit : length d.relations ≤ m.relations
  pub next_low : 1 ≤ d.next
  pub next_high : d.next ≤ m.ids
  pub points_rise : Rising d.next 0 (point_ids d.points)
  pub curves_rise : Rising d.next 0 (curve_ids d.curves)
  pub points_ok : Every ok_point d.points
  pub curves_ok : Every ok_curve d.curves
  pub relations_ok : Every ok_relation d.relations
  pub curves_sound : Every (sound_curve (has_point d.points)) d.curves
  pub relations_sound : Every (sound_relation (has_point d.points) (sort_in d.curves)) d.relations

-- a sketch's counts are within its tables
pub record Sized (s : Sketch) : Type 0 where
  pub points : s.npoints ≤ limits.points
  pub curves : s.ncurves ≤ limits.curves
  pub relations : s.nrelations ≤ limits.relations
