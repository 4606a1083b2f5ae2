-- The contracts of private functions, which nothing outside needs: the control points of a curve, and hits within what is lent.
use Rattle.std.specs.Prelude.{ℕ, ◌≤◌, ◌≡◌, List, map, length, take, Float, Result, Ok, Err}
use Rattle.geom.specs.declared.Vec2.{Vec2}
use Rattle.refusal.specs.declared.Refusal.{Refusal}
use Rattle.refusal.specs.Refusals.{number}
use Rattle.sketch.specs.declared.Point.{Point}
use Rattle.sketch.specs.declared.Curve.{Curve}
use Rattle.sketch_geometry.specs.Geometry.{position_of}
use Rattle.bernstein.specs.Answers.{Answer, Found, Refused}
use Rattle.support.specs.Pieces.{zip_points}
use Rattle.hit_search.specs.declared.Controls.{Controls}
use Rattle.hit_search.specs.declared.Progress.{Progress}
use Rattle.hit_search.specs.NearestHit.{Support, Search, stopped, nearest_hit}
use Rattle.hit_search.specs.Values.{best_in}

-- the points in the first n slots, by their coordinates at the front
pub record ControlsAre (ps : List Point) (slots : List ℕ) (n : ℕ) (r : Controls) : Type 0 where
  pub xs_long : length r.xs ≡ 8
  pub ys_long : length r.ys ≡ 8
  pub are : zip_points (take n r.xs) (take n r.ys) ≡ map (position_of ps) (take n slots)

-- the hits are within what is lent
abbrev pub Fits : List Float → List Float → Answer → Type 0
Fits laterX laterY (Found n b) = (n ≤ length laterX) × (n ≤ length laterY)
Fits laterX laterY (Refused n b) = Unit {0}

-- what is left of a search after one curve
abbrev pub resumed : List Point → Support → Vec2 → List Curve → Result Progress Refusal → Search
resumed ps s foot os (Err r) = stopped (number r)
resumed ps s foot os (Ok p) = nearest_hit ps s foot os (best_in p.best) p.budget
