-- The contracts of private functions, which nothing outside needs: the search of one curve, from an image's records, whichever points they hold.
use Rattle.std.specs.Prelude.{ℕ, ◌≡◌, List, ◌∷◌, Float, Result}
use Rattle.geom.specs.declared.Vec2.{Vec2}
use Rattle.refusal.specs.declared.Refusal.{Refusal}
use Rattle.sketch.specs.declared.Point.{Point}
use Rattle.sketch.specs.declared.Curve.{Curve}
use Rattle.rows.specs.Rows.{HoldsPoints}
use Rattle.bernstein.specs.Answers.{Answer}
use Rattle.support.specs.Pieces.{HitsWritten}
use Rattle.hit_search.specs.declared.Controls.{Controls}
use Rattle.hit_search.specs.declared.Progress.{Progress}
use Rattle.hit_search.specs.declared.SupportLine.{SupportLine}
use Rattle.hit_search.specs.NearestHit.{curve_hits, nearest_hit}
use Rattle.hit_search.specs.Values.{support_in, best_in}
use Rattle.hit_search.specs.Clauses.{ControlsAre, resumed}

abbrev pub ControlsIn : List ℕ → List ℕ → ℕ → Controls → Type 0
ControlsIn points slots n r = (ps : List Point) → HoldsPoints ps points → ControlsAre ps slots n r

abbrev pub CurveHitsIn : List ℕ → SupportLine → Vec2 → Curve → ℕ → List Float → List Float → List Float → List Float → Answer → Type 0
CurveHitsIn points line foot c budget hx hy laterX laterY r =
    (ps : List Point) → HoldsPoints ps points → HitsWritten (curve_hits ps (support_in line) foot c c.kind budget) hx hy laterX laterY r

abbrev pub SearchesCurveIn : List ℕ → SupportLine → Vec2 → Curve → Progress → Result Progress Refusal → Type 0
SearchesCurveIn points line foot c so_far r =
    (ps : List Point) → HoldsPoints ps points → (os : List Curve)
    → nearest_hit ps (support_in line) foot (c ∷ os) (best_in so_far.best) so_far.budget ≡ resumed ps (support_in line) foot os r
