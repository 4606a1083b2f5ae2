-- The walk of the search over an image's curves, one law for each way out of the code. Assumes nothing.
use mathlib.Core.Path.{◌≡◌, sym, ap, ◌∙◌}
use mathlib.Core.List.{List, ◌∷◌}
use mathlib.Core.Option.{Option, none}
use Prim.Native.Nat.{ℕ, ◌+◌, ◌<◌}
use lib.ListN.{length, get_or}
use Rattle.geom.specs.declared.Vec2.{Vec2}
use Rattle.sketch.specs.declared.Point.{Point}
use Rattle.sketch.specs.declared.Curve.{Curve}
use Rattle.sketch.specs.Blanks.{no_curve}
use Rattle.image.specs.Records.{curve_size}
use Rattle.image.specs.Image.{drawing_of, image_fault}
use Rattle.image.specs.Decode.{read_curve}
use Rattle.rows.specs.Rows.{point_table, curve_table, row_in, curves_in, HoldsPoints}
use Rattle.rows.proofs.Holds.{holds_points, holds_curves}
use Rattle.edit_plan.specs.Tables.{others}
use Rattle.std.specs.Prelude.{Result, Ok, Err}
use Rattle.refusal.specs.declared.Refusal.{Refusal}
use Rattle.refusal.specs.Refusals.{number}
use Rattle.hit_search.specs.declared.Progress.{Progress}
use Rattle.hit_search.specs.NearestHit.{Support, Best, Search, stopped, nearest_hit}
use Rattle.hit_search.specs.Values.{best_in}
use Rattle.hit_search.specs.Clauses.{resumed}
use Rattle.hit_search.proofs.OtherCurves.{curve_row}
use Rattle.hit_search.proofs.CurveHits.{Sweep, sweep_past, sweep_stopped, sweep_on}

-- ---- one record more

module _ {ps : List Point} {s : Support} {foot : Vec2} {id : ℕ} (curves : List ℕ) {i : ℕ} {best : Option Best} {left : ℕ}
    (w : Sweep ps s foot id (curves_in curves) i best left) (h : i < length (curves_in curves)) {c : Curve} (r : c ≡ read_curve (row_in curve_size curves i)) where
  is : c ≡ get_or (curves_in curves) i no_curve
  is = r ∙ curve_row curves i h

  pub row_past : id ≡ c.id → Sweep ps s foot id (curves_in curves) (i + 1) best left
  row_past e = sweep_past w h (e ∙ ap (λ (x : Curve). x.id) is)

  module _ (e : id ≡ c.id → ⊥) (x : Result Progress Refusal) (f : (os : List Curve) → nearest_hit ps s foot (c ∷ os) best left ≡ resumed ps s foot os x) where
    other : id ≡ (get_or (curves_in curves) i no_curve).id → ⊥
    other q = e (q ∙ sym (ap (λ (x : Curve). x.id) is))

    next : (os : List Curve) → nearest_hit ps s foot (get_or (curves_in curves) i no_curve ∷ os) best left ≡ resumed ps s foot os x
    next os = ap (λ (x : Curve). nearest_hit ps s foot (x ∷ os) best left) (sym is) ∙ f os

    pub row_stopped : {why : Refusal} → x ≡ Err why → stopped (number why) ≡ nearest_hit ps s foot (others id (curves_in curves)) none 1000000
    row_stopped q = sweep_stopped w h other x next q

    pub row_on : {p : Progress} → x ≡ Ok p → Sweep ps s foot id (curves_in curves) (i + 1) (best_in p.best) p.budget
    row_on q = sweep_on w h other x next q

-- ---- all records

-- what is answered of the tables is answered of the image
module _ (s : List ℕ) {points curves : List ℕ} (p : points ≡ point_table s) (c : curves ≡ curve_table s) (e : image_fault s ≡ 0) where
  pub good_points : HoldsPoints (drawing_of s).points points
  good_points = rw p (holds_points s e)

  pub of_image_lem : {sup sup' : Support} → sup ≡ sup' → (foot : Vec2) (id : ℕ) {x : Search} → x ≡ nearest_hit (drawing_of s).points sup foot (others id (curves_in curves)) none 1000000
      → x ≡ nearest_hit (drawing_of s).points sup' foot (others id (drawing_of s).curves) none 1000000
  of_image_lem {sup} l foot id f =
      f ∙ ap (λ (l : List Curve). nearest_hit (drawing_of s).points sup foot (others id l) none 1000000) (ap curves_in c ∙ (holds_curves s e).are)
      ∙ ap (λ (x : Support). nearest_hit (drawing_of s).points x foot (others id (drawing_of s).curves) none 1000000) l
