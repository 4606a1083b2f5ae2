-- The search of one line or round, whose crossings are considered one by one. Assumes nothing.
use mathlib.Core.Path.{◌≡◌, sym, ap, ◌∙◌}
use mathlib.Core.Bool.{Bool, true, false}
use mathlib.Core.List.{List}
use mathlib.Core.Option.{Option, some}
use Prim.Native.Nat.{ℕ}
use Rattle.geom.specs.declared.Vec2.{Vec2}
use Rattle.shape.specs.declared.Shape.{Shape}
use Rattle.shape.specs.declared.Shape.TheVariants as S
use Rattle.shape.specs.declared.Crossings.{Crossings}
use Rattle.shape.specs.Intersections.{points, crossings_by}
use Rattle.sketch.specs.declared.Point.{Point}
use Rattle.sketch.specs.declared.Curve.{Curve}
use Rattle.sketch.specs.declared.CurveKind.{CurveKind}
use Rattle.sketch.specs.Lists.{keep}
use Rattle.rows.specs.Rows.{HoldsPoints}
use Rattle.std.specs.Prelude.{Ok, Err, Some}
use Rattle.std.specs.Prelude.{Option as Answer}
use Rattle.refusal.specs.declared.Refusal.TheVariants.{Overlap}
use Rattle.sketch_geometry.specs.Geometry.{shape_of}
use Rattle.sketch_geometry.specs.Positions.{shape_found}
use Rattle.sketch_geometry.specs.Positions.{ShapeFrom}
use Rattle.support.specs.Hits.{on_piece, overlaps, shape_hits}
use Rattle.support.proofs.Answers.{overlapping_along, clear_along}
use Rattle.hit_search.specs.declared.Nearest.{Nearest}
use Rattle.hit_search.specs.declared.Progress.{Progress}
use Rattle.hit_search.specs.declared.SupportLine.{SupportLine}
use Rattle.hit_search.specs.NearestHit.{Best, Search, boundary, best_of, curve_hits, continue_with, nearest_hit}
use Rattle.hit_search.specs.Values.{support_in, best_in}
use Rattle.hit_search.specs.ImageContracts.{SearchesCurveIn}
use Rattle.hit_search.proofs.CurveHits.{meets_along}

module _ {table : List ℕ} (line : SupportLine) (foot : Vec2) (c : Curve) (so_far : Progress) {kind : CurveKind} (ek : kind ≡ c.kind)
    {o : Answer Shape} (f : ShapeFrom table kind o) {sh : Shape} (eo : o ≡ Some sh) {infinite : Bool} (ei : infinite ≡ c.infinite) {bound : Shape} (eb : bound ≡ boundary infinite sh foot)
    {t : Bool} (u : t ≡ overlaps line.a line.direction bound) where
  hits_are : (ps : List Point) → HoldsPoints ps table → curve_hits ps (support_in line) foot c c.kind so_far.budget ≡ shape_hits line.a line.b bound so_far.budget
  hits_are ps w =
      let e : some sh ≡ shape_of ps c.kind = sym (ap shape_found eo) ∙ f ps w ∙ ap (shape_of ps) ek in
      sym (meets_along ps (support_in line) foot c so_far.budget c.kind e (eb ∙ ap (λ (i : Bool). boundary i sh foot) ei))

  module _ (ps : List Point) (w : HoldsPoints ps table) (os : List Curve) where
    abbrev resume : List Vec2 → ℕ → Search
    resume qs rest = nearest_hit ps (support_in line) foot os (best_of (support_in line) c.id (best_in so_far.best) qs) rest

  pub shape_stops : t ≡ true → SearchesCurveIn table line foot c so_far (Err Overlap)
  unfolding nearest_hit continue_with
  shape_stops h = λ ps w os. ap (continue_with (resume ps w os)) (hits_are ps w ∙ overlapping_along line.a line.b bound so_far.budget line.own_direction u h)

  pub shape_continues : t ≡ false → {all : Crossings} → all ≡ crossings_by line.direction (S.Line line.a line.b) bound → (by : ℕ) → by ≡ c.id → (now : Answer Nearest)
      → best_in now ≡ best_of (support_in line) by (best_in so_far.best) (keep (on_piece bound) (points all)) → SearchesCurveIn table line foot c so_far (Ok record { best = now; budget = so_far.budget })
  unfolding nearest_hit continue_with
  shape_continues h {all} g by k now q = λ ps w os.
      ap (continue_with (resume ps w os)) (hits_are ps w ∙ clear_along line.a line.b bound so_far.budget line.own_direction u h all g)
      ∙ ap (λ (x : Option Best). nearest_hit ps (support_in line) foot os x so_far.budget) (ap (λ (i : ℕ). best_of (support_in line) i (best_in so_far.best) (keep (on_piece bound) (points all))) (sym k) ∙ sym q)
