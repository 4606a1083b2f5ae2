use Rattle.std.proofs.Common.{arith, sym, ap, ◌∙◌}
use Rattle.support.proofs.Curves.{few, front_count}
use Rattle.geom.specs.Plane.{normalized}
use Rattle.support.proofs.Answers.{met_refused, as_outcome}
use Rattle.support.proofs.PieceCases.{without_direction, all_along, not_along}
use Rattle.support.proofs.freeform.freeform_hits.Goals as goal

pub returns-in_default : goal.returns-in_default
returns-in_default c = as_outcome (without_direction _ _ _ _ (sym (c.normalized.ensures ∙ ap normalized c.from_points.ensures) ∙ c.in_default.is)) (met_refused _ _ _ _)

pub slice_bounds-c-end : goal.slice_bounds-c-end
slice_bounds-c-end c = omega (arith, few _ _ _ c.requires.0, c.polynomial-c.ensures.1)

pub slice_bounds-vanishes-end : goal.slice_bounds-vanishes-end
slice_bounds-vanishes-end c = front_count _ c.polynomial-c.result c.polynomial-c.ensures.1 (few _ _ _ c.requires.0)

pub returns-then-vanishes : goal.returns-then-vanishes
returns-then-vanishes c = as_outcome (all_along _ _ _ _ _ (sym (c.normalized.ensures ∙ ap normalized c.from_points.ensures) ∙ c.in-Some.is) _ c.polynomial-c.ensures.0 (sym c.vanishes.ensures ∙ c.if-vanishes.true)) (met_refused _ _ _ _)

pub slice_bounds-c-end-2 : goal.slice_bounds-c-end-2
slice_bounds-c-end-2 c = omega (arith, few _ _ _ c.requires.0, c.polynomial-c.ensures.1)

pub slice_bounds-hits_at_roots-end : goal.slice_bounds-hits_at_roots-end
slice_bounds-hits_at_roots-end c = front_count _ c.polynomial-c.result c.polynomial-c.ensures.1 (few _ _ _ c.requires.0)

pub returns : goal.returns
returns c = as_outcome (not_along _ _ _ _ _ (sym (c.normalized.ensures ∙ ap normalized c.from_points.ensures) ∙ c.in-Some.is) _ c.polynomial-c.ensures.0 (sym c.vanishes.ensures ∙ c.if-vanishes.false)) c.hits_at_roots.ensures
