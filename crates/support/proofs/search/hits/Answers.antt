use Rattle.std.proofs.Common.{◌∙◌, arith, rules}
use Rattle.support.proofs.Answers.{met_refused, as_outcome}
use Rattle.support.proofs.Curves.{front_count, bezier_controls, conic_controls}
use Rattle.support.proofs.PieceCases.{short_across, short_up, roomy, of_shape, of_bezier, of_conic}
use Rattle.support.proofs.search.hits.Goals as goal
use Rattle.support.proofs.search.hits.Goals.{then-hx-lt-ROOM-via-then-hx-lt-ROOM, then-hx-lt-ROOM-via-else-hx-lt-ROOM+then-hy-lt-ROOM}

pub returns-then-hx-lt-ROOM : goal.returns-then-hx-lt-ROOM
returns-then-hx-lt-ROOM c =
    elim c.then-hx-lt-ROOM.branch [
      | then-hx-lt-ROOM-via-then-hx-lt-ROOM w ↦ as_outcome (short_across _ _ _ _ w.if-hx-lt-ROOM.true) (met_refused _ _ _ _)
      | then-hx-lt-ROOM-via-else-hx-lt-ROOM+then-hy-lt-ROOM w ↦ as_outcome (short_up _ _ _ _ w.if-hx-lt-ROOM.false w.if-hy-lt-ROOM.true) (met_refused _ _ _ _)
    ]

pub slice_bounds-freeform_hits-end : goal.slice_bounds-freeform_hits-end
slice_bounds-freeform_hits-end c = front_count c.at_most_8-k.result c.args.xs c.well_formed.1.1.1.0.1.0.1 c.at_most_8-k.ensures.1

pub slice_bounds-freeform_hits-end-in-Bezier : goal.slice_bounds-freeform_hits-end-in-Bezier
slice_bounds-freeform_hits-end-in-Bezier c = front_count c.at_most_8-k.result c.args.ys c.well_formed.1.1.1.1.0.1.0.1 c.at_most_8-k.ensures.1

pub freeform_hits-requires : goal.freeform_hits-requires
freeform_hits-requires c = (bezier_controls c.args.xs c.args.ys c.well_formed.1.1.1.0.1.0.1 c.well_formed.1.1.1.1.0.1.0.1 c.at_most_8-k.result c.at_most_8-k.ensures.1, search rules, search rules)

pub slice_bounds-freeform_hits-end-in-Conic : goal.slice_bounds-freeform_hits-end-in-Conic
slice_bounds-freeform_hits-end-in-Conic c = front_count 3 c.args.xs c.well_formed.1.1.1.0.1.0.1 (omega arith)

pub slice_bounds-freeform_hits-end-in-Conic-2 : goal.slice_bounds-freeform_hits-end-in-Conic-2
slice_bounds-freeform_hits-end-in-Conic-2 c = front_count 3 c.args.ys c.well_formed.1.1.1.1.0.1.0.1 (omega arith)

pub freeform_hits-requires-in-Conic : goal.freeform_hits-requires-in-Conic
freeform_hits-requires-in-Conic c = (conic_controls c.args.xs c.args.ys c.well_formed.1.1.1.0.1.0.1 c.well_formed.1.1.1.1.0.1.0.1 _, search rules, search rules)

pub returns-in-Analytic : goal.returns-in-Analytic
returns-in-Analytic c = as_outcome (roomy _ _ _ _ c.if-hx-lt-ROOM.false c.if-hy-lt-ROOM.false ∙ of_shape _ _ _ _ _ _ _ c.in-Analytic.is) c.shape_hits.ensures

pub returns-in-Bezier : goal.returns-in-Bezier
returns-in-Bezier c = as_outcome (roomy _ _ _ _ c.if-hx-lt-ROOM.false c.if-hy-lt-ROOM.false ∙ of_bezier _ _ _ _ _ _ _ _ c.in-Bezier.is c.at_most_8-k.ensures.0 c.well_formed.1.1.1.0.1.0.1 c.well_formed.1.1.1.1.0.1.0.1) c.freeform_hits.ensures

pub returns-in-Conic : goal.returns-in-Conic
returns-in-Conic c = as_outcome (roomy _ _ _ _ c.if-hx-lt-ROOM.false c.if-hy-lt-ROOM.false ∙ of_conic _ _ _ _ _ _ _ c.in-Conic.is) c.freeform_hits-in-Conic.ensures
