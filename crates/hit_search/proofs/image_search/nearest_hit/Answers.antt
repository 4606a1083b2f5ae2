use Rattle.std.proofs.Common.{sym, ap, ◌∙◌, refl, arith, rules}
use Rattle.std.proofs.lemmas.Result.{err_from_is_err_and}
use Rattle.refusal.specs.declared.Refusal.TheVariants.{Overlap}
use Rattle.sketch.specs.declared.Curve.{Curve}
use Rattle.image.specs.Image.{drawing_of}
use Rattle.image.specs.Decode.{read_curve}
use Rattle.hit_search.proofs.CurveHits.{swept}
use Rattle.hit_search.proofs.ShapeSearch.{shape_stops, shape_continues}
use Rattle.hit_search.proofs.ImageSearch.{row_past, row_stopped, row_on, good_points, of_image_lem}
use Rattle.hit_search.proofs.image_search.nearest_hit.Goals as goal
use Rattle.hit_search.proofs.image_search.nearest_hit.Goals.{then-id-other+in-Some+else-overlaps, then-id-other+in-None+in_ok-so_far-in-None, else-id-other}

pub returns-then-overlaps : goal.returns-then-overlaps
returns-then-overlaps c =
    λ e.
    let t = c.args.t.now in
    let w = good_points t.image.now t.own_points t.own_curves e in
    of_image_lem t.image.now t.own_points t.own_curves e c.support_through-line.ensures _ _
    (row_stopped t.curves.now (c.loop-i.invariant _ w) (omega arith) (ap read_curve c.curve_record-r.ensures) (λ z. c.if-id-other.true (z ∙ sym c.read_curve_id-other.ensures)) _
    (shape_stops c.support_through-line.result c.args.foot _ c.loop-i.so_far c.read_kind.ensures c.shape_of.ensures c.in-Some.is c.read_infinite.ensures c.boundary-bound.ensures c.overlaps.ensures c.if-overlaps.true _ w)
    {why = Overlap} refl)

pub returns-in_err-so_far-in-None : goal.returns-in_err-so_far-in-None
returns-in_err-so_far-in-None c =
    λ e.
    let t = c.args.t.now in
    let w = good_points t.image.now t.own_points t.own_curves e in
    let p = err_from_is_err_and c.from_residual.result c.from_residual.ensures.1 in
    rw (p.1, p.2)
    (of_image_lem t.image.now t.own_points t.own_curves e c.support_through-line.ensures _ _
    (row_stopped t.curves.now (c.loop-i.invariant _ w) (omega arith) (c.read_curve.ensures ∙ ap read_curve c.curve_record-r.ensures)
    (λ z. c.if-id-other.true (z ∙ ap (λ (k : Curve). k.id) c.read_curve.ensures ∙ sym c.read_curve_id-other.ensures)) _
    (c.search_curve.ensures _ w) c.in_err-so_far-in-None.was))

pub loop-i-preserved : goal.loop-i-preserved
loop-i-preserved c =
    λ ps h.
    let t = c.args.t.now in
    elim c.if-id-other.branch [
      | then-id-other+in-Some+else-overlaps w ↦ rw w.so_far-is
          (row_on t.curves.now (c.loop-i.invariant ps h) (omega arith) (ap read_curve c.curve_record-r.ensures) (λ z. w.if-id-other.true (z ∙ sym c.read_curve_id-other.ensures)) _
          (shape_continues c.support_through-line.result c.args.foot _ c.loop-i.so_far w.read_kind.ensures w.shape_of.ensures w.in-Some.is w.read_infinite.ensures w.boundary-bound.ensures w.overlaps.ensures w.if-overlaps.false w.line_crossings-all.ensures _ c.read_curve_id-other.ensures _ w.consider_all-so_far.ensures ps h)
          {p = record { best = w.consider_all-so_far.result; budget = c.loop-i.so_far.budget }} refl)
      | then-id-other+in-None+in_ok-so_far-in-None w ↦ rw w.so_far-is
          (row_on t.curves.now (c.loop-i.invariant ps h) (omega arith) (w.read_curve.ensures ∙ ap read_curve c.curve_record-r.ensures)
          (λ z. w.if-id-other.true (z ∙ ap (λ (k : Curve). k.id) w.read_curve.ensures ∙ sym c.read_curve_id-other.ensures)) _
          (w.search_curve.ensures ps h) w.in_ok-so_far-in-None.was)
      | else-id-other w ↦ rw w.so_far-is
          (row_past t.curves.now (c.loop-i.invariant ps h) (omega arith) (ap read_curve c.curve_record-r.ensures) (search rules ∙ c.read_curve_id-other.ensures))
    ]

pub returns : goal.returns
returns c =
    λ e.
    let t = c.args.t.now in
    let w = good_points t.image.now t.own_points t.own_curves e in
    of_image_lem t.image.now t.own_points t.own_curves e c.support_through-line.ensures _ _ (swept (c.loop-i.invariant _ w) (omega arith))
