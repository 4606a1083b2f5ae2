use Rattle.std.proofs.Common.{sym, ◌∙◌}
use Rattle.support.proofs.Curves.{few, enough_weights, weights_counted, coefficients}
use Rattle.support.proofs.distance.polynomial.Goals as goal

pub slice_bounds-ws-end : goal.slice_bounds-ws-end
slice_bounds-ws-end c = enough_weights _ _ _ _ c.requires c.weights-ws.ensures

pub slice_bounds-heaviest-end : goal.slice_bounds-heaviest-end
slice_bounds-heaviest-end c = weights_counted _ _ _ _ c.requires c.weights-ws.ensures

pub slice_bounds-ws-end-2 : goal.slice_bounds-ws-end-2
slice_bounds-ws-end-2 c = enough_weights _ _ _ _ c.requires c.weights-ws.ensures

pub slice_bounds-off_each-end : goal.slice_bounds-off_each-end
slice_bounds-off_each-end c = weights_counted _ _ _ _ c.requires c.weights-ws.ensures

pub off_each-requires : goal.off_each-requires
off_each-requires c = (c.requires.paired, sym (weights_counted _ _ _ _ c.requires c.weights-ws.ensures), few _ _ _ c.requires)

pub returns : goal.returns
returns c = (c.off_each.ensures.0 ∙ coefficients _ _ _ _ _ c.requires _ c.weights-ws.ensures _ c.farthest-scale.ensures _ c.heaviest-top.ensures, c.off_each.ensures.1)
