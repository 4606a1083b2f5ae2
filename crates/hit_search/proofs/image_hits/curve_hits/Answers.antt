use Rattle.std.proofs.Common.{sym, ap, ◌∙◌, arith}
use Rattle.sketch_geometry.specs.Positions.{shape_found}
use Rattle.hit_search.specs.Values.{support_in}
use Rattle.hit_search.proofs.CurveHits.{with_room_lem, met_fits, met_as, outlined_is, meets_along, meets_bezier, meets_conic}
use Rattle.hit_search.proofs.image_hits.curve_hits.Goals as goal

pub returns-in_default-shape_of : goal.returns-in_default-shape_of
returns-in_default-shape_of c =
    let k = c.in_default in
    record {
      curve_hits_in = λ ps w. absurd (outlined_is ps _ k.not-Bezier k.not-Conic (sym (ap shape_found c.in_default-shape_of.is) ∙ c.shape_of.ensures ps w));
      fits = (omega arith, omega arith);
    }

pub returns-in-Bezier : goal.returns-in-Bezier
returns-in-Bezier c =
    record {
      curve_hits_in = λ ps w. met_as (with_room_lem _ _ _ _ c.requires.0 c.requires.1 ∙ meets_bezier ps (support_in c.args.line.now) _ _ _ c.in-Bezier.is (c.controls-k.ensures ps w)) c.hits.ensures;
      fits = met_fits c.hits.ensures;
    }

pub returns-in-Conic : goal.returns-in-Conic
returns-in-Conic c =
    record {
      curve_hits_in = λ ps w. met_as (with_room_lem _ _ _ _ c.requires.0 c.requires.1 ∙ meets_conic ps (support_in c.args.line.now) _ _ _ c.in-Conic.is (c.position_of-p.ensures ps w) (c.position_of-m.ensures ps w) (c.position_of-q.ensures ps w)) c.hits-in-Conic.ensures;
      fits = met_fits c.hits-in-Conic.ensures;
    }

pub returns-in-Some : goal.returns-in-Some
returns-in-Some c =
    let written = c.hits_along.ensures c.args.line.now.own_direction in
    record {
      curve_hits_in = λ ps w. met_as (with_room_lem _ _ _ _ c.requires.0 c.requires.1 ∙ meets_along ps (support_in c.args.line.now) _ _ _ _ (sym (ap shape_found c.in-Some.is) ∙ c.shape_of.ensures ps w) c.boundary-bound.ensures) written;
      fits = met_fits written;
    }
