use Rattle.std.proofs.Common.{ap}
use Rattle.bernstein.specs.Answers.{answer_in}
use Rattle.hit_search.proofs.CurveHits.{look_stopped, look_went}
use Rattle.hit_search.proofs.image_search.search_curve.Goals as goal

pub returns-in_default : goal.returns-in_default
returns-in_default c = λ ps w os. look_stopped ps _ _ _ _ (c.curve_hits-hits.ensures.curve_hits_in ps w) _ os (ap answer_in c.unwrap_err.ensures)

pub returns : goal.returns
returns c = λ ps w os. look_went ps _ _ _ _ (c.curve_hits-hits.ensures.curve_hits_in ps w) _ os (ap answer_in c.in-Ok.is) c.best_along.ensures
