-- `sketch::has` meets its contract.
use Rattle.std.proofs.Common.{◌∙◌}
use Rattle.sketch.proofs.Bisection.{found_among}
use Rattle.sketch.proofs.lookup.has.Goals as goal

pub returns : goal.returns
returns c = λ h. c.is_some.ensures ∙ found_among c.args.id c.args.ids.now c.place_near.result c.place_near.ensures h
