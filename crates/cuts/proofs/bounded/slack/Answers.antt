use Rattle.cuts.specs.Bounded.{slack}
use Rattle.cuts.proofs.bounded.slack.Goals as goal

pub returns : goal.returns
unfolding slack
returns c = simp (c.max.ensures, c.length_or_radius.ensures)
