use Rattle.support.proofs.Answers.{met_one}
use Rattle.support.proofs.shapes.one_hit.Goals as goal

pub returns : goal.returns
returns c = met_one _ _ _ c.requires.0 c.requires.1 _
