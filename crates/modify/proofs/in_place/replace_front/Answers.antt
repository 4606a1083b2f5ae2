use Rattle.std.proofs.Common.{refl}
use Rattle.std.specs.Prelude.{Ok}
use Rattle.extend.specs.Answers.{answer_of}
use Rattle.modify.proofs.InPlace.{front_short, front_put}
use Rattle.modify.proofs.in_place.replace_front.Goals as goal

pub returns-then-buffer-new : goal.returns-then-buffer-new
returns-then-buffer-new c = front_short (answer_of (Ok c.args.new)) _ _ refl c.if-buffer-new.true refl

pub returns : goal.returns
returns c = front_put (answer_of (Ok c.args.new)) _ _ refl c.if-buffer-new.false c.front.ensures c.put_run.ensures
