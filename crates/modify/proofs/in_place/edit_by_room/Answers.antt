use Rattle.std.proofs.Common.{sym, ap, subst, rules}
use Rattle.std.specs.Prelude.{Ok, Err}
use Rattle.std.proofs.lemmas.Result.{err_from_is_err_and}
use Rattle.extend.specs.Answers.{ImageAnswer, answer_of}
use Rattle.modify.specs.ImageEdits.{EditWritten}
use Rattle.modify.proofs.InPlace.{front_err, edited_through}
use Rattle.modify.proofs.in_place.edit_by_room.Goals as goal

pub returns-in_err-edited : goal.returns-in_err-edited
returns-in_err-edited g c =
    let p = err_from_is_err_and c.from_residual.result c.from_residual.ensures.1 in
    let w = subst (EditWritten c.args.operation _ c.args.curve c.args.at _ _) (ap answer_of c.in_err-edited.was) c.edit_image.ensures in
    rw (p.1, p.2) (edited_through c.args.len c.args.buffer.now c.front.ensures _ _ w (search rules) (front_err _ _ _))

pub returns : goal.returns
returns g c =
    let w = subst (EditWritten c.args.operation _ c.args.curve c.args.at _ _) (ap answer_of c.in_ok-edited.was) c.edit_image.ensures in
    edited_through c.args.len c.args.buffer.now c.front.ensures _ _ w (search rules) c.replace_front.ensures
