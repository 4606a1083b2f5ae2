use Rattle.std.proofs.Common.{sym, ◌∙◌}
use Rattle.cuts.proofs.Sides.{is_around, is_beside}
use Rattle.cuts.proofs.image_cuts.bracket_in.Goals as goal

pub returns-then-is_full : goal.returns-then-is_full
returns-then-is_full g c = λ e l. is_around _ _ _ _ _ (c.cuts_in-found.ensures.cuts_of_first e l) (sym c.is_full.ensures ∙ c.if-is_full.true) c.around.ensures

pub returns-else-is_full : goal.returns-else-is_full
returns-else-is_full g c = λ e l. is_beside _ _ _ _ _ (c.cuts_in-found.ensures.cuts_of_first e l) (sym c.is_full.ensures ∙ c.if-is_full.false) c.beside.ensures
