use Rattle.std.proofs.Common.{sym, ◌∙◌}
use Rattle.planning.proofs.TrimSplitPlans.{near_end_lem, pin_first, pin_second, pin_curve}
use Rattle.planning.proofs.image_pins.pin_to.Goals as goal

pub returns-then-dist2 : goal.returns-then-dist2
returns-then-dist2 c = λ ps w. pin_first ps _ _ _ _ (sym (near_end_lem ps _ _ (c.position_of.ensures ps w) c.dist2.ensures) ∙ c.if-dist2.true)

pub returns-then-dist2-2 : goal.returns-then-dist2-2
returns-then-dist2-2 c = λ ps w. pin_second ps _ _ _ _ (sym (near_end_lem ps _ _ (c.position_of.ensures ps w) c.dist2.ensures) ∙ c.if-dist2.false) (sym (near_end_lem ps _ _ (c.position_of-2.ensures ps w) c.dist2-2.ensures) ∙ c.if-dist2-2.true)

pub returns : goal.returns
returns c = λ ps w. pin_curve ps _ _ _ _ (sym (near_end_lem ps _ _ (c.position_of.ensures ps w) c.dist2.ensures) ∙ c.if-dist2.false) (sym (near_end_lem ps _ _ (c.position_of-2.ensures ps w) c.dist2-2.ensures) ∙ c.if-dist2-2.false)
