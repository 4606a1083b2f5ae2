-- `sketch::relations_fault` meets its contract. The invariant: the fault of what is left is the fault of all.
use Rattle.std.proofs.Common.{sym, ◌∙◌, arith}
use Rattle.sketch.proofs.Checked.{relations_start, relations_four, relations_five, relations_on, relations_end}
use Rattle.sketch.proofs.validity.relations_fault.Goals as goal

pub loop-slot-init : goal.loop-slot-init
loop-slot-init c = relations_start _ _ _ _

pub returns-then-not-relation_ok : goal.returns-then-not-relation_ok
returns-then-not-relation_ok c =
    let w = c.loop-slot.invariant in
    relations_four w (omega arith) (sym c.relation_ok.ensures ∙ c.if-not-relation_ok.true)

pub returns-then-not-relation_sound : goal.returns-then-not-relation_sound
returns-then-not-relation_sound c =
    let w = c.loop-slot.invariant in
    relations_five w (omega arith) ((sym c.relation_ok.ensures ∙ c.if-not-relation_ok.false)) (sym c.relation_sound.ensures ∙ c.if-not-relation_sound.true)

pub loop-slot-preserved : goal.loop-slot-preserved
loop-slot-preserved c =
    let w = c.loop-slot.invariant in
    relations_on w (omega arith) ((sym c.relation_ok.ensures ∙ c.if-not-relation_ok.false)) (sym c.relation_sound.ensures ∙ c.if-not-relation_sound.false)

pub returns : goal.returns
returns c = relations_end c.loop-slot.invariant (omega arith)
