use Rattle.std.proofs.Common.{sym, ◌∙◌, eq-eqb, ne_eqb}
use Rattle.image.proofs.records.kept_slots.Goals as goal

pub returns-then-get1-eq4 : goal.returns-then-get1-eq4
returns-then-get1-eq4 c = simp (eq-eqb _ 4 (sym c.get1.ensures ∙ c.if-get1-eq4.true), c.slots_at.ensures)

pub returns : goal.returns
returns c = simp (ne_eqb _ 4 (λ e. c.if-get1-eq4.false (c.get1.ensures ∙ e)))
