use Rattle.std.proofs.Common.{[], ◌≡◌, true, ◌||◌, ◌∙◌, sym}
use Rattle.std.proofs.lemmas.List.{take_more_set}
use borrow.Author.Tests.{not-true, not-false}
use Rattle.cuts.specs.Bounded.{on_bounded}
use Rattle.cuts.proofs.Steps.{step_off, step_past, step_again, step_cuts, met_anywhere, met_between}
use Rattle.cuts.proofs.gather.candidate.Goals as goal
use Rattle.cuts.proofs.gather.candidate.Goals.{else-not-o-via-then-not-o+else-not-on_bounded, else-not-o-via-else-not-o}

pub returns-then-not-lies_on-clause-found : goal.returns-then-not-lies_on-clause-found
returns-then-not-lies_on-clause-found c = step_off _ _ _ _ (sym c.lies_on.ensures ∙ c.if-not-lies_on.true)

pub returns-then-not-on_bounded-clause-found : goal.returns-then-not-on_bounded-clause-found
returns-then-not-on_bounded-clause-found c = step_past _ _ _ _ (not-true _ c.if-not-o.true) (sym c.on_bounded.ensures ∙ c.if-not-on_bounded.true)

pub returns-then-seen-clause-found : goal.returns-then-seen-clause-found
returns-then-seen-clause-found c = step_again _ _ _ _ (sym c.seen.ensures ∙ c.if-seen.true)

pub returns-clause-found : goal.returns-clause-found
returns-clause-found c =
    let a = c.args in
    let met : (a.o.infinite || on_bounded a.o.shape a.q) ≡ true =
    elim c.else-not-o.branch [
      | else-not-o-via-then-not-o+else-not-on_bounded w ↦ met_between a.sh a.o a.q [] (sym w.on_bounded.ensures ∙ w.if-not-on_bounded.false)
      | else-not-o-via-else-not-o w ↦ met_anywhere a.sh a.o a.q [] (not-false _ w.if-not-o.false)
    ] in
    take_more_set a.cuts.now a.n _ c.requires.room ∙ step_cuts _ _ _ _ _ c.param.ensures (sym c.lies_on.ensures ∙ c.if-not-lies_on.false) met (sym c.seen.ensures ∙ c.if-seen.false)
