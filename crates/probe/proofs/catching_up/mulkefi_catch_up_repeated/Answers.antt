-- `probe::catching_up::mulkefi_catch_up_repeated` meets its contract.
use Rattle.std.proofs.Common.{ℕ, refl, ap, ◌∙◌, rules}
use Rattle.probe.proofs.Sums.{none_yet, once_more, all_done}
use Rattle.window.specs.Window.{catch_up_fault}
use Rattle.probe.proofs.catching_up.mulkefi_catch_up_repeated.Goals as goal

pub loop-i-init : goal.loop-i-init
loop-i-init c = (search rules, none_yet _)

pub loop-i-preserved : goal.loop-i-preserved
loop-i-preserved c = (search rules, once_more _ _ c.loop-i.invariant.1 (c.number_of-sum.ensures ∙ c.catch_up-caught_up.ensures.number ∙ ap (λ (n : ℕ). catch_up_fault c.args.mark c.args.window.now c.args.count c.args.wall n) c.loop-i.invariant.0) refl)

pub returns : goal.returns
returns c = all_done _ _ _ c.loop-i.auto.i-end c.loop-i-test.false c.loop-i.invariant.1
