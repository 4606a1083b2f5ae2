-- `probe::mulkefi_deliver_repeated` meets its contract.
use Rattle.std.proofs.Common.{sym, ◌∙◌, arith}
use Rattle.refusal.proofs.Numbers.{number_above_0}
use Rattle.probe.proofs.Sums.{image_refused, image_passed}
use Rattle.probe.proofs.replicas.mulkefi_deliver_repeated.Goals as goal

pub returns-in-Err : goal.returns-in-Err
returns-in-Err c =
    let z = number_above_0 c.in-Err.refusal in
    image_refused c.args.bytes.now _ (c.from.ensures ∙ c.number.ensures ∙ c.in-Err.ensures) (λ e. omega (arith, c.from.ensures, c.number.ensures))

pub walls_sum-requires : goal.walls_sum-requires
walls_sum-requires c = sym c.in-Ok.ensures

pub returns-in-Ok : goal.returns-in-Ok
returns-in-Ok c = image_passed c.args.bytes.now _ (sym c.in-Ok.ensures) c.walls_sum.ensures
