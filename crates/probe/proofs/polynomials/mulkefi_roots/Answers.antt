use Rattle.std.proofs.Common.{refl}
use Rattle.probe.proofs.RootsAnswer.{answered_found, answered_refused}
use Rattle.probe.proofs.polynomials.mulkefi_roots.Goals as goal

pub returns-in_default : goal.returns-in_default
returns-in_default c =
    let s = rw c.unwrap_err-stopped.ensures at c.roots-roots.ensures in
    rw (c.from.ensures, c.number.ensures) (answered_refused _ _ _ _ _ s _ _ refl)

pub returns : goal.returns
returns c = answered_found _ _ _ _ _ c.in-Ok.ensures _ _ refl
