-- `mulkefi::mulkefi_roots` meets its contract.
use Rattle.std.proofs.Common.{ap}
use Rattle.bernstein.specs.Answers.{answer_in}
use Rattle.mulkefi.proofs.RootsAnswer.{answered_found, answered_refused}
use Rattle.mulkefi.proofs.polynomials.mulkefi_roots.Goals as goal

pub returns-in_default : goal.returns-in_default
returns-in_default c = rw (c.from.ensures, c.number.ensures) (answered_refused _ _ _ _ _ c.roots-searched.ensures _ _ (ap answer_in c.unwrap_err.ensures))

pub returns : goal.returns
returns c = answered_found _ _ _ _ _ c.roots-searched.ensures _ _ (ap answer_in c.in-Ok.is)
