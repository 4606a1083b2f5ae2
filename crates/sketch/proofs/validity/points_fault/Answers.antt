-- `sketch::points_fault` meets its contract. The invariant: the fault of what is left is the fault of all, and the column holds the ids that are done.
use Rattle.std.proofs.Common.{refl, sym, ◌∙◌, true, arith, rules}
use Rattle.sketch.proofs.Bools.{too_low, too_high, between}
use Rattle.sketch.proofs.Checked.{points_start, points_four, points_five, points_on, points_end}
use Rattle.sketch.proofs.validity.points_fault.Goals as goal
use Rattle.sketch.proofs.validity.points_fault.Goals.{then-p-last-via-then-p-last, then-p-last-via-else-p-last+then-next-p}

pub loop-i-init : goal.loop-i-init
loop-i-init c = (points_start _ _ _, refl)

pub returns-then-not-point_ok : goal.returns-then-not-point_ok
returns-then-not-point_ok c = points_four c.loop-i.invariant.0 (omega arith) (sym c.point_ok.ensures ∙ c.if-not-point_ok.true)

pub returns-then-p-last : goal.returns-then-p-last
returns-then-p-last c =
    points_five c.loop-i.invariant.0 (omega arith) (sym c.point_ok.ensures ∙ c.if-not-point_ok.false)
    (elim c.then-p-last.branch [
      | then-p-last-via-then-p-last w ↦ too_low _ true w.if-p-last.true
      | then-p-last-via-else-p-last+then-next-p w ↦ too_high _ true w.if-next-p.true
    ])

pub loop-i-preserved : goal.loop-i-preserved
loop-i-preserved c =
    let w = c.loop-i.invariant in
    (points_on w.0 (omega arith) (sym c.point_ok.ensures ∙ c.if-not-point_ok.false) (between c.if-p-last.false c.if-next-p.false refl) (omega arith), search rules)

pub returns : goal.returns
returns c = points_end c.loop-i.invariant.0 (omega arith)
