-- `sketch::curves_fault` meets its contract. The invariant: the fault of what is left is the fault of all, and the columns hold the ids and sorts that are done.
use Rattle.std.proofs.Common.{refl, sym, ◌∙◌, arith, rules}
use Rattle.std.proofs.lemmas.List.{length-map, map-set}
use Rattle.sketch.specs.Sorts.{sort_number}
use Rattle.sketch.proofs.Bools.{too_low, too_high, between}
use Rattle.sketch.proofs.Checked.{curves_start, curves_four, curves_five, curves_on, curves_end}
use Rattle.sketch.proofs.validity.curves_fault.Goals as goal
use Rattle.sketch.proofs.validity.curves_fault.Goals.{then-c-last-via-then-c-last, then-c-last-via-else-c-last+then-next-c, then-c-last-via-else-c-last+else-next-c+then-not-curve_sound}

pub loop-i-init : goal.loop-i-init
loop-i-init c = (curves_start _ _ _ _ _, refl)

pub returns-then-not-curve_ok : goal.returns-then-not-curve_ok
returns-then-not-curve_ok c =
    let w = c.loop-i.invariant.0 in
    curves_four w (omega arith) (sym c.curve_ok.ensures ∙ c.if-not-curve_ok.true)

pub returns-then-c-last : goal.returns-then-c-last
returns-then-c-last c =
    curves_five c.loop-i.invariant.0 (omega arith) (sym c.curve_ok.ensures ∙ c.if-not-curve_ok.false)
    (elim c.then-c-last.branch [
      | then-c-last-via-then-c-last w ↦ too_low _ _ w.if-c-last.true
      | then-c-last-via-else-c-last+then-next-c w ↦ too_high _ _ w.if-next-c.true
      | then-c-last-via-else-c-last+else-next-c+then-not-curve_sound w ↦ between w.if-c-last.false w.if-next-c.false (sym w.curve_sound.ensures ∙ w.if-not-curve_sound.true)
    ])

pub loop-i-preserved : goal.loop-i-preserved
loop-i-preserved c =
    let w = c.loop-i.invariant in
    let ss = c.loop-i.sorts in
    let long = length-map ss sort_number in (
      rw map-set
          (curves_on w.0 (omega arith) (sym c.curve_ok.ensures ∙ c.if-not-curve_ok.false)
          (between c.if-c-last.false c.if-next-c.false (sym c.curve_sound.ensures ∙ c.if-not-curve_sound.false)) c.sort_of.ensures (omega arith) (omega (arith, long))),
      search rules,
    )

pub returns : goal.returns
returns c = curves_end c.loop-i.invariant.0 (omega arith)
