use Rattle.std.proofs.Common.{◌≡◌, sym, ap, ◌∙◌, subst, ℕ, List}
use Rattle.std.proofs.lemmas.Result.{err_from_is_err_and}
use Rattle.refusal.specs.Refusals.{refusal_number}
use Rattle.rows.specs.Rows.{curve_table}
use Rattle.edit_plan.specs.Tables.{ok_position}
use Rattle.extend.specs.Answers.{answer_of}
use Rattle.modify.specs.ImageContracts.{EditsAt}
use Rattle.modify.proofs.ImageEdits.{both_tested, one_tested, fault_edit, pick_edit, curve_edit, found_edit}
use Rattle.modify.proofs.image_edits.edit_with.Goals as goal
use Rattle.modify.proofs.image_edits.edit_with.Goals.{then-coordinate_ok, else-coordinate_ok}

pub returns-in_err-image_fault : goal.returns-in_err-image_fault
returns-in_err-image_fault c =
    let a = c.args in
    let s = a.image.now in
    let p = err_from_is_err_and c.from_residual.result c.from_residual.ensures.1 in
    rw (p.1, p.2) (fault_edit a.operation s a.curve a.at a.out.now _ (sym (ap refusal_number c.in_err-image_fault.was) ∙ c.image_fault.ensures.number))

pub returns-then-not-coordinate_ok : goal.returns-then-not-coordinate_ok
returns-then-not-coordinate_ok c =
    let a = c.args in
    let s = a.image.now in
    let pick : ok_position a.at ≡ c.if-coordinate_ok.value =
    elim c.if-coordinate_ok.branch [
      | then-coordinate_ok w ↦ both_tested a.at c.coordinate_ok.ensures w.if-coordinate_ok.true w.coordinate_ok-then-coordinate_ok.ensures w.value-is
      | else-coordinate_ok w ↦ one_tested a.at c.coordinate_ok.ensures w.if-coordinate_ok.false w.value-is
    ] in
    pick_edit a.operation s a.curve a.at a.out.now (c.image_fault.ensures.number) (ap refusal_number c.in_ok-image_fault.was) pick c.if-not-coordinate_ok.true

pub returns-in_default : goal.returns-in_default
returns-in_default c =
    let a = c.args in
    let s = a.image.now in
    let pick : ok_position a.at ≡ c.if-coordinate_ok.value =
    elim c.if-coordinate_ok.branch [
      | then-coordinate_ok w ↦ both_tested a.at c.coordinate_ok.ensures w.if-coordinate_ok.true w.coordinate_ok-then-coordinate_ok.ensures w.value-is
      | else-coordinate_ok w ↦ one_tested a.at c.coordinate_ok.ensures w.if-coordinate_ok.false w.value-is
    ] in
    let t = c.new-tables in
    curve_edit a.operation s a.curve a.at a.out.now (c.image_fault.ensures.number) (ap refusal_number c.in_ok-image_fault.was) pick c.if-not-coordinate_ok.false (t.result.own_curves ∙ ap curve_table t.ensures.image_is) _ c.curve_place.ensures c.in_default.is

pub returns : goal.returns
returns c =
    let a = c.args in
    let s = a.image.now in
    let pick : ok_position a.at ≡ c.if-coordinate_ok.value =
    elim c.if-coordinate_ok.branch [
      | then-coordinate_ok w ↦ both_tested a.at c.coordinate_ok.ensures w.if-coordinate_ok.true w.coordinate_ok-then-coordinate_ok.ensures w.value-is
      | else-coordinate_ok w ↦ one_tested a.at c.coordinate_ok.ensures w.if-coordinate_ok.false w.value-is
    ] in
    let t = c.new-tables in
    let edited = subst (λ (x : List ℕ). EditsAt a.operation x c.in-Some.place a.at a.out.now c.edit_at.new.out (answer_of c.edit_at.result)) t.ensures.image_is c.edit_at.ensures in
    found_edit a.operation s a.curve a.at a.out.now (c.image_fault.ensures.number) (ap refusal_number c.in_ok-image_fault.was) pick c.if-not-coordinate_ok.false (t.result.own_curves ∙ ap curve_table t.ensures.image_is) _ c.curve_place.ensures c.in-Some.is edited
