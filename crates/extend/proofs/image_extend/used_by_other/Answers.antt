use Rattle.std.proofs.Common.{sym, ap, ◌∙◌, rules, arith}
use Rattle.image.specs.Decode.{read_curve}
use Rattle.extend.proofs.Uses.{row_past, row_here, row_on}
use Rattle.extend.proofs.image_extend.used_by_other.Goals as goal
use Rattle.extend.proofs.image_extend.used_by_other.Goals.{else-id-read_curve_id-via-then-id-read_curve_id+else-record_uses, else-id-read_curve_id-via-else-id-read_curve_id}

pub returns-then-record_uses : goal.returns-then-record_uses
returns-then-record_uses c =
    row_here c.args.curves.now c.loop-i.invariant (omega arith) (ap read_curve c.curve_record-r.ensures) (λ z. c.if-id-read_curve_id.true (z ∙ sym c.read_curve_id.ensures)) c.record_uses.ensures c.if-record_uses.true

pub loop-i-preserved : goal.loop-i-preserved
loop-i-preserved c =
    elim c.else-id-read_curve_id.branch [
      | else-id-read_curve_id-via-then-id-read_curve_id+else-record_uses w ↦
          row_on c.args.curves.now c.loop-i.invariant (omega arith) (ap read_curve c.curve_record-r.ensures) (λ z. w.if-id-read_curve_id.true (z ∙ sym c.read_curve_id.ensures)) w.record_uses.ensures w.if-record_uses.false
      | else-id-read_curve_id-via-else-id-read_curve_id w ↦
          row_past c.args.curves.now c.loop-i.invariant (omega arith) (ap read_curve c.curve_record-r.ensures) (search rules ∙ c.read_curve_id.ensures)
    ]
