use Rattle.std.proofs.Common.{refl, ap, ◌∙◌, arith}
use Rattle.sketch.specs.Valid.{ok_measure}
use Rattle.image.proofs.RelationChecks.{bare, measured, measured_6, relation_is, no_relation}
use Rattle.image.proofs.checks.relation_good.Goals as goal
use Rattle.image.proofs.checks.relation_good.Goals.{in-7-1, in-5-1, in_default+else-this-lt1+then-this-lt5, in_default+else-this-lt1+else-this-lt5+then-this-lt10}

pub returns-in-1 : goal.returns-in-1
returns-in-1 c =
    elim c.in-1-1.branch [
      | in-7-1 w ↦ relation_is _ c.get1.ensures (bare _ c.get8-value.ensures c.get1.result (omega arith) (omega arith) (omega arith) (omega arith) (omega arith) (omega arith)) refl
      | in_default+else-this-lt1+then-this-lt5 w ↦
          relation_is _ c.get1.ensures (bare _ c.get8-value.ensures c.get1.result (omega arith) (omega arith) (omega arith) (omega arith) (omega arith) (omega arith)) refl
    ]

pub returns-in_default : goal.returns-in_default
returns-in_default c = no_relation _ c.get1.ensures (omega arith) (omega arith) (omega arith) (omega arith) (omega arith) (omega arith) (omega arith) (omega arith) (omega arith)

pub returns-in_default-2 : goal.returns-in_default-2
returns-in_default-2 c = no_relation _ c.get1.ensures (omega arith) (omega arith) (omega arith) (omega arith) (omega arith) (omega arith) (omega arith) (omega arith) (omega arith)

pub returns-in-5 : goal.returns-in-5
returns-in-5 c =
    let m = c.measure_ok-in-5.ensures ∙ ap ok_measure c.float_at-in-5.ensures in
    elim c.in-5-1.branch [
      | in-5-1 w ↦ relation_is _ c.get1.ensures (measured _ m c.get4-second.ensures c.get1.result (omega arith) (omega arith) (omega arith) (omega arith)) refl
      | in_default+else-this-lt1+else-this-lt5+then-this-lt10 w ↦
          relation_is _ c.get1.ensures (measured _ m c.get4-second.ensures c.get1.result (omega arith) (omega arith) (omega arith) (omega arith)) refl
    ]

pub returns-in-6 : goal.returns-in-6
returns-in-6 c = relation_is _ c.get1.ensures (measured_6 _ (c.measure_ok.ensures ∙ ap ok_measure c.float_at.ensures)) c.in-6.is
