use Rattle.std.proofs.Common.{sym, ◌∙◌}
use Rattle.bernstein.proofs.OrderWalks.{put_first, swapped, kept, put_last}
use Rattle.bernstein.proofs.sort_dedup.insert_at.Goals as goal
use Rattle.bernstein.proofs.sort_dedup.insert_at.Goals.{then-before_in_order, else-before_in_order}

pub loop-i-init : goal.loop-i-init
loop-i-init c = put_first _ _ _ c.requires

pub loop-i-preserved : goal.loop-i-preserved
loop-i-preserved c =
    let p = c.loop-i.invariant in
    let h = c.loop-i-test.true in
    let b = c.before_in_order.ensures in
    elim c.if-before_in_order.branch [
      | then-before_in_order w ↦ swapped _ _ _ _ _ _ p h _ _ (sym b ∙ w.if-before_in_order.true) w.v-is w.y-is
      | else-before_in_order w ↦ kept _ _ _ _ _ _ p h _ _ (sym b ∙ w.if-before_in_order.false) w.v-is w.y-is
    ]

pub returns : goal.returns
returns c = put_last _ _ _ _ _ _ c.loop-i.invariant c.loop-i-test.false
