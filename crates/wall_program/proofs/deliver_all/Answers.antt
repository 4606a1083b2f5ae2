-- `wall_program::deliver_all` meets its contract. The invariant: what is left to deliver leads to what all leads to.
use Rattle.std.proofs.Common.{length, min, refl, ap, ◌∙◌}
use Rattle.std.specs.Slice.Iter.{chunks_rest}
use Rattle.replication.specs.Transitions.{memory}
use Rattle.wall_program.proofs.Program.{delivers_more}
use Rattle.wall_program.proofs.deliver_all.Goals as goal

pub loop-message-preserved : goal.loop-message-preserved
loop-message-preserved c =
    let l = c.loop-message in
    let (size, cut) = c.in-Some.ensures.steps in
    (size ∙ l.invariant.0, delivers_more _ _ (memory l.last l.buffer) _ _ _ l.invariant.1 cut.0 (cut.1 ∙ ap (λ n. min n (length (chunks_rest l.message-iterator))) l.invariant.0) cut.2 _ refl c.wall_deliver.ensures)
