use Rattle.support.proofs.Answers.{met_refused, as_outcome}
use Rattle.support.proofs.PieceCases.{short_across, short_up, roomy}
use Rattle.support.proofs.search.hits_along.Goals as goal
use Rattle.support.proofs.search.hits_along.Goals.{then-hx-lt-ROOM-via-then-hx-lt-ROOM, then-hx-lt-ROOM-via-else-hx-lt-ROOM+then-hy-lt-ROOM}

pub returns-then-hx-lt-ROOM : goal.returns-then-hx-lt-ROOM
returns-then-hx-lt-ROOM c =
    elim c.then-hx-lt-ROOM.branch [
      | then-hx-lt-ROOM-via-then-hx-lt-ROOM w ↦ λ e. as_outcome (short_across _ _ _ _ w.if-hx-lt-ROOM.true) (met_refused _ _ _ _)
      | then-hx-lt-ROOM-via-else-hx-lt-ROOM+then-hy-lt-ROOM w ↦ λ e. as_outcome (short_up _ _ _ _ w.if-hx-lt-ROOM.false w.if-hy-lt-ROOM.true) (met_refused _ _ _ _)
    ]

pub returns : goal.returns
returns c = λ e. as_outcome (roomy _ _ _ _ c.if-hx-lt-ROOM.false c.if-hy-lt-ROOM.false) (c.shape_hits_along.ensures e)
