use Rattle.bernstein.proofs.Levels.{refuses, renamed, room_short, room_enough}
use Rattle.bernstein.proofs.search.roots.Goals as goal

pub returns-then-found-lt-ROOM : goal.returns-then-found-lt-ROOM
returns-then-found-lt-ROOM c = refuses _ _ _ _ (room_short _ _ _ c.if-found-lt-ROOM.true)

pub returns : goal.returns
returns c = renamed _ _ _ _ _ (room_enough _ _ _ c.if-found-lt-ROOM.false) c.roots_in.ensures
