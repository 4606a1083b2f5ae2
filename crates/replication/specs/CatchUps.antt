-- A wall that is delivered just what a catch-up wrote. Definitions only.
use Rattle.std.specs.Prelude.{ℕ, zero, suc, ◌-◌, ◌≡◌, List, [], ◌∷◌, map, take, drop}
use Rattle.message.specs.Message.{message_size}
use Rattle.window.specs.Window.{empty_window, CatchesUp}
use Rattle.replication.specs.Transitions.{Memory, state_in, DeskCall, memory_left, window_left, WallCall, WallCalls}

-- the first n messages of a buffer in which they stand one after the other
abbrev pub messages_in : ℕ → List ℕ → List (List ℕ)
messages_in zero b = []
messages_in (suc n) b = take message_size b ∷ messages_in n (drop message_size b)

-- the memory that some deliveries left
abbrev pub calls_left : Memory → List WallCall → Memory
calls_left m [] = m
calls_left m (c ∷ cs) = calls_left c.left cs

-- the desk, whose first memory is d, made some calls; a catch-up for the count of a wall's memory m was accepted, and wrote to a buffer; the wall was delivered the
-- messages that stand there then, each once and in order
pub record DeliversDue (d : Memory) (calls : List DeskCall) (m : Memory) (before buffer : List ℕ) (cs : List WallCall) : Type 0 where
  pub caught_up : CatchesUp d.mark (window_left empty_window calls) (memory_left d calls).count m.count before buffer 0
  pub called : WallCalls m cs
  pub due : map (λ (c : WallCall). c.bytes) cs ≡ messages_in ((memory_left d calls).count - m.count) buffer

-- then it has the desk's drawing and count
abbrev pub LevelWithDesk : Memory → List DeskCall → Memory → List WallCall → Type 0
LevelWithDesk d calls m cs = state_in (calls_left m cs) ≡ state_in (memory_left d calls)
