-- The contracts of private functions, which nothing outside needs: what a run has come to after some numbers of its order.
use Rattle.std.specs.Prelude.{ℕ, ◌+◌, ◌*◌, ◌/◌, ◌≤◌, ◌≡◌, List, [], ◌∷◌, ◌++◌, map, length, take, drop}
use Rattle.sketch.specs.Drawing.{Drawing}
use Rattle.message.specs.Message.{message_size}
use Rattle.message.specs.Stored.{Mark}
use Rattle.window.specs.KeptMessages.{concat, Numbered, KeepsLast}
use Rattle.cuts.specs.Lists.{rows}
use Rattle.edit_plan.specs.declared.Removed.{Removed}
use Rattle.agreement.specs.Machines.{initial, Call, DeskStep, calls, desk_after, messages, DeskRun, WallEvent, WallLife, FromDesk, session_at, session_state}
use Rattle.replication.specs.Protocol.{Edit, protocol}
use Rattle.replication.specs.Transitions.{Memory, memory, state_in, Ready, WallCall, WallDelivers}
use Rattle.replication_runs.specs.declared.Run.{Run}
use Rattle.replication_runs.specs.RunBoth.{call_at, calls_in, call_size, max_room, made_after, WallInput, input_of, inputs_after}

-- the desk made some calls, by some steps: its messages stand one after the other at the front of the log, whose rest is as it was, and the last of them in its window
pub record DeskRan (mark : ℕ) (start : Drawing) (steps : List (DeskStep Drawing Edit Removed)) (cs : List (Call Edit)) (before log : List ℕ) (t : Memory) (kept : List ℕ) : Type 0 where
  pub run : DeskRun (protocol mark) (initial start) steps
  pub fed : calls steps ≡ cs
  pub ends : desk_after (initial start) steps ≡ state_in t
  pub mark_is : t.mark ≡ mark
  pub ready : Ready t
  pub logged : concat (messages steps) ≡ take (message_size * t.count) log
  pub rest : drop (message_size * t.count) log ≡ drop (message_size * t.count) before
  pub fits : message_size * t.count ≤ length log
  pub many : length (messages steps) ≡ t.count
  pub few : t.count ≤ length cs
  pub numbered : Numbered mark (messages steps)
  pub keeps : KeepsLast kept (messages steps)

-- the wall was given some inputs, from a desk that made some steps
pub record WallRan (mark : ℕ) (start : Drawing) (steps : List (DeskStep Drawing Edit Removed)) (inputs : List WallInput) (t : Memory) : Type 0 where
  pub life : List (WallEvent Drawing Removed)
  pub lived : WallLife (protocol mark) (initial start) life
  pub from : FromDesk (protocol mark) (initial start) steps life
  pub fed : map input_of life ≡ inputs
  pub ends : session_state (session_at start life) ≡ state_in t
  pub mark_is : t.mark ≡ mark
  pub ready : Ready t

-- the log has room for the messages of all calls, and for the largest room that one lends; no more messages than calls were made
pub record LogFits (entries : List ℕ) (r : Run) (log : List ℕ) : Type 0 where
  pub few : r.desk.count ≤ r.made
  pub within : r.made ≤ length entries / call_size
  pub room : message_size * (length entries / call_size) + max_room ≤ length log

-- a run came so far by some numbers: the desk made the calls and the wall was given the inputs that they name
pub record Ran (mark : ℕ) (start : Drawing) (entries others before order : List ℕ) (r : Run) (log desk wall : List ℕ) : Type 0 where
  pub mark_fits : Mark mark
  pub log_fits : LogFits entries r log
  pub made_is : r.made ≡ made_after (length (calls_in entries)) 0 order
  pub steps : List (DeskStep Drawing Edit Removed)
  pub of_desk : DeskRan mark start steps (rows r.made (call_at entries)) before log (memory r.desk desk) r.window.bytes
  pub of_wall : WallRan mark start steps (inputs_after mark start (calls_in entries) others 0 order) (memory r.wall wall)

-- a run goes on by one number more, by whatever numbers it ran before
abbrev pub RunsOn : ℕ → List ℕ → List ℕ → Run → List ℕ → List ℕ → List ℕ → Run → List ℕ → List ℕ → List ℕ → Type 0
RunsOn o entries others s log desk wall r log' desk' wall' =
    (mark : ℕ) (start : Drawing) (before order : List ℕ) → Ran mark start entries others before order s log desk wall → Ran mark start entries others before (order ++ (o ∷ [])) r log' desk' wall'

-- nothing is delivered to a wall, and it stays as it was, or one message or other bytes are
pub data WallGiven (s : Memory) : List (List ℕ) → Memory → Type 0 where
  nothing_given : WallGiven s [] s
  one_given : (c : WallCall) → WallDelivers s c → WallGiven s (c.bytes ∷ []) c.left
