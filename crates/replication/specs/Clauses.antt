-- The contracts of private functions, which nothing outside needs: refusals before an edit's own, an old message, an edit applied.
use Rattle.std.specs.Prelude.{ℕ, ◌≡◌, List, length, take, Result, Ok, Err}
use Rattle.refusal.specs.declared.Refusal.{Refusal}
use Rattle.refusal.specs.Refusals.{number, Accepted}
use Rattle.image.specs.Image as I
use Rattle.message.specs.declared.Message.{Message}
use Rattle.message.specs.Message.{parse}
use Rattle.window.specs.declared.Window.{Window}
use Rattle.apply.specs.declared.Applied.{Applied}
use Rattle.extend.specs.Answers.{answer_of}
use Rattle.modify.specs.ImageEdits.{EditWritten}
use Rattle.replication.specs.declared.Replica.{Replica}
use Rattle.replication.specs.declared.DeskTransition.{DeskTransition}
use Rattle.replication.specs.declared.Delivered.TheVariants as D
use Rattle.replication.specs.declared.WallTransition.{WallTransition}
use Rattle.replication.specs.Protocol.{edit_in}
use Rattle.replication.specs.Transitions.{Memory, WallDelivers, wall_call}

-- a refusal leaves the replica, and the desk's leaves the window
abbrev pub desk_refusing : Replica → Window → Refusal → DeskTransition
desk_refusing s w x = record { replica = s; window = w; reply = Err x }

abbrev pub wall_refusing : Replica → Refusal → WallTransition
wall_refusing s x = record { replica = s; reply = Err x }

-- an old message, at an image
pub record OldAnswered (s : Replica) (image : List ℕ) (r : WallTransition) : Type 0 where
  pub when_refused : (I.image_fault image ≡ 0 → ⊥) → (x : Refusal) × (number x ≡ I.image_fault image) × (r ≡ wall_refusing s x)
  pub when_good : I.image_fault image ≡ 0 → r ≡ record { replica = record { size = length image; mark = s.mark; count = s.count }; reply = Ok D.Old }

-- the wall's answer to an edit made for a message
abbrev pub wall_answer : Replica → Message → Result Applied Refusal → WallTransition
wall_answer s x (Ok e) = record { replica = record { size = e.size; mark = s.mark; count = x.number }; reply = Ok (D.Applied e.removed) }
wall_answer s x (Err k) = wall_refusing s k

pub record MessageApplied (s : Replica) (x : Message) (before after : List ℕ) (r : WallTransition) : Type 0 where
  pub edited : Result Applied Refusal
  pub written : EditWritten x.operation (take s.size before) x.curve (edit_in x).at before after (answer_of edited)
  pub answer : r ≡ wall_answer s x edited

-- a message that bytes gave at the replica's mark
abbrev pub DeliversMessage : Memory → Message → List ℕ → WallTransition → Type 0
DeliversMessage m x buffer r = (bytes : List ℕ) → parse m.mark bytes ≡ Accepted x → WallDelivers m (wall_call bytes buffer r)
