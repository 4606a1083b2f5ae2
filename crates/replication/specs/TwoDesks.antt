-- Two desks in one hall: each with its wall from one image with one mark, each wall hearing both desks. Definitions only.
use Rattle.std.specs.Prelude.{ℕ, ◌≡◌, ◌⊎◌}
use mathlib.Core.List.{List, [], ◌∷◌, map, Memᴰ}
use Rattle.big_endian.specs.Laws.{Bytes}
use Rattle.sketch.specs.Drawing.{Drawing}
use Rattle.image.specs.Image as I
use Rattle.message.specs.Stored.{Mark}
use Rattle.edit_plan.specs.declared.Removed.{Removed}
use Rattle.window.specs.Window.{empty_window}
use Rattle.agreement.specs.Machines.{DeskStep, messages, WallEvent}
use Rattle.replication.specs.Protocol.{Edit}
use Rattle.replication.specs.Transitions.{Memory, StartsWith, DeskCall, desk_step, DeskCalls, WallUse, starts, delivers, WallUses, StartsFromDesk, wall_event}
use Rattle.replication.specs.Replication.{ReplicationCorrect}

-- a desk and its wall: an image with its drawing and a mark, the memories at their starts, the desk's calls, the wall's life
pub record DeskAndWall : Type 0 where
  pub image : List ℕ
  pub start : Drawing
  pub mark : ℕ
  pub desk : Memory
  pub wall : Memory
  pub desk_calls : List DeskCall
  pub wall_uses : List WallUse

abbrev pub desk_steps : DeskAndWall → List (DeskStep Drawing Edit Removed)
desk_steps p = map desk_step p.desk_calls

abbrev pub wall_events : DeskAndWall → List (WallEvent Drawing Removed)
wall_events p = map wall_event p.wall_uses

-- both start from the image with the mark at count 0, the desk with an empty window; the wall's later starts are from what the desk had; each call is as its
-- contract has it
pub record StartedAlike (p : DeskAndWall) : Type 0 where
  pub image_bytes : Bytes p.image
  pub image_is : I.parse p.image ≡ I.accepted p.start
  pub mark_fits : Mark p.mark
  pub desk_starts : StartsWith p.image p.mark 0 p.desk
  pub wall_starts : StartsWith p.image p.mark 0 p.wall
  pub desk_called : DeskCalls p.desk empty_window p.desk_calls
  pub wall_used : WallUses p.wall p.wall_uses
  pub started_from : (t : Memory) → Memᴰ (starts t) p.wall_uses → StartsFromDesk p.desk p.desk_calls t

-- each delivery is one of the own desk's messages or one of another's, as written
abbrev pub Hears : List (List ℕ) → List (List ℕ) → List WallUse → Type 0
Hears own others [] = Unit {0}
Hears own others (starts t ∷ us) = Hears own others us
Hears own others (delivers c ∷ us) = (Memᴰ c.bytes own ⊎ Memᴰ c.bytes others) × Hears own others us

abbrev pub HearsBoth : DeskAndWall → DeskAndWall → Type 0
HearsBoth p q = Hears (messages (desk_steps p)) (messages (desk_steps q)) p.wall_uses

-- a wall agrees with its own desk
abbrev pub AgreesWithOwn : DeskAndWall → Type 0
AgreesWithOwn p = ReplicationCorrect p.mark p.start (desk_steps p) (wall_events p)
