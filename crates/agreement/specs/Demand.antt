-- Promise 3 (docs/GUARANTEES.md), whole, over the desk's list and the wall's whole life: they agree with the reference machine, each line
-- and arc of a start has its chain, and each circle of a start its ring once it is cut. Definitions only.
use Rattle.std.specs.Prelude.{◌≡◌, List, ◌++◌, ℕ}
use Rattle.edit_plan.specs.declared.Removed.{Removed}
use Rattle.agreement.specs.Machines.{initial, Protocol, DeskStep, desk_after, WallEvent, session_at, session_state}
use Rattle.agreement.specs.Agreement.{desk_log, entries_between, Agreement}
use Rattle.agreement.specs.Families.{CurveView, FamiliesJoined}

module _ {D E : Type 0} (p : Protocol D E Removed) (v : CurveView D) (target : E → ℕ) where
  pub record Demand3 (start : D) (desk : List (DeskStep D E Removed)) (life : List (WallEvent D Removed)) : Type 0 where
    pub agreement : Agreement p start desk life
    -- at the desk, at its start and after each call, by the edits accepted so far
    pub desk_families :
        (before later : List (DeskStep D E Removed)) → desk ≡ before ++ later
        → FamiliesJoined v target start (desk_log p start before) (desk_after (initial start) before).drawing
    -- at the wall, at each start and after every delivery, from the drawing of its last start, by the edits after that start's count, up to its own
    pub wall_families :
        (before later : List (WallEvent D Removed)) → life ≡ before ++ later
        → let g = session_at start before in
        FamiliesJoined v target g.start.drawing (entries_between p start desk g.start.count (session_state g).count) (session_state g).drawing
