-- Demand 3 on real drawings, of starts with one mark: desk and wall agree with the reference machine over the wall's whole life, each line and arc of a start has its chain, and
-- each replica's drawing is the edits' definition folded over the image's drawing. Definitions only.
use Rattle.std.specs.Prelude.{◌≡◌, List, [], ◌∷◌, ◌++◌, map, ℕ, take}
use Rattle.sketch.specs.Drawing.{Drawing, limits}
use Rattle.edit_plan.specs.declared.Removed.{Removed}
use Rattle.edit_plan.specs.Outcome.{Outcome, accepted, ◌then◌}
use Rattle.modify.specs.Edits.{edit_of}
use Rattle.agreement.specs.Machines.{initial, Entry, DeskStep, desk_after, WallEvent, session_at, session_state}
use Rattle.agreement.specs.Agreement.{desk_log}
use Rattle.agreement.specs.Families.{reports}
use Rattle.agreement.specs.Demand.{Demand3}
use Rattle.chains.specs.CurveView.{curve_view}
use Rattle.replication.specs.Protocol.{Edit, protocol, target}

-- edits one after the other, by their definition, with what each reports
abbrev pub apply_edits : Drawing → List Edit → Outcome Drawing (List Removed)
apply_edits d [] = accepted d []
apply_edits d (e ∷ es) = edit_of e.operation limits d e.curve e.at then (λ d' r. apply_edits d' es then (λ d'' rs. accepted d'' (r ∷ rs)))

abbrev pub edits : List (Entry Drawing Edit Removed) → List Edit
edits l = map (λ x. x.edit) l

pub record ReplicationCorrect (mark : ℕ) (start : Drawing) (desk : List (DeskStep Drawing Edit Removed)) (life : List (WallEvent Drawing Removed)) : Type 0 where
  pub demand : Demand3 (protocol mark) curve_view target start desk life
  -- at its start and after each call the desk has the drawing of the edits accepted so far
  pub desk_drawing :
      (before later : List (DeskStep Drawing Edit Removed)) → desk ≡ before ++ later
      → apply_edits start (edits (desk_log (protocol mark) start before)) ≡ accepted (desk_after (initial start) before).drawing (reports (desk_log (protocol mark) start before))
  -- at each start and after each delivery the wall has the drawing of the first of the desk's accepted edits, as many as it counts
  pub wall_drawing :
      (before later : List (WallEvent Drawing Removed)) → life ≡ before ++ later
      → let t = session_state (session_at start before) in
      apply_edits start (edits (take t.count (desk_log (protocol mark) start desk))) ≡ accepted t.drawing (reports (take t.count (desk_log (protocol mark) start desk)))
