-- The contracts of an image edit's private functions, which nothing outside needs: once the tests that all edits begin with are passed.
use Rattle.std.specs.Prelude.{ℕ, ◌<◌, ◌≤◌, ◌≡◌, true, List, length, take}
use Rattle.big_endian.specs.Fields.{over_if_fits}
use Rattle.geom.specs.declared.Vec2.{Vec2}
use Rattle.sketch.specs.Drawing.{Drawing, limits}
use Rattle.image.specs.Image as I
use Rattle.image.specs.Encode.{encode, drawing_size}
use Rattle.message.specs.declared.Operation.{Operation}
use Rattle.relations.specs.Met.{all_met}
use Rattle.edit_plan.specs.declared.Plan.{Plan}
use Rattle.edit_plan.specs.declared.Removed.{Removed}
use Rattle.edit_plan.specs.Outcome.{accepted}
use Rattle.edit_plan.specs.Tables.{ok_position}
use Rattle.edit_plan.specs.ApplyPlan.{apply_plan}
use Rattle.edit_plan.specs.Suited.{Suited}
use Rattle.apply.specs.Applied.{target_in}
use Rattle.refusal.specs.Refusals.{Accepted}
use Rattle.planning.specs.Planning.{PlanResult}
use Rattle.extend.specs.Answers.{ImageAnswer, refused_at}
use Rattle.extend.specs.ExtendAnswer.{apply_planned}
use Rattle.extend.specs.ImageExtend.{if_fits, OutcomeWritten}
use Rattle.modify.specs.ImageEdits.{EditWritten}

-- a plan applied: the outcome, without a place, and a new image is read as the new drawing
pub record PlanEdited (d : Drawing) (k : ℕ) (planned : PlanResult) (before after : List ℕ) (r : ImageAnswer) : Type 0 where
  pub written : OutcomeWritten (if_fits (length before) (apply_planned all_met limits d (target_in d k).id planned)) before after r
  pub sound : (d' : Drawing) (removed : Removed) → apply_planned all_met limits d (target_in d k).id planned ≡ accepted d' removed → (length (encode d') ≡ drawing_size d') × (I.parse (encode d') ≡ I.accepted d')
  pub no_place : r.place ≡ 0

-- of the curve at place k of a good image, a plan that suits it
abbrev pub AppliesPlanned : List ℕ → ℕ → PlanResult → List ℕ → List ℕ → ImageAnswer → Type 0
AppliesPlanned s k planned before after r =
    I.image_fault s ≡ 0 → k < length (I.drawing_of s).curves → ((plan : Plan) → planned ≡ Accepted plan → Suited (I.drawing_of s) (target_in (I.drawing_of s) k) plan)
    → PlanEdited (I.drawing_of s) k planned before after r

-- an edit of the curve at place k of a good image, picked within bounds
abbrev pub EditsAt : Operation → List ℕ → ℕ → Vec2 → List ℕ → List ℕ → ImageAnswer → Type 0
EditsAt op s k p before after r =
    I.image_fault s ≡ 0 → ok_position p ≡ true → k < length (I.drawing_of s).curves → EditWritten op s (target_in (I.drawing_of s) k).id p before after r

-- ---- an edit in place

-- an edit's answer, and its new image at the front of `out`, taken over to a buffer's front: a refusal leaves the buffer, as does one that is too short (25)
pub record FrontReplaced (e : ImageAnswer) (out before after : List ℕ) (r : ImageAnswer) : Type 0 where
  pub when_refused : (e.refusal ≡ 0 → ⊥) → (r ≡ e) × (after ≡ before)
  pub when_short : e.refusal ≡ 0 → length before < e.size → (r ≡ refused_at 25 0) × (after ≡ before)
  pub when_put : e.refusal ≡ 0 → e.size ≤ length before → (r ≡ e) × (after ≡ over_if_fits before 0 (take e.size out))

-- an edit of an image written to some room first, and taken over from there
pub record EditedThrough (op : Operation) (s : List ℕ) (t : ℕ) (p : Vec2) (room : ℕ) (before after : List ℕ) (r : ImageAnswer) : Type 0 where
  pub out : List ℕ
  pub out' : List ℕ
  pub edited : ImageAnswer
  pub room_is : length out ≡ room
  pub written : EditWritten op s t p out out' edited
  pub replaced : FrontReplaced edited out' before after r
