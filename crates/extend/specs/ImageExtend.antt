-- An edit of an image, written to a lent buffer, and the extend of a line of it. Definitions only.
use Rattle.std.specs.Prelude.{ℕ, ◌<◌, ◌≡◌, Bool, true, List, length, get_or, leb}
use Rattle.big_endian.specs.Fields.{over}
use Rattle.geom.specs.declared.Vec2.{Vec2}
use Rattle.sketch.specs.declared.Curve.{Curve}
use Rattle.sketch.specs.Drawing.{Drawing, limits}
use Rattle.sketch.specs.Blanks.{no_curve}
use Rattle.image.specs.Image.{drawing_of, image_fault, parse}
use Rattle.image.specs.Image as I
use Rattle.image.specs.Encode.{encode, drawing_size}
use Rattle.relations.specs.Met.{all_met}
use Rattle.edit_plan.specs.declared.Removed.{Removed}
use Rattle.edit_plan.specs.Outcome.{Outcome, refused, accepted, guard}
use Rattle.edit_plan.specs.Suited.{report_of}
use Rattle.extend.specs.Answers.{ImageAnswer}
use Rattle.extend.specs.Extend.{extend_curve}
use Rattle.extend.specs.ExtendAnswer.{apply_planned, reported_place}

-- ---- an outcome, written

-- 25, where the new image does not fit, after all else
abbrev pub if_fits : ℕ → Outcome Drawing Removed → Outcome Drawing Removed
if_fits room (refused n) = refused n
if_fits room (accepted d removed) = guard (leb (length (encode d)) room) 25 (accepted d removed)

abbrev pub number_in : Outcome Drawing Removed → ℕ
number_in (refused n) = n
number_in (accepted d removed) = 0

abbrev pub size_in : Outcome Drawing Removed → ℕ
size_in (refused n) = 0
size_in (accepted d removed) = length (encode d)

-- the new image at the buffer's front, the rest as it was; a refusal leaves all
abbrev pub buffer_with : Outcome Drawing Removed → List ℕ → List ℕ
buffer_with (refused n) before = before
buffer_with (accepted d removed) before = over before 0 (encode d)

-- the outcome's number, report and size, and every byte of the buffer
pub record OutcomeWritten (o : Outcome Drawing Removed) (before after : List ℕ) (r : ImageAnswer) : Type 0 where
  pub refusal : r.refusal ≡ number_in o
  pub removed : r.removed ≡ report_of o
  pub size : r.size ≡ size_in o
  pub bytes : after ≡ buffer_with o before

-- ---- an extend

-- the extend of the curve at place k, picked at p, with a test of relations at its end
abbrev pub extend_in : (Drawing → Bool) → Drawing → ℕ → Vec2 → Outcome Drawing Removed
extend_in met d k p =
    let c : Curve = get_or d.curves k no_curve in
    apply_planned met limits d c.id (extend_curve d p c c.kind)

-- the outcome, and the place that comes with its number
pub record ExtendWritten (d : Drawing) (k : ℕ) (p : Vec2) (before after : List ℕ) (r : ImageAnswer) : Type 0 where
  pub written : OutcomeWritten (if_fits (length before) (extend_in all_met d k p)) before after r
  -- a new image is as long as it says, and is read as the new drawing
  pub sound : (d' : Drawing) (removed : Removed) → extend_in all_met d k p ≡ accepted d' removed → (length (encode d') ≡ drawing_size d') × (parse (encode d') ≡ I.accepted d')
  pub place : r.place ≡ reported_place d (extend_in (λ d'. true) d k p) r.refusal

-- of a curve of a good image
abbrev pub ExtendsImage : List ℕ → ℕ → Vec2 → List ℕ → List ℕ → ImageAnswer → Type 0
ExtendsImage s k p before after r = image_fault s ≡ 0 → k < length (drawing_of s).curves → ExtendWritten (drawing_of s) k p before after r
