-- What is answered of a sketch's relations.
use Rattle.std.specs.Prelude.{◌≡◌, ℕ, ◌+◌, true, false, List, ◌≢◌, Option, Some, None, Result, Ok, Err}
use Rattle.refusal.specs.declared.Refusal.{Refusal}
use Rattle.refusal.specs.Refusals.{number}
use Rattle.sketch.specs.Drawing.{view}
use Rattle.sketch.specs.Valid.{sketch_fault}
use Rattle.sketch.specs.declared.Sketch.{Sketch}
use Rattle.image.specs.Image.{image_fault, drawing_of}
use Rattle.relations.specs.Met.{all_met, first_unmet}
use Rattle.probe.specs.Probe.{altered}

-- a sketch that no image gives, by its number; else that all relations are met, or the place of the first that is not
pub data Verdict : Type 0 where
  Refused : ℕ → Verdict
  Met : Verdict
  Unmet : ℕ → Verdict

abbrev pub verdict_of : Result (Option ℕ) Refusal → Verdict
verdict_of (Err r) = Refused (number r)
verdict_of (Ok None) = Met
verdict_of (Ok (Some k)) = Unmet k

-- the number of a sketch that no image gives; of any other, that every relation is met, or the place of the first that is not
abbrev pub UnmetAnswer : Sketch → Verdict → Type 0
UnmetAnswer s (Refused n) = (n ≡ sketch_fault s) × (n ≢ 0)
UnmetAnswer s Met = (sketch_fault s ≡ 0) × (all_met (view s) ≡ true)
UnmetAnswer s (Unmet k) = (sketch_fault s ≡ 0) × (all_met (view s) ≡ false) × (k ≡ first_unmet (view s))

-- a verdict as one number: a refusal's, 0 where all relations are met, 256 and the place of the first that is not
unfoldable pub numbered : Verdict → ℕ
numbered (Refused n) = n
numbered Met = 0
numbered (Unmet k) = 256 + k

-- the image's refusal, or the verdict on a sketch that the image gives, altered
pub data RelationsTested (bytes : List ℕ) (next points curves relations : ℕ) (r : ℕ) : Type 0 where
  unread : (image_fault bytes ≢ 0) → r ≡ image_fault bytes → RelationsTested bytes next points curves relations r
  tested : (s : Sketch) (v : Verdict) → image_fault bytes ≡ 0 → view s ≡ drawing_of bytes → UnmetAnswer (altered s next points curves relations) v → r ≡ numbered v → RelationsTested bytes next points curves relations r
