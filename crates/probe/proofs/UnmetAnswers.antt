-- What is answered of a sketch's relations, one law for each way out. Assumes nothing.
use Rattle.std.proofs.Common.{◌≡◌, ℕ, ◌<◌, ◌≤◌, Bool, true, false, ltb, List, length, refl, ap, ◌∙◌, arith}
use Rattle.std.specs.Prelude.{Option, Some, None, Ok}
use borrow.Author.Tests.{ltb-true, ltb-false}
use Rattle.sketch.specs.Lists.{ite}
use Rattle.sketch.specs.Drawing.{Drawing, view}
use Rattle.sketch.specs.Valid.{sketch_fault}
use Rattle.sketch.specs.declared.Sketch.{Sketch}
use Rattle.sketch.proofs.Sketches.{sketch_valid}
use Rattle.image.specs.Image.{max_image_size, image_fault, drawing_of}
use Rattle.sketch_image.specs.SketchImage.{ImageWritten}
use Rattle.sketch_image.proofs.Written.{write_fault_lem}
use Rattle.relations.specs.Met.{met, first_unmet, below}
use Rattle.relations.proofs.Failing.{none_fails, some_fails, first_within}
use Rattle.probe.specs.Relations.{Refused, Met, Unmet, verdict_of, UnmetAnswer}

pub answered_refused : (s : Sketch) {before later : List ℕ} {n : ℕ} → ImageWritten s before later n → length before ≡ max_image_size → (n ≡ 0 → ⊥) → UnmetAnswer s (Refused n)
answered_refused s {before} w long z = (w.number ∙ write_fault_lem s (length before) long, z)

pub answered : (s : Sketch) → sketch_fault s ≡ 0 → (r : Option ℕ) → r ≡ below (length (view s).relations) (first_unmet (view s)) → UnmetAnswer s (verdict_of (Ok r))
answered s h r is = rw is (go (ltb (first_unmet (view s)) (length (view s).relations)) refl)
  where
    go : (b : Bool) → ltb (first_unmet (view s)) (length (view s).relations) ≡ b → UnmetAnswer s (verdict_of (Ok (ite b (Some (first_unmet (view s))) None)))
    go true q = (h, some_fails (met (view s).points (view s).curves) (view s).relations (ltb-true _ _ q), refl)
    go false q = (h, none_fails (met (view s).points (view s).curves) (view s).relations (ltb-false _ _ q))

-- of the image that gives the sketch again
pub answered_image :
    (s : Sketch) → sketch_fault s ≡ 0 → (image front : List ℕ) → image ≡ front → (image_fault front ≡ 0) × (drawing_of front ≡ view s) → (r : Option ℕ)
    → (image_fault image ≡ 0 → r ≡ below (length (drawing_of image).relations) (first_unmet (drawing_of image))) → UnmetAnswer s (verdict_of (Ok r))
answered_image s h image front e again r f =
    answered s h r (f (ap image_fault e ∙ again.0) ∙ ap (λ (d : Drawing). below (length d.relations) (first_unmet d)) (ap drawing_of e ∙ again.1))

-- a place is within the limit of relations
pub place_below : (s : Sketch) (k : ℕ) → UnmetAnswer s (Unmet k) → k ≤ 256
place_below s k t =
    let q = first_within (met (view s).points (view s).curves) (view s).relations in
    omega (arith, t.2, (sketch_valid s t.0).1.relations_fit)
