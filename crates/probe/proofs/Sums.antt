-- Sums of many, and the ways out of a call that reads an image first.
use Rattle.std.proofs.Common.{◌≡◌, ℕ, ◌+◌, ◌*◌, ◌%◌, ◌^◌, ◌≤◌, true, false, List, ap, ◌∙◌, add-mul, one-mul, zero-mul, arith, eq-eqb, ne_eqb}
use Rattle.sketch.specs.Lists.{guard_number}
use Rattle.image.specs.Image.{image_fault}
use Rattle.message.specs.Message.{is_operation}
use Rattle.probe.specs.Edits.{of_image, repeated}

pub none_yet : (k : ℕ) → 0 ≡ repeated 0 k
none_yet k = rw (zero-mul k)

-- a sum in 32 bits takes one more
pub once_more : (i k : ℕ) {sum adds now : ℕ} → sum ≡ repeated i k → adds ≡ k → now ≡ (sum + adds) % 2 ^ 32 → now ≡ repeated (i + 1) k
once_more i k {sum} {adds} {now} e f g =
    let q : (i + 1) * k ≡ i * k + k = add-mul i 1 k ∙ ap (λ (n : ℕ). i * k + n) (one-mul k) in
    g ∙ rw (e, f, q) (wraps (i * k) k)
  where
    wraps : (a b : ℕ) → (a % 4294967296 + b) % 4294967296 ≡ (a + b) % 4294967296
    wraps a b = omega arith

pub all_done : (i times k : ℕ) {sum : ℕ} → i ≤ times → times ≤ i → sum ≡ repeated i k → sum ≡ repeated times k
all_done i times k h g e = let q : i ≡ times = omega arith in e ∙ ap (λ (n : ℕ). repeated n k) q

-- ---- the image's refusal, the operation's, the sum

module _ (s : List ℕ) where
  pub image_refused : (k : ℕ) {r : ℕ} → r ≡ image_fault s → (r ≡ 0 → ⊥) → r ≡ of_image s k
  unfolding guard_number
  image_refused k e n = e ∙ rw (ne_eqb (image_fault s) 0 (λ z. n (e ∙ z)))

  pub image_passed : (k : ℕ) {r : ℕ} → image_fault s ≡ 0 → r ≡ k → r ≡ of_image s k
  unfolding guard_number
  image_passed k i e = e ∙ rw (eq-eqb (image_fault s) 0 i)

  pub operation_refused : (op k : ℕ) → image_fault s ≡ 0 → is_operation op ≡ false → 6 ≡ of_image s (guard_number (is_operation op) 6 k)
  unfolding guard_number
  operation_refused op k i o = image_passed (guard_number (is_operation op) 6 k) i (rw o)

  pub operation_passed : (op k : ℕ) {r : ℕ} → image_fault s ≡ 0 → is_operation op ≡ true → r ≡ k → r ≡ of_image s (guard_number (is_operation op) 6 k)
  unfolding guard_number
  operation_passed op k i o e = image_passed (guard_number (is_operation op) 6 k) i (rw o e)
