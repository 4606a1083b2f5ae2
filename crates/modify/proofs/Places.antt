-- The place that comes with an edit's 13 and 19 is that of a relation which is not met there, all before it being met (`place_before`, `place_after`), and it is
-- never above the limit of relations (`place_within`). Assumes nothing.
use mathlib.Core.Path.{◌≡◌, refl, sym, ◌∙◌, subst}
use mathlib.Core.Bool.{Bool, true, false}
use mathlib.Core.List.{List}
use Prim.Native.Nat.{ℕ, zero, suc, ◌≤◌, ◌<◌}
use native.Mathlib.Omega.{arith}
use lib.ListN.{length}
use lib.Dec.{eqb}
use borrow.Author.Tests.{ne_eqb}
use Rattle.big_endian.specs.Laws.{Bytes}
use Rattle.geom.specs.declared.Vec2.{Vec2}
use Rattle.sketch.specs.Lists.{ite}
use Rattle.sketch.specs.Drawing.{Drawing, limits}
use Rattle.sketch.specs.Facts.{Valid}
use Rattle.image.specs.Image as I
use Rattle.message.specs.declared.Operation.{Operation}
use Rattle.message.specs.declared.Operation.TheVariants.{Trim, Split, Extend}
use Rattle.relations.specs.Met.{met, all_met, first_unmet}
use Rattle.relations.proofs.Failing.{unmet_at, first_within, first_unmet_fails, first_unmet_first}
use Rattle.edit_plan.specs.declared.Removed.{Removed}
use Rattle.edit_plan.specs.Outcome.{Outcome, refused, accepted, guard}
use Rattle.edit_plan.specs.Steps.{nothing}
use Rattle.extend.specs.Answers.{ImageAnswer}
use Rattle.extend.specs.ExtendAnswer.{first_unmet_in, reported_place}
use Rattle.extend.specs.ImageExtend.{if_fits, number_in}
use Rattle.extend.proofs.Places as P
use Rattle.extend.proofs.ImageMoves.{image_valid}
use Rattle.modify.specs.Edits.{edit_of, edit_untested, edit_place}
use Rattle.modify.specs.ImageEdits.{EditWritten}
use Rattle.modify.proofs.ImageFaults.{image_fault_low}
use Rattle.modify.proofs.Planned.{edit_valid}
use Rattle.modify.proofs.Numbered.{cut_number, extend_refused_lem}

-- the relation at a place is not met, and those before it are
pub record FirstUnmetAt (d : Drawing) (place : ℕ) : Type 0 where
  pub fails : unmet_at d place ≡ true
  pub first : (k : ℕ) → k < place → unmet_at d k ≡ false

first_at : (d : Drawing) (place : ℕ) → all_met d ≡ false → place ≡ first_unmet d → FirstUnmetAt d place
first_at d place h e = subst (FirstUnmetAt d) (sym e) (record { fails = first_unmet_fails d h; first = first_unmet_first d })

module _ (d : Drawing) (t : ℕ) (p : Vec2) where
  unmet_before_lem : (op : Operation) → edit_of op limits d t p ≡ refused 13 → all_met d ≡ false
  unmet_before_lem Trim q = absurd ((cut_number d t p Trim (λ e. let z : ◌≡◌ {A = ℕ} 0 1 = cc in omega arith) 13 q).1.not_13 refl)
  unmet_before_lem Split q = absurd ((cut_number d t p Split (λ e. let z : ◌≡◌ {A = ℕ} 0 1 = cc in omega arith) 13 q).1.not_13 refl)
  unmet_before_lem Extend q = (extend_refused_lem d t p 13 q).unmet_before_lem refl

  unmet_after_lem : (op : Operation) → edit_of op limits d t p ≡ refused 19 → (d' : Drawing) × (edit_untested op limits d t p ≡ accepted d' nothing) × (all_met d' ≡ false)
  unmet_after_lem Trim q = absurd ((cut_number d t p Trim (λ e. let z : ◌≡◌ {A = ℕ} 0 1 = cc in omega arith) 19 q).1.not_19 refl)
  unmet_after_lem Split q = absurd ((cut_number d t p Split (λ e. let z : ◌≡◌ {A = ℕ} 0 1 = cc in omega arith) 19 q).1.not_19 refl)
  unmet_after_lem Extend q = (extend_refused_lem d t p 19 q).unmet_after_lem refl

module _ (op : Operation) (d : Drawing) (t : ℕ) (p : Vec2) where
  -- 13: in the drawing as it stands
  pub place_before : edit_of op limits d t p ≡ refused 13 → FirstUnmetAt d (edit_place op d t p 13)
  place_before q = first_at d _ (unmet_before_lem d t p op q) (P.place_13 d _)

  -- 19: in the drawing that the edit would have left, which there is
  pub place_after : edit_of op limits d t p ≡ refused 19 → (d' : Drawing) × (edit_untested op limits d t p ≡ accepted d' nothing) × FirstUnmetAt d' (edit_place op d t p 19)
  place_after q =
      let (d', left, fails) = unmet_after_lem d t p op q in
      (d', left, first_at d' _ fails (P.place_after d _ d' nothing left))

  within : (x : Drawing) → Valid limits x → first_unmet x ≤ limits.relations
  within x v = omega (arith, first_within (met x.points x.curves) x.relations, v.relations_fit)

  pub place_within : Valid limits d → (n : ℕ) → edit_place op d t p n ≤ limits.relations
  unfolding reported_place first_unmet_in
  place_within v n = go (eqb n 13) (eqb n 19)
    where
      left : (o : Outcome Drawing Removed) → edit_untested op limits d t p ≡ o → first_unmet_in o ≤ limits.relations
      left (refused k) e = omega arith
      left (accepted d' r) e = within d' (edit_valid (λ x. true) op limits d t p d' r v e)

      go : (a b : Bool) → ite a (first_unmet d) (ite b (first_unmet_in (edit_untested op limits d t p)) 0) ≤ limits.relations
      go true b = within d v
      go false true = left (edit_untested op limits d t p) refl
      go false false = omega arith

-- of an edit of any bytes: the refusal of an image that is none comes with no place
pub image_place_within :
    (op : Operation) (s : List ℕ) (t : ℕ) (p : Vec2) {before after : List ℕ} {r : ImageAnswer} → EditWritten op s t p before after r → Bytes s → r.place ≤ limits.relations
unfolding guard
image_place_within op s t p {before} {after} {r} w b = go (I.image_fault s) refl (image_fault_low s) w.written.refusal
  where
    go : (k : ℕ) → I.image_fault s ≡ k → k ≤ 5 → r.refusal ≡ number_in (if_fits (length before) (guard (eqb k 0) k (edit_of op limits (I.drawing_of s) t p))) → r.place ≤ limits.relations
    go zero e low is = omega (arith, w.place, place_within op (I.drawing_of s) t p (image_valid s e b) r.refusal)
    go (suc k) e low is =
        let number : r.refusal ≡ suc k = is ∙ rw (ne_eqb (suc k) 0 (λ z. omega arith)) in
        let none = P.place_none (I.drawing_of s) (edit_untested op limits (I.drawing_of s) t p) (P.placeless_below {n = r.refusal} (omega (arith, number))) in
        omega (arith, w.place, none)
