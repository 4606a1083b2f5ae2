-- Points that the curves of a table use, all but one. Assumes nothing.
use mathlib.Core.Path.{◌≡◌, refl, sym, ap, ◌∙◌}
use mathlib.Core.Bool.{Bool, true, false, ◌||◌}
use mathlib.Core.List.{List}
use Prim.Native.Nat.{ℕ, ◌+◌, ◌≤◌, ◌<◌}
use lib.ListN.{length, drop, get_or, drop_of_length-le}
use Rattle.sketch.specs.declared.Curve.{Curve}
use Rattle.sketch.specs.Lookup.{among}
use Rattle.sketch.specs.Drawing.{uses_of}
use Rattle.sketch.specs.Blanks.{no_curve}
use Rattle.image.specs.Records.{curve_size}
use Rattle.image.specs.Decode.{read_curve}
use Rattle.rows.specs.Rows.{row_in, curves_in}
use Rattle.edit_plan.specs.Tables.{uses, others}
use Rattle.edit_plan.proofs.Leaves.{among_append}
use Rattle.hit_search.proofs.OtherCurves.{others_past, others_on, curve_row}

-- what is used is used from place i on
pub record UsedFrom (cs : List Curve) (id p i : ℕ) : Type 0 where
  pub same : among p (uses (others id cs)) ≡ among p (uses (others id (drop i cs)))

module _ {cs : List Curve} {id p i : ℕ} (w : UsedFrom cs id p i) where
  pub used_end : length cs ≤ i → false ≡ among p (uses (others id cs))
  used_end h = sym (w.same ∙ ap (λ l. among p (uses (others id l))) (drop_of_length-le cs h))

  module _ (h : i < length cs) where
    abbrev rest : List ℕ
    rest = uses (others id (drop (i + 1) cs))

    pub used_past : id ≡ (get_or cs i no_curve).id → UsedFrom cs id p (i + 1)
    used_past e = record { same = w.same ∙ ap (λ l. among p (uses l)) (others_past cs i h id e) }

    module _ (e : id ≡ (get_or cs i no_curve).id → ⊥) {b : Bool} (f : b ≡ among p (uses_of (get_or cs i no_curve).kind (get_or cs i no_curve).slots)) where
      more : among p (uses (others id cs)) ≡ (b || among p rest)
      more =
          w.same ∙ ap (λ l. among p (uses l)) (others_on cs i h id e)
          ∙ among_append p (uses_of (get_or cs i no_curve).kind (get_or cs i no_curve).slots) rest
          ∙ ap (λ t. t || among p rest) (sym f)

      pub used_here : b ≡ true → true ≡ among p (uses (others id cs))
      used_here t = sym (more ∙ ap (λ x. x || among p rest) t)

      pub used_on : b ≡ false → UsedFrom cs id p (i + 1)
      used_on t = record { same = more ∙ ap (λ x. x || among p rest) t }

-- ---- the curves of an image's table, whatever its bytes

module _ (curves : List ℕ) {id p i : ℕ} (w : UsedFrom (curves_in curves) id p i) (h : i < length (curves_in curves)) {c : Curve} (r : c ≡ read_curve (row_in curve_size curves i)) where
  is : c ≡ get_or (curves_in curves) i no_curve
  is = r ∙ curve_row curves i h

  pub row_past : id ≡ c.id → UsedFrom (curves_in curves) id p (i + 1)
  row_past e = used_past w h (e ∙ ap (λ (x : Curve). x.id) is)

  module _ (e : id ≡ c.id → ⊥) {b : Bool} (f : b ≡ among p (uses_of c.kind c.slots)) where
    other : id ≡ (get_or (curves_in curves) i no_curve).id → ⊥
    other q = e (q ∙ sym (ap (λ (x : Curve). x.id) is))

    its_uses : b ≡ among p (uses_of (get_or (curves_in curves) i no_curve).kind (get_or (curves_in curves) i no_curve).slots)
    its_uses = f ∙ ap (λ (x : Curve). among p (uses_of x.kind x.slots)) is

    pub row_here : b ≡ true → true ≡ among p (uses (others id (curves_in curves)))
    row_here t = used_here w h other its_uses t

    pub row_on : b ≡ false → UsedFrom (curves_in curves) id p (i + 1)
    row_on t = used_on w h other its_uses t
