-- The curves of an image by their records: one by its place or its id, and whether one is freeform. Assumes nothing.
use mathlib.Core.Path.{◌≡◌, refl, sym, ap, subst, ◌∙◌}
use mathlib.Core.Bool.{Bool, true, false, not, ◌&&◌}
use mathlib.Core.List.{List, [], ◌∷◌}
use mathlib.Core.Option.{some, none}
use Prim.Native.Nat.{ℕ, suc, ◌+◌, ◌≤◌, ◌<◌}
use native.Mathlib.Numerals.{add-one}
use native.Mathlib.Omega.{arith}
use lib.Dec.{eqb}
use lib.ListN.{length, drop, get_or, drop_of_length-le}
use lib.Seq.{drop-cons}
use Rattle.geom.specs.declared.Vec2.{Vec2}
use Rattle.shape.specs.declared.Shape.{Shape}
use Rattle.shape.specs.Measures.{point}
use Rattle.sketch.specs.declared.Curve.{Curve}
use Rattle.sketch.specs.contracts.CurveKind as K
use Rattle.sketch.specs.Lists.{every}
use Rattle.sketch.specs.Blanks.{no_curve}
use Rattle.sketch.specs.Lookup.{FoundAt}
use Rattle.sketch.specs.Drawing.{curve_in}
use Rattle.sketch.specs.Valid.{sort_of}
use Rattle.sketch_geometry.specs.Geometry.{shape_of}
use Rattle.image.specs.Records.{curve_size}
use Rattle.image.specs.Image.{image_fault, drawing_of}
use Rattle.image.specs.Decode.{read_curve}
use Rattle.rows.specs.Rows.{curve_table, row_in, ids_in, curves_in}
use Rattle.rows.proofs.Holds.{held_curves, held_curve}
use Rattle.rows.proofs.Holds as H
use Rattle.std.specs.Prelude.{Option, Some, None}
use Rattle.cuts.specs.declared.Cut.{Cut}
use Rattle.cuts.proofs.Cutters.{table_curves, counted}
use Rattle.edit_plan.specs.declared.Pin.{Pin}
use Rattle.planning.specs.Planning.{PlanResult, no_freeform, trim_curve, split_curve}
use Rattle.planning.specs.ImagePlans.{PinIn, TrimIn, SplitIn}
use Rattle.planning.specs.ImageContracts.{PinnedPointIn, FreeformIn, TrimsIn, SplitsIn}
use Rattle.planning.proofs.TrimSplitPlans.{place_is}
use Rattle.sketch.specs.declared.CurveKind.{CurveKind}
use Rattle.sketch.specs.declared.CurveKind.TheVariants.{Line, Arc, Circle, Bezier, Conic}
use types.Run.{OneOf, miss}
use denote.Enum.Declared.{tag_of}

-- ---- one by its place, or by its id

module _ (s : List ℕ) {t : List ℕ} {n : ℕ} (q : t ≡ curve_table s) (m : n ≡ length (curves_in t)) (k : ℕ) where
  module _ (v : Curve) (h : v ≡ read_curve (row_in curve_size t k)) (l : k < n) where
    pub curve_is : image_fault s ≡ 0 → v ≡ get_or (drawing_of s).curves k no_curve
    curve_is e = let w = table_curves s e q in h ∙ held_curve w k (omega (arith, held_curves w, counted s e q m))

    pub trim_here : (p : Vec2) (r : PlanResult) → TrimsIn s v p r → TrimIn s k p r
    trim_here p r x = λ e g. x e ∙ ap (λ (c : Curve). trim_curve (drawing_of s) p c (shape_of (drawing_of s).points c.kind)) (curve_is e)

    pub split_here : (p : Vec2) (r : PlanResult) → SplitsIn s v p r → SplitIn s k p r
    split_here p r x = λ e g. x e ∙ ap (λ (c : Curve). split_curve (drawing_of s) p c (shape_of (drawing_of s).points c.kind)) (curve_is e)

  pub past_all : n ≤ k → image_fault s ≡ 0 → k < length (drawing_of s).curves → ⊥
  past_all l e g = omega (arith, counted s e q m)

-- one by its id, if there is one
module _ (s : List ℕ) {t : List ℕ} (q : t ≡ curve_table s) (id : ℕ) {o : Option ℕ} (f : FoundAt id (ids_in curve_size t) o) where
  pub curve_by_id : {k : ℕ} → o ≡ Some k → (v : Curve) → v ≡ read_curve (row_in curve_size t k) → image_fault s ≡ 0 → curve_in (drawing_of s).curves id ≡ some v
  curve_by_id {k} g v h e =
      let w = table_curves s e q in
      let P : Option ℕ → Type 0 = λ x. FoundAt id (ids_in curve_size t) x in
      let y = H.curve_found w id k (subst P g f) in
      y.1 ∙ ap some (sym (h ∙ held_curve w k (omega (arith, held_curves w, y.0))))

  pub no_curve_by_id : o ≡ None → image_fault s ≡ 0 → curve_in (drawing_of s).curves id ≡ none
  no_curve_by_id g e =
      let P : Option ℕ → Type 0 = λ x. FoundAt id (ids_in curve_size t) x in
      H.curve_not_found (table_curves s e q) id (subst P g f)

-- ---- a cut's place

pub place_in : (s : List ℕ) (sh : Shape) (k : Cut) {q : Vec2} {w : Pin} → q ≡ point sh k.t → PinIn s k.by q w → PinnedPointIn s sh k (record { at = q; pin = w })
place_in s sh k h f = λ e. place_is (drawing_of s) sh k h (f e)

-- ---- freeform curves

abbrev freeform : List ℕ
freeform = 3 ∷ 4 ∷ []

abbrev analytic : List ℕ
analytic = 0 ∷ 1 ∷ 2 ∷ []

pub is_freeform : (k : CurveKind) → OneOf freeform (tag_of K.the_type k) → true ≡ eqb (sort_of k) 3
unfolding sort_of
is_freeform (Line a b) h = absurd (miss freeform 0 tt h)
is_freeform (Arc c a b) h = absurd (miss freeform 1 tt h)
is_freeform (Circle c r) h = absurd (miss freeform 2 tt h)
is_freeform (Bezier n) h = refl
is_freeform (Conic a p b rho) h = refl

pub is_analytic : (k : CurveKind) → OneOf analytic (tag_of K.the_type k) → false ≡ eqb (sort_of k) 3
unfolding sort_of
is_analytic (Line a b) h = refl
is_analytic (Arc c a b) h = refl
is_analytic (Circle c r) h = refl
is_analytic (Bezier n) h = absurd (miss analytic 3 tt h)
is_analytic (Conic a p b rho) h = absurd (miss analytic 4 tt h)

abbrev plain : Curve → Bool
plain c = not (eqb (sort_of c.kind) 3)

-- none of the first i
abbrev pub PlainUpTo : List ℕ → ℕ → Type 0
PlainUpTo s i = image_fault s ≡ 0 → every plain (drawing_of s).curves ≡ every plain (drop i (drawing_of s).curves)

pub plain_start : (s : List ℕ) → PlainUpTo s 0
plain_start s = λ e. refl

module _ (s : List ℕ) {t : List ℕ} {n : ℕ} (q : t ≡ curve_table s) (m : n ≡ length (curves_in t)) (i : ℕ) (up : PlainUpTo s i) where
  module _ (v : Curve) (h : v ≡ read_curve (row_in curve_size t i)) (l : i < n) {b : Bool} (a : b ≡ eqb (sort_of v.kind) 3) where
    next : (e : image_fault s ≡ 0) → every plain (drawing_of s).curves ≡ (not b && every plain (drop (suc i) (drawing_of s).curves))
    next e =
        let cs = (drawing_of s).curves in
        let z : i < length cs = omega (arith, counted s e q m) in
        up e
        ∙ ap (every plain) (drop-cons cs i no_curve z)
        ∙ ap (λ (c : Curve). plain c && every plain (drop (suc i) cs)) (sym (curve_is s q m i v h l e))
        ∙ ap (λ (x : Bool). not x && every plain (drop (suc i) cs)) (sym a)

    pub freeform_here : b ≡ true → FreeformIn s true
    unfolding no_freeform
    freeform_here d = λ e. sym (next e ∙ ap (λ (x : Bool). not x && every plain (drop (suc i) (drawing_of s).curves)) d)

    pub plain_on : b ≡ false → PlainUpTo s (i + 1)
    plain_on d = λ e. next e ∙ ap (λ (x : Bool). not x && every plain (drop (suc i) (drawing_of s).curves)) d ∙ ap (λ (j : ℕ). every plain (drop j (drawing_of s).curves)) (sym (add-one i))

  pub plain_end : n ≤ i → FreeformIn s false
  unfolding no_freeform
  plain_end l = λ e. sym (up e ∙ ap (every plain) (drop_of_length-le (drawing_of s).curves {i = i} (omega (arith, counted s e q m))))
