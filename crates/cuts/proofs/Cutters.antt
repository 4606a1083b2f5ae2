-- The curves that may cut, one after the other, from an image's records. Assumes nothing.
use mathlib.Core.Path.{◌≡◌, refl, sym, ap, ap₂, ◌∙◌}
use mathlib.Core.Bool.{Bool, true, false, not}
use mathlib.Core.List.{List, [], ◌∷◌, ◌++◌, append-nil}
use mathlib.Core.Option.{Option, some, none}
use Prim.Native.Nat.{ℕ, ◌+◌, ◌≤◌, ◌<◌}
use native.Mathlib.Numerals.{add-one}
use native.Mathlib.Omega.{arith}
use lib.Dec.{eqb}
use lib.Ieee.{Float}
use lib.ListN.{length, take, get_or, length-map}
use lib.Seq.{take-suc, take_all}
use borrow.Author.Tests.{eq-eqb, ne_eqb}
use Rattle.shape.specs.declared.Shape.{Shape}
use Rattle.sketch.specs.declared.Point.{Point}
use Rattle.sketch.specs.declared.Curve.{Curve}
use Rattle.sketch.specs.declared.CurveKind.{CurveKind}
use Rattle.sketch.specs.Lists.{ite}
use Rattle.sketch.specs.Blanks.{no_curve}
use Rattle.sketch_geometry.specs.Geometry.{shape_of}
use Rattle.sketch_geometry.specs.Positions.{shape_found, ShapeFrom}
use Rattle.std.specs.Prelude.{Some, None}
use Rattle.std.specs.Prelude.{Option as Answer}
use Rattle.edit_plan.specs.Tables.{others}
use Rattle.image.specs.Records.{curve_size, curve_of}
use Rattle.image.specs.Image.{point_count, curve_count, curves_from, curve_rows, drawing_of, image_fault}
use Rattle.image.specs.Decode.{read_curve}
use Rattle.image.proofs.Tables.{length_rows}
use Rattle.image.proofs.RoundTrips.{image_kept}
use Rattle.rows.specs.Rows.{point_table, curve_table, row_in, curves_in, HoldsPoints, HoldsCurves}
use Rattle.rows.proofs.Holds.{holds_points, holds_curves, held_curves, held_curve}
use Rattle.cuts.specs.declared.Cut.{Cut}
use Rattle.cuts.specs.Cuts.{cuts_by, cuts_among, cut_points, cutter_of, cutters_of}
use Rattle.cuts.specs.Bracket.{bracket}
use Rattle.cuts.specs.ImageContracts.{first_cuts, CutsOfFirst}
use Rattle.cuts.proofs.Among.{among_append}

-- ---- lists

pub others_append : (id : ℕ) (xs ys : List Curve) → others id (xs ++ ys) ≡ others id xs ++ others id ys
others_append id [] ys = refl
others_append id (x ∷ xs) ys = go (not (eqb id x.id)) (others_append id xs ys)
  where
    go : (b : Bool) → others id (xs ++ ys) ≡ others id xs ++ others id ys → ite b (x ∷ others id (xs ++ ys)) (others id (xs ++ ys)) ≡ ite b (x ∷ others id xs) (others id xs) ++ others id ys
    go true h = ap (λ t. x ∷ t) h
    go false h = h

append_assoc' : {A : Type 0} (xs ys zs : List A) → (xs ++ ys) ++ zs ≡ xs ++ (ys ++ zs)
append_assoc' [] ys zs = refl
append_assoc' (x ∷ xs) ys zs = ap (λ t. x ∷ t) (append_assoc' xs ys zs)

shapes_append : (ps : List Point) (xs ys : List Curve) → cutters_of ps (xs ++ ys) ≡ cutters_of ps xs ++ cutters_of ps ys
shapes_append ps [] ys = refl
shapes_append ps (x ∷ xs) ys = ap (λ t. cutter_of x (shape_of ps x.kind) ++ t) (shapes_append ps xs ys) ∙ sym (append_assoc' (cutter_of x (shape_of ps x.kind)) (cutters_of ps xs) (cutters_of ps ys))

-- the shape that a curve was found to have
pub answered_none : {r : Answer Shape} {x : Option Shape} → r ≡ None → shape_found r ≡ x → none ≡ x
answered_none e h = sym (ap shape_found e) ∙ h

pub answered_some : {r : Answer Shape} {x : Option Shape} {sh : Shape} → r ≡ Some sh → shape_found r ≡ x → some sh ≡ x
answered_some e h = sym (ap shape_found e) ∙ h

-- ---- one curve more: the target and a freeform curve do not cut

module _ (ps : List Point) (cs : List Curve) (id i : ℕ) (h : i < length cs) where
  abbrev c : Curve
  c = get_or cs i no_curve

  pub cutters_next : cutters_of ps (others id (take (i + 1) cs)) ≡ cutters_of ps (others id (take i cs)) ++ cutters_of ps (others id (c ∷ []))
  cutters_next =
      let next : take (i + 1) cs ≡ take i cs ++ (c ∷ []) = rw add-one (take-suc cs i no_curve h) in
      ap (λ l. cutters_of ps (others id l)) next ∙ ap (cutters_of ps) (others_append id (take i cs) (c ∷ [])) ∙ shapes_append ps (others id (take i cs)) (others id (c ∷ []))

  none_of : (b : Bool) → none ≡ shape_of ps c.kind → cutters_of ps (ite b (c ∷ []) []) ≡ []
  unfolding cutter_of
  none_of true e = rw (← e)
  none_of false e = refl

  pub target_no_cutter : c.id ≡ id → cutters_of ps (others id (take (i + 1) cs)) ≡ cutters_of ps (others id (take i cs))
  target_no_cutter q = cutters_next ∙ ap (λ b. cutters_of ps (others id (take i cs)) ++ cutters_of ps (ite (not b) (c ∷ []) [])) (eq-eqb id c.id (sym q)) ∙ append-nil _

  pub freeform_no_cutter : none ≡ shape_of ps c.kind → cutters_of ps (others id (take (i + 1) cs)) ≡ cutters_of ps (others id (take i cs))
  freeform_no_cutter e = cutters_next ∙ ap (λ l. cutters_of ps (others id (take i cs)) ++ l) (none_of (not (eqb id c.id)) e) ∙ append-nil _

  pub one_cutter : (sh : Shape) → some sh ≡ shape_of ps c.kind → (c.id ≡ id → ⊥)
      → cutters_of ps (others id (take (i + 1) cs)) ≡ cutters_of ps (others id (take i cs)) ++ (record { id = c.id; infinite = c.infinite; shape = sh } ∷ [])
  unfolding cutter_of
  one_cutter sh e q =
      cutters_next
      ∙ ap (λ b. cutters_of ps (others id (take i cs)) ++ cutters_of ps (ite (not b) (c ∷ []) [])) (ne_eqb id c.id (λ u. q (sym u)))
      ∙ ap (λ o. cutters_of ps (others id (take i cs)) ++ (cutter_of c o ++ [])) (sym e)

-- ---- the walk over the records

-- the cuts of the first i curves
abbrev pub CutsUpTo : (points curves : List ℕ) → Shape → (id n i : ℕ) → List Cut → Type 0
CutsUpTo points curves sh id n i found = (ps : List Point) (cs : List Curve) → HoldsPoints ps points → HoldsCurves cs curves → n ≤ length cs → found ≡ cut_points sh (cutters_of ps (others id (take i cs)))

pub cuts_start : (points curves : List ℕ) (sh : Shape) (id n : ℕ) → CutsUpTo points curves sh id n 0 []
unfolding cuts_among
cuts_start points curves sh id n = λ ps cs u w l. refl

module _ (points curves : List ℕ) (sh : Shape) (id n i : ℕ) (found : List Cut) (up : CutsUpTo points curves sh id n i found) (h : i < n) (v : Curve) (ev : v ≡ read_curve (row_in curve_size curves i)) where
  record_is : {cs : List Curve} → HoldsCurves cs curves → n ≤ length cs → v ≡ get_or cs i no_curve
  record_is w l = ev ∙ held_curve w i (omega (arith, held_curves w))

  pub cuts_past_target : v.id ≡ id → CutsUpTo points curves sh id n (i + 1) found
  cuts_past_target q = λ ps cs u w l.
      up ps cs u w l ∙ ap (cut_points sh) (sym (target_no_cutter ps cs id i (omega arith) (ap (λ (k : Curve). k.id) (sym (record_is w l)) ∙ q)))

  module _ (kind : CurveKind) (ek : kind ≡ v.kind) (o : Answer Shape) (a : ShapeFrom points kind o) where
    answer_is : {ps : List Point} {cs : List Curve} → HoldsPoints ps points → HoldsCurves cs curves → n ≤ length cs → shape_found o ≡ shape_of ps (get_or cs i no_curve).kind
    answer_is {ps} u w l = a ps u ∙ ap (shape_of ps) (ek ∙ ap (λ (k : Curve). k.kind) (record_is w l))

    pub cuts_past_freeform : o ≡ None → CutsUpTo points curves sh id n (i + 1) found
    cuts_past_freeform e = λ ps cs u w l.
        up ps cs u w l ∙ ap (cut_points sh) (sym (freeform_no_cutter ps cs id i (omega arith) (answered_none e (answer_is u w l))))

    pub cuts_one_more : {s : Shape} → o ≡ Some s → (by : ℕ) → by ≡ v.id → (by ≡ id → ⊥) → (infinite : Bool) → infinite ≡ v.infinite → (after : List Cut) → after ≡ cuts_by sh (record { id = by; infinite = infinite; shape = s }) found → CutsUpTo points curves sh id n (i + 1) after
    unfolding cuts_among
    cuts_one_more {s} e by eb q infinite ei after f = λ ps cs u w l.
        let k = get_or cs i no_curve in
        let r = record_is w l in
        f
        ∙ ap₂ (λ (x : ℕ) (y : Bool). cuts_by sh (record { id = x; infinite = y; shape = s }) found) eb ei
        ∙ ap (λ (x : Curve). cuts_by sh (record { id = x.id; infinite = x.infinite; shape = s }) found) r
        ∙ ap (cuts_by sh (record { id = k.id; infinite = k.infinite; shape = s })) (up ps cs u w l)
        ∙ sym (among_append sh (cutters_of ps (others id (take i cs))) (record { id = k.id; infinite = k.infinite; shape = s } ∷ []) [])
        ∙ ap (cut_points sh) (sym (one_cutter ps cs id i (omega arith) s (answered_some e (answer_is u w l)) (λ z. q (eb ∙ ap (λ (x : Curve). x.id) r ∙ z))))

-- ---- the tables of an image

module _ (s : List ℕ) (e : image_fault s ≡ 0) where
  pub table_points : {t : List ℕ} → t ≡ point_table s → HoldsPoints (drawing_of s).points t
  table_points q = rw q (holds_points s e)

  pub table_curves : {t : List ℕ} → t ≡ curve_table s → HoldsCurves (drawing_of s).curves t
  table_curves q = rw q (holds_curves s e)

  -- their number
  pub counted : {t : List ℕ} {n : ℕ} → t ≡ curve_table s → n ≡ length (curves_in t) → n ≡ length (drawing_of s).curves
  counted q k = k ∙ ap length (table_curves q).are

  pub few_counted : length (drawing_of s).curves ≤ 128
  few_counted = rw (length-map (curve_rows s) curve_of ∙ length_rows curve_size (curve_count s) s (curves_from (point_count s))) (image_kept s e).head.few_curves

-- of the first n, and of all
module _ (s : List ℕ) (sh : Shape) (id n : ℕ) where
  pub cuts_end : {points curves : List ℕ} (i : ℕ) (found : List Cut) → points ≡ point_table s → curves ≡ curve_table s → i ≤ n → n ≤ i → CutsUpTo points curves sh id n i found → CutsOfFirst s n sh id found
  cuts_end i found p c a b w = λ e l.
      let z : i ≡ n = omega arith in
      rw (← z) (w _ _ (table_points s e p) (table_curves s e c) l)

  -- what was found around tq
  pub bracket_all : {t : List ℕ} (tq : Float) (x : List Cut) → t ≡ curve_table s → n ≡ length (curves_in t) → (image_fault s ≡ 0 → n ≤ length (drawing_of s).curves → x ≡ bracket sh tq (first_cuts s n sh id))
      → image_fault s ≡ 0 → x ≡ bracket sh tq (cut_points sh (cutters_of (drawing_of s).points (others id (drawing_of s).curves)))
  bracket_all tq x q k w e =
      let z = counted s e q k in
      w e (omega (arith, z)) ∙ ap (λ (l : List Curve). bracket sh tq (cut_points sh (cutters_of (drawing_of s).points (others id l)))) (take_all n (drawing_of s).curves (omega (arith, z)))

pub too_many : (s : List ℕ) (n : ℕ) {t : List ℕ} → t ≡ curve_table s → n ≡ length (curves_in t) → 128 < n → image_fault s ≡ 0 → ⊥
too_many s n q k h e = omega (arith, counted s e q k, few_counted s e)
