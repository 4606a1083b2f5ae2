-- The plan of an extend from an image's records, one law for each way out of the code. Assumes nothing.
use mathlib.Core.Path.{◌≡◌, refl, sym, ap, ◌∙◌, subst}
use mathlib.Core.Bool.{Bool, true, false, cond}
use mathlib.Core.List.{List}
use mathlib.Core.Option.{some}
use Prim.Native.Nat.{ℕ, ◌/◌, ◌≤◌, ◌<◌}
use native.Mathlib.Omega.{arith}
use lib.ListN.{length, get_or}
use lib.Ieee.{Float, le}
use Rattle.big_endian.specs.Laws.{Bytes}
use Rattle.geom.specs.Plane.{distance}
use Rattle.geom.specs.declared.Vec2.{Vec2}
use Rattle.sketch.specs.declared.Point.{Point}
use Rattle.sketch.specs.declared.Curve.{Curve}
use Rattle.sketch.specs.declared.CurveKind.TheVariants.{Line}
use Rattle.sketch.specs.Lists.{ite}
use Rattle.sketch.specs.Lookup.{among, FoundAt}
use Rattle.sketch.specs.Blanks.{no_point, no_curve}
use Rattle.sketch.specs.Drawing.{Drawing, limits, point_ids, curve_in}
use Rattle.sketch.specs.Facts.{Valid}
use Rattle.sketch.proofs.Bools.{never}
use Rattle.sketch.proofs.Facts.{fault_valid, curve_at_lem}
use Rattle.image.specs.Records.{point_size, curve_size}
use Rattle.image.specs.Image.{drawing_of, image_fault}
use Rattle.image.specs.Decode.{read_point, read_curve}
use Rattle.image.proofs.GoodImages.{drawing_good}
use Rattle.rows.specs.Rows.{point_table, curve_table, row_in, ids_in, points_in, curves_in, HoldsPoints, HoldsCurves}
use Rattle.rows.proofs.Holds.{holds_points, holds_curves, held_points, held_point, point_ids_rise, point_found, point_not_found, held_curves, held_curve, curve_ids_rise}
use Rattle.sketch_geometry.specs.Geometry.{position_of}
use Rattle.relations.specs.Met.{all_met}
use Rattle.edit_plan.specs.Tables.{uses, others}
use Rattle.edit_plan.specs.Steps.{ends_at}
use Rattle.chains.proofs.Pins.{ends_there}
use Rattle.planning.proofs.TrimSplitPlans.{ends_line}
use Rattle.hit_search.specs.Values.{support}
use Rattle.std.specs.Prelude.{Result, Ok, Err}
use Rattle.std.specs.Prelude as O
use Rattle.refusal.specs.declared.Refusal.{Refusal}
use Rattle.refusal.specs.declared.Refusal.TheVariants.{WrongKind}
use Rattle.extend.specs.declared.EndMove.{EndMove}
use Rattle.extend.specs.Extend.{is_fixed}
use Rattle.extend.specs.ExtendContracts.{MovesAt}
use Rattle.extend.specs.ImageExtendContracts.{FreeEnd, FreeAt, EndIn, MovesEnd, ExtendIn}
use Rattle.extend.proofs.ExtendPlans.{fixed_at, not_line_lem, line_at}

-- ---- the tables of a good image

module _ (s : List ℕ) (e : image_fault s ≡ 0) where
  pub points_held : (points : List ℕ) → points ≡ point_table s → HoldsPoints (drawing_of s).points points
  points_held points t = rw t (holds_points s e)

  curves_held : (curves : List ℕ) → curves ≡ curve_table s → HoldsCurves (drawing_of s).curves curves
  curves_held curves t = rw t (holds_curves s e)

  pub used_in : (curves : List ℕ) → curves ≡ curve_table s → (id p : ℕ) {b : Bool} → b ≡ among p (uses (others id (curves_in curves))) → b ≡ among p (uses (others id (drawing_of s).curves))
  used_in curves t id p h = h ∙ ap (λ (l : List Curve). among p (uses (others id l))) (curves_held curves t).are

-- ---- the end that moves

module _ (s : List ℕ) (e : image_fault s ≡ 0) (points : List ℕ) (t : points ≡ point_table s) (end : ℕ) (found : O.Option ℕ) (f : FoundAt end (ids_in point_size points) found) where
  held : HoldsPoints (drawing_of s).points points
  held = points_held s e points t

  pub end_there : found ≡ O.None → among end (point_ids (drawing_of s).points) ≡ true → ⊥
  end_there h w = never (sym (point_not_found held end (subst (FoundAt end (ids_in point_size points)) h f)) ∙ w)

  module _ {k : ℕ} (h : found ≡ O.Some k) {p : Point} (r : p ≡ read_point (row_in point_size points k)) where
    here : (k < length (drawing_of s).points) × ((get_or (drawing_of s).points k no_point).id ≡ end)
    here = point_found held end k (subst (FoundAt end (ids_in point_size points)) h f)

    in_drawing : k < length (drawing_of s).points
    in_drawing = here.0

    in_table : k < length points / point_size
    in_table = rw (← held_points held) in_drawing

    row_is : p ≡ get_or (drawing_of s).points k no_point
    row_is = r ∙ held_point held k in_table

    pub fixed_row : is_fixed (drawing_of s).points end ≡ p.fixed
    fixed_row =
        ap (is_fixed (drawing_of s).points) (sym here.1) ∙ fixed_at (drawing_of s).points k (point_ids_rise held) in_drawing ∙ ap (λ (x : Point). x.fixed) (sym row_is)

    pub free_row : (id : ℕ) {used : Bool} → used ≡ among end (uses (others id (drawing_of s).curves)) → used ≡ false → p.fixed ≡ false → FreeEnd (drawing_of s) id end k
    free_row id u v w =
        record { within = in_drawing; is = here.1; unshared = sym u ∙ v; loose = ap (λ (x : Point). x.fixed) (sym row_is) ∙ w }

pub moves_free : (d : Drawing) (id : ℕ) (at_b : Bool) (end k : ℕ) (r : Result EndMove Refusal) → MovesAt at_b k r → FreeEnd d id end k → FreeAt d id at_b end r
moves_free d id at_b end k (Err n) h f = tt
moves_free d id at_b end k (Ok m) h f = (h.0, subst (λ (x : ℕ). FreeEnd d id end x) (sym h.1) f)

-- ---- the line

-- a move of the end is one of the line's ends
module _ (d : Drawing) (c : Curve) {i j : ℕ} (k : c.kind ≡ Line i j) where
  pub moves_end : (at_b : Bool) {end : ℕ} → end ≡ cond at_b j i → (r : Result EndMove Refusal) → FreeAt d c.id at_b end r → MovesEnd d c r
  moves_end at_b e (Err n) h = tt
  moves_end at_b e (Ok m) h = ((i, j), ends_line k, subst (λ (x : ℕ). FreeEnd d c.id x m.place) (e ∙ either at_b ∙ sym (ap (λ b. ite b j i) h.0)) h.1)
    where
      either : (b : Bool) → ◌≡◌ {A = ℕ} (cond b j i) (ite b j i)
      either true = refl
      either false = refl

module _ (s : List ℕ) (e : image_fault s ≡ 0) (curves : List ℕ) (t : curves ≡ curve_table s) {place : ℕ} (h : place < length (drawing_of s).curves) {c : Curve}
    (r : c ≡ read_curve (row_in curve_size curves place)) (p : Vec2) where
  abbrev target : Curve
  target = get_or (drawing_of s).curves place no_curve

  target_is : c ≡ target
  target_is = let w = curves_held s e curves t in r ∙ held_curve w place (rw (← held_curves w) h)

  pub other_kind : ((i j : ℕ) → c.kind ≡ Line i j → ⊥) → ExtendIn (drawing_of s) target p (Err WrongKind)
  other_kind q = subst (λ (x : Curve). ExtendIn (drawing_of s) x p (Err WrongKind)) target_is (record { plan = not_line_lem (drawing_of s) p c c.kind q; place = tt })

  module _ {i j : ℕ} (k : c.kind ≡ Line i j) where
    -- its ends are points of the drawing
    line_ends_lem : Bytes s → (among i (point_ids (drawing_of s).points) ≡ true) × (among j (point_ids (drawing_of s).points) ≡ true)
    unfolding ends_at
    line_ends_lem b =
        let w = curves_held s e curves t in
        let v : Valid limits (drawing_of s) = fault_valid limits (drawing_of s) (drawing_good s e b) in
        let found : curve_in (drawing_of s).curves target.id ≡ some target = curve_at_lem no_curve (drawing_of s).curves place (curve_ids_rise w) h in
        ends_there limits (drawing_of s) v target.id (i, j) (ap ends_at found ∙ ends_line (ap (λ (x : Curve). x.kind) (sym target_is) ∙ k))

    pub line_end : Bytes s → (at_b : Bool) {end : ℕ} → end ≡ cond at_b j i → among end (point_ids (drawing_of s).points) ≡ true
    line_end b true q = ap (λ (x : ℕ). among x (point_ids (drawing_of s).points)) q ∙ (line_ends_lem b).1
    line_end b false q = ap (λ (x : ℕ). among x (point_ids (drawing_of s).points)) q ∙ (line_ends_lem b).0

    module _ (m : all_met (drawing_of s) ≡ true) {a b : Vec2} (u : a ≡ position_of (drawing_of s).points i) (v : b ≡ position_of (drawing_of s).points j)
        {da db : Float} (x : db ≡ distance p b) (y : da ≡ distance p a) where
      pub line_planned : {end : ℕ} → end ≡ cond (le db da) j i → (o : Result EndMove Refusal) → EndIn (drawing_of s) c.id p (support a b (le db da)) end o → ExtendIn (drawing_of s) target p o
      line_planned q o w =
          subst (λ (z : Curve). ExtendIn (drawing_of s) z p o) target_is
          (record { plan = line_at (drawing_of s) p c k m u v x y q w.plan; place = moves_end (drawing_of s) c k (le db da) q o w.place })
