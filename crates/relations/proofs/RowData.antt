-- Curves read from an image's records, as far as relations measure them. Assumes nothing.
use mathlib.Core.Path.{◌≡◌, ap, ◌∙◌}
use mathlib.Core.List.{List}
use mathlib.Core.Option.{Option, some, none}
use Prim.Native.Nat.{ℕ, ◌≤◌, ◌<◌}
use native.Mathlib.Omega.{arith}
use lib.ListN.{length, get_or}
use lib.Ieee.{Float}
use Rattle.geom.specs.Plane.{distance}
use Rattle.geom.specs.declared.Vec2.{Vec2}
use Rattle.shape.specs.Measures.{circle}
use Rattle.shape.specs.declared.Shape.{Shape}
use Rattle.shape.specs.declared.Shape.TheVariants as S
use Rattle.sketch.specs.declared.Point.{Point}
use Rattle.sketch.specs.declared.Curve.{Curve}
use Rattle.sketch.specs.declared.CurveKind.{CurveKind}
use Rattle.sketch.specs.declared.CurveKind.TheVariants.{Line, Arc, Circle}
use Rattle.sketch.specs.Blanks.{no_curve}
use Rattle.image.specs.Decode.{read_curve}
use Rattle.image.specs.Records.{curve_size}
use Rattle.rows.specs.Rows.{HoldsCurves, RecordOf}
use Rattle.rows.proofs.RecordById.{record_there, record_missing}
use Rattle.rows.proofs.Holds.{held_curve, curve_here, curve_missing}
use Rattle.sketch_geometry.specs.Geometry.{position_of, shape_of, shape_from, shape_in}
use Rattle.sketch_geometry.proofs.Shapes.{of_freeform}
use Rattle.relations.specs.Whole.{whole}

-- ---- by kind

module _ (ps : List Point) (kind : CurveKind) {sh : Shape} where
  pub whole_line : {a b : ℕ} {p q : Vec2} → kind ≡ Line a b → p ≡ position_of ps a → q ≡ position_of ps b → sh ≡ S.Line p q → some sh ≡ whole (shape_of ps kind)
  unfolding whole shape_of
  whole_line e f g h = rw (e, h, f, g)

  pub whole_arc : {c a b : ℕ} {o p : Vec2} {r : Float} → kind ≡ Arc c a b → o ≡ position_of ps c → p ≡ position_of ps a → r ≡ distance p o → sh ≡ circle o r → some sh ≡ whole (shape_of ps kind)
  unfolding whole shape_of
  whole_arc e f g k h = rw (e, h, k, f, g)

  pub whole_circle : {c : ℕ} {r : Float} {o : Vec2} → kind ≡ Circle c r → o ≡ position_of ps c → sh ≡ circle o r → some sh ≡ whole (shape_of ps kind)
  unfolding whole shape_of
  whole_circle e f h = rw (e, h, f)

pub no_whole : (ps : List Point) (kind : CurveKind) → ((a b : ℕ) → kind ≡ Line a b → ⊥) → ((c a b : ℕ) → kind ≡ Arc c a b → ⊥) → ((c : ℕ) (r : Float) → kind ≡ Circle c r → ⊥) → none ≡ whole (shape_of ps kind)
unfolding whole
no_whole ps kind l a o = ap whole (of_freeform ps kind l a o)

-- ---- by id

module _ {cs : List Curve} {curves : List ℕ} (w : HoldsCurves cs curves) {id : ℕ} {r : List ℕ} (f : RecordOf curve_size curves id r) (ps : List Point) where
  pub whole_there : {kind : CurveKind} {x : Option Shape} → curve_size ≤ length r → kind ≡ (read_curve r).kind → x ≡ whole (shape_of ps kind) → x ≡ whole (shape_in ps cs id)
  unfolding shape_from
  whole_there q u h =
      let l = record_there curve_size curves id f (omega arith) q in
      let g : read_curve r ≡ get_or cs f.place no_curve = ap read_curve f.is ∙ held_curve w f.place l in
      h ∙ ap (λ (k : CurveKind). whole (shape_of ps k)) (u ∙ ap (λ (c : Curve). c.kind) g) ∙ rw (curve_here w f.found l)

  pub whole_missing : length r < curve_size → none ≡ whole (shape_in ps cs id)
  unfolding shape_from whole
  whole_missing q =
      let l = record_missing curve_size curves id f q in
      rw (curve_missing w f.found l)
