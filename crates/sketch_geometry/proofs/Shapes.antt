-- The shape of a curve from where its points lie. Assumes nothing.
use mathlib.Core.Path.{◌≡◌, refl}
use mathlib.Core.List.{List}
use mathlib.Core.Option.{some, none}
use Prim.Native.Nat.{ℕ}
use lib.Ieee.{Float}
use Rattle.geom.specs.declared.Vec2.{Vec2}
use Rattle.shape.specs.declared.Shape.{Shape}
use Rattle.shape.specs.declared.Shape.TheVariants as S
use Rattle.shape.specs.Measures.{arc, circle}
use Rattle.sketch.specs.declared.Point.{Point}
use Rattle.sketch.specs.declared.CurveKind.{CurveKind}
use Rattle.sketch.specs.declared.CurveKind.TheVariants.{Line, Arc, Circle, Bezier, Conic}
use Rattle.sketch_geometry.specs.Geometry.{position_of, shape_of}

module _ (ps : List Point) {kind : CurveKind} {sh : Shape} where
  pub of_line : {a b : ℕ} {p q : Vec2} → kind ≡ Line a b → p ≡ position_of ps a → q ≡ position_of ps b → sh ≡ S.Line p q → some sh ≡ shape_of ps kind
  unfolding shape_of
  of_line e u v h = rw (e, h, u, v)

  pub of_arc : {c a b : ℕ} {o p q : Vec2} → kind ≡ Arc c a b → o ≡ position_of ps c → p ≡ position_of ps a → q ≡ position_of ps b → sh ≡ arc o p q → some sh ≡ shape_of ps kind
  unfolding shape_of
  of_arc e t u v h = rw (e, h, t, u, v)

  pub of_circle : {c : ℕ} {r : Float} {o : Vec2} → kind ≡ Circle c r → o ≡ position_of ps c → sh ≡ circle o r → some sh ≡ shape_of ps kind
  unfolding shape_of
  of_circle e u h = rw (e, h, u)

pub of_freeform : (ps : List Point) (k : CurveKind) → ((a b : ℕ) → k ≡ Line a b → ⊥) → ((c a b : ℕ) → k ≡ Arc c a b → ⊥) → ((c : ℕ) (r : Float) → k ≡ Circle c r → ⊥) → none ≡ shape_of ps k
unfolding shape_of
of_freeform ps (Line a b) l r o = absurd (l a b refl)
of_freeform ps (Arc c a b) l r o = absurd (r c a b refl)
of_freeform ps (Circle c r) l a o = absurd (o c r refl)
of_freeform ps (Bezier n) l r o = refl
of_freeform ps (Conic a p b rho) l r o = refl
