-- Laws of the cases: what a freeform curve comes down to, the kinds of pieces, and room in the lent floats. Assumes nothing.
use mathlib.Core.Path.{◌≡◌, sym, ap}
use mathlib.Core.List.{List}
use mathlib.Core.Bool.{true, false}
use Prim.Native.Nat.{ℕ, ◌≤◌, ◌<◌}
use borrow.Author.Tests.{le-leb, lt-leb}
use lib.ListN.{length, take}
use lib.Ieee.{Float}
use Rattle.geom.specs.Plane.{◌-ᵥ◌, normalized}
use Rattle.geom.specs.declared.Vec2.{Vec2}
use Rattle.std.specs.Prelude.{Some, None}
use Rattle.shape.specs.declared.Shape.{Shape}
use Rattle.shape.specs.declared.Shape.TheVariants.{Line}
use Rattle.sketch.specs.Lists.{every}
use Rattle.bernstein.specs.Roots.{roots_of}
use Rattle.support.specs.declared.Form.TheVariants.{Polynomial, Rational}
use Rattle.support.specs.declared.Piece.{Piece}
use Rattle.support.specs.declared.Piece.TheVariants.{Analytic, Bezier, Conic}
use Rattle.support.specs.Freeform.{Freeform}
use Rattle.support.specs.Hits.{HitsResult, refused, guard_hits, polynomial, resolved_at, shape_hits, freeform_by, freeform_along, freeform_hits}
use Rattle.support.specs.Pieces.{hits_of, with_room}
use Rattle.support.specs.Clauses.{freeform_of, at_most8}
use Rattle.support.proofs.Curves.{first_few, conic_front}
use Rattle.support.proofs.Offsets.{tiny}

-- ---- a freeform curve

module _ (a b : Vec2) (f : Freeform) (budget : ℕ) where
  pub without_direction : normalized (b -ᵥ a) ≡ None → freeform_hits a b f budget ≡ refused 16 budget
  unfolding freeform_along
  without_direction e = rw e

  module _ (d : Vec2) (e : normalized (b -ᵥ a) ≡ Some d) (c : List Float) (ec : c ≡ polynomial d a f) where
    pub all_along : every tiny c ≡ true → freeform_hits a b f budget ≡ refused 15 budget
    unfolding freeform_along freeform_by guard_hits
    all_along t = rw (e, ← ec, t)

    pub not_along : every tiny c ≡ false → freeform_hits a b f budget ≡ resolved_at (Line a b) f (roots_of c budget)
    unfolding freeform_along freeform_by guard_hits
    not_along t = rw (e, ← ec, t)

-- ---- any piece

module _ (hx hy : List Float) (b : ℕ) (o : HitsResult) where
  pub short_across : length hx < 28 → with_room hx hy b o ≡ refused 25 b
  unfolding with_room guard_hits
  short_across h = rw (lt-leb 28 (length hx) h)

  module _ (g : 28 ≤ length hx) where
    pub short_up : length hy < 28 → with_room hx hy b o ≡ refused 25 b
    unfolding with_room guard_hits
    short_up h = rw (le-leb 28 (length hx) g, lt-leb 28 (length hy) h)

    pub roomy : 28 ≤ length hy → with_room hx hy b o ≡ o
    unfolding with_room guard_hits
    roomy h = rw (le-leb 28 (length hx) g, le-leb 28 (length hy) h)

module _ (a b : Vec2) (piece : Piece) (xs ys : List Float) (budget : ℕ) where
  pub of_shape : (sh : Shape) → piece ≡ Analytic sh → hits_of a b piece xs ys budget ≡ shape_hits a b sh budget
  unfolding hits_of
  of_shape sh e = rw e

  pub of_bezier : (n k : ℕ) → piece ≡ Bezier n → k ≡ at_most8 n → length xs ≡ 8 → length ys ≡ 8
      → hits_of a b piece xs ys budget ≡ freeform_hits a b (freeform_of Polynomial (take k xs) (take k ys)) budget
  unfolding hits_of
  of_bezier n k e ek ex ey = rw (e, ek, first_few n xs ex, first_few n ys ey)

  pub of_conic : (w : Float) → piece ≡ Conic w → hits_of a b piece xs ys budget ≡ freeform_hits a b (freeform_of (Rational w) (take 3 xs) (take 3 ys)) budget
  unfolding hits_of
  of_conic w e = rw e (ap (λ (f : Freeform). freeform_hits a b f budget) (sym (conic_front w xs ys)))
