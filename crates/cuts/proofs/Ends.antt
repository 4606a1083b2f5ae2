-- A point within a curve's ends, and the ends themselves, as the code finds them. Assumes nothing.
use mathlib.Core.Path.{◌≡◌, refl, sym}
use mathlib.Core.Bool.{Bool, true, false, not, ◌&&◌}
use mathlib.Core.List.{[], ◌∷◌}
use lib.Ieee.{Float, lt, le}
use Rattle.float.specs.Numbers.{◌⊕◌, ◌⊖◌, 0f, 1e-6}
use Rattle.geom.specs.declared.Vec2.{Vec2}
use Rattle.shape.specs.declared.Range.{Range}
use Rattle.shape.specs.declared.Shape.{Shape}
use Rattle.shape.specs.declared.Shape.TheVariants.{Round}
use Rattle.shape.specs.Measures.{range, is_full, param, point, dist}
use Rattle.cuts.specs.Bounded.{slack, in_range, on_bounded}
use Rattle.cuts.specs.Cuts.{end_points}

pub and_false : (a : Bool) → a && false ≡ false
and_false true = refl
and_false false = refl

and_true : (a : Bool) → a && true ≡ a
and_true true = refl
and_true false = refl

module _ (sh : Shape) where
  pub between_ends : (p : Vec2) (r : Range) (s t : Float) → is_full sh ≡ false → t ≡ param sh p → r ≡ range sh → s ≡ slack sh → le (r.start ⊖ s) t && le t (r.end ⊕ s) ≡ in_range sh (param sh p)
  unfolding in_range
  between_ends p r s t f et er es = rw (f, et, er, es)

  pub off : (p : Vec2) → lt 1e-6 (dist sh p) ≡ true → false ≡ on_bounded sh p
  unfolding on_bounded
  off p h = rw h

  pub near : (p : Vec2) → lt 1e-6 (dist sh p) ≡ false → in_range sh (param sh p) ≡ on_bounded sh p
  unfolding on_bounded
  near p h = rw h

  pub past : (p : Vec2) → in_range sh (param sh p) ≡ false → false ≡ on_bounded sh p
  unfolding on_bounded
  past p h = rw h (sym (and_false (not (lt 1e-6 (dist sh p)))))

  pub in_ends : (p : Vec2) (b : Bool) → in_range sh (param sh p) ≡ true → b ≡ lt 1e-6 (dist sh p) → not b ≡ on_bounded sh p
  unfolding on_bounded
  in_ends p b h e = rw (e, h) (sym (and_true (not (lt 1e-6 (dist sh p)))))

module _ (sh : Shape) (c : Vec2) (r start sweep : Float) (e : sh ≡ Round c r start sweep) where
  pub no_tips : is_full (Round c r start sweep) ≡ true → [] ≡ end_points sh
  unfolding end_points
  no_tips h = rw (e, h)

  pub two_tips : (p q : Vec2) → is_full (Round c r start sweep) ≡ false → p ≡ point (Round c r start sweep) 0f → q ≡ point (Round c r start sweep) sweep → p ∷ q ∷ [] ≡ end_points sh
  unfolding end_points
  two_tips p q h ep eq = rw (ep, eq, e, h)
