-- Laws of freeform curves that are given by the coordinates of their control points. Assumes nothing.
use mathlib.Core.Path.{◌≡◌, refl, sym, ap, ◌∙◌}
use mathlib.Core.List.{List, [], ◌∷◌, map}
use mathlib.Core.Bool.{Bool, true, false, cond}
use Prim.Native.Nat.{ℕ, zero, suc, ◌≤◌, ◌<◌}
use native.Mathlib.Omega.{arith}
use borrow.Author.Tests.{leb-true, leb-false, eqb-true, le-leb, eq-eqb}
use lib.Dec.{leb}
use lib.ListN.{length, take, replicate}
use lib.Seq.{take_all, get_or-take, length-take-le}
use lib.Ieee.{Float, nan}
use Rattle.float.specs.Numbers.{◌⊘◌, 1f}
use Rattle.geom.specs.Plane.{vec}
use Rattle.geom.specs.declared.Vec2.{Vec2}
use Rattle.bernstein.specs.Evaluate.{evaluate_of}
use Rattle.support.specs.declared.Form.{Form}
use Rattle.support.specs.declared.Form.TheVariants.{Polynomial, Rational}
use Rattle.support.specs.Freeform.{controls, weights, point_at}
use Rattle.support.specs.Hits.{max_of, off_each, polynomial}
use Rattle.support.specs.Pieces.{zip_points, point_in}
use Rattle.support.specs.Clauses.{freeform_of, at_most8, enough_controls, Controls, weights_of, farthest_of}
use Rattle.support.proofs.Coordinates.{points_length, points_across, points_up, points_next, points_end}

-- ---- how many control points

fits_few : (curve : Form) (n : ℕ) → enough_controls curve n ≡ true → n ≤ 8
unfolding enough_controls
fits_few Polynomial n e = leb-true n 8 e
fits_few (Rational w) n e = let h : n ≡ 3 = eqb-true n 3 e in omega arith

pub few : (curve : Form) (xs ys : List Float) → Controls curve xs ys → length xs ≤ 8
few curve xs ys h = fits_few curve (length xs) h.enough

three : (w : Float) (xs ys : List Float) → Controls (Rational w) xs ys → length xs ≡ 3
unfolding enough_controls
three w xs ys h = eqb-true (length xs) 3 h.enough

pub three_at_least : (curve : Form) (w : Float) (xs ys : List Float) → curve ≡ Rational w → Controls curve xs ys → (3 ≤ length xs) × (3 ≤ length ys)
three_at_least curve w xs ys e h =
    let k : Controls (Rational w) xs ys = rw e at h in
    let n : length xs ≡ 3 = three w xs ys k in
    let m : length ys ≡ length xs = k.paired in
    (omega arith, omega arith)

-- ---- points

pub polynomial_point : (curve : Form) (xs ys : List Float) (t x y : Float) → curve ≡ Polynomial → Controls curve xs ys → x ≡ evaluate_of xs t → y ≡ evaluate_of ys t
    → vec x y ≡ point_at (freeform_of curve xs ys) t
unfolding point_at
polynomial_point curve xs ys t x y e h ex ey = rw (e, ex, ey, points_across xs ys h.paired, points_up xs ys h.paired)

-- ---- the first of eight

pub first_few : (n : ℕ) (xs : List Float) → length xs ≡ 8 → take (at_most8 n) xs ≡ take n xs
unfolding at_most8
first_few n xs l = go (leb n 8) refl
  where
    go : (b : Bool) → leb n 8 ≡ b → take (cond b n 8) xs ≡ take n xs
    go true e = refl
    go false e =
        let h : 8 < n = leb-false n 8 e in
        let f : length xs ≤ 8 = omega arith in
        let g : length xs ≤ n = omega arith in
        take_all 8 xs f ∙ sym (take_all n xs g)

pub front_count : (k : ℕ) (l : List Float) → length l ≡ 8 → k ≤ 8 → k ≡ length (take k l)
front_count k l e h = sym (length-take-le k l (omega arith))

module _ (xs ys : List Float) (ex : length xs ≡ 8) (ey : length ys ≡ 8) where
  pub bezier_controls : (k : ℕ) → k ≤ 8 → Controls Polynomial (take k xs) (take k ys)
  unfolding enough_controls
  bezier_controls k h =
      let x : k ≡ length (take k xs) = front_count k xs ex h in
      let y : k ≡ length (take k ys) = front_count k ys ey h in
      record { paired = sym y ∙ x; enough = le-leb (length (take k xs)) 8 (omega arith) }

  pub conic_controls : (w : Float) → Controls (Rational w) (take 3 xs) (take 3 ys)
  unfolding enough_controls
  conic_controls w =
      let x : 3 ≡ length (take 3 xs) = front_count 3 xs ex (omega arith) in
      let y : 3 ≡ length (take 3 ys) = front_count 3 ys ey (omega arith) in
      record { paired = sym y ∙ x; enough = eq-eqb (length (take 3 xs)) 3 (sym x) }

pub conic_front : (w : Float) (xs ys : List Float) → freeform_of (Rational w) (take 3 xs) (take 3 ys) ≡ freeform_of (Rational w) xs ys
conic_front w xs ys =
    cc (get_or-take 3 xs 0 nan (omega arith), get_or-take 3 xs 1 nan (omega arith), get_or-take 3 xs 2 nan (omega arith), get_or-take 3 ys 0 nan (omega arith), get_or-take 3 ys 1 nan (omega arith), get_or-take 3 ys 2 nan (omega arith))

-- ---- control points and weights

three_points : (xs ys : List Float) → length xs ≡ 3 → length ys ≡ length xs → zip_points xs ys ≡ point_in xs ys 0 ∷ point_in xs ys 1 ∷ point_in xs ys 2 ∷ []
three_points xs ys h e =
    points_next xs ys 0 (omega arith) e
    ∙ ap (λ (l : List Vec2). point_in xs ys 0 ∷ l) (points_next xs ys 1 (omega arith) e
    ∙ ap (λ (l : List Vec2). point_in xs ys 1 ∷ l) (points_next xs ys 2 (omega arith) e
    ∙ ap (λ (l : List Vec2). point_in xs ys 2 ∷ l) (points_end xs ys 3 (omega arith))))

control_points : (curve : Form) (xs ys : List Float) → Controls curve xs ys → controls (freeform_of curve xs ys) ≡ zip_points xs ys
control_points Polynomial xs ys h = refl
control_points (Rational w) xs ys h = sym (three_points xs ys (three w xs ys h) h.paired)

ones : (n m : ℕ) (ps : List Vec2) → length ps ≡ n → n ≤ m → take n (replicate m 1f) ≡ map (λ p. 1f) ps
ones zero m [] e h = refl
ones zero m (p ∷ ps) e h = absurd (omega arith)
ones (suc n) m [] e h = absurd (omega arith)
ones (suc n) zero (p ∷ ps) e h = absurd (omega arith)
ones (suc n) (suc m) (p ∷ ps) e h = ap (λ (l : List Float). 1f ∷ l) (ones n m ps (omega arith) (omega arith))

first_three : (w : Float) (n : ℕ) → n ≡ 3 → take n (1f ∷ w ∷ replicate 6 1f) ≡ 1f ∷ w ∷ 1f ∷ []
first_three w n e = rw e

pub front_weights : (curve : Form) (xs ys : List Float) → Controls curve xs ys → take (length xs) (weights_of curve) ≡ weights (freeform_of curve xs ys)
unfolding weights_of
front_weights Polynomial xs ys h = ones (length xs) 8 (zip_points xs ys) (points_length xs ys h.paired) (few Polynomial xs ys h)
front_weights (Rational w) xs ys h = first_three w (length xs) (three w xs ys h)

weights_count : (curve : Form) → length (weights_of curve) ≡ 8
unfolding weights_of
weights_count Polynomial = refl
weights_count (Rational w) = refl

module _ (curve : Form) (xs ys ws : List Float) (h : Controls curve xs ys) (e : ws ≡ weights_of curve) where
  pub enough_weights : length xs ≤ length ws
  enough_weights = omega (arith, few curve xs ys h, ap length e, weights_count curve)

  pub weights_counted : length xs ≡ length (take (length xs) ws)
  weights_counted = sym (length-take-le (length xs) ws enough_weights)

-- ---- the polynomial

pub coefficients : (d o : Vec2) (curve : Form) (xs ys : List Float) → Controls curve xs ys → (ws : List Float) → ws ≡ weights_of curve
    → (scale : Float) → scale ≡ farthest_of o (zip_points xs ys) → (top : Float) → top ≡ max_of 1f (take (length xs) ws)
    → off_each d o scale (zip_points xs ys) (map (λ w. w ⊘ top) (take (length xs) ws)) ≡ polynomial d o (freeform_of curve xs ys)
unfolding polynomial farthest_of
coefficients d o curve xs ys h ws ew scale es top et = rw (es, et, ew, front_weights curve xs ys h, control_points curve xs ys h)
