-- Laws of points that are given by their coordinates. Assumes nothing.
use mathlib.Core.Path.{◌≡◌, refl, ap}
use mathlib.Core.List.{List, [], ◌∷◌, ◌++◌, map}
use Prim.Native.Nat.{ℕ, suc, ◌+◌, ◌≤◌, ◌<◌}
use native.Mathlib.Numerals.{add-one}
use native.Mathlib.Omega.{arith}
use lib.ListN.{length, take, drop, set, drop_of_length-le, length-take}
use lib.Seq.{drop-cons, take-suc-set}
use lib.Ieee.{Float, nan}
use Rattle.geom.specs.declared.Vec2.{Vec2}
use Rattle.support.specs.Pieces.{zip_points, point_in}

pub points_length : (xs ys : List Float) → length ys ≡ length xs → length (zip_points xs ys) ≡ length xs
unfolding zip_points
points_length [] ys e = refl
points_length (x ∷ xs) [] e = absurd (omega arith)
points_length (x ∷ xs) (y ∷ ys) e = ap suc (points_length xs ys (omega arith))

pub points_across : (xs ys : List Float) → length ys ≡ length xs → map (λ p. p.x) (zip_points xs ys) ≡ xs
unfolding zip_points
points_across [] ys e = refl
points_across (x ∷ xs) [] e = absurd (omega arith)
points_across (x ∷ xs) (y ∷ ys) e = ap (λ (l : List Float). x ∷ l) (points_across xs ys (omega arith))

pub points_up : (xs ys : List Float) → length ys ≡ length xs → map (λ p. p.y) (zip_points xs ys) ≡ ys
unfolding zip_points
points_up [] [] e = refl
points_up [] (y ∷ ys) e = absurd (omega arith)
points_up (x ∷ xs) [] e = absurd (omega arith)
points_up (x ∷ xs) (y ∷ ys) e = ap (λ (l : List Float). y ∷ l) (points_up xs ys (omega arith))

points_snoc : (x y : Float) (xs ys : List Float) → length ys ≡ length xs → zip_points (xs ++ x ∷ []) (ys ++ y ∷ []) ≡ zip_points xs ys ++ record { x = x; y = y } ∷ []
unfolding zip_points
points_snoc x y [] [] e = refl
points_snoc x y [] (v ∷ ys) e = absurd (omega arith)
points_snoc x y (u ∷ xs) [] e = absurd (omega arith)
points_snoc x y (u ∷ xs) (v ∷ ys) e = ap (λ (l : List Vec2). record { x = u; y = v } ∷ l) (points_snoc x y xs ys (omega arith))

-- one more point stored behind the first k
pub points_stored : (q : Vec2) (xs ys : List Float) (k : ℕ) → k < length xs → k < length ys
    → zip_points (take (k + 1) (set xs k q.x)) (take (k + 1) (set ys k q.y)) ≡ zip_points (take k xs) (take k ys) ++ q ∷ []
points_stored q xs ys k h g =
    let e : length (take k ys) ≡ length (take k xs) = omega (arith, length-take k xs, length-take k ys) in
    rw (add-one, take-suc-set xs k q.x h, take-suc-set ys k q.y g) (points_snoc q.x q.y (take k xs) (take k ys) e)

-- ---- a walk over both

module _ (xs ys : List Float) (i : ℕ) where
  pub points_next : i < length xs → length ys ≡ length xs
      → zip_points (drop i xs) (drop i ys) ≡ point_in xs ys i ∷ zip_points (drop (i + 1) xs) (drop (i + 1) ys)
  unfolding zip_points
  points_next h e =
      let g : i < length ys = omega arith in
      rw (add-one, drop-cons xs i nan h, drop-cons ys i nan g)

  pub points_end : length xs ≤ i → zip_points (drop i xs) (drop i ys) ≡ []
  unfolding zip_points
  points_end h = rw (drop_of_length-le xs h)
