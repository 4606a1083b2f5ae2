-- Laws of the walks that make the polynomial. Assumes nothing.
use mathlib.Core.Path.{◌≡◌, refl, sym, ◌∙◌, ap}
use mathlib.Core.List.{List, [], ◌∷◌, ◌++◌, map, append-nil}
use mathlib.Core.Bool.{Bool, ◌&&◌, true, false}
use Prim.Native.Nat.{ℕ, ◌+◌, ◌≤◌, ◌<◌}
use native.Mathlib.Numerals.{add-one}
use native.Mathlib.Omega.{arith}
use lib.ListN.{length, take, drop, get_or, set, drop_of_length-le}
use lib.Seq.{drop-cons}
use lib.Ieee.{Float, nan, lt}
use Rattle.std.specs.List.{list_all}
use Rattle.float.specs.Numbers.{◌⊘◌, 1f, 1e-28}
use Rattle.float.specs.Order.{max}
use Rattle.float.specs.Sign.{abs}
use Rattle.geom.specs.Plane.{distance}
use Rattle.geom.specs.declared.Vec2.{Vec2}
use Rattle.sketch.specs.Lists.{every}
use Rattle.bernstein.proofs.Lists.{pushed}
use Rattle.support.specs.Hits.{max_of, off, off_each}
use Rattle.support.specs.Pieces.{zip_points, point_in}
use Rattle.support.specs.Clauses.{farthest_of}
use Rattle.support.proofs.Coordinates.{points_next, points_end}

-- ---- the largest

pub heavier : (ws : List Float) (i : ℕ) (m n : Float) → i < length ws → n ≡ max m (get_or ws i nan) → max_of n (drop (i + 1) ws) ≡ max_of m (drop i ws)
unfolding max_of
heavier ws i m n h e = rw (e, add-one, drop-cons ws i nan h)

pub heaviest_so_far : (ws : List Float) (i : ℕ) (m : Float) → length ws ≤ i → max_of m (drop i ws) ≡ m
unfolding max_of
heaviest_so_far ws i m h = rw (drop_of_length-le ws h)

-- the largest of m and how far the points from the i-th on lie from o
abbrev pub farthest_from : Vec2 → List Float → List Float → ℕ → Float → Float
farthest_from o xs ys i m = max_of m (map (λ p. distance p o) (zip_points (drop i xs) (drop i ys)))

module _ (o : Vec2) (xs ys : List Float) where
  pub farthest_start : farthest_from o xs ys 0 1f ≡ farthest_of o (zip_points xs ys)
  unfolding farthest_of
  farthest_start = refl

  pub farther : (i : ℕ) (m d n : Float) (p : Vec2) → i < length xs → length ys ≡ length xs → p ≡ point_in xs ys i → d ≡ distance p o → n ≡ max m d
      → farthest_from o xs ys (i + 1) n ≡ farthest_from o xs ys i m
  unfolding max_of
  farther i m d n p h e ep ed en = rw (en, ed, ep, points_next xs ys i h e)

  pub farthest_so_far : (i : ℕ) (m : Float) → length xs ≤ i → farthest_from o xs ys i m ≡ m
  unfolding max_of
  farthest_so_far i m h = rw (points_end xs ys i h)

-- ---- the coefficients

module _ (d o : Vec2) (scale top : Float) (xs ys ws : List Float) where
  -- from the i-th on
  abbrev pub off_from : ℕ → List Float
  off_from i = off_each d o scale (zip_points (drop i xs) (drop i ys)) (map (λ w. w ⊘ top) (drop i ws))

  pub off_next : (c : List Float) (i : ℕ) (p : Vec2) (x : Float) → i < length xs → length ys ≡ length xs → length ws ≡ length xs → i < length c
      → p ≡ point_in xs ys i → x ≡ off d o scale p (get_or ws i nan ⊘ top)
      → take (i + 1) (set c i x) ++ off_from (i + 1) ≡ take i c ++ off_from i
  unfolding off_each
  off_next c i p x h e f g ep ex =
      let k : i < length ws = omega arith in
      pushed _ c i x g ∙ rw (ex, ep, points_next xs ys i h e, drop-cons ws i nan k, add-one)

  pub off_all : (c : List Float) (i : ℕ) → i ≤ length xs → length xs ≤ i → take i c ++ off_from i ≡ off_from 0 → take (length xs) c ≡ off_from 0
  unfolding off_each
  off_all c i g h e =
      let n : length xs ≡ i = omega arith in
      rw n (sym (append-nil (take i c)) ∙ (rw (points_end xs ys i h) at e))

-- ---- nothing but tiny coefficients

abbrev pub small : Float → Bool
small a = lt a 1e-28

abbrev pub tiny : Float → Bool
tiny x = small (abs x)

module _ (c : List Float) (i : ℕ) where
  pub not_tiny : i < length c → tiny (get_or c i nan) ≡ false → every tiny (drop i c) ≡ false
  not_tiny h e = rw (drop-cons c i nan h, e)

  pub tiny_too : i < length c → tiny (get_or c i nan) ≡ true → every tiny (drop (i + 1) c) ≡ every tiny (drop i c)
  tiny_too h e = rw (drop-cons c i nan h, e, add-one)

  pub all_tiny : length c ≤ i → every tiny (drop i c) ≡ true
  all_tiny h = rw (drop_of_length-le c h)

pub every_is : {A : Type 0} (f : A → Bool) (l : List A) → list_all f l ≡ every f l
every_is f [] = refl
every_is f (x ∷ l) = ap (λ b. f x && b) (every_is f l)
