-- Laws of the walk over the roots. Assumes nothing.
use mathlib.Core.Path.{◌≡◌, refl, sym, ◌∙◌}
use mathlib.Core.List.{List, [], ◌∷◌, ◌++◌}
use mathlib.Core.Bool.{Bool, true, false, cond, ◌||◌}
use Prim.Native.Nat.{ℕ, ◌+◌, ◌≤◌, ◌<◌}
use native.Mathlib.Numerals.{add-one}
use native.Mathlib.Omega.{arith}
use lib.ListN.{length, take, drop, get_or, set, drop_of_length-le, length-set}
use lib.Seq.{drop-cons, length-take-le}
use lib.Ieee.{Float, nan, lt, le}
use Rattle.std.specs.List.{list_any, zip}
use Rattle.float.specs.Thresholds.{least_of, most_of, at_1e-7}
use Rattle.float.proofs.Lengths.{exact_1e-7}
use Rattle.float.specs.Numbers.{1e-7}
use Rattle.geom.specs.Plane.{vec, ◌-ᵥ◌, dot}
use Rattle.geom.specs.declared.Vec2.{Vec2}
use Rattle.geom.proofs.Distances.{distance_below}
use Rattle.shape.specs.declared.Shape.{Shape}
use Rattle.shape.specs.Measures.{dist, dist2}
use Rattle.shape.proofs.Offsets.{dist_at_most}
use Rattle.bernstein.specs.Answers.{Found, Refused}
use Rattle.support.specs.Freeform.{Freeform, point_at}
use Rattle.support.specs.Hits.{found, refused, guard_hits, has_near_hit, resolved}
use Rattle.support.specs.Pieces.{zip_points, answer_of, list_of}
use Rattle.support.specs.Clauses.{HitsAtFront}
use Rattle.support.proofs.Coordinates.{points_length, points_across, points_up, points_stored}

-- ---- near an earlier hit

-- by the square of the distance, where the point is given by its coordinates
abbrev pub near : Vec2 → Float × Float → Bool
near q p = let d = vec p.0 p.1 -ᵥ q in lt (dot d d) (least_of at_1e-7)

pub near_hits : (q : Vec2) (xs ys : List Float) → list_any (near q) (zip xs ys) ≡ has_near_hit q (zip_points xs ys)
unfolding has_near_hit zip_points
near_hits q [] ys = refl
near_hits q (x ∷ xs) [] = refl
near_hits q (x ∷ xs) (y ∷ ys) = rw (distance_below at_1e-7 exact_1e-7 (vec x y) q) (go (near q (x, y)) (near_hits q xs ys))
  where
    go : (t : Bool) {a b : Bool} → a ≡ b → t || a ≡ cond t true b
    go true e = refl
    go false e = e

-- ---- the points at the roots

-- of the roots ts i are done, and k points are kept
pub record Walk (line : Shape) (f : Freeform) (ts : List Float) (b : ℕ) (qx₀ qy₀ : List Float) (k i : ℕ) (qx qy : List Float) : Type 0 where
  pub within : i ≤ length ts
  pub behind : k ≤ i
  pub room_x : length ts ≤ length qx
  pub room_y : length ts ≤ length qy
  pub same_x : length qx ≡ length qx₀
  pub same_y : length qy ≡ length qy₀
  pub rest : resolved line f (zip_points (take k qx) (take k qy)) (drop i ts) b ≡ resolved line f [] ts b

module _ (line : Shape) (f : Freeform) (ts : List Float) (b : ℕ) (qx₀ qy₀ : List Float) where
  pub start : length ts ≤ length qx₀ → length ts ≤ length qy₀ → Walk line f ts b qx₀ qy₀ 0 0 qx₀ qy₀
  unfolding zip_points
  start h g = record { within = omega arith; behind = omega arith; room_x = h; room_y = g; same_x = refl; same_y = refl; rest = refl }

  module _ (k i : ℕ) (qx qy : List Float) (w : Walk line f ts b qx₀ qy₀ k i qx qy) where
    abbrev kept : List Vec2
    kept = zip_points (take k qx) (take k qy)

    fits_x : k ≤ length qx
    fits_x = omega (arith, w.behind, w.within, w.room_x)

    fits_y : k ≤ length qy
    fits_y = omega (arith, w.behind, w.within, w.room_y)

    pub count_x : k ≡ length (take k qx)
    count_x = sym (length-take-le k qx fits_x)

    pub count_y : k ≡ length (take k qy)
    count_y = sym (length-take-le k qy fits_y)

    pub paired : length (take k qy) ≡ length (take k qx)
    paired = sym count_y ∙ count_x

    pub finish : length ts ≤ i → HitsAtFront (resolved line f [] ts b) qx qy (Found k b)
    unfolding resolved answer_of list_of
    finish h =
        let o : resolved line f [] ts b ≡ found kept b = sym (rw (drop_of_length-le ts h) at w.rest) in
        let e : length (take k qy) ≡ length (take k qx) = paired in
        let l : length kept ≡ k = points_length (take k qx) (take k qy) e ∙ sym count_x in
        rw o (record { answer = rw l; across = rw (l, points_across (take k qx) (take k qy) e); up = rw (l, points_up (take k qx) (take k qy) e) })

    module _ (h : i < length ts) (q : Vec2) (eq : q ≡ point_at f (get_or ts i nan)) (s : Float) (es : s ≡ dist2 line q) where
      by_square₂ : le s (most_of at_1e-7) ≡ le (dist line q) 1e-7
      by_square₂ = rw es (sym (dist_at_most at_1e-7 exact_1e-7 line q))

      step : resolved line f kept (drop i ts) b ≡ guard_hits (le (dist line q) 1e-7) 16 b (resolved line f (cond (has_near_hit q kept) kept (kept ++ q ∷ [])) (drop (i + 1) ts) b)
      unfolding resolved
      step = rw (eq, add-one, drop-cons ts i nan h)

      pub astray : le s (most_of at_1e-7) ≡ false → HitsAtFront (resolved line f [] ts b) qx qy (Refused 16 b)
      unfolding guard_hits answer_of list_of
      astray t =
          let d : le (dist line q) 1e-7 ≡ false = sym by_square₂ ∙ t in
          let o : resolved line f [] ts b ≡ refused 16 b = sym w.rest ∙ step ∙ rw d in
          rw o (record { answer = refl; across = refl; up = refl })

      module _ (t : le s (most_of at_1e-7) ≡ true) where
        on : le (dist line q) 1e-7 ≡ true
        on = sym by_square₂ ∙ t

        pub skip : has_near_hit q kept ≡ true → Walk line f ts b qx₀ qy₀ k (i + 1) qx qy
        unfolding guard_hits
        skip n = record {
          within = omega arith;
          behind = omega (arith, w.behind);
          room_x = w.room_x;
          room_y = w.room_y;
          same_x = w.same_x;
          same_y = w.same_y;
          rest = sym (step ∙ rw (on, n)) ∙ w.rest;
        }

        pub push : has_near_hit q kept ≡ false → Walk line f ts b qx₀ qy₀ (k + 1) (i + 1) (set qx k q.x) (set qy k q.y)
        unfolding guard_hits
        push n =
            let x : k < length qx = omega (arith, w.behind, w.room_x) in
            let y : k < length qy = omega (arith, w.behind, w.room_y) in
            record {
              within = omega arith;
              behind = omega (arith, w.behind);
              room_x = omega (arith, w.room_x, length-set qx k q.x);
              room_y = omega (arith, w.room_y, length-set qy k q.y);
              same_x = length-set qx k q.x ∙ w.same_x;
              same_y = length-set qy k q.y ∙ w.same_y;
              rest = rw (points_stored q qx qy k x y) (sym (step ∙ rw (on, n)) ∙ w.rest);
            }
