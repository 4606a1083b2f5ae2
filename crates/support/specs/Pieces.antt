-- What a call is given and what it answers, in the terms of the definitions. Definitions only.
use Rattle.std.specs.Prelude.{ℕ, ◌&&◌, List, [], ◌∷◌, ◌++◌, map, ◌≡◌, leb, length, take, drop, get_or, Float}
use Rattle.std.specs.Float.{nan}
use Rattle.geom.specs.Plane.{vec}
use Rattle.geom.specs.declared.Vec2.{Vec2}
use Rattle.support.specs.declared.Piece.{Piece}
use Rattle.support.specs.declared.Piece.TheVariants.{Analytic, Bezier, Conic}
use Rattle.bernstein.specs.Answers.{Answer, Found, Refused}
use Rattle.support.specs.Freeform.{Freeform, bezier, conic}
use Rattle.support.specs.Hits.{HitsResult, found, refused, guard_hits, shape_hits, freeform_hits}

-- ---- what is given

-- points by their coordinates, as many as both lists have
unfoldable pub zip_points : List Float → List Float → List Vec2
zip_points [] ys = []
zip_points (x ∷ xs) [] = []
zip_points (x ∷ xs) (y ∷ ys) = vec x y ∷ zip_points xs ys

-- the one at a place
abbrev pub point_in : List Float → List Float → ℕ → Vec2
point_in xs ys k = vec (get_or xs k nan) (get_or ys k nan)

-- a Bézier curve has all of the points
abbrev pub bezier_of : List Float → List Float → Freeform
bezier_of xs ys = bezier (zip_points xs ys)

-- a conic has the first three, its apex in the middle
abbrev pub conic_of : Float → List Float → List Float → Freeform
conic_of w xs ys = conic (point_in xs ys 0) (point_in xs ys 1) (point_in xs ys 2) w

-- where the endless line from a to b meets a piece; a Bézier curve has the first n of the points
unfoldable pub hits_of : Vec2 → Vec2 → Piece → List Float → List Float → ℕ → HitsResult
hits_of a b (Analytic sh) xs ys budget = shape_hits a b sh budget
hits_of a b (Bezier n) xs ys budget = freeform_hits a b (bezier_of (take n xs) (take n ys)) budget
hits_of a b (Conic w) xs ys budget = freeform_hits a b (conic_of w xs ys) budget

-- 25 where fewer than 28 floats are lent for either coordinate
unfoldable pub with_room : List Float → List Float → ℕ → HitsResult → HitsResult
with_room hx hy budget o = guard_hits (leb 28 (length hx) && leb 28 (length hy)) 25 budget o

-- ---- what is answered and left in the lent floats

unfoldable pub answer_of : HitsResult → Answer
answer_of (found l b) = Found (length l) b
answer_of (refused n b) = Refused n b

unfoldable pub list_of : HitsResult → List Vec2
list_of (found l b) = l
list_of (refused n b) = []

-- the hits lie at the front, and the rest is unchanged: all of it where the call is refused
pub record HitsWritten (o : HitsResult) (hx hy laterX laterY : List Float) (r : Answer) : Type 0 where
  pub answer : r ≡ answer_of o
  pub across : laterX ≡ map (λ p. p.x) (list_of o) ++ drop (length (list_of o)) hx
  pub up : laterY ≡ map (λ p. p.y) (list_of o) ++ drop (length (list_of o)) hy
