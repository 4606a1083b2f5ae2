-- The contracts of private functions, which nothing outside needs: what is handed on within a call. Definitions only.
use Rattle.std.specs.Prelude.{ℕ, Bool, true, cond, List, ◌∷◌, map, ◌≡◌, leb, eqb, length, take, replicate, Float}
use Rattle.float.specs.Numbers.{1f}
use Rattle.geom.specs.Plane.{distance}
use Rattle.geom.specs.declared.Vec2.{Vec2}
use Rattle.support.specs.declared.Form.{Form}
use Rattle.support.specs.declared.Form.TheVariants.{Polynomial, Rational}
use Rattle.bernstein.specs.Answers.{Answer}
use Rattle.support.specs.Freeform.{Freeform}
use Rattle.support.specs.Hits.{HitsResult, max_of}
use Rattle.support.specs.Pieces.{bezier_of, conic_of, answer_of, list_of}

-- a freeform curve by its form and the coordinates of its control points
abbrev pub freeform_of : Form → List Float → List Float → Freeform
freeform_of Polynomial xs ys = bezier_of xs ys
freeform_of (Rational w) xs ys = conic_of w xs ys

-- so many control points make a curve of that form
unfoldable pub enough_controls : Form → ℕ → Bool
enough_controls Polynomial n = leb n 8
enough_controls (Rational w) n = eqb n 3

pub record Controls (curve : Form) (xs ys : List Float) : Type 0 where
  pub paired : length ys ≡ length xs
  pub enough : enough_controls curve (length xs) ≡ true

-- of a list of eight no more can be taken
unfoldable pub at_most8 : ℕ → ℕ
at_most8 n = cond (leb n 8) n 8

-- the weights of the control points, at the front of eight
unfoldable pub weights_of : Form → List Float
weights_of Polynomial = replicate 8 1f
weights_of (Rational w) = 1f ∷ w ∷ replicate 6 1f

-- how far the farthest of the points lies from o, and 1 at least
unfoldable pub farthest_of : Vec2 → List Vec2 → Float
farthest_of o ps = max_of 1f (map (λ p. distance p o) ps)

-- what was found lies at the front, whatever is behind it
pub record HitsAtFront (o : HitsResult) (laterX laterY : List Float) (r : Answer) : Type 0 where
  pub answer : r ≡ answer_of o
  pub across : take (length (list_of o)) laterX ≡ map (λ p. p.x) (list_of o)
  pub up : take (length (list_of o)) laterY ≡ map (λ p. p.y) (list_of o)
