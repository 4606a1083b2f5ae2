-- What is measured of a curve. Assumes nothing.
use mathlib.Core.Path.{◌≡◌, refl, sym, ap}
use mathlib.Core.Bool.{false}
use mathlib.Core.List.{[], ◌∷◌}
use mathlib.Core.Option.{Option, some, none}
use Rattle.std.specs.Prelude.{Some, None}
use Rattle.std.specs.Prelude.{Option as Answer}
use lib.Ieee.{Float, nan, inf, fin, add, sub, mul, neg, le}
use Rattle.float.specs.Root.{sqrt}
use Rattle.float.specs.Numbers.{◌⊕◌, ◌⊖◌, ◌⊗◌, √, ½}
use Rattle.float.specs.Thresholds.{at_1e-7, most_of}
use Rattle.float.proofs.Lengths.{exact_1e-7}
use Rattle.geom.specs.Plane.{◌+ᵥ◌, ◌-ᵥ◌, ◌·ᵥ◌, dot, distance}
use Rattle.geom.specs.declared.Vec2.{Vec2}
use Rattle.geom.proofs.Distances.{distance_at_most}
use Rattle.shape.specs.Measures.{project, dist, dist2}
use Rattle.shape.specs.declared.Shape.{Shape}
use Rattle.shape.specs.declared.Shape.TheVariants as S
use Rattle.shape.proofs.Offsets.{dist_at_most}
use Rattle.sketch_geometry.specs.Geometry.{nowhere}
use Rattle.sketch_geometry.specs.Positions.{shape_found}
use Rattle.relations.specs.Met.{small, close, on, length_or_radius_of, line_end_points, line_midpoint}
use Rattle.relations.specs.Whole.{whole}

-- ---- by squares

pub close_by_square : (p q : Vec2) → le (dot (p -ᵥ q) (p -ᵥ q)) (most_of at_1e-7) ≡ close p q
close_by_square p q = sym (distance_at_most at_1e-7 exact_1e-7 p q)

pub on_by_square : (sh : Shape) (p : Vec2) → le (dist2 sh p) (most_of at_1e-7) ≡ on (some sh) p
unfolding on
on_by_square sh p = sym (dist_at_most at_1e-7 exact_1e-7 sh p)

-- ---- no numbers

less_nan : (x : Float) → x ⊖ nan ≡ nan
unfolding sub add neg
less_nan nan = refl
less_nan (inf s) = refl
less_nan (fin s m e) = refl

none_small : small (√ (nan ⊗ nan ⊕ nan ⊗ nan)) ≡ false
unfolding mul add sqrt le
none_small = refl

-- no point is close to nowhere
pub never_close : (p : Vec2) → false ≡ close p nowhere
never_close p = sym (rw (less_nan p.x, less_nan p.y) none_small)

-- ---- of a shape that was found

module _ {o : Answer Shape} {sh : Shape} (e : o ≡ Some sh) where
  module _ {a b : Vec2} (f : sh ≡ S.Line a b) where
    is_line_lem : shape_found o ≡ some (S.Line a b)
    is_line_lem = rw (e, f)

    pub line_length : length_or_radius_of (shape_found o) ≡ distance a b
    unfolding length_or_radius_of
    line_length = ap length_or_radius_of is_line_lem

    pub line_ends : line_end_points (shape_found o) ≡ a ∷ b ∷ []
    unfolding line_end_points
    line_ends = ap line_end_points is_line_lem

    pub line_middle : line_midpoint (shape_found o) ≡ (a +ᵥ b) ·ᵥ ½
    unfolding line_midpoint
    line_middle = ap line_midpoint is_line_lem

  module _ {c : Vec2} {r start sweep : Float} (f : sh ≡ S.Round c r start sweep) where
    is_round_lem : shape_found o ≡ some (S.Round c r start sweep)
    is_round_lem = rw (e, f)

    pub round_radius : length_or_radius_of (shape_found o) ≡ r
    unfolding length_or_radius_of
    round_radius = ap length_or_radius_of is_round_lem

    pub round_no_ends : line_end_points (shape_found o) ≡ []
    unfolding line_end_points
    round_no_ends = ap line_end_points is_round_lem

    pub round_no_middle : line_midpoint (shape_found o) ≡ nowhere
    unfolding line_midpoint
    round_no_middle = ap line_midpoint is_round_lem

module _ {o : Answer Shape} (e : o ≡ None) where
  pub none_no_ends : line_end_points (shape_found o) ≡ []
  unfolding line_end_points
  none_no_ends = rw e

  pub none_no_middle : line_midpoint (shape_found o) ≡ nowhere
  unfolding line_midpoint
  none_no_middle = rw e

-- ---- an arc measures as its whole circle

pub on_whole : (o : Option Shape) (p : Vec2) → on (whole o) p ≡ on o p
unfolding on whole dist project
on_whole none p = refl
on_whole (some (S.Line a b)) p = refl
on_whole (some (S.Round c r start sweep)) p = refl

pub extent_whole : (o : Option Shape) → length_or_radius_of (whole o) ≡ length_or_radius_of o
unfolding length_or_radius_of whole
extent_whole none = refl
extent_whole (some (S.Line a b)) = refl
extent_whole (some (S.Round c r start sweep)) = refl

pub ends_whole : (o : Option Shape) → line_end_points (whole o) ≡ line_end_points o
unfolding line_end_points whole
ends_whole none = refl
ends_whole (some (S.Line a b)) = refl
ends_whole (some (S.Round c r start sweep)) = refl

pub middle_whole : (o : Option Shape) → line_midpoint (whole o) ≡ line_midpoint o
unfolding line_midpoint whole
middle_whole none = refl
middle_whole (some (S.Line a b)) = refl
middle_whole (some (S.Round c r start sweep)) = refl
