-- What the search answers from an image. Definitions only.
use Rattle.std.specs.Prelude.{ℕ, ◌≡◌, Bool, List, Option, Result}
use Rattle.std.proofs.Math.Option.{none}
use Rattle.geom.specs.declared.Vec2.{Vec2}
use Rattle.refusal.specs.declared.Refusal.{Refusal}
use Rattle.image.specs.Image.{drawing_of, image_fault}
use Rattle.edit_plan.specs.Tables.{others}
use Rattle.hit_search.specs.declared.Nearest.{Nearest}
use Rattle.hit_search.specs.NearestHit.{nearest_hit}
use Rattle.hit_search.specs.Values.{support, search_in}

-- of a good image
abbrev pub FindsNearestHitIn : List ℕ → Vec2 → Vec2 → Bool → Vec2 → ℕ → Result (Option Nearest) Refusal → Type 0
FindsNearestHitIn s a b at_b foot id r =
    image_fault s ≡ 0 → search_in r ≡ nearest_hit (drawing_of s).points (support a b at_b) foot (others id (drawing_of s).curves) none 1000000
