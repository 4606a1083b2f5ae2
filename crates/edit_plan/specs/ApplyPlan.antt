-- A plan applied to a drawing: additions, then a removal, nothing, or a test of the relations. Definitions only.
use Rattle.std.specs.Prelude.{ℕ, Bool, List, [], ◌∷◌, map}
use Rattle.std.proofs.Math.Option.{Option, some, none}
use Rattle.geom.specs.declared.Vec2.{Vec2}
use Rattle.sketch.specs.declared.Curve.{Curve}
use Rattle.sketch.specs.Lists.{ite}
use Rattle.sketch.specs.Drawing.{Drawing, Limits, curve_in}
use Rattle.edit_plan.specs.declared.Pin.{Pin}
use Rattle.edit_plan.specs.declared.PinnedPoint.{PinnedPoint}
use Rattle.edit_plan.specs.declared.Plan.{Plan}
use Rattle.edit_plan.specs.declared.Plan.TheVariants.{Whole, Cut, CutTwo, Divide, DivideTwo, Move}
use Rattle.edit_plan.specs.declared.Removed.{Removed}
use Rattle.edit_plan.specs.Outcome.{Outcome, refused, accepted, ◌then◌, guard}
use Rattle.edit_plan.specs.Tables.{ok_position, move_point}
use Rattle.edit_plan.specs.Steps.{ends_of, release_extent, split_at, pin, pin_all, tie, swap, nothing, removal}

-- where the removed piece is the first, the curve keeps its id and takes the geometry of the second, which is removed in its stead; then what stays is tied
unfoldable pub remove_piece : Limits → ℕ → Bool → List ℕ → Drawing → Outcome Drawing Removed
remove_piece m t first_goes [] d = refused 12
remove_piece m t first_goes (g ∷ is) d = tie m (ite first_goes (swap t g d) d) t is then (λ d' u. removal g d')

-- cut at the places, pinned there, without the removed piece
abbrev pub cut : Limits → Drawing → Curve → List PinnedPoint → Bool → Outcome Drawing Removed
cut m d c ws first_goes =
    split_at m (release_extent c.id c.kind d) c (map (λ w. w.at) ws)
    then (λ d' q. pin_all m d' q.points ws then (λ d'' u. remove_piece m c.id first_goes q.pieces d''))

-- cut at the places, all pieces tied
abbrev pub divide : Limits → Drawing → Curve → List Vec2 → Outcome Drawing Removed
divide m d c vs =
    split_at m (release_extent c.id c.kind d) c vs then (λ d' q. tie m d' c.id q.pieces then (λ d'' u. accepted d'' nothing))

-- 19 where the relations are not met afterwards
unfoldable pub check_met : (Drawing → Bool) → Drawing → Outcome Drawing Removed
check_met met d = guard (met d) 19 (accepted d nothing)

-- an end moved, its place tested before it is pinned there
unfoldable pub move_end : (Drawing → Bool) → Limits → Drawing → Bool → Vec2 → Pin → Option (ℕ × ℕ) → Outcome Drawing Removed
move_end met m d at_end v w none = refused 10
move_end met m d at_end v w (some e) =
    let p : ℕ = ite at_end e.1 e.0 in
    guard (ok_position v) 24 (pin m (move_point p v d) p w then (λ d' u. check_met met d'))

-- `met` says whether every relation of a drawing is met
unfoldable pub apply_plan_to : (Drawing → Bool) → Limits → Drawing → Curve → Plan → Outcome Drawing Removed
apply_plan_to met m d c Whole = removal c.id d
apply_plan_to met m d c (Cut w first_goes) = cut m d c (w ∷ []) first_goes
apply_plan_to met m d c (CutTwo w v first_goes) = cut m d c (w ∷ v ∷ []) first_goes
apply_plan_to met m d c (Divide v) = divide m d c (v ∷ [])
apply_plan_to met m d c (DivideTwo v u) = divide m d c (v ∷ u ∷ [])
apply_plan_to met m d c (Move at_end v w) = move_end met m d at_end v w (ends_of c.kind)

unfoldable pub apply_plan_at : (Drawing → Bool) → Limits → Drawing → Plan → Option Curve → Outcome Drawing Removed
apply_plan_at met m d plan none = refused 8
apply_plan_at met m d plan (some c) = apply_plan_to met m d c plan

-- the plan for the curve t
abbrev pub apply_plan : (Drawing → Bool) → Limits → Drawing → ℕ → Plan → Outcome Drawing Removed
apply_plan met m d t plan = apply_plan_at met m d plan (curve_in d.curves t)
