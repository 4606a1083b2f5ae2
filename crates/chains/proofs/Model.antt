-- A desk and a wall with an edit and a message as plain as can be, over the tables of a drawing: all that the claim asks for can be met, and a short list of
-- calls and a short life of the wall show what it says.
use mathlib.Core.Path.{◌≡◌, refl}
use mathlib.Core.Bool.{Bool, true, false, not, ◌&&◌}
use mathlib.Core.List.{List, [], ◌∷◌, ◌++◌, Memᴰ}
use mathlib.Core.Logic.{inl, inr}
use Prim.Native.Nat.{ℕ}
use native.Mathlib.Omega.{arith}
use lib.Dec.{eqb}
use lib.Ieee.{Float, le, neg, of_bits}
use Rattle.float.specs.Numbers.{0f, 1f, 4f}
use Rattle.geom.specs.declared.Vec2.{Vec2}
use Rattle.sketch.specs.declared.Point.{Point}
use Rattle.sketch.specs.declared.Curve.{Curve}
use Rattle.sketch.specs.declared.CurveKind.TheVariants.{Line}
use Rattle.sketch.specs.declared.Relation.TheVariants.{PointOnCurve, Collinear}
use Rattle.sketch.specs.Lists.{ite, guard_number}
use Rattle.sketch.specs.Lookup.{among}
use Rattle.sketch.specs.Drawing.{Drawing, limits, curve_in, uses_of, points_of}
use Rattle.sketch.specs.Valid.{ok_coordinate, sort_of, ok_number, in_slots, distinct}
use Rattle.sketch.specs.Facts.{Valid}
use Rattle.sketch.proofs.Bools.{and_left, and_right}
use Rattle.sketch.proofs.Facts.{fault_valid}
use Rattle.edit_plan.specs.declared.Pin.TheVariants.{On}
use Rattle.edit_plan.specs.declared.Plan.{Plan}
use Rattle.edit_plan.specs.declared.Plan.TheVariants.{Cut, Divide}
use Rattle.edit_plan.specs.declared.Removed.{Removed}
use Rattle.edit_plan.specs.Outcome.{Outcome, accepted, guard}
use Rattle.edit_plan.specs.Tables.{new_point, new_curve, curves_of}
use Rattle.edit_plan.specs.Steps.{ends_of, ends_at, release_relation, pieces_of, add_pieces, pin, swap_kinds, reported, nothing}
use Rattle.edit_plan.specs.ApplyPlan.{remove_piece, apply_plan_to, apply_plan_at, apply_plan}
use Rattle.edit_plan.specs.Suited.{Pinned}
use Rattle.edit_plan.proofs.Every.{differ_is}
use Rattle.agreement.specs.Machines.{State, initial, Decoded, invalid, message, Protocol, Call, desk_refused, desk_accepted, DeskStep, messages, DeskRun, wall_refused, wall_old, wall_applied, WallEvent, started, delivered, WallLife, FromDesk}
use Rattle.agreement.specs.Agreement.{desk_log, entries_between}
use Rattle.agreement.specs.Families.{family}
use Rattle.agreement.specs.Demand.{Demand3}
use Rattle.agreement.proofs.Wall.{Read}
use Rattle.chains.specs.CurveView.{ids, curve_view}
use Rattle.chains.proofs.Edits.{Planned, planned_demand_3}

-- ---- an edit: the curve is cut at (1, 0) by another, and its first piece goes; or, where `by` is 0, it is divided there

pub record Order : Type 0 where
  pub curve : ℕ
  pub by : ℕ

abbrev target : Order → ℕ
target e = e.curve

abbrev here : Vec2
here = record { x = 1f; y = 0f }

abbrev met : Drawing → Bool
met d = true

abbrev cut_by : ℕ → Plan
cut_by by = Cut (record { at = here; pin = On by }) true

abbrev stands : Drawing → Order → Bool
stands d e = not (eqb e.by e.curve) && among e.by (ids d)

abbrev edit : Drawing → Order → Outcome Drawing Removed
edit d e =
    ite (eqb e.by 0) (apply_plan met limits d e.curve (Divide here))
    (guard (stands d e) 8 (apply_plan met limits d e.curve (cut_by e.by)))

-- ---- a message: three numbers

abbrev encode : ℕ → Order → List ℕ
encode n e = n ∷ e.curve ∷ e.by ∷ []

abbrev decode : List ℕ → Decoded Order
decode [] = invalid 1
decode (n ∷ []) = invalid 1
decode (n ∷ c ∷ []) = invalid 1
decode (n ∷ c ∷ b ∷ []) = message n (record { curve = c; by = b })
decode (n ∷ c ∷ b ∷ x ∷ xs) = invalid 1

abbrev rules : Protocol Drawing Order Removed
rules = record { edit = edit; place = λ d e n. 0; message_size = 3; encode = encode; decode = decode }

read : Read rules (Valid limits)
read d e d' r v q n a b = refl

planned : Planned target met limits edit
unfolding guard
planned d e d' r v q = go (eqb e.by 0) q
  where
    cutting : (b : Bool) → stands d e ≡ b → guard b 8 (apply_plan met limits d e.curve (cut_by e.by)) ≡ accepted d' r → (plan : Plan) × Pinned d e.curve plan × (apply_plan met limits d e.curve plan ≡ accepted d' r)
    cutting true h q =
        let apart = not (eqb e.by e.curve) in
        let there = among e.by (ids d) in
        (cut_by e.by, (differ_is e.by e.curve (and_left apart there h), and_right apart there h), q)
    cutting false h q = let z : ◌≡◌ {A = ℕ} 0 1 = cc in absurd (omega arith)

    go : (b : Bool) → ite b (apply_plan met limits d e.curve (Divide here)) (guard (stands d e) 8 (apply_plan met limits d e.curve (cut_by e.by))) ≡ accepted d' r → (plan : Plan) × Pinned d e.curve plan × (apply_plan met limits d e.curve plan ≡ accepted d' r)
    go true q = (Divide here, tt, q)
    go false q = cutting (stands d e) refl q

pub model_correct :
    (start : Drawing) (desk : List (DeskStep Drawing Order Removed)) → Valid limits start → DeskRun rules (initial start) desk
    → (life : List (WallEvent Drawing Removed)) → WallLife rules (initial start) life → FromDesk rules (initial start) desk life
    → Demand3 rules curve_view target start desk life
model_correct = planned_demand_3 target met limits rules planned read

-- ---- a list of calls, and a life

abbrev at : ℕ → Float → Float → Point
at i x y = new_point i (record { x = x; y = y })

abbrev line : ℕ → ℕ → ℕ → Curve
line i a b = new_curve i (Line a b) false

-- a line from 1 to 2, crossed by a line from 4 to 5
abbrev crossed : Drawing
crossed =
    record {
      next = 7;
      points = at 1 0f 0f ∷ at 2 4f 0f ∷ at 4 1f (neg 1f) ∷ at 5 1f 1f ∷ [];
      curves = line 3 1 2 ∷ line 6 4 5 ∷ [];
      relations = [];
    }

abbrev trimmed : Drawing
trimmed =
    record {
      next = 9;
      points = at 2 4f 0f ∷ at 4 1f (neg 1f) ∷ at 5 1f 1f ∷ at 7 1f 0f ∷ [];
      curves = line 3 7 2 ∷ line 6 4 5 ∷ [];
      relations = PointOnCurve 7 6 ∷ [];
    }

abbrev divided : Drawing
divided =
    record {
      next = 11;
      points = at 2 4f 0f ∷ at 4 1f (neg 1f) ∷ at 5 1f 1f ∷ at 7 1f 0f ∷ at 9 1f 0f ∷ [];
      curves = line 3 7 9 ∷ line 6 4 5 ∷ line 10 9 2 ∷ [];
      relations = PointOnCurve 7 6 ∷ Collinear 3 10 ∷ [];
    }

abbrev state : Drawing → ℕ → State Drawing
state d n = record { drawing = d; count = n }

abbrev trim : Order
trim = record { curve = 3; by = 6 }

abbrev divide : Order
divide = record { curve = 3; by = 0 }

abbrev call : Order → ℕ → Call Order
call e room = record { edit = e; room = room }

-- a trim; a division whose buffer is too short; the division
abbrev trims : List (DeskStep Drawing Order Removed)
trims = record { call = call trim 3; state = state trimmed 1; reply = desk_accepted (record { curve = 8; from = 1; to = 7 }) (1 ∷ 3 ∷ 6 ∷ []) } ∷ []

abbrev divides : List (DeskStep Drawing Order Removed)
divides =
    record { call = call divide 2; state = state trimmed 1; reply = desk_refused 25 0 }
    ∷ record { call = call divide 3; state = state divided 2; reply = desk_accepted nothing (2 ∷ 3 ∷ 0 ∷ []) }
    ∷ []

abbrev desk : List (DeskStep Drawing Order Removed)
desk = trims ++ divides

-- the second message, ahead; the first; a message that is not read; a start with what the desk had at first; the second message, ahead; a start with what the
-- desk had after the trim; the first message, old; the second
abbrev life : List (WallEvent Drawing Removed)
life =
    delivered (record { bytes = 2 ∷ 3 ∷ 0 ∷ []; state = state crossed 0; reply = wall_refused 7 0 })
    ∷ delivered (record { bytes = 1 ∷ 3 ∷ 6 ∷ []; state = state trimmed 1; reply = wall_applied (record { curve = 8; from = 1; to = 7 }) })
    ∷ delivered (record { bytes = 2 ∷ 3 ∷ 6 ∷ 0 ∷ []; state = state trimmed 1; reply = wall_refused 1 0 })
    ∷ started (state crossed 0)
    ∷ delivered (record { bytes = 2 ∷ 3 ∷ 0 ∷ []; state = state crossed 0; reply = wall_refused 7 0 })
    ∷ started (state trimmed 1)
    ∷ delivered (record { bytes = 1 ∷ 3 ∷ 6 ∷ []; state = state trimmed 1; reply = wall_old })
    ∷ delivered (record { bytes = 2 ∷ 3 ∷ 0 ∷ []; state = state divided 2; reply = wall_applied nothing })
    ∷ []

crossed_valid : Valid limits crossed
unfolding guard_number ok_coordinate sort_of ok_number in_slots distinct uses_of le neg of_bits
crossed_valid = fault_valid limits crossed refl

-- what the edits compute by
unfoldable opened : Unit {0}
unfolding guard apply_plan_at curve_in apply_plan_to ok_coordinate le neg of_bits add_pieces pieces_of pin remove_piece swap_kinds uses_of curves_of points_of release_relation reported ends_at ends_of
opened = tt

desk_run : DeskRun rules (initial crossed) desk
unfolding opened
desk_run = (record { state = refl; reply = refl }, (record { state = refl; reply = refl }, (record { state = refl; reply = refl }, tt)))

wall_life : WallLife rules (initial crossed) life
unfolding opened
wall_life = (record { state = refl; reply = refl }, (record { state = refl; reply = refl }, (record { state = refl; reply = refl }, (record { state = refl; reply = refl }, (record { state = refl; reply = refl }, (record { state = refl; reply = refl }, tt))))))

from_desk : FromDesk rules (initial crossed) desk life
from_desk = (inl second, (inl first, (inr (1, refl), (([], desk, refl, refl), (inl second, ((trims, divides, refl, refl), (inl first, (inl second, tt))))))))
  where
    first : Memᴰ (1 ∷ 3 ∷ 6 ∷ []) (messages desk)
    first = Memᴰ.head refl

    second : Memᴰ (2 ∷ 3 ∷ 0 ∷ []) (messages desk)
    second = Memᴰ.tail (Memᴰ.head refl)

pub example_correct : Demand3 rules curve_view target crossed desk life
example_correct = model_correct crossed desk crossed_valid desk_run life wall_life from_desk

-- the line's family: itself, the piece that the trim removed, the piece that the division added
pub example_family : family curve_view target crossed (3 ∷ []) (desk_log rules crossed desk) ≡ 3 ∷ 8 ∷ 10 ∷ []
unfolding opened
example_family = refl

-- and on the wall, which was started again after the trim: the line that then stood, the piece that the division added
pub example_family_since : family curve_view target trimmed (3 ∷ []) (entries_between rules crossed desk 1 2) ≡ 3 ∷ 10 ∷ []
unfolding opened
example_family_since = refl
