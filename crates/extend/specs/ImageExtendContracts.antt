-- The contracts of the functions that plan an extend from an image's records, which nothing outside needs. Definitions only.
use Rattle.std.specs.Prelude.{ℕ, ◌<◌, ◌≡◌, Bool, true, false, List, map, length, get_or, eqb, Option, Result, Ok, Err}
use Rattle.std.proofs.Math.Option.{some}
use Rattle.geom.specs.declared.Vec2.{Vec2}
use Rattle.sketch.specs.declared.Curve.{Curve}
use Rattle.sketch.specs.Lists.{ite, every}
use Rattle.sketch.specs.Blanks.{no_point, no_curve}
use Rattle.sketch.specs.Lookup.{among}
use Rattle.sketch.specs.Drawing.{Drawing, point_ids}
use Rattle.image.specs.Image.{drawing_of, image_fault}
use Rattle.image.specs.Stored.{Binary64}
use Rattle.relations.specs.Met.{met, all_met}
use Rattle.edit_plan.specs.Tables.{moved, uses, others}
use Rattle.edit_plan.specs.declared.Pin.{Pin}
use Rattle.edit_plan.specs.declared.Removed.{Removed}
use Rattle.edit_plan.specs.Outcome.{Outcome, refused}
use Rattle.edit_plan.specs.Steps.{ends_of}
use Rattle.edit_plan.specs.ApplyPlan.{check_met}
use Rattle.apply.specs.Moved.{pinned_by, point_at_place, drawing_moved, move_refusal}
use Rattle.extend.specs.Answers.{ImageAnswer}
use Rattle.extend.specs.ExtendAnswer.{reported_place}
use Rattle.extend.specs.ImageExtend.{if_fits, OutcomeWritten}
use Rattle.hit_search.specs.declared.Nearest.{Nearest}
use Rattle.hit_search.specs.NearestHit.{Support, finished}
use Rattle.hit_search.specs.Values.{best_in}
use Rattle.refusal.specs.declared.Refusal.{Refusal}
use Rattle.extend.specs.declared.EndMove.{EndMove}
use Rattle.extend.specs.Extend.{plan_move, extend_end, extend_curve}
use Rattle.extend.specs.ExtendContracts.{plan_of, MovesAt}

abbrev pub PlansMoveIn : List ℕ → Option Nearest → Bool → ℕ → Result EndMove Refusal → Type 0
PlansMoveIn s best at_b k r = (image_fault s ≡ 0 → plan_of r ≡ plan_move (drawing_of s) at_b (finished (best_in best))) × MovesAt at_b k r

-- the point at place k is an end of the curve `id` that may move: no other curve uses it, and it is not fixed
pub record FreeEnd (d : Drawing) (id end k : ℕ) : Type 0 where
  pub within : k < length d.points
  pub is : (get_or d.points k no_point).id ≡ end
  pub unshared : among end (uses (others id d.curves)) ≡ false
  pub loose : (get_or d.points k no_point).fixed ≡ false

-- a move is of that end
abbrev pub FreeAt : Drawing → ℕ → Bool → ℕ → Result EndMove Refusal → Type 0
FreeAt d id at_b end (Err r) = Unit {0}
FreeAt d id at_b end (Ok m) = (m.at_b ≡ at_b) × FreeEnd d id end m.place

pub record EndIn (d : Drawing) (id : ℕ) (p : Vec2) (l : Support) (end : ℕ) (r : Result EndMove Refusal) : Type 0 where
  pub plan : plan_of r ≡ extend_end d id p l end
  pub place : FreeAt d id l.at_b end r

-- of a good image that has the end among its points
abbrev pub PlansEndIn : List ℕ → ℕ → Vec2 → Support → ℕ → Result EndMove Refusal → Type 0
PlansEndIn s id p l end r = image_fault s ≡ 0 → among end (point_ids (drawing_of s).points) ≡ true → EndIn (drawing_of s) id p l end r

-- a move is of one of the curve's ends, b or (false) a
abbrev pub MovesEnd : Drawing → Curve → Result EndMove Refusal → Type 0
MovesEnd d c (Err r) = Unit {0}
MovesEnd d c (Ok m) = (e : ℕ × ℕ) × (ends_of c.kind ≡ some e) × FreeEnd d c.id (ite m.at_b e.1 e.0) m.place

pub record ExtendIn (d : Drawing) (c : Curve) (p : Vec2) (r : Result EndMove Refusal) : Type 0 where
  pub plan : plan_of r ≡ extend_curve d p c c.kind
  pub place : MovesEnd d c r

-- the plan of the extend of the curve at a place of a good image whose relations are met
abbrev pub PlansExtendIn : List ℕ → ℕ → Vec2 → Result EndMove Refusal → Type 0
PlansExtendIn s place p r =
    image_fault s ≡ 0 → place < length (drawing_of s).curves → all_met (drawing_of s) ≡ true → ExtendIn (drawing_of s) (get_or (drawing_of s).curves place no_curve) p r

-- ---- the move

-- the move of the point at place k to v, pinned there, with a test of relations at its end
abbrev pub move_in : (Drawing → Bool) → Drawing → ℕ → Vec2 → Pin → Outcome Drawing Removed
move_in met d k v w =
    let n : ℕ = move_refusal d.points d.relations k v w in
    ite (eqb n 0) (check_met met (drawing_moved d k v w)) (refused n)

-- the relation that a pin of the point p adds is met once p is at v
abbrev pub PinMet : List ℕ → Pin → ℕ → Vec2 → Bool → Type 0
PinMet s w p v r = image_fault s ≡ 0 → r ≡ every (met (map (moved p v) (drawing_of s).points) (drawing_of s).curves) (pinned_by w p)

pub record MoveAnswer (d : Drawing) (k : ℕ) (v : Vec2) (w : Pin) (before after : List ℕ) (r : ImageAnswer) : Type 0 where
  pub written : OutcomeWritten (if_fits (length before) (move_in all_met d k v w)) before after r
  pub place : r.place ≡ reported_place d (move_in (λ d'. true) d k v w) r.refusal

-- of a point of a good image, whose relations are met, that no curve but `id` uses; v is of the code's own type
abbrev pub MovesIfMet : List ℕ → ℕ → ℕ → Vec2 → Pin → List ℕ → List ℕ → ImageAnswer → Type 0
MovesIfMet s id k v w before after r =
    Binary64 v.x × Binary64 v.y
    × (image_fault s ≡ 0 → all_met (drawing_of s) ≡ true → k < length (drawing_of s).points → among (point_at_place (drawing_of s) k).id (uses (others id (drawing_of s).curves)) ≡ false
    → MoveAnswer (drawing_of s) k v w before after r)
