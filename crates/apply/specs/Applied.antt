-- A plan applied from image to image: its refusal, by counts, and the drawing made at once. Definitions only.
use Rattle.std.specs.Prelude.{ℕ, suc, ◌≡◌, List, ◌++◌, length, take, drop, set, get_or, leb, ltb, eqb}
use Rattle.big_endian.specs.Fields.{over}
use Rattle.sketch.specs.declared.Curve.{Curve}
use Rattle.sketch.specs.Lists.{ite, keep, concat_map, guard_number}
use Rattle.sketch.specs.Drawing.{Drawing}
use Rattle.sketch.specs.Blanks.{no_curve}
use Rattle.image.specs.Image.{drawing_of, image_fault}
use Rattle.image.specs.Encode.{encode}
use Rattle.edit_plan.specs.declared.Plan.{Plan}
use Rattle.edit_plan.specs.declared.Removed.{Removed}
use Rattle.edit_plan.specs.declared.Extent.{Extent}
use Rattle.edit_plan.specs.declared.Change.{Change}
use Rattle.edit_plan.specs.Tables.{others}
use Rattle.edit_plan.specs.Steps.{nothing}
use Rattle.edit_plan.specs.Suited.{suits}
use Rattle.edit_plan.specs.Room.{left_over, room_for}
use Rattle.edit_plan.specs.Changes.{is_whole, change_for, points_new, curves_new, relations_new, extent_of, orphan_list, staying, left_of, unused_by, candidates_for, whole_gone}
use Rattle.apply.specs.Answers.{Answer}

-- ---- a plan for the curve at place k

abbrev pub target_in : Drawing → ℕ → Curve
target_in d k = get_or d.curves k no_curve

abbrev pub plan_extent : Drawing → ℕ → Plan → Extent
plan_extent d k plan = extent_of (target_in d k).kind (target_in d k).id plan

-- the points that go with the curve, or with a piece of it
abbrev pub plan_orphans : Drawing → ℕ → Plan → List ℕ
plan_orphans d k plan = unused_by (others (target_in d k).id d.curves) (orphan_list (candidates_for (target_in d k).kind plan))

abbrev pub plan_change : Drawing → ℕ → Plan → Change
plan_change d k plan = change_for (target_in d k) plan d.next

-- 8 where there is no such curve, 10 where the plan doesn't suit it, then what its additions are refused by
abbrev pub plan_refusal : Drawing → ℕ → Plan → ℕ
plan_refusal d k plan =
    guard_number (ltb k (length d.curves)) 8
    (guard_number (suits (target_in d k).kind plan) 10
    (room_for (target_in d k).kind plan d.next (length d.points) (length d.curves) (left_over (plan_extent d k plan) d.relations)))

-- ---- the drawing made at once

-- the curve at place k is rewritten, and what a change adds stands last
abbrev pub changed_by : Drawing → ℕ → Extent → List ℕ → Change → Drawing
changed_by d k e os h =
    record {
      next = h.next;
      points = keep (λ p. staying os p.id) d.points ++ points_new h;
      curves = set d.curves k h.kept ++ curves_new h;
      relations = concat_map (left_of e os) d.relations ++ relations_new h;
    }

-- the curve at place k is removed
abbrev pub without_curve : Drawing → ℕ → Extent → List ℕ → Drawing
without_curve d k e os =
    record {
      next = d.next;
      points = keep (λ p. staying os p.id) d.points;
      curves = take k d.curves ++ drop (suc k) d.curves;
      relations = concat_map (left_of e os) d.relations;
    }

abbrev pub drawing_after : Drawing → ℕ → Plan → Drawing
drawing_after d k plan =
    let e = plan_extent d k plan in
    let os = plan_orphans d k plan in
    ite (is_whole plan) (without_curve d k e os) (changed_by d k e os (plan_change d k plan))

abbrev pub removed_by : Drawing → ℕ → Plan → Removed
removed_by d k plan = ite (is_whole plan) (whole_gone (plan_extent d k plan)) (plan_change d k plan).removed

-- ---- the answer

-- 25 where nothing else refuses, and the image doesn't fit
abbrev pub refusal_with : ℕ → List ℕ → List ℕ → ℕ
refusal_with n image out = ite (eqb n 0) (ite (leb (length image) (length out)) 0 25) n

-- on refusal three zeros, size 0 and all bytes as they were; else the report, the image's size, and the image in front of what stays
pub record Answered (n : ℕ) (image : List ℕ) (gone : Removed) (before after : List ℕ) (r : Answer) : Type 0 where
  pub refusal : r.refusal ≡ refusal_with n image before
  pub removed : r.removed ≡ ite (eqb r.refusal 0) gone nothing
  pub size : r.size ≡ ite (eqb r.refusal 0) (length image) 0
  pub bytes : after ≡ ite (eqb r.refusal 0) (over before 0 image) before

-- of a good image, every plan is answered so, for every place
abbrev pub PlanWritten : List ℕ → ℕ → Plan → List ℕ → List ℕ → Answer → Type 0
PlanWritten s k plan before after r =
    image_fault s ≡ 0
    → Answered (plan_refusal (drawing_of s) k plan) (encode (drawing_after (drawing_of s) k plan)) (removed_by (drawing_of s) k plan) before after r
