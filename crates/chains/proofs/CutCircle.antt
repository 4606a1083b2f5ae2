-- The worked example of rings: the document's steps make the drawings and reports that are written out, and what became of the circle is a ring of two arcs,
-- one of them removed; or, the circle removed whole, its own family. Assumes nothing.
use mathlib.Core.Path.{◌≡◌, refl, ap}
use mathlib.Core.Bool.{Bool, true}
use mathlib.Core.List.Memᴰ
use mathlib.Core.List.{[], ◌∷◌}
use Prim.Native.Nat.{ℕ, ◌≤◌}
use native.Mathlib.Omega.{arith}
use native.Mathlib.Decide.{ℕ_discrete}
use lib.Ieee.{le, neg, of_bits}
use Rattle.sketch.specs.Drawing.{Drawing, limits, curve_in, uses_of, points_of}
use Rattle.sketch.specs.Valid.{ok_coordinate}
use Rattle.edit_plan.specs.declared.Plan.TheVariants.{Whole, DivideTwo}
use Rattle.edit_plan.specs.Counts.{occurrences}
use Rattle.edit_plan.specs.Outcome.{accepted, guard}
use Rattle.edit_plan.specs.Tables.{curves_of}
use Rattle.edit_plan.specs.Steps.{ends_of, ends_at, release_relation, pieces_of, add_pieces, reported}
use Rattle.edit_plan.specs.ApplyPlan.{apply_plan_to, apply_plan_at, apply_plan}
use Rattle.edit_plan.proofs.Tables.{occ_same, occ_other}
use Rattle.agreement.specs.Families.{reports, centre_of, centre_at, CircleOf, circle_removed, circle_cut}
use Rattle.agreement.proofs.Counts.{one_is, at_most, there_count}
use Rattle.chains.specs.CurveView.{curve_view}
use Rattle.chains.specs.CutCircle.{east, west, wheel, uncut, two_arcs, one_arc, no_curves, split_report, arc_report, circle_report, edited_curve, cut_log, removal_log, ring}

abbrev met : Drawing → Bool
met d = true

-- what the steps compute by
unfoldable opened : Unit {0}
unfolding guard apply_plan_at curve_in apply_plan_to ok_coordinate le neg of_bits add_pieces pieces_of uses_of curves_of points_of release_relation reported ends_at ends_of centre_of
opened = tt

pub circle_split : apply_plan met limits uncut 2 (DivideTwo east west) ≡ accepted two_arcs split_report
unfolding opened
circle_split = refl

pub arc_removed : apply_plan met limits two_arcs 5 Whole ≡ accepted one_arc arc_report
unfolding opened
arc_removed = refl

pub circle_removed_lem : apply_plan met limits uncut 2 Whole ≡ accepted no_curves circle_report
unfolding opened
circle_removed_lem = refl

pub cut_reports : reports cut_log ≡ split_report ∷ arc_report ∷ []
cut_reports = refl

once : (i : ℕ) → occurrences i (2 ∷ 5 ∷ []) ≤ 1
once i = go (ℕ_discrete i 2)
  where
    go : Dec (i ≡ 2) → occurrences i (2 ∷ 5 ∷ []) ≤ 1
    go (no ne) = omega (arith, occ_other i 2 (5 ∷ []) ne, at_most i 5)
    go (yes e) = rw e (omega (arith, occ_same 2 (5 ∷ []), occ_other 2 5 [] (λ f. omega arith)))

pub cut_circle : CircleOf curve_view edited_curve uncut cut_log one_arc 2 wheel
unfolding opened
cut_circle =
    circle_cut split_report refl
    (λ e. let z : ◌≡◌ {A = ℕ} 0 2 = λ j. (e j).curve in omega arith)
    (record {
      several = omega arith;
      from = 3;
      above_zero = omega arith;
      chain =
          record {
            members = ring;
            right = (refl, ((refl, Memᴰ.tail (Memᴰ.head refl)), tt));
            joined = (refl, (refl, refl));
            each = λ i. refl;
            once = once;
          };
      centred = λ i n u. ap (λ (j : ℕ). centre_at (curve_in one_arc.curves j)) (one_is i 2 (there_count i (2 ∷ []) u));
    })

pub whole_circle_lem : CircleOf curve_view edited_curve uncut removal_log no_curves 2 wheel
whole_circle_lem = circle_removed refl refl refl
