-- The examples hold by computation.
use mathlib.Core.Path.{refl}
use Rattle.big_endian.specs.Fields.{field, bytes, over}
use Rattle.sketch.specs.Lists.{guard_number}
use Rattle.sketch.specs.Drawing.{curve_in, uses_of, points_of}
use Rattle.sketch.specs.Valid.{ok_coordinate, sort_of}
use Rattle.message.specs.Message.{message_fault, operation_of, operation_byte}
use Rattle.message.specs.Message as G
use Rattle.window.specs.Window.{all_held, due_bytes}
use Rattle.image.specs.Image.{head_fault, rows_at, result_of}
use Rattle.image.specs.Encode.{header, encode}
use Rattle.float.specs.Magnitude.{all_finite, largest_of, finite_front, magnitude_of}
use Rattle.bernstein.specs.Evaluate.{casteljau_step, casteljau_steps, evaluate_of}
use Rattle.bernstein.specs.Bisect.{middle, narrow, same_sign, bisect_of}
use Rattle.bernstein.specs.Roots.{tiny, tolerance_of, slopes, derivative_of, insert, sort_onto, dedup_after, dedup_of, knots_of, is_zero, zeros_of, no_sign_change, with_root, and_then, bisect_from, bisect_between, gathered, sorted_dedup, level_of, on_level, roots_at, roots_of}
use Rattle.shape.proofs.Opened.{opened}
use Rattle.sketch_geometry.specs.Geometry.{position_of, shape_of, shape_from}
use Rattle.relations.specs.Met.{met, on, length_or_radius_of}
use Rattle.support.specs.Hits.{guard_hits, overlaps, on_piece, shape_hits, endless_along}
use Rattle.cuts.specs.Lists.{any, first_or, last_or}
use Rattle.cuts.specs.Bounded.{length_or_radius, slack, in_range, on_bounded}
use Rattle.cuts.specs.Cuts.{end_points, found_near, cuts_here, cut_step, cuts_on, cuts_by, cuts_among, cutter_of}
use Rattle.cuts.specs.Bracket.{within, interior, insert_cut, sort_cuts, in_order, last_one, first_one, beside, around, bracket}
use Rattle.edit_plan.specs.Outcome.{guard}
use Rattle.edit_plan.specs.Tables.{curves_of}
use Rattle.edit_plan.specs.Steps.{ends_of, ends_at, measured, release_relation, pieces_of, add_pieces, pin, swap_kinds, reported}
use Rattle.edit_plan.specs.ApplyPlan.{remove_piece, check_met, move_end, apply_plan_to, apply_plan_at}
use Rattle.edit_plan.specs.Changes.{is_circle}
use Rattle.planning.specs.Planning.{guard_plan, param_of_pick, near_end, pin_to, between, first_goes, trim_at, trim_plan, split_full, at_end, split_plan, is_full_arc, no_freeform, trim_curve, split_curve}
use Rattle.hit_search.specs.NearestHit.{gap_of, boundary, curve_hits, better, best_of, continue_with, nearest_hit}
use Rattle.extend.specs.Extend.{plan_move, is_fixed, extend_end, extend_curve}
use Rattle.extend.specs.ExtendAnswer.{apply_planned, first_unmet_in, reported_place}
use Rattle.modify.specs.Edits.{plan_on_curve, plan_on_found}
use Rattle.example_proofs.specs.Examples.{Examples}

-- to name one of these under `unfolding` opens the definitions of images, of messages, of windows, of roots, or of edits
unfoldable opened_images : Unit {0}
unfolding field bytes guard_number head_fault rows_at result_of header encode
opened_images = tt

unfoldable opened_messages : Unit {0}
unfolding field bytes guard_number message_fault operation_of operation_byte G.result_of G.encode
opened_messages = tt

unfoldable opened_windows : Unit {0}
unfolding over all_held due_bytes
opened_windows = tt

unfoldable opened_roots : Unit {0}
unfolding casteljau_step casteljau_steps evaluate_of middle narrow same_sign bisect_of all_finite largest_of finite_front magnitude_of tiny tolerance_of slopes derivative_of insert sort_onto dedup_after dedup_of knots_of is_zero zeros_of no_sign_change with_root and_then bisect_from bisect_between gathered sorted_dedup level_of on_level roots_at roots_of
opened_roots = tt

unfoldable opened_edits : Unit {0}
unfolding curve_in uses_of points_of ok_coordinate sort_of position_of shape_of shape_from any first_or last_or length_or_radius slack in_range on_bounded end_points found_near cuts_here cut_step cuts_on cuts_by cuts_among within interior insert_cut sort_cuts in_order last_one first_one beside around bracket guard curves_of ends_of ends_at measured release_relation pieces_of add_pieces pin swap_kinds reported remove_piece apply_plan_to apply_plan_at cutter_of param_of_pick near_end pin_to between first_goes trim_at trim_plan split_full at_end split_plan guard_plan is_circle is_full_arc no_freeform trim_curve split_curve plan_on_curve plan_on_found apply_planned gap_of boundary curve_hits better best_of continue_with nearest_hit plan_move is_fixed extend_end extend_curve check_met move_end met on length_or_radius_of first_unmet_in reported_place overlaps on_piece shape_hits endless_along guard_hits
opened_edits = tt

pub examples_hold : Examples
unfolding opened opened_images opened_messages opened_windows opened_roots opened_edits
examples_hold =
    record {
      empty_read = refl;
      empty_written = refl;
      version_two = refl;
      message_written = refl;
      message_read = refl;
      message_foreign = refl;
      message_foreign_first = refl;
      message_own_without_number = refl;
      message_version_one = refl;
      catch_up_of_none = refl;
      catch_up_above = refl;
      catch_up_left = refl;
      catch_up_short = refl;
      catch_up_of_one = (refl, refl);
      catch_up_foreign = refl;
      slot_again = (refl, refl);
      catch_up_of_last = (refl, refl);
      split_inside = refl;
      split_measured = refl;
      split_at_the_end = refl;
      trim_before = refl;
      trim_after = refl;
      trim_whole = refl;
      root_of_rising = refl;
      budget_suffices = refl;
      budget_short = refl;
      root_at_the_start = refl;
      root_touched = refl;
      extended = refl;
      unmet_before_lem = (refl, refl);
      unmet_after_lem = (refl, refl);
      unmet_pin = (refl, refl);
      magnitude_of_none = refl;
      magnitude_of_minus_zero = refl;
      magnitude_below_zero = refl;
      magnitude_not_finite_twice = refl;
    }
