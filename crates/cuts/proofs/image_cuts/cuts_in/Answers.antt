use Rattle.std.proofs.Common.{ap, sym, ◌∙◌, arith}
use Rattle.image.specs.Decode.{read_curve}
use Rattle.cuts.proofs.Cutters.{cuts_start, cuts_past_target, cuts_past_freeform, cuts_one_more, cuts_end}
use Rattle.cuts.proofs.image_cuts.cuts_in.Goals as goal
use Rattle.cuts.proofs.image_cuts.cuts_in.Goals.{then-other-id+in-Some, then-other-id+in_default, else-other-id}

pub loop-i-init : goal.loop-i-init
loop-i-init c = record { upper_bound = omega arith; cuts = cuts_start c.args.t.now.points.now c.args.t.now.curves.now c.args.sh c.args.id c.args.n }

pub loop-i-preserved : goal.loop-i-preserved
loop-i-preserved c =
    let v = c.loop-i.invariant in
    let o = c.if-other-id in
    record {
      upper_bound = elim o.branch [
        | then-other-id+in-Some w ↦ let h = w.cuts_by-found.ensures.upper_bound in omega arith
        | then-other-id+in_default w ↦ omega arith
        | else-other-id w ↦ omega arith
      ];
      cuts = elim o.branch [
        | then-other-id+in-Some w ↦ rw (w.cuts-is, w.found-is) (cuts_one_more _ _ _ _ _ _ _ v.cuts c.loop-i-test.true _ (ap read_curve c.curve_record-r.ensures) _ w.read_kind.ensures _ w.shape_of.ensures w.in-Some.is _ c.read_curve_id-other.ensures w.if-other-id.true _ w.read_infinite.ensures _ w.cuts_by-found.ensures.found)
        | then-other-id+in_default w ↦ rw (w.cuts-is, w.found-is) (cuts_past_freeform _ _ _ _ _ _ _ v.cuts c.loop-i-test.true _ (ap read_curve c.curve_record-r.ensures) _ w.read_kind.ensures _ w.shape_of.ensures w.in_default.is)
        | else-other-id w ↦ rw (w.cuts-is, w.found-is) (cuts_past_target _ _ _ _ _ _ _ v.cuts c.loop-i-test.true _ (ap read_curve c.curve_record-r.ensures) (sym c.read_curve_id-other.ensures ∙ w.if-other-id.false))
      ];
    }

pub returns-clause-cuts_of_first : goal.returns-clause-cuts_of_first
returns-clause-cuts_of_first c = cuts_end _ _ _ c.args.n c.loop-i.i _ c.args.t.now.own_points c.args.t.now.own_curves (omega arith) (omega arith) c.loop-i.invariant.cuts
