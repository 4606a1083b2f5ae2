use Rattle.std.proofs.Common.{refl, sym, ap, ◌∙◌}
use Rattle.std.specs.Prelude.{option_to_list}
use Rattle.cuts.specs.Nearest.{wanted}
use Rattle.cuts.proofs.Passes.{pass_start, pass_takes, pass_skips, fit_more}
use Rattle.cuts.proofs.nearest.nearest.Goals as goal
use Rattle.cuts.proofs.nearest.nearest.Goals.{then-wanted, else-wanted}

pub loop-k-init : goal.loop-k-init
loop-k-init c = record { found = pass_start c.args.last (wanted c.args.side c.args.low c.args.high c.args.tq); numbers = tt }

pub loop-k-preserved : goal.loop-k-preserved
loop-k-preserved c =
    let v = c.loop-k.invariant in record {
      found = elim c.if-wanted.branch [
        | then-wanted w ↦ ap option_to_list w.best-is ∙ pass_takes _ _ _ _ v.numbers c.loop-k-test.true _ v.found _ _ refl c.wanted.ensures.number _ (sym c.wanted.ensures.side ∙ w.if-wanted.true) w.nearer.ensures
        | else-wanted w ↦ ap option_to_list w.best-is ∙ pass_skips _ _ _ _ v.numbers c.loop-k-test.true _ v.found _ _ refl c.wanted.ensures.number (sym c.wanted.ensures.side ∙ w.if-wanted.false)
      ];
      numbers = fit_more _ _ _ c.loop-k-test.true v.numbers c.wanted.ensures.number;
    }
