use Rattle.std.proofs.Common.{ap, ◌∙◌, ℕ, ◌+◌, drop, eqb}
use Rattle.sketch.specs.Lists.{every}
use Rattle.image.specs.Records.{slots_of}
use Rattle.image.proofs.RecordChecks.{good_bezier}
use Rattle.image.proofs.checks.bezier_good.Goals as goal

pub returns : goal.returns
returns c = simp (c.get8.ensures, c.get1-degree.ensures, c.get1-flags.ensures) (good_bezier _ (c.clear_past.ensures ∙ ap (λ (n : ℕ). every (λ i. eqb i 0) (drop (n + 1) (slots_of c.args.r.now))) c.get1-degree.ensures))
