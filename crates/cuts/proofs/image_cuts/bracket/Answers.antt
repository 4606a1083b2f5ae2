use Rattle.cuts.proofs.Cutters.{bracket_all, too_many}
use Rattle.cuts.proofs.image_cuts.bracket.Goals as goal

pub returns-then-n-le16 : goal.returns-then-n-le16
returns-then-n-le16 c = bracket_all _ _ _ _ _ _ c.args.t.now.own_curves c.curve_count-n.ensures c.bracket_in.ensures

pub returns-then-n-le64 : goal.returns-then-n-le64
returns-then-n-le64 c = bracket_all _ _ _ _ _ _ c.args.t.now.own_curves c.curve_count-n.ensures c.bracket_in-then-n-le64.ensures

pub returns-then-n-gt128 : goal.returns-then-n-gt128
returns-then-n-gt128 c = λ e. absurd (too_many _ _ c.args.t.now.own_curves c.curve_count-n.ensures c.if-n-gt128.true e)

pub returns : goal.returns
returns c = bracket_all _ _ _ _ _ _ c.args.t.now.own_curves c.curve_count-n.ensures c.bracket_in-2.ensures
