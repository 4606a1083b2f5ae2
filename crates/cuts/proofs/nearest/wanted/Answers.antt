use Rattle.std.proofs.Common.{T, subst, sym}
use Rattle.cuts.specs.Nearest.{wanted}
use Rattle.cuts.proofs.nearest.wanted.Goals as goal

pub returns-in-Before : goal.returns-in-Before
unfolding wanted
returns-in-Before c = record { side = simp c.in-Before.is; number = subst T (sym c.well_formed.1.1.1.1.0.1) tt }

pub returns-in-After : goal.returns-in-After
unfolding wanted
returns-in-After c = record { side = simp c.in-After.is; number = subst T (sym c.well_formed.1.1.1.1.0.1) tt }

pub returns-in-NotPast : goal.returns-in-NotPast
unfolding wanted
returns-in-NotPast c = record { side = simp c.in-NotPast.is; number = subst T (sym c.well_formed.1.1.1.1.0.1) tt }

pub returns-in-Past : goal.returns-in-Past
unfolding wanted
returns-in-Past c = record { side = simp c.in-Past.is; number = subst T (sym c.well_formed.1.1.1.1.0.1) tt }

pub returns-in-Any : goal.returns-in-Any
unfolding wanted
returns-in-Any c = record { side = simp c.in-Any.is; number = subst T (sym c.well_formed.1.1.1.1.0.1) tt }
