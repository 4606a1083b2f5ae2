-- `apply::write_curves_after` meets its contract.
use Rattle.std.proofs.Common.{◌≡◌, length, subst, Option, IfSome, arith}
use Rattle.sketch.specs.declared.Curve.{Curve}
use Rattle.apply.proofs.Parts.{length_after, set_only, set_added}
use Rattle.image.proofs.Curves.{length_curve}
use Rattle.apply.proofs.curves.write_curves_after.Goals as goal

pub put_rows-a-requires : goal.put_rows-a-requires
put_rows-a-requires c =
    let a = c.args in
    let n = length_after a.k a.curves.now c.requires.0 a.ch in
    (omega arith, omega (arith, c.requires.0), omega (arith, n, c.requires.1, c.requires.0))

pub overflow_add-a : goal.overflow_add-a
overflow_add-a c =
    let a = c.args in
    let n = length_after a.k a.curves.now c.requires.0 a.ch in
    omega (arith, n, c.requires.1, c.requires.0, c.put_rows-a.ensures.1)

pub put_rows-b-requires : goal.put_rows-b-requires
put_rows-b-requires c =
    let a = c.args in
    let n = length_after a.k a.curves.now c.requires.0 a.ch in
    (omega (arith, c.requires.0), omega arith, omega (arith, n, c.requires.1, c.requires.0, c.put_rows-a.ensures.1))

pub returns-in-Some : goal.returns-in-Some
returns-in-Some c =
    let a = c.args in
    set_added a.k a.curves.now c.requires.0 a.out.now a.at _ _ c.put_rows-a.ensures.0 c.put_rows-a.ensures.1 a.ch _ _ _ c.requires.1 (length_curve a.ch.kept c.requires.2.0) c.write_curve.ensures c.put_rows-b.ensures.0 c.put_rows-b.ensures.1 c.in-Some.added _ c.in-Some.is (length_curve c.in-Some.added (subst (λ (o : Option Curve). IfSome o (λ (x : Curve). length x.slots ≡ 8)) c.in-Some.is c.requires.2.1)) c.write_curve-in-Some.ensures

pub returns-in_default : goal.returns-in_default
returns-in_default c =
    let a = c.args in
    set_only a.k a.curves.now c.requires.0 a.out.now a.at _ _ c.put_rows-a.ensures.0 c.put_rows-a.ensures.1 a.ch _ _ _ c.requires.1 (length_curve a.ch.kept c.requires.2.0) c.write_curve.ensures c.put_rows-b.ensures.0 c.put_rows-b.ensures.1 c.in_default.is
