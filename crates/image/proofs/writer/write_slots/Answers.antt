use Rattle.std.proofs.Common.{ℕ, take_all, get_or, List, refl, ap, ◌∙◌, arith}
use Rattle.sketch.specs.Lists.{concat_map}
use Rattle.big_endian.specs.Laws.{length_bytes, over_fits}
use Rattle.big_endian.specs.Fields.{over, bytes}
use Rattle.image.proofs.Tables.{writing_starts, writing_turns}
use Rattle.image.proofs.writer.write_slots.Goals as goal

pub loop-i-init : goal.loop-i-init
loop-i-init c = (omega arith, c.well_formed.1.1.0.1.0.1, writing_starts (bytes 4) 4 (λ (l : List ℕ). l) (λ x. x) (λ l x. refl) refl _ _ _)

pub loop-i-preserved : goal.loop-i-preserved
loop-i-preserved c =
    let l = c.loop-i in
    let w = l.invariant.2 in
    let q = length_bytes 4 (get_or c.args.s l.i 0) in
    (omega arith, l.invariant.1, writing_turns (bytes 4) 4 (λ (l : List ℕ). l) (λ x. x) (λ l x. refl) _ _ _ l.i 0 _ _ (omega arith) (omega arith) q (c.put4.ensures ∙ over_fits _ _ _ (omega (arith, w.same_long))) w)

pub shape_of-buf : goal.shape_of-buf
shape_of-buf c = c.loop-i.invariant.2.same_long

pub returns : goal.returns
returns c =
    let l = c.loop-i in
    l.invariant.2.written ∙ ap (λ k. over c.args.buf.now c.args.at (concat_map (bytes 4) k)) (take_all l.i c.args.s (omega arith))
