use Rattle.std.proofs.Common.{◌∙◌, Bool, ℕ, inl, inr, arith}
use Rattle.sketch.proofs.Sorts.{some_sort, same_line, same_round, same_sort}
use Rattle.sketch.specs.Lookup.{among, sort_among}
use Rattle.rows.proofs.RelationCases.{sound_coincident, sound_on_curve, sound_collinear, sound_equal, sound_length, sound_distance, sound_midpoint, sound_arc_length, sound_arc_sweep}
use Rattle.image.specs.Records.{relation_of, point_size, curve_size}
use Rattle.image.proofs.RelationChecks.{is_coincident, is_on_curve, is_collinear, is_equal, is_length, is_distance, is_midpoint, is_arc}
use Rattle.rows.specs.Rows.{ids_in}
use Rattle.rows.specs.Clauses.{sorts_in}
use Rattle.rows.proofs.references.relation_sound.Goals as goal

pub returns-in-1 : goal.returns-in-1
returns-in-1 c = let r = c.args.r.now in let known : ℕ → Bool = λ p. among p (ids_in point_size c.args.points.now) in let sort : ℕ → ℕ = λ i. sort_among i (ids_in curve_size c.args.curves.now) (sorts_in c.args.curves.now) in sound_coincident known sort (relation_of r) (is_coincident r c.get1.ensures c.get4-a.ensures c.get4-b.ensures c.in-1.is) c.has_point.ensures c.has_point-in-1.ensures

pub returns-in-2 : goal.returns-in-2
returns-in-2 c = let r = c.args.r.now in let known : ℕ → Bool = λ p. among p (ids_in point_size c.args.points.now) in let sort : ℕ → ℕ = λ i. sort_among i (ids_in curve_size c.args.curves.now) (sorts_in c.args.curves.now) in rw (c.is_some.ensures, some_sort c.sort_in.result) (sound_on_curve known sort (relation_of r) (is_on_curve r c.get1.ensures c.get4-a.ensures c.get4-b.ensures c.in-2.is) c.has_point-in-2.ensures c.sort_in.ensures)

pub returns-in-3 : goal.returns-in-3
returns-in-3 c = let r = c.args.r.now in let known : ℕ → Bool = λ p. among p (ids_in point_size c.args.points.now) in let sort : ℕ → ℕ = λ i. sort_among i (ids_in curve_size c.args.curves.now) (sorts_in c.args.curves.now) in rw (c.eq.ensures, same_line c.sort_in-in-3.result, c.eq-in-3.ensures, same_line c.sort_in-in-3-2.result) (sound_collinear known sort (relation_of r) (is_collinear r c.get1.ensures c.get4-a.ensures c.get4-b.ensures c.in-3.is) c.sort_in-in-3.ensures c.sort_in-in-3-2.ensures)

pub returns-in-4 : goal.returns-in-4
returns-in-4 c = let r = c.args.r.now in let known : ℕ → Bool = λ p. among p (ids_in point_size c.args.points.now) in let sort : ℕ → ℕ = λ i. sort_among i (ids_in curve_size c.args.curves.now) (sorts_in c.args.curves.now) in rw (c.eq-in-4.ensures, c.eq-in-4-2.ensures, c.eq-in-4-3.ensures, same_sort c.sort_in-s.result c.sort_in-t.result) (sound_equal known sort (relation_of r) (is_equal r c.get1.ensures c.get4-a.ensures c.get4-b.ensures c.in-4.is) c.sort_in-s.ensures c.sort_in-t.ensures)

pub returns-in-5 : goal.returns-in-5
returns-in-5 c = let r = c.args.r.now in let known : ℕ → Bool = λ p. among p (ids_in point_size c.args.points.now) in let sort : ℕ → ℕ = λ i. sort_among i (ids_in curve_size c.args.curves.now) (sorts_in c.args.curves.now) in c.eq-in-5.ensures ∙ same_line c.sort_in-in-5.result ∙ sound_length known sort (relation_of r) (is_length r c.get1.ensures c.get4-a.ensures c.get4-b.ensures c.in-5.is) c.sort_in-in-5.ensures

pub returns-in-6 : goal.returns-in-6
returns-in-6 c = let r = c.args.r.now in let known : ℕ → Bool = λ p. among p (ids_in point_size c.args.points.now) in let sort : ℕ → ℕ = λ i. sort_among i (ids_in curve_size c.args.curves.now) (sorts_in c.args.curves.now) in sound_distance known sort (relation_of r) (is_distance r c.get1.ensures c.get4-a.ensures c.get4-b.ensures c.in-6.is) c.has_point-in-6.ensures c.has_point-in-6-2.ensures

pub returns-in-7 : goal.returns-in-7
returns-in-7 c = let r = c.args.r.now in let known : ℕ → Bool = λ p. among p (ids_in point_size c.args.points.now) in let sort : ℕ → ℕ = λ i. sort_among i (ids_in curve_size c.args.curves.now) (sorts_in c.args.curves.now) in rw (c.eq-in-7.ensures, same_line c.sort_in-in-7.result) (sound_midpoint known sort (relation_of r) (is_midpoint r c.get1.ensures c.get4-a.ensures c.get4-b.ensures c.in-7.is) c.has_point-in-7.ensures c.sort_in-in-7.ensures)

pub returns-in_default : goal.returns-in_default
returns-in_default c = let r = c.args.r.now in let known : ℕ → Bool = λ p. among p (ids_in point_size c.args.points.now) in let sort : ℕ → ℕ = λ i. sort_among i (ids_in curve_size c.args.curves.now) (sorts_in c.args.curves.now) in c.eq-in_default.ensures ∙ same_round c.sort_in-in_default.result ∙ elim (is_arc r c.get1.ensures c.get4-a.ensures (omega arith) (omega arith) (omega arith) (omega arith) (omega arith) (omega arith) (omega arith)) [ inl e ↦ sound_arc_length known sort (relation_of r) e c.sort_in-in_default.ensures | inr e ↦ sound_arc_sweep known sort (relation_of r) e c.sort_in-in_default.ensures ]
