use Rattle.std.proofs.Common.{arith, ap, ◌∙◌, Bool, List, ℕ, ◌+◌, take}
use Rattle.sketch.specs.Lists.{every}
use Rattle.sketch.specs.Lookup.{among}
use Rattle.sketch.proofs.CurveCases.{sound_line, sound_arc, sound_circle, sound_bezier, sound_conic}
use Rattle.image.specs.Records.{curve_of, point_size}
use Rattle.image.proofs.RecordChecks.{spells_line, spells_arc, spells_circle, spells_bezier, spells_conic, bezier_slots}
use Rattle.rows.specs.Rows.{ids_in}
use Rattle.rows.proofs.references.curve_sound.Goals as goal

pub returns-in-1 : goal.returns-in-1
returns-in-1 c = let r = c.args.r.now in let known : ℕ → Bool = λ p. among p (ids_in point_size c.args.points.now) in sound_line known (curve_of r) (spells_line r c.get1.ensures c.get4-a.ensures c.get4-b.ensures c.get4-c.ensures c.in-1.is) c.has_point.ensures c.has_point-in-1.ensures

pub returns-in-2 : goal.returns-in-2
returns-in-2 c = let r = c.args.r.now in let known : ℕ → Bool = λ p. among p (ids_in point_size c.args.points.now) in sound_arc known (curve_of r) (spells_arc r c.get1.ensures c.get4-a.ensures c.get4-b.ensures c.get4-c.ensures c.in-2.is) c.has_point-in-2.ensures c.has_point-in-2-2.ensures c.has_point-in-2-3.ensures

pub returns-in-3 : goal.returns-in-3
returns-in-3 c = let r = c.args.r.now in let known : ℕ → Bool = λ p. among p (ids_in point_size c.args.points.now) in sound_circle known (curve_of r) (spells_circle r c.get1.ensures c.get4-a.ensures c.get4-b.ensures c.get4-c.ensures c.in-3.is) c.has_point-in-3.ensures

pub returns-in-4 : goal.returns-in-4
returns-in-4 c = let r = c.args.r.now in let known : ℕ → Bool = λ p. among p (ids_in point_size c.args.points.now) in sound_bezier known (curve_of r) (spells_bezier r c.get1.ensures c.get1-degree.ensures c.in-4.is) (c.slots_in.ensures ∙ ap (λ (l : List ℕ). every known (take (c.get1-degree.result + 1) l)) (bezier_slots r c.get1.ensures c.in-4.is))

pub returns-in_default : goal.returns-in_default
returns-in_default c = let r = c.args.r.now in let known : ℕ → Bool = λ p. among p (ids_in point_size c.args.points.now) in sound_conic known (curve_of r) (spells_conic r c.get1.ensures c.get4-a.ensures c.get4-b.ensures c.get4-c.ensures (omega arith) (omega arith) (omega arith) (omega arith)) c.has_point-in_default.ensures c.has_point-in_default-2.ensures c.has_point-in_default-3.ensures
