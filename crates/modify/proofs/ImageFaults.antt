-- An image's own refusals are 1 to 5, and a sketch's are among them. Assumes nothing.
use Prim.Native.Nat.{ℕ, ◌≤◌}
use mathlib.Core.Bool.{Bool, true, false, ◌&&◌}
use mathlib.Core.List.{List, [], ◌∷◌}
use native.Mathlib.Omega.{arith}
use lib.Dec.{ltb}
use Rattle.sketch.specs.declared.Sketch.{Sketch}
use Rattle.sketch.specs.Lists.{guard_number}
use Rattle.sketch.specs.Drawing.{view}
use Rattle.sketch.specs.Valid.{table_fault, list_fault, sketch_fault}
use Rattle.image.specs.Image.{image_fault, head_fault, point_rows, curve_rows, relation_rows}

guard_number_low : (b : Bool) (n rest : ℕ) → n ≤ 5 → rest ≤ 5 → guard_number b n rest ≤ 5
unfolding guard_number
guard_number_low true n rest h k = k
guard_number_low false n rest h k = h

table_low : {A : Type 0} (id : A → ℕ) (ok sound : A → Bool) (next last : ℕ) (l : List A) (rest : ℕ) → rest ≤ 5 → table_fault id ok sound next last l rest ≤ 5
table_low id ok sound next last [] rest h = h
table_low id ok sound next last (a ∷ l) rest h =
    guard_number_low (ok a) 4 _ (omega arith) (guard_number_low (ltb last (id a) && ltb (id a) next && sound a) 5 _ (omega arith) (table_low id ok sound next (id a) l rest h))

list_low : {A : Type 0} (ok sound : A → Bool) (l : List A) → list_fault ok sound l ≤ 5
list_low ok sound [] = omega arith
list_low ok sound (a ∷ l) = guard_number_low (ok a) 4 _ (omega arith) (guard_number_low (sound a) 5 _ (omega arith) (list_low ok sound l))

pub sketch_fault_low : (s : Sketch) → sketch_fault s ≤ 5
sketch_fault_low s =
    guard_number_low _ 3 _ (omega arith) (guard_number_low _ 3 _ (omega arith) (guard_number_low _ 4 _ (omega arith)
    (table_low _ _ _ _ _ (view s).points _ (table_low _ _ _ _ _ (view s).curves _ (list_low _ _ (view s).relations)))))

pub image_fault_low : (s : List ℕ) → image_fault s ≤ 5
unfolding head_fault
image_fault_low s =
    guard_number_low _ 1 _ (omega arith)
    (guard_number_low _ 2 _ (omega arith)
    (guard_number_low _ 1 _ (omega arith)
    (guard_number_low _ 3 _ (omega arith)
    (guard_number_low _ 4 _ (omega arith)
    (table_low _ _ _ _ 0 (point_rows s) _ (table_low _ _ _ _ 0 (curve_rows s) _ (list_low _ _ (relation_rows s))))))))
