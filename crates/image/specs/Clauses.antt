-- The contracts of private functions, which nothing outside needs.
use Rattle.std.specs.Prelude.{ℕ, ◌/◌, ◌%◌, Bool, not, ◌&&◌, ◌||◌, List, drop, eqb}
use Rattle.big_endian.specs.Fields.{field}
use Rattle.sketch.specs.Lists.{ite, every}
use Rattle.sketch.specs.Valid.{ok_number, in_slots, is_line_sort, sort_of}
use Rattle.sketch.specs.Drawing.{no_slots}
use Rattle.image.specs.Records.{curve_flags_at, degree_at, curve_number_at, float_at, slots_of, kind_of, curve_fields}

-- a record that encodes a curve of the kind k whose values are in range
abbrev pub good_as : ℕ → List ℕ → Bool
good_as k r =
    let kind = kind_of k (field r degree_at 1) (slots_of r) (float_at r curve_number_at) in
    curve_fields k (field r curve_flags_at 1) (field r degree_at 1) (slots_of r) (field r curve_number_at 8)
    && ((not (eqb (field r curve_flags_at 1 / 4 % 2) 1) || is_line_sort (sort_of kind)) && ok_number kind && every (λ i. eqb i 0) (drop (in_slots kind) (ite (eqb k 4) (slots_of r) no_slots)))
