-- The worked examples that are proved, as one list.
use Rattle.std.specs.Prelude.{◌≡◌, List, [], ◌∷◌, ℕ, Float, true}
use Rattle.std.specs.Float.{nan, inf, binary64}
use Rattle.std.specs.Float.Ieee.{neg, of_bits}
use Rattle.float.specs.Numbers.{as_float, ½, 0f, 1f}
use Rattle.float.specs.Magnitude.{Largest, NotFinite, magnitude_of}
use Rattle.bernstein.specs.Roots as R
use Rattle.bernstein.specs.Roots.{roots_of, found}
use Rattle.geom.specs.Plane.{vec}
use Rattle.sketch.specs.declared.Relation.{Relation}
use Rattle.sketch.specs.declared.Relation.TheVariants.{PointOnCurve, Collinear, Length, Distance}
use Rattle.sketch.specs.Drawing.{Drawing, limits}
use Rattle.message.specs.declared.Operation.TheVariants.{Trim, Split, Extend}
use Rattle.message.specs.declared.Message.{Message}
use Rattle.refusal.specs.Refusals.{Accepted, Refused}
use Rattle.message.specs.Message as G
use Rattle.window.specs.Window.{window_size, empty_window, slot, slid, due_bytes, catch_up_fault}
use Rattle.image.specs.Image as I
use Rattle.sketch_image.specs.SketchImage.{empty_drawing}
use Rattle.image.specs.Encode.{encode}
use Rattle.edit_plan.specs.declared.Removed.{Removed}
use Rattle.edit_plan.specs.Outcome.{refused, accepted}
use Rattle.edit_plan.specs.Steps.{nothing}
use Rattle.modify.specs.Edits.{edit_of, edit_place}
use Rattle.example_proofs.specs.Drawings.{mk_vec, mk_point, below, mk_line, mk_drawing, L, T, T5OfHeight, T5}

-- ---- images

-- an empty image, up to its version byte and from its next id on
abbrev pub empty_image : ℕ → List ℕ
empty_image version = 0x00 ∷ 0x00 ∷ 0x00 ∷ 0x0b ∷ version ∷ 0x00 ∷ 0x00 ∷ 0x00 ∷ 0x01 ∷ 0x00 ∷ 0x00 ∷ 0x00 ∷ 0x00 ∷ 0x00 ∷ 0x00 ∷ []

-- ---- messages

-- the split of L at (1, 3), the first edit
abbrev pub first_split : Message
first_split = record { number = 1; operation = Split; curve = 3; x = 0x3ff0_0000_0000_0000; y = 0x4008_0000_0000_0000 }

-- a mark, and one whose last bit is another
abbrev pub own_mark : ℕ
own_mark = 0x0102_0304_0506_0708

abbrev pub near_mark : ℕ
near_mark = 0x0102_0304_0506_0709

-- its message under the first mark, by the bytes of version, number and operation
abbrev pub split_message : ℕ → ℕ → ℕ → List ℕ
split_message version number operation =
    0x00 ∷ 0x00 ∷ 0x00 ∷ 0x22 ∷ version ∷ 0x01 ∷ 0x02 ∷ 0x03 ∷ 0x04 ∷ 0x05 ∷ 0x06 ∷ 0x07 ∷ 0x08 ∷ 0x00 ∷ 0x00 ∷ 0x00 ∷ number ∷ operation ∷ 0x00 ∷ 0x00 ∷ 0x00 ∷ 0x03
    ∷ 0x3f ∷ 0xf0 ∷ 0x00 ∷ 0x00 ∷ 0x00 ∷ 0x00 ∷ 0x00 ∷ 0x00 ∷ 0x40 ∷ 0x08 ∷ 0x00 ∷ 0x00 ∷ 0x00 ∷ 0x00 ∷ 0x00 ∷ 0x00 ∷ []

-- ---- the desk's window

-- the window of a desk whose first message is the split's, and that after 64 more, of which the last stands where the first stood
abbrev pub one_kept : List ℕ
one_kept = slid empty_window 1 (split_message 2 1 2)

abbrev pub one_replaced : List ℕ
one_replaced = slid one_kept 65 (split_message 2 65 2)

-- ---- edits

abbrev pub removed : ℕ → ℕ → ℕ → Removed
removed c a b = record { curve = c; from = a; to = b }

-- an extend of the line 3 at (2, 0) is refused by a number, with a place
abbrev pub extend_refused : Drawing → ℕ → ℕ → Type 0
extend_refused d n place = (edit_of Extend limits d 3 (mk_vec 2 0) ≡ refused n) × (edit_place Extend d 3 (mk_vec 2 0) n ≡ place)

-- the line across is 2 long, not 3, and the level line 2, not 4
abbrev pub unmet_before : List Relation
unmet_before = Length 6 (as_float 2) ∷ Length 6 (as_float 3) ∷ Length 3 (as_float 4) ∷ []

-- the level line is 2 long, and so far are its ends apart, until it is extended
abbrev pub unmet_after : List Relation
unmet_after = Length 6 (as_float 2) ∷ Length 3 (as_float 2) ∷ Distance 1 2 (as_float 2) ∷ []

-- met before the extend and after it
abbrev pub met_both : List Relation
met_both = PointOnCurve 1 3 ∷ PointOnCurve 4 6 ∷ []

-- 2^−21, which is between 1e-7 and 1e-6: so near to it the extended line is pinned to the end of the line across, and the pin is not met
abbrev pub near_zero : Float
near_zero = of_bits binary64 0x3ea0_0000_0000_0000

-- ---- roots

-- 0.5 − 2^−47
abbrev pub near_half : Float
near_half = of_bits binary64 0x3fdf_ffff_ffff_ff80

-- the coefficients −1, 1
abbrev pub rising : List Float
rising = neg 1f ∷ 1f ∷ []

-- ---- the list

pub record Examples : Type 0 where
  pub empty_read : I.parse (empty_image 1) ≡ I.accepted empty_drawing
  pub empty_written : encode empty_drawing ≡ empty_image 1
  pub version_two : I.parse (empty_image 2) ≡ I.refused 2
  -- of a message and its mark: written, read, foreign; foreign before its number and operation, and after its version
  pub message_written : G.encode own_mark first_split ≡ split_message 2 1 2
  pub message_read : G.parse own_mark (split_message 2 1 2) ≡ Accepted first_split
  pub message_foreign : G.parse near_mark (split_message 2 1 2) ≡ Refused 28
  pub message_foreign_first : G.parse near_mark (split_message 2 0 4) ≡ Refused 28
  pub message_own_without_number : G.parse own_mark (split_message 2 0 2) ≡ Refused 6
  pub message_version_one : G.parse near_mark (split_message 1 1 2) ≡ Refused 2
  -- of a catch-up: by an empty window none is due, the wall's count is above the desk's, a message is not there; by one with a message there
  -- is no room for it, or it is written; at another mark it is not there
  pub catch_up_of_none : catch_up_fault own_mark empty_window 0 0 0 ≡ 0
  pub catch_up_above : catch_up_fault own_mark empty_window 0 1 0 ≡ 27
  pub catch_up_left : catch_up_fault own_mark empty_window 1 0 window_size ≡ 26
  pub catch_up_short : catch_up_fault own_mark one_kept 1 0 37 ≡ 25
  pub catch_up_of_one : (catch_up_fault own_mark one_kept 1 0 38 ≡ 0) × (due_bytes one_kept 0 1 ≡ split_message 2 1 2)
  pub catch_up_foreign : catch_up_fault near_mark one_kept 1 0 38 ≡ 26
  -- message 65 in the slot of message 1: it is due to a wall at 64, and one at 0 is too far back
  pub slot_again : (slot one_replaced 65 ≡ split_message 2 65 2) × (slot one_replaced 1 ≡ split_message 2 65 2)
  pub catch_up_of_last : (catch_up_fault own_mark one_replaced 65 64 38 ≡ 0) × (catch_up_fault own_mark one_replaced 65 0 window_size ≡ 26)
  pub split_inside :
      edit_of Split limits (L []) 3 (mk_vec 1 3)
      ≡ accepted (mk_drawing 6 (mk_point 1 0 0 ∷ mk_point 2 4 0 ∷ mk_point 4 1 0 ∷ []) (mk_line 3 1 4 ∷ mk_line 5 4 2 ∷ []) (Collinear 3 5 ∷ [])) nothing
  pub split_measured :
      edit_of Split limits (L (Length 3 (as_float 4) ∷ [])) 3 (mk_vec 1 3)
      ≡ accepted (mk_drawing 6 (mk_point 1 0 0 ∷ mk_point 2 4 0 ∷ mk_point 4 1 0 ∷ []) (mk_line 3 1 4 ∷ mk_line 5 4 2 ∷ []) (Distance 1 2 (as_float 4) ∷ Collinear 3 5 ∷ [])) nothing
  pub split_at_the_end : edit_of Split limits (L []) 3 (mk_vec 0 3) ≡ refused 12
  pub trim_before :
      edit_of Trim limits T 3 (vec ½ 0f)
      ≡ accepted (mk_drawing 9 (mk_point 2 4 0 ∷ below 4 1 ∷ mk_point 5 1 1 ∷ mk_point 7 1 0 ∷ []) (mk_line 3 7 2 ∷ mk_line 6 4 5 ∷ []) (PointOnCurve 7 6 ∷ [])) (removed 8 1 7)
  pub trim_after :
      edit_of Trim limits T 3 (mk_vec 3 0)
      ≡ accepted (mk_drawing 9 (mk_point 1 0 0 ∷ below 4 1 ∷ mk_point 5 1 1 ∷ mk_point 7 1 0 ∷ []) (mk_line 3 1 7 ∷ mk_line 6 4 5 ∷ []) (PointOnCurve 7 6 ∷ [])) (removed 8 7 2)
  pub trim_whole : edit_of Trim limits (L []) 3 (mk_vec 1 0) ≡ accepted (mk_drawing 4 [] [] []) (removed 3 1 2)
  pub root_of_rising : roots_of rising 100 ≡ found (near_half ∷ []) 53
  pub budget_suffices : roots_of rising 47 ≡ found (near_half ∷ []) 0
  pub budget_short : roots_of rising 46 ≡ R.refused 21 0
  pub root_at_the_start : roots_of (0f ∷ 1f ∷ []) 100 ≡ found (0f ∷ []) 100
  pub root_touched : roots_of (1f ∷ neg 1f ∷ 1f ∷ []) 100 ≡ found (near_half ∷ []) 53
  pub extended :
      edit_of Extend limits (T5 []) 3 (mk_vec 2 0)
      ≡ accepted (mk_drawing 7 (mk_point 1 0 0 ∷ mk_point 2 5 0 ∷ below 4 5 ∷ mk_point 5 5 1 ∷ []) (mk_line 3 1 2 ∷ mk_line 6 4 5 ∷ []) (PointOnCurve 2 6 ∷ [])) nothing
  -- of the first relation that is not met: in the drawing as it stands, in the one that the extend would have left, and there at the pin's own place
  pub unmet_before_lem : extend_refused (T5 unmet_before) 13 1
  pub unmet_after_lem : extend_refused (T5 unmet_after) 19 1
  pub unmet_pin : extend_refused (T5OfHeight near_zero met_both) 19 2
  -- of the largest magnitude
  pub magnitude_of_none : magnitude_of [] ≡ Largest 0f
  pub magnitude_of_minus_zero : magnitude_of (neg 0f ∷ []) ≡ Largest 0f
  pub magnitude_below_zero : magnitude_of (neg (as_float 3) ∷ as_float 2 ∷ []) ≡ Largest (as_float 3)
  pub magnitude_not_finite_twice : magnitude_of (1f ∷ nan ∷ inf true ∷ []) ≡ NotFinite 1
