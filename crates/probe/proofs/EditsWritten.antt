-- The report and the image in a buffer: the image is written behind the report's place first, so that a buffer too short for it is left as it was.
use Rattle.std.proofs.Common.{◌≡◌, ℕ, ◌+◌, ◌-◌, ◌<◌, ◌≤◌, Bool, true, false, eqb, leb, List, ◌++◌, length, take, drop, sym, refl, ap, ◌∙◌, append_assoc, append-nil, arith, length-append, length-drop, take-append-drop, drop_of_length-le, length-take-le, take_all, drop-drop, drop_at, eq-eqb, le-leb, leb-false, leb-true}
use borrow.Author.Tests.{lt-leb}
use Rattle.big_endian.specs.Fields.{over}
use Rattle.sketch.specs.declared.Sketch.{Sketch}
use Rattle.sketch.specs.Lists.{ite, guard_number}
use Rattle.sketch.specs.Drawing.{view}
use Rattle.sketch.specs.Valid.{sketch_fault}
use Rattle.image.specs.Encode.{encode, drawing_size}
use Rattle.sketch_image.specs.SketchImage.{ImageWritten}
use Rattle.edit_plan.specs.declared.Removed.{Removed}
use Rattle.edit_plan.specs.Outcome.{accepted, guard}
use Rattle.probe.specs.Edits.{number_of, left_in, report, Wrote}
use Rattle.probe.specs.EditContracts.{ReportPut}
use Rattle.probe.proofs.ReportedImages.{length_report}

module _ (sk : Sketch) (gone : Removed) (xs : List ℕ) where
  abbrev size : ℕ
  size = drawing_size (view sk)

  -- no room for the report
  pub report_short : length xs < 12 → Wrote (accepted (view sk) gone) xs xs 25
  unfolding guard number_of left_in
  report_short h =
      let t : leb (12 + size) (length xs) ≡ false = lt-leb (12 + size) (length xs) (omega arith) in
      record { number = rw t; buffer = rw t }

  module _ (f : sketch_fault sk ≡ 0) (room : 12 ≤ length xs) (ys : List ℕ) (n : ℕ) (w : ImageWritten sk (take (length xs - 12) (drop 12 xs)) ys n) where
    abbrev rest : List ℕ
    rest = drop 12 xs

    long : length rest ≡ length xs - 12
    long = length-drop 12 xs

    all : take (length xs - 12) rest ≡ rest
    all = take_all (length xs - 12) rest (omega (arith, long))

    back : take 12 xs ++ (ys ++ drop (length xs - 12) rest) ≡ take 12 xs ++ ys
    back = let h : length rest ≤ length xs - 12 = omega (arith, long) in rw (drop_of_length-le rest h, append-nil)

    -- what the write answers, by whether the image fits behind the report
    fits : (b : Bool) → leb size (length rest) ≡ b → leb (12 + size) (length xs) ≡ b
    fits true e = le-leb (12 + size) (length xs) (omega (arith, leb-true size (length rest) e, long))
    fits false e = lt-leb (12 + size) (length xs) (omega (arith, leb-false size (length rest) e, long))

    number_is : n ≡ guard_number (leb size (length rest)) 25 0
    unfolding guard_number
    number_is = w.number ∙ rw (eq-eqb (sketch_fault sk) 0 f, all)

    part_is : ys ≡ ite (eqb (guard_number (leb size (length rest)) 25 0) 0) (over rest 0 (encode (view sk))) rest
    unfolding guard_number
    part_is = w.buffer ∙ rw (eq-eqb (sketch_fault sk) 0 f, all)

    pub image_short : (n ≡ 0 → ⊥) → Wrote (accepted (view sk) gone) xs (take 12 xs ++ (ys ++ drop (length xs - 12) rest)) n
    unfolding guard_number guard number_of left_in
    image_short z = go (leb size (length rest)) refl number_is part_is
      where
        go : (b : Bool) → leb size (length rest) ≡ b → n ≡ guard_number b 25 0 → ys ≡ ite (eqb (guard_number b 25 0) 0) (over rest 0 (encode (view sk))) rest
            → Wrote (accepted (view sk) gone) xs (take 12 xs ++ (ys ++ drop (length xs - 12) rest)) n
        go true e q r = absurd (z q)
        go false e q r = record { number = rw (fits false e) q; buffer = rw (fits false e) (back ∙ ap (λ l. take 12 xs ++ l) r ∙ take-append-drop 12 xs) }

    module _ (z : n ≡ 0) (k : List ℕ) (put : ReportPut gone (take 12 xs ++ (ys ++ drop (length xs - 12) rest)) k) where
      pub image_and_report_written : Wrote (accepted (view sk) gone) xs k 0
      unfolding guard_number guard number_of left_in over
      image_and_report_written = go (leb size (length rest)) refl number_is part_is
        where
          front : List ℕ
          front = take 12 xs ++ (ys ++ drop (length xs - 12) rest)

          twelve : length (take 12 xs) ≡ 12
          twelve = length-take-le 12 xs room

          enough : 12 ≤ length front
          enough = omega (arith, length-append (take 12 xs) (ys ++ drop (length xs - 12) rest), twelve)

          ends : length (report gone) ≡ 12
          ends = length_report gone

          go : (b : Bool) → leb size (length rest) ≡ b → n ≡ guard_number b 25 0 → ys ≡ ite (eqb (guard_number b 25 0) 0) (over rest 0 (encode (view sk))) rest → Wrote (accepted (view sk) gone) xs k 0
          go false e q r = absurd (omega arith)
          go true e q r =
              let d = encode (view sk) in
              let from_none : 0 + length d ≡ length d = omega arith in
              let behind : drop 12 front ≡ d ++ drop (length d) rest = ap (drop 12) back ∙ drop_at (take 12 xs) ys 12 twelve ∙ r ∙ ap (λ (k : ℕ). d ++ drop k rest) from_none in
              let rests : drop (length d) rest ≡ drop (12 + length d) xs = drop-drop (length d) 12 xs in
              let sizes : 0 + length (report gone ++ d) ≡ 12 + length d = omega (arith, length-append (report gone) d, ends) in
              record {
                number = rw (fits true e);
                buffer = rw (fits true e) (put enough ∙ rw (ends, behind, rests, sizes) (sym (append_assoc (report gone) d (drop (12 + length d) xs))));
              }
