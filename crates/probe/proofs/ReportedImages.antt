-- An image that an edit wrote behind the report's place, and the report: one law for what is refused, one for what is written.
use Rattle.std.proofs.Common.{◌≡◌, ℕ, ◌+◌, ◌-◌, ◌<◌, ◌≤◌, Bool, true, false, leb, List, ◌++◌, length, take, drop, sym, refl, ap, ◌∙◌, append_assoc, append-nil, arith, length-append, length-drop, take-append-drop, drop_of_length-le, length-take-le, take_all, drop-drop, drop_at, le-leb, leb-false, leb-true}
use borrow.Author.Tests.{lt-leb}
use Rattle.big_endian.specs.Fields.{bytes, over, over_if_fits}
use Rattle.big_endian.specs.Laws.{Run, run_starts, run_puts, length_bytes}
use Rattle.sketch.specs.Drawing.{Drawing}
use Rattle.image.specs.Encode.{encode, drawing_size}
use Rattle.edit_plan.specs.declared.Removed.{Removed}
use Rattle.edit_plan.specs.Outcome.{Outcome, refused, accepted, guard}
use Rattle.extend.specs.Answers.{ImageAnswer}
use Rattle.extend.specs.ImageExtend.{if_fits, OutcomeWritten}
use Rattle.probe.specs.Edits.{number_of, left_in, report, Wrote}
use Rattle.probe.specs.EditContracts.{ReportEnd, ReportPut}

-- ---- the report

joined : (gone : Removed) → (bytes 4 gone.curve ++ bytes 4 gone.from) ++ bytes 4 gone.to ≡ report gone
joined gone = append_assoc (bytes 4 gone.curve) (bytes 4 gone.from) (bytes 4 gone.to)

pub length_report : (gone : Removed) → length (report gone) ≡ 12
length_report gone =
    simp (length-append, length_bytes)

-- its three numbers, one after the other
pub report_put : (gone : Removed) (front l m k : List ℕ) → l ≡ over_if_fits front 0 (bytes 4 gone.curve) → m ≡ over_if_fits l 4 (bytes 4 gone.from) → k ≡ over_if_fits m 8 (bytes 4 gone.to) → ReportPut gone front k
report_put gone front l m k a b c enough = rw (← joined gone) whole.is
  where
    whole : Run front 0 12 ((bytes 4 gone.curve ++ bytes 4 gone.from) ++ bytes 4 gone.to) k
    whole =
        run_puts front 0 8 4 gone.to (bytes 4 gone.curve ++ bytes 4 gone.from) m k (omega (arith, enough))
        (run_puts front 0 4 4 gone.from (bytes 4 gone.curve) l m (omega (arith, enough)) (run_starts front 0 4 gone.curve (omega (arith, enough)) a) b) c

-- ---- the image

-- where no refusal has the number 0, what is accepted has bytes
pub size_made :
    (o : Outcome Drawing Removed) → (o ≡ refused 0 → ⊥) → ((d : Drawing) (gone : Removed) → o ≡ accepted d gone → length (encode d) ≡ drawing_size d) → (room : ℕ) {before after : List ℕ} (r : ImageAnswer)
    → OutcomeWritten (if_fits room o) before after r → r.refusal ≡ 0 → r.size ≡ 0 → ⊥
unfolding guard
size_made (refused n) numbered sound room r w e z = let q : n ≡ 0 = sym w.refusal ∙ e in numbered (ap refused q)
size_made (accepted d gone) numbered sound room {before} {after} r w e z = go (leb (length (encode d)) room) w
  where
    is : length (encode d) ≡ drawing_size d
    is = sound d gone refl

    go : (t : Bool) → OutcomeWritten (guard t 25 (accepted d gone)) before after r → ⊥
    go true w = let l : 1 ≤ length (encode d) = omega (arith, is) in let s = w.size in omega arith
    go false w = let k = w.refusal in omega arith

module _ (xs : List ℕ) (start : ℕ) (b : ReportEnd (length xs) start) (ys : List ℕ) (r : ImageAnswer) where
  abbrev rest : List ℕ
  rest = drop start xs

  abbrev lent : List ℕ
  lent = take (length xs - start) rest

  -- the buffer with what was lent put back
  abbrev front : List ℕ
  front = take start xs ++ (ys ++ drop (length xs - start) rest)

  long : length rest ≡ length xs - start
  long = length-drop start xs

  all : lent ≡ rest
  all = take_all (length xs - start) rest (omega (arith, long))

  lent_long : length lent ≡ length xs - start
  lent_long = ap length all ∙ long

  back : front ≡ take start xs ++ ys
  back = let h : length rest ≤ length xs - start = omega (arith, long) in rw (drop_of_length-le rest h, append-nil)

  untouched : ys ≡ lent → front ≡ xs
  untouched e = back ∙ ap (λ (l : List ℕ). take start xs ++ l) (e ∙ all) ∙ take-append-drop start xs

  -- where nothing fits behind the report, the report does not fit or the image does not
  short : (size : ℕ) → length lent < size → leb (12 + size) (length xs) ≡ false
  short size h = lt-leb (12 + size) (length xs) (go (leb 12 (length xs)) refl)
    where
      go : (t : Bool) → leb 12 (length xs) ≡ t → length xs < 12 + size
      go true e = let s = b.whole (leb-true 12 (length xs) e) in omega (arith, lent_long)
      go false e = let s = leb-false 12 (length xs) e in omega (arith, lent_long)

  behind_report : (size : ℕ) → 1 ≤ size → size ≤ length lent → (12 ≤ length xs) × (start ≡ 12)
  behind_report size low h = go (leb 12 (length xs)) refl
    where
      go : (t : Bool) → leb 12 (length xs) ≡ t → (12 ≤ length xs) × (start ≡ 12)
      go true e = let s = leb-true 12 (length xs) e in (s, b.whole s)
      go false e = let s = b.short (leb-false 12 (length xs) e) in absurd (omega (arith, lent_long))

  size_low : (d : Drawing) → length (encode d) ≡ drawing_size d → 1 ≤ length (encode d)
  size_low d e = omega arith

  -- ---- a refusal

  pub nothing_written :
      (o : Outcome Drawing Removed) → ((d : Drawing) (gone : Removed) → o ≡ accepted d gone → length (encode d) ≡ drawing_size d) → OutcomeWritten (if_fits (length lent) o) lent ys r
      → r.size ≡ 0 → Wrote o xs front r.refusal
  unfolding guard number_of left_in
  nothing_written (refused n) sound w z = record { number = w.refusal; buffer = untouched w.bytes }
  nothing_written (accepted d gone) sound w z = go (leb (length (encode d)) (length lent)) refl w
    where
      is : length (encode d) ≡ drawing_size d
      is = sound d gone refl

      go : (t : Bool) → leb (length (encode d)) (length lent) ≡ t → OutcomeWritten (guard t 25 (accepted d gone)) lent ys r → Wrote (accepted d gone) xs front r.refusal
      go true e w = let l = size_low d is in let s = w.size in absurd (omega arith)
      go false e w =
          let f : leb (12 + drawing_size d) (length xs) ≡ false = short (drawing_size d) (omega (arith, leb-false (length (encode d)) (length lent) e, is)) in
          record { number = rw f w.refusal; buffer = rw f (untouched w.bytes) }

  -- ---- the image and the report

  module _ (k : List ℕ) (put : ReportPut r.removed front k) where
    pub image_and_report :
        (o : Outcome Drawing Removed) → ((d : Drawing) (gone : Removed) → o ≡ accepted d gone → length (encode d) ≡ drawing_size d) → OutcomeWritten (if_fits (length lent) o) lent ys r
        → (r.size ≡ 0 → ⊥) → Wrote o xs k 0
    unfolding guard number_of left_in over
    image_and_report (refused n) sound w z = absurd (z w.size)
    image_and_report (accepted d gone) sound w z = go (leb (length (encode d)) (length lent)) refl w
      where
        is : length (encode d) ≡ drawing_size d
        is = sound d gone refl

        go : (t : Bool) → leb (length (encode d)) (length lent) ≡ t → OutcomeWritten (guard t 25 (accepted d gone)) lent ys r → Wrote (accepted d gone) xs k 0
        go false e w = absurd (z w.size)
        go true e w =
            let fits = leb-true (length (encode d)) (length lent) e in
            let (room, at) = behind_report (length (encode d)) (size_low d is) fits in
            let twelve : length (take start xs) ≡ 12 = length-take-le start xs b.within ∙ at in
            let enough : 12 ≤ length front = omega (arith, length-append (take start xs) (ys ++ drop (length xs - start) rest), twelve) in
            let i = encode d in
            let from_none : 0 + length i ≡ length i = omega arith in
            let put_over : ys ≡ i ++ drop (length i) rest = w.bytes ∙ rw (all, from_none) in
            let behind : drop 12 front ≡ i ++ drop (length i) rest = ap (drop 12) back ∙ drop_at (take start xs) ys 12 twelve ∙ put_over in
            let rests : drop (length i) rest ≡ drop (12 + length i) xs = ap (λ (n : ℕ). drop (length i) (drop n xs)) at ∙ drop-drop (length i) 12 xs in
            let sizes : 0 + length (report gone ++ i) ≡ 12 + length i = omega (arith, length-append (report gone) i, length_report gone) in
            let f : leb (12 + drawing_size d) (length xs) ≡ true = le-leb (12 + drawing_size d) (length xs) (omega (arith, lent_long, is)) in
            let whole : k ≡ report gone ++ drop 12 front = put enough ∙ rw (w.removed, length_report gone) in
            record {
              number = rw f;
              buffer = rw (f, sizes) (whole ∙ ap (λ (l : List ℕ). report gone ++ l) (behind ∙ ap (λ (l : List ℕ). i ++ l) rests) ∙ sym (append_assoc (report gone) i (drop (12 + length i) xs)));
            }
