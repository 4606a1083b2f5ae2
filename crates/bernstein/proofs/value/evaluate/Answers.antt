use Rattle.std.proofs.Common.{◌-◌, ◌≤◌, ◌<◌, ◌≡◌, ◌∙◌, List, ◌++◌, length, take, drop, Float, arith}
use Rattle.bernstein.specs.Evaluate.{casteljau_steps, value_of, evaluate_of}
use Rattle.bernstein.proofs.Lowering.{few, many, front_length, front_value}
use Rattle.bernstein.proofs.value.evaluate.Goals as goal

-- four steps are done
module _ (t : Float) (xs u u₀ : List Float) (more : 4 < length xs) (e : u ≡ casteljau_steps t 4 xs ++ drop (length xs - 4) u₀) where
  abbrev a : List Float
  a = take (length xs - 4) u

  a_count : length xs - 4 ≡ length a
  a_count = front_length t xs u u₀ _ more e (omega arith)

  a_value : length xs ≤ 15 → value_of a t ≡ evaluate_of xs t
  a_value h = front_value t xs u u₀ (length xs - 4) more e (omega arith) ∙ few t xs h

  -- eight
  module _ (v v₀ : List Float) (over : 8 < length xs) (f : v ≡ casteljau_steps t 4 a ++ drop (length a - 4) v₀) where
    abbrev b : List Float
    b = take (length xs - 8) v

    more_a : 4 < length a
    more_a = omega (arith, a_count)

    b_count : length xs - 8 ≡ length b
    b_count = front_length t a v v₀ _ more_a f (omega (arith, a_count))

    b_value : length xs ≤ 15 → value_of b t ≡ evaluate_of xs t
    b_value h = front_value t a v v₀ (length xs - 8) more_a f (omega (arith, a_count)) ∙ a_value h

    -- twelve
    module _ (w w₀ : List Float) (above : 12 < length xs) (g : w ≡ casteljau_steps t 4 b ++ drop (length b - 4) w₀) where
      abbrev d : List Float
      d = take (length xs - 12) w

      more_b : 4 < length b
      more_b = omega (arith, b_count)

      d_count : length xs - 12 ≡ length d
      d_count = front_length t b w w₀ _ more_b g (omega (arith, b_count))

      d_value : length xs ≤ 15 → value_of d t ≡ evaluate_of xs t
      d_value h = front_value t b w w₀ (length xs - 12) more_b g (omega (arith, b_count)) ∙ b_value h

pub returns-then-n-le4 : goal.returns-then-n-le4
returns-then-n-le4 c = c.short_value.ensures ∙ few c.args.t c.args.c.now (omega arith)

pub returns-then-n-gt-MOST : goal.returns-then-n-gt-MOST
returns-then-n-gt-MOST c = many c.args.t c.args.c.now c.if-n-gt-MOST.true

pub slice_bounds-short_value-length : goal.slice_bounds-short_value-length
slice_bounds-short_value-length c = a_count _ _ _ _ c.if-n-le4.false c.casteljau_four.ensures

pub short_value-requires-then-n-le8 : goal.short_value-requires-then-n-le8
short_value-requires-then-n-le8 c = omega (arith, a_count _ _ _ _ c.if-n-le4.false c.casteljau_four.ensures)

pub returns-then-n-le8 : goal.returns-then-n-le8
returns-then-n-le8 c = c.short_value-then-n-le8.ensures ∙ a_value _ _ _ _ c.if-n-le4.false c.casteljau_four.ensures c.if-n-gt-MOST.false

pub slice_bounds-casteljau_four-length : goal.slice_bounds-casteljau_four-length
slice_bounds-casteljau_four-length c = a_count _ _ _ _ c.if-n-le4.false c.casteljau_four.ensures

pub casteljau_four-requires-2 : goal.casteljau_four-requires-2
casteljau_four-requires-2 c =
    let n = a_count _ _ _ _ c.if-n-le4.false c.casteljau_four.ensures in
    (omega arith, omega arith)

pub slice_bounds-short_value-length-then-n-le12 : goal.slice_bounds-short_value-length-then-n-le12
slice_bounds-short_value-length-then-n-le12 c =
    b_count _ _ _ _ c.if-n-le4.false c.casteljau_four.ensures _ _ c.if-n-le8.false c.casteljau_four-2.ensures

pub short_value-requires-then-n-le12 : goal.short_value-requires-then-n-le12
short_value-requires-then-n-le12 c =
    omega (arith, b_count _ _ _ _ c.if-n-le4.false c.casteljau_four.ensures _ _ c.if-n-le8.false c.casteljau_four-2.ensures)

pub returns-then-n-le12 : goal.returns-then-n-le12
returns-then-n-le12 c =
    c.short_value-then-n-le12.ensures
    ∙ b_value _ _ _ _ c.if-n-le4.false c.casteljau_four.ensures _ _ c.if-n-le8.false c.casteljau_four-2.ensures c.if-n-gt-MOST.false

pub slice_bounds-casteljau_four-length-2 : goal.slice_bounds-casteljau_four-length-2
slice_bounds-casteljau_four-length-2 c =
    b_count _ _ _ _ c.if-n-le4.false c.casteljau_four.ensures _ _ c.if-n-le8.false c.casteljau_four-2.ensures

pub casteljau_four-requires-3 : goal.casteljau_four-requires-3
casteljau_four-requires-3 c =
    let n = b_count _ _ _ _ c.if-n-le4.false c.casteljau_four.ensures _ _ c.if-n-le8.false c.casteljau_four-2.ensures in
    (omega arith, omega arith)

pub slice_bounds-short_value-length-2 : goal.slice_bounds-short_value-length-2
slice_bounds-short_value-length-2 c =
    d_count _ _ _ _ c.if-n-le4.false c.casteljau_four.ensures _ _ c.if-n-le8.false c.casteljau_four-2.ensures _ _ c.if-n-le12.false c.casteljau_four-3.ensures

pub short_value-requires-2 : goal.short_value-requires-2
short_value-requires-2 c =
    omega (arith, d_count _ _ _ _ c.if-n-le4.false c.casteljau_four.ensures _ _ c.if-n-le8.false c.casteljau_four-2.ensures _ _ c.if-n-le12.false c.casteljau_four-3.ensures)

pub returns : goal.returns
returns c =
    c.short_value-2.ensures
    ∙ d_value _ _ _ _ c.if-n-le4.false c.casteljau_four.ensures _ _ c.if-n-le8.false c.casteljau_four-2.ensures _ _ c.if-n-le12.false c.casteljau_four-3.ensures c.if-n-gt-MOST.false
