-- What `magnitude_of` tells of a list, and how one pass finds it. Assumes nothing.
use mathlib.Core.Path.{◌≡◌, refl, sym, ◌∙◌, ap}
use mathlib.Core.List.{List, [], ◌∷◌}
use mathlib.Core.Bool.{Bool, true, false, not, cond, true≢false, false≢true}
use mathlib.Core.Logic.{◌⊎◌, inl, inr}
use Prim.Native.Nat.{ℕ, zero, suc, ◌+◌, ◌*◌, ◌≤◌, ◌<◌}
use native.Mathlib.Numerals.{add-one}
use native.Mathlib.Nat.{le_of_suc-le-suc}
use native.Mathlib.Omega.{arith}
use borrow.Author.Tests.{ltb-true, ltb-false, le-ltb}
use lib.Dec.{T}
use lib.ListN.{length, drop, get_or, set, drop_of_length-le}
use lib.Seq.{drop-cons}
use lib.Ieee.{Float, nan, inf, fin, lt, le, is_nan, of_bits}
use lib.Ieee.Positive.{num, den, den_pos, through}
use Rattle.float.specs.Root.{plain}
use Rattle.float.specs.Numbers.{0f}
use Rattle.float.specs.Sign.{abs, is_finite}
use Rattle.float.specs.Order.{max}
use Rattle.float.specs.Magnitude.{all_finite, largest_of, finite_front, Magnitude, Largest, NotFinite, magnitude_of, MagnitudeWritten}
use Rattle.float.proofs.Plain.{◌⊑◌, plain_lt, plain_le}

-- ---- either answer tells whether all are finite

module _ (c : List Float) where
  pub magnitude_largest : (m : Float) → magnitude_of c ≡ Largest m → (all_finite c ≡ true) × (m ≡ largest_of 0f c)
  unfolding magnitude_of
  magnitude_largest m h = go (all_finite c) refl h
    where
      go : (b : Bool) → all_finite c ≡ b → cond b (Largest (largest_of 0f c)) (NotFinite (finite_front c)) ≡ Largest m → (all_finite c ≡ true) × (m ≡ largest_of 0f c)
      go true e k = (e, cc)
      go false e k = let z : ◌≡◌ {A = ℕ} 0 1 = cc in absurd (omega arith)

  pub magnitude_not_finite : (k : ℕ) → magnitude_of c ≡ NotFinite k → (all_finite c ≡ false) × (k ≡ finite_front c)
  unfolding magnitude_of
  magnitude_not_finite k h = go (all_finite c) refl h
    where
      go : (b : Bool) → all_finite c ≡ b → cond b (Largest (largest_of 0f c)) (NotFinite (finite_front c)) ≡ NotFinite k → (all_finite c ≡ false) × (k ≡ finite_front c)
      go true e l = let z : ◌≡◌ {A = ℕ} 0 1 = cc in absurd (omega arith)
      go false e l = (e, cc)

-- ---- the place is that of a number which is not finite, and all before it are finite

finite_front_within : (c : List Float) → all_finite c ≡ false → (finite_front c < length c) × (is_finite (get_or c (finite_front c) nan) ≡ false)
unfolding all_finite finite_front
finite_front_within [] e = absurd (true≢false e)
finite_front_within (x ∷ xs) e = go (is_finite x) refl e (λ k. finite_front_within xs k)
  where
    go : (b : Bool) → is_finite x ≡ b → cond b (all_finite xs) false ≡ false
        → (all_finite xs ≡ false → (finite_front xs < length xs) × (is_finite (get_or xs (finite_front xs) nan) ≡ false))
        → (cond b (suc (finite_front xs)) 0 < length (x ∷ xs)) × (is_finite (get_or (x ∷ xs) (cond b (suc (finite_front xs)) 0) nan) ≡ false)
    go true t k rest = (omega (arith, (rest k).0), (rest k).1)
    go false t k rest = (omega arith, t)

finite_front_before : (c : List Float) (j : ℕ) → j < finite_front c → is_finite (get_or c j nan) ≡ true
unfolding finite_front
finite_front_before [] j h = absurd (omega arith)
finite_front_before (x ∷ xs) j h = go (is_finite x) refl j h (λ i l. finite_front_before xs i l)
  where
    go : (b : Bool) → is_finite x ≡ b → (j : ℕ) → j < cond b (suc (finite_front xs)) 0 → ((i : ℕ) → i < finite_front xs → is_finite (get_or xs i nan) ≡ true)
        → is_finite (get_or (x ∷ xs) j nan) ≡ true
    go true t zero h rest = t
    go true t (suc j) h rest = rest j (le_of_suc-le-suc h)
    go false t j h rest = absurd (omega arith)

module _ (c : List Float) (k : ℕ) (h : magnitude_of c ≡ NotFinite k) where
  pub magnitude_place : (k < length c) × (is_finite (get_or c k nan) ≡ false)
  magnitude_place = rw (magnitude_not_finite c k h).1 (finite_front_within c (magnitude_not_finite c k h).0)

  pub magnitude_first : (j : ℕ) → j < k → is_finite (get_or c j nan) ≡ true
  magnitude_first j l = finite_front_before c j (omega (arith, l, (magnitude_not_finite c k h).1))

-- ---- the largest is at least every magnitude, and it is one of them or +0

all_finite_cons : (x : Float) (xs : List Float) → all_finite (x ∷ xs) ≡ true → (is_finite x ≡ true) × (all_finite xs ≡ true)
unfolding all_finite
all_finite_cons x xs e = go (is_finite x) refl e
  where
    go : (b : Bool) → is_finite x ≡ b → cond b (all_finite xs) false ≡ true → (is_finite x ≡ true) × (all_finite xs ≡ true)
    go true t k = (t, k)
    go false t k = absurd (false≢true k)

abs_plain : (x : Float) → is_finite x ≡ true → T (plain (abs x))
unfolding is_finite abs
abs_plain nan e = absurd (false≢true e)
abs_plain (inf s) e = absurd (false≢true e)
abs_plain (fin s m e) t = tt

plain_number : (x : Float) → T (plain x) → is_nan x ≡ false
unfolding is_nan
plain_number nan p = absurd p
plain_number (inf s) p = absurd p
plain_number (fin s m e) p = refl

max_plain : (m a : Float) → T (plain m) → T (plain a) → T (plain (max m a)) × (m ⊑ max m a) × (a ⊑ max m a)
unfolding max
max_plain m a p q = rw (plain_number m p) (go (lt m a) refl)
  where
    go : (t : Bool) → lt m a ≡ t → T (plain (cond t a m)) × (m ⊑ cond t a m) × (a ⊑ cond t a m)
    go true l =
        let n : num m * den a < num a * den m = ltb-true (num m * den a) (num a * den m) (sym (plain_lt m a p q) ∙ l) in
        (q, omega arith, omega arith)
    go false l = (p, omega arith, ltb-false (num m * den a) (num a * den m) (sym (plain_lt m a p q) ∙ l))

⊑_trans : (r s t : Float) → r ⊑ s → s ⊑ t → r ⊑ t
⊑_trans r s t h k = through (num r) (num s) (num t) (den r) (den s) (den t) (den_pos s) h k

largest_above : (m : Float) (c : List Float) → T (plain m) → all_finite c ≡ true → T (plain (largest_of m c)) × (m ⊑ largest_of m c)
unfolding largest_of
largest_above m [] p e = (p, omega arith)
largest_above m (x ∷ xs) p e =
    let f = all_finite_cons x xs e in
    let top = max_plain m (abs x) p (abs_plain x f.0) in
    let rest = largest_above (max m (abs x)) xs top.0 f.1 in
    (rest.0, ⊑_trans m (max m (abs x)) (largest_of (max m (abs x)) xs) top.1 rest.1)

largest_bounds : (m : Float) (c : List Float) → T (plain m) → all_finite c ≡ true → (j : ℕ) → j < length c → T (plain (abs (get_or c j nan))) × (abs (get_or c j nan) ⊑ largest_of m c)
unfolding largest_of
largest_bounds m [] p e j h = absurd (omega arith)
largest_bounds m (x ∷ xs) p e zero h =
    let f = all_finite_cons x xs e in
    let q = abs_plain x f.0 in
    let top = max_plain m (abs x) p q in
    let rest = largest_above (max m (abs x)) xs top.0 f.1 in
    (q, ⊑_trans (abs x) (max m (abs x)) (largest_of (max m (abs x)) xs) top.2 rest.1)
largest_bounds m (x ∷ xs) p e (suc j) h =
    let f = all_finite_cons x xs e in
    largest_bounds (max m (abs x)) xs (max_plain m (abs x) p (abs_plain x f.0)).0 f.1 j (le_of_suc-le-suc h)

-- the float m is the magnitude of one of the list
abbrev pub IsMagnitudeIn : Float → List Float → Type 0
IsMagnitudeIn m c = (j : ℕ) × (j < length c) × (m ≡ abs (get_or c j nan))

max_either : (m a : Float) → (max m a ≡ m) ⊎ (max m a ≡ a)
unfolding max
max_either m a = go (is_nan m) (lt m a)
  where
    go : (n t : Bool) → (cond n a (cond t a m) ≡ m) ⊎ (cond n a (cond t a m) ≡ a)
    go true t = inr refl
    go false true = inr refl
    go false false = inl refl

largest_attained : (m : Float) (c : List Float) → (largest_of m c ≡ m) ⊎ IsMagnitudeIn (largest_of m c) c
unfolding largest_of
largest_attained m [] = inl refl
largest_attained m (x ∷ xs) = go (largest_of (max m (abs x)) xs) (largest_attained (max m (abs x)) xs) (max_either m (abs x))
  where
    go : (n : Float) → (n ≡ max m (abs x)) ⊎ IsMagnitudeIn n xs → (max m (abs x) ≡ m) ⊎ (max m (abs x) ≡ abs x) → (n ≡ m) ⊎ IsMagnitudeIn n (x ∷ xs)
    go n (inl e) (inl k) = inl (e ∙ k)
    go n (inl e) (inr k) = inr (0, omega arith, e ∙ k)
    go n (inr (j, h, e)) k = inr (suc j, omega arith, e)

module _ (c : List Float) (m : Float) (h : magnitude_of c ≡ Largest m) where
  pub magnitude_bounds : (j : ℕ) → j < length c → le (abs (get_or c j nan)) m ≡ true
  unfolding of_bits
  magnitude_bounds j l =
      let f = magnitude_largest c m h in
      let top = largest_above 0f c tt f.0 in
      let b = largest_bounds 0f c tt f.0 j l in
      let a = abs (get_or c j nan) in
      let t = largest_of 0f c in
      rw f.1 (plain_le a t b.0 top.0 ∙ ap not (plain_lt t a top.0 b.0 ∙ le-ltb (num t * den a) (num a * den t) b.1))

  pub magnitude_attained : (m ≡ 0f) ⊎ IsMagnitudeIn m c
  magnitude_attained = rw (magnitude_largest c m h).1 (largest_attained 0f c)

-- ---- the same as plain numbers

finite_front_all : (c : List Float) → all_finite c ≡ true → finite_front c ≡ length c
unfolding all_finite finite_front
finite_front_all [] e = refl
finite_front_all (x ∷ xs) e = let f = all_finite_cons x xs e in rw f.0 (ap suc (finite_front_all xs f.1))

module _ (c lent : List Float) (r : Magnitude) (e : r ≡ magnitude_of c) where
  pub magnitude_written_largest : (m : Float) → r ≡ Largest m → MagnitudeWritten c lent (set lent 0 m) (length c)
  magnitude_written_largest m k =
      let f = magnitude_largest c m (sym e ∙ k) in
      record { place = sym (finite_front_all c f.0); largest = rw (f.0, f.1) }

  pub magnitude_written_not_finite : (k : ℕ) → r ≡ NotFinite k → MagnitudeWritten c lent lent k
  magnitude_written_not_finite k l =
      let f = magnitude_not_finite c k (sym e ∙ l) in
      record { place = f.1; largest = rw f.0 }

-- ---- one pass: what is told where the list l is left behind i finite numbers with the largest magnitude m

unfoldable pub magnitude_from : ℕ → Float → List Float → Magnitude
magnitude_from i m l = cond (all_finite l) (Largest (largest_of m l)) (NotFinite (i + finite_front l))

pub magnitude_from_start : (c : List Float) → magnitude_from 0 0f c ≡ magnitude_of c
unfolding magnitude_from magnitude_of
magnitude_from_start c =
    let k : 0 + finite_front c ≡ finite_front c = omega arith in
    rw k

module _ (c : List Float) (i : ℕ) (m : Float) where
  pub magnitude_from_end : length c ≤ i → magnitude_from i m (drop i c) ≡ Largest m
  unfolding magnitude_from all_finite largest_of
  magnitude_from_end h = rw (drop_of_length-le c h)

  module _ (h : i < length c) (b : Bool) (e : b ≡ is_finite (get_or c i nan)) where
    pub magnitude_from_not_finite : b ≡ false → magnitude_from i m (drop i c) ≡ NotFinite i
    unfolding magnitude_from all_finite finite_front
    magnitude_from_not_finite f = rw (drop-cons c i nan h, sym e ∙ f) (ap NotFinite (omega arith))

    pub magnitude_from_finite : b ≡ true → (a n : Float) → a ≡ abs (get_or c i nan) → n ≡ max m a → magnitude_from (i + 1) n (drop (i + 1) c) ≡ magnitude_from i m (drop i c)
    unfolding magnitude_from all_finite largest_of finite_front
    magnitude_from_finite t a n ea en =
        let k : suc i + finite_front (drop (suc i) c) ≡ i + suc (finite_front (drop (suc i) c)) = omega arith in
        rw (en, ea, add-one, drop-cons c i nan h, sym e ∙ t, k)
