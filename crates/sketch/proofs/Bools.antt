-- Tests joined by `and` and `or`, and numbers compared.
use mathlib.Core.Path.{◌≡◌, refl, sym}
use mathlib.Core.Bool.{Bool, true, false, not, ◌&&◌, ◌||◌}
use Prim.Native.Nat.{ℕ, ◌≤◌, ◌<◌}
use native.Mathlib.Omega.{arith}
use lib.Dec.{leb, ltb}
use borrow.Author.Tests.{leb-true, leb-false, lt-ltb, le-ltb, le-leb, lt-leb}

pub never : {A : Type 0} → false ≡ true → A
never h = let z : ◌≡◌ {A = ℕ} 0 1 = cc in absurd (omega arith)

pub and_left : (a b : Bool) → a && b ≡ true → a ≡ true
and_left true b h = refl
and_left false b h = h

pub and_right : (a b : Bool) → a && b ≡ true → b ≡ true
and_right true b h = h
and_right false b h = never h

pub and_both : (a b : Bool) → a && b ≡ true → (a ≡ true) × (b ≡ true)
and_both a b h = (and_left a b h, and_right a b h)

pub both : (a b : Bool) → a ≡ true → b ≡ true → a && b ≡ true
both true b h k = k
both false b h k = h

pub all_three : (a b c : Bool) → a && b && c ≡ true → (a ≡ true) × (b ≡ true) × (c ≡ true)
all_three a b c h =
    let u = and_left (a && b) c h in
    (and_left a b u, and_right a b u, and_right (a && b) c h)

pub three : (a b c : Bool) → a ≡ true → b ≡ true → c ≡ true → a && b && c ≡ true
three a b c e f g = both (a && b) c (both a b e f) g

pub or_left_false : (a b : Bool) → a || b ≡ false → a ≡ false
or_left_false true b h = h
or_left_false false b h = refl

pub or_right_false : (a b : Bool) → a || b ≡ false → b ≡ false
or_right_false true b h = never (sym h)
or_right_false false b h = h

-- one of two numbers is at most, or above, the other
pub at_most_or_above : {A : Type 0} (m n : ℕ) → (m ≤ n → A) → (n < m → A) → A
at_most_or_above {A} m n f g = go (leb m n) refl
  where
    go : (b : Bool) → leb m n ≡ b → A
    go true e = f (leb-true m n e)
    go false e = g (leb-false m n e)

pub leb_ltb : (a x : ℕ) → leb a x ≡ not (ltb x a)
leb_ltb a x = at_most_or_above a x (λ h. rw (le-leb a x h, le-ltb x a h)) (λ h. rw (lt-leb a x h, lt-ltb x a h))

-- a record whose id is not above the last or not below the next, and one whose id is
pub too_low : {l i : ℕ} (b c : Bool) → i ≤ l → (ltb l i && b && c) ≡ false
too_low {l} {i} b c h = rw (le-ltb l i h)

pub too_high : {i n : ℕ} (a c : Bool) → n ≤ i → (a && ltb i n && c) ≡ false
too_high {i} {n} true c h = rw (le-ltb i n h)
too_high {i} {n} false c h = refl

pub between : {l i n : ℕ} {c t : Bool} → l < i → i < n → c ≡ t → (ltb l i && ltb i n && c) ≡ t
between {l} {i} {n} h k e = rw (lt-ltb l i h, lt-ltb i n k) e

pub joined : {a b c d : Bool} → a ≡ c → b ≡ d → (a && b) ≡ (c && d)
joined e f = cc
