-- Laws of the walks that put in, sort and drop. Assumes nothing.
use mathlib.Core.Path.{◌≡◌, refl, sym, ap, ◌∙◌}
use mathlib.Core.List.{List, [], ◌∷◌, ◌++◌, append-nil}
use mathlib.Core.Bool.{Bool, true, false, cond}
use Prim.Native.Nat.{ℕ, suc, ◌+◌, ◌-◌, ◌≤◌, ◌<◌}
use native.Mathlib.Nat.{sub-zero, sub_self}
use native.Mathlib.Numerals.{add-one}
use native.Mathlib.Omega.{arith}
use lib.ListN.{length, take, drop, get_or, set, length-set, length-append, length-drop, drop_of_length-le}
use lib.Seq.{length-take-le, take_all, drop-cons, take-suc, drop-set-lt, set_split, take_at, drop_at, append_snoc}
use lib.Ieee.{Float, nan, lt}
use Rattle.float.specs.Numbers.{◌⊖◌}
use Rattle.float.specs.Sign.{abs}
use Rattle.float.specs.Order.{before}
use Rattle.bernstein.specs.Roots.{insert, sort_onto, dedup_after, dedup_of}
use Rattle.bernstein.proofs.Lists.{pushed}

-- ---- putting one in

-- i of the first k places are done, and y is in hand
pub record Putting (v₀ : List Float) (k : ℕ) (x : Float) (v : List Float) (y : Float) (i : ℕ) : Type 0 where
  pub within : i ≤ k
  pub room : k < length v
  pub same : length v ≡ length v₀
  pub rest : drop (k + 1) v ≡ drop (k + 1) v₀
  pub done : take i v ++ insert y (take (k - i) (drop i v)) ≡ insert x (take k v₀)

pub put_first : (v : List Float) (k : ℕ) (x : Float) → k < length v → Putting v k x v x 0
put_first v k x h = record { within = omega arith; room = h; same = refl; rest = refl; done = rw sub-zero }

insert_before : (a b : Float) (r : List Float) → before a b ≡ true → insert a (b ∷ r) ≡ a ∷ insert b r
unfolding insert
insert_before a b r e = rw e

insert_behind : (a b : Float) (r : List Float) → before a b ≡ false → insert a (b ∷ r) ≡ b ∷ insert a r
unfolding insert
insert_behind a b r e = rw e

module _ (v₀ : List Float) (k : ℕ) (x : Float) (v : List Float) (y : Float) (i : ℕ) (p : Putting v₀ k x v y i) where
  module _ (h : i < k) where
    inside : i < length v
    inside = let g : k < length v = p.room in omega arith

    part : take (k - i) (drop i v) ≡ get_or v i nan ∷ take (k - (i + 1)) (drop (i + 1) v)
    part =
        let e : k - i ≡ suc (k - (i + 1)) = omega arith in
        rw (e, drop-cons v i nan inside, add-one)

    pub swapped : (v' : List Float) (y' : Float) → before y (get_or v i nan) ≡ true → v' ≡ set v i y → y' ≡ get_or v i nan → Putting v₀ k x v' y' (i + 1)
    swapped v' y' t e f =
        let g : k < length v = p.room in
        let l : length v' ≡ length v = ap length e ∙ length-set v i y in
        let h₁ : i < k + 1 = omega arith in
        let h₂ : i < suc i = omega arith in
        let d = p.done in
        record {
          within = omega arith;
          room = omega arith;
          same = l ∙ p.same;
          rest = ap (drop (k + 1)) e ∙ drop-set-lt (k + 1) v i y h₁ ∙ p.rest;
          done =
              rw (e, f) (pushed (insert (get_or v i nan) (take (k - (i + 1)) (drop (i + 1) (set v i y)))) v i y inside
              ∙ rw (add-one, drop-set-lt (suc i) v i y h₂, ← add-one i, ← insert_before y (get_or v i nan) (take (k - (i + 1)) (drop (i + 1) v)) t, ← part) d);
        }

    pub kept : (v' : List Float) (y' : Float) → before y (get_or v i nan) ≡ false → v' ≡ v → y' ≡ y → Putting v₀ k x v' y' (i + 1)
    kept v' y' t e f =
        let d = p.done in
        let rest' = take (k - (i + 1)) (drop (i + 1) v) in
        record {
          within = omega arith;
          room = rw e p.room;
          same = ap length e ∙ p.same;
          rest = ap (drop (k + 1)) e ∙ p.rest;
          done =
              rw (e, f) (ap (λ (z : List Float). z ++ insert y rest') (ap (λ (n : ℕ). take n v) (add-one i) ∙ take-suc v i nan inside)
              ∙ append_snoc (take i v) (get_or v i nan) (insert y rest') ∙ rw (← insert_behind y (get_or v i nan) rest' t, ← part) d);
        }

  pub put_last : k ≤ i → set v k y ≡ insert x (take k v₀) ++ drop (k + 1) v₀
  unfolding insert
  put_last h =
      let b : i ≤ k = p.within in
      let e : i ≡ k = omega arith in
      let z : take k v ++ (y ∷ []) ≡ insert x (take k v₀) = rw (e, sub_self) at p.done in
      set_split v k y p.room ∙ sym (append_snoc (take k v) y (drop (suc k) v)) ∙ rw (z, ← add-one k, p.rest)

-- ---- sorting

cond_length : (t : Bool) (a b : List Float) (n : ℕ) → length a ≡ n → length b ≡ n → length (cond t a b) ≡ n
cond_length true a b n h k = h
cond_length false a b n h k = k

pub insert_length : (x : Float) (l : List Float) → length (insert x l) ≡ suc (length l)
unfolding insert
insert_length x [] = refl
insert_length x (y ∷ l) = cond_length (before x y) (x ∷ insert y l) (y ∷ insert x l) _ (ap suc (insert_length y l)) (ap suc (insert_length x l))

sort_step : (s : List Float) (x : Float) (l : List Float) → sort_onto s (x ∷ l) ≡ sort_onto (insert x s) l
unfolding sort_onto
sort_step s x l = refl

pub record Sorting (v₀ v : List Float) (k : ℕ) : Type 0 where
  pub within : k ≤ length v
  pub same : length v ≡ length v₀
  pub done : sort_onto (take k v) (drop k v) ≡ sort_onto [] v₀

pub sorted_more : (v₀ v v' : List Float) (k : ℕ) → Sorting v₀ v k → k < length v → v' ≡ insert (get_or v k nan) (take k v) ++ drop (k + 1) v → Sorting v₀ v' (k + 1)
sorted_more v₀ v v' k s h e =
    let front = insert (get_or v k nan) (take k v) in
    let h₀ : k ≤ length v = omega arith in
    let n : length front ≡ k + 1 = insert_length (get_or v k nan) (take k v) ∙ ap suc (length-take-le k v h₀) ∙ sym (add-one k) in
    let m : length v' ≡ length v = ap length e ∙ simp (length-append, length-drop) (omega arith) in
    record {
      within = omega arith;
      same = m ∙ s.same;
      done =
          rw (e, take_at front (drop (k + 1) v) (k + 1) n, drop_at front (drop (k + 1) v) (k + 1) n, ← sort_step (take k v) (get_or v k nan) (drop (k + 1) v), add-one k, ← drop-cons v k nan h) s.done;
    }

pub sorted_all : (v₀ v : List Float) (k : ℕ) → Sorting v₀ v k → length v ≤ k → v ≡ sort_onto [] v₀
unfolding sort_onto
sorted_all v₀ v k s h = sym (take_all k v h) ∙ (rw (drop_of_length-le v h) at s.done)

-- ---- dropping what lies near

-- of i elements m are kept, at the front
pub record Dropping (v₀ : List Float) (w : Float) (n : ℕ) (v : List Float) (last : Float) (m i : ℕ) : Type 0 where
  pub some : 1 ≤ m
  pub behind : m ≤ i
  pub within : i ≤ n
  pub count : n ≡ length v
  pub same : length v ≡ length v₀
  pub done : take m v ++ dedup_after w last (drop i v) ≡ dedup_of w v₀

pub drop_none : (w : Float) (v : List Float) → length v ≡ 0 → ([] ≡ dedup_of w v) × (0 ≡ length (dedup_of w v))
unfolding dedup_of
drop_none w [] e = (refl, refl)
drop_none w (x ∷ v) e = absurd (omega arith)

pub drop_first : (w : Float) (v : List Float) → 0 < length v → Dropping v w (length v) v (get_or v 0 nan) 1 1
unfolding dedup_of
drop_first w [] h = absurd (omega arith)
drop_first w (x ∷ v) h = record { some = omega arith; behind = omega arith; within = omega arith; count = refl; same = refl; done = refl }

step_drop : (w last x : Float) (l : List Float) → lt (abs (x ⊖ last)) w ≡ true → dedup_after w last (x ∷ l) ≡ dedup_after w last l
unfolding dedup_after
step_drop w last x l e = rw e

step_keep : (w last x : Float) (l : List Float) → lt (abs (x ⊖ last)) w ≡ false → dedup_after w last (x ∷ l) ≡ x ∷ dedup_after w x l
unfolding dedup_after
step_keep w last x l e = rw e

module _ (v₀ : List Float) (w : Float) (n : ℕ) (v : List Float) (last : Float) (m i : ℕ) (d : Dropping v₀ w n v last m i) where
  module _ (h : i < n) (a : Float) (ea : a ≡ abs (get_or v i nan ⊖ last)) (v' : List Float) (last' : Float) (m' : ℕ) where
    inner : i < length v
    inner = let c : n ≡ length v = d.count in omega arith

    pub dropped : lt a w ≡ true → v' ≡ v → last' ≡ last → m' ≡ m → Dropping v₀ w n v' last' m' (i + 1)
    dropped t ev el em =
        let s : 1 ≤ m = d.some in
        let b : m ≤ i = d.behind in
        record {
          some = omega arith;
          behind = omega arith;
          within = omega arith;
          count = d.count ∙ ap length (sym ev);
          same = ap length ev ∙ d.same;
          done = rw (ev, el, em, add-one, ← step_drop w last (get_or v i nan) (drop (suc i) v) (rw ea at t), ← drop-cons v i nan inner) d.done;
        }

    pub retained : lt a w ≡ false → v' ≡ set v m (get_or v i nan) → last' ≡ get_or v i nan → m' ≡ m + 1 → Dropping v₀ w n v' last' m' (i + 1)
    retained t ev el em =
        let b : m ≤ i = d.behind in
        let c : n ≡ length v = d.count in
        let h₀ : m < length v = omega arith in
        let h₁ : m < suc i = omega arith in
        record {
          some = omega arith;
          behind = omega arith;
          within = omega arith;
          count = c ∙ sym (length-set v m (get_or v i nan)) ∙ ap length (sym ev);
          same = ap length ev ∙ length-set v m (get_or v i nan) ∙ d.same;
          done =
              rw (ev, el, em) (pushed (dedup_after w (get_or v i nan) (drop (i + 1) (set v m (get_or v i nan)))) v m (get_or v i nan) h₀
              ∙ rw (add-one i, drop-set-lt (suc i) v m (get_or v i nan) h₁, ← step_keep w last (get_or v i nan) (drop (suc i) v) (rw ea at t), ← drop-cons v i nan inner) d.done);
        }

  pub drop_last : n ≤ i → (take m v ≡ dedup_of w v₀) × (m ≡ length (dedup_of w v₀))
  unfolding dedup_after
  drop_last h =
      let b : m ≤ i = d.behind in
      let u : i ≤ n = d.within in
      let c : n ≡ length v = d.count in
      let h₁ : length v ≤ i = omega arith in
      let h₂ : m ≤ length v = omega arith in
      let e : take m v ≡ dedup_of w v₀ = sym (append-nil (take m v)) ∙ (rw (drop_of_length-le v h₁) at d.done) in
      (e, sym (length-take-le m v h₂) ∙ ap length e)

-- ---- both

pub tidied : (w : Float) (v s : List Float) (r : ℕ) (d : List Float) → s ≡ sort_onto [] v → take r d ≡ dedup_of w s → r ≡ length (dedup_of w s)
    → (take r d ≡ dedup_of w (sort_onto [] v)) × (r ≡ length (dedup_of w (sort_onto [] v)))
tidied w v s r d e f g = rw (← e) (f, g)

pub counted : (r : ℕ) (v d : List Float) → take r v ≡ d → r ≡ length d → r ≡ length (take r v)
counted r v d e f = f ∙ ap length (sym e)
