-- A drawing that only grows: its points stay, its curves stay of their sort, and what is said of them stays true. Assumes nothing.
use mathlib.Core.Path.{◌≡◌, refl, sym, ap, ◌∙◌}
use mathlib.Core.Bool.{Bool, true, false, ◌&&◌, ◌||◌}
use mathlib.Core.List.{List, [], ◌∷◌}
use Prim.Native.Nat.{ℕ, ◌≤◌}
use native.Mathlib.Omega.{arith}
use lib.Dec.{ltb, eqb}
use Rattle.sketch.specs.declared.Curve.{Curve}
use Rattle.sketch.specs.declared.CurveKind.{CurveKind}
use Rattle.sketch.specs.declared.Relation.{Relation}
use Rattle.sketch.specs.declared.Relation.TheVariants.{Coincident, PointOnCurve, Collinear, Equal, Length, Distance, Midpoint, ArcLength, ArcSweep}
use Rattle.sketch.specs.Lists.{every}
use Rattle.sketch.specs.Lookup.{among}
use Rattle.sketch.specs.Drawing.{Drawing, uses_of, points_of}
use Rattle.sketch.specs.Valid.{is_line_sort, is_round_sort, distinct, sound_curve, fits, apart, sound_relation, has_point, sort_in}
use Rattle.sketch.proofs.Bools.{never, and_left, and_right, both}
use Rattle.edit_plan.specs.Tables.{curves_of}
use Rattle.edit_plan.proofs.Every.{or_right, among_same, every_imp}

abbrev pub has : Drawing → ℕ → Bool
has d p = has_point d.points p

abbrev pub sort_on : Drawing → ℕ → ℕ
sort_on d i = sort_in d.curves i

-- any sort but none
abbrev pub present : ℕ → Bool
present s = ltb 0 s

-- two lines or two rounds
abbrev pub alike : ℕ → ℕ → Bool
alike a b = (is_line_sort a && is_line_sort b) || (is_round_sort a && is_round_sort b)

abbrev pub sound_kind : (ℕ → Bool) → CurveKind → List ℕ → Bool
sound_kind f k s = every f (uses_of k s) && distinct k

-- ---- what a relation asks stays true

sort_kept : (f : ℕ → Bool) (s s' : ℕ) → f 0 ≡ false → ((s ≡ 0 → ⊥) → s' ≡ s) → f s ≡ true → f s' ≡ true
sort_kept f s s' z k h = ap f (k (λ e. never (sym z ∙ ap f (sym e) ∙ h))) ∙ h

alike_none : (a : ℕ) → alike a 0 ≡ false
alike_none a = go (is_line_sort a) (is_round_sort a)
  where
    go : (x y : Bool) → (x && false) || (y && false) ≡ false
    go true true = refl
    go true false = refl
    go false true = refl
    go false false = refl

fits_kept : (s s' : ℕ → ℕ) (r : Relation) → ((c : ℕ) → among c (curves_of r) ≡ true → (s c ≡ 0 → ⊥) → s' c ≡ s c) → fits s r ≡ true → fits s' r ≡ true
unfolding fits curves_of
fits_kept s s' (Coincident p q) k h = h
fits_kept s s' (PointOnCurve p c) k h = sort_kept present (s c) (s' c) refl (k c (among_same c [])) h
fits_kept s s' (Collinear a b) k h =
    both (is_line_sort (s' a)) (is_line_sort (s' b)) (sort_kept is_line_sort (s a) (s' a) refl (k a (among_same a (b ∷ []))) (and_left (is_line_sort (s a)) (is_line_sort (s b)) h))
    (sort_kept is_line_sort (s b) (s' b) refl (k b (or_right (eqb b a) _ (among_same b []))) (and_right (is_line_sort (s a)) (is_line_sort (s b)) h))
fits_kept s s' (Equal a b) k h =
    sort_kept (λ x. alike (s' a) x) (s b) (s' b) (alike_none (s' a)) (k b (or_right (eqb b a) _ (among_same b [])))
    (sort_kept (λ x. alike x (s b)) (s a) (s' a) refl (k a (among_same a (b ∷ []))) h)
fits_kept s s' (Length l v) k h = sort_kept is_line_sort (s l) (s' l) refl (k l (among_same l [])) h
fits_kept s s' (Distance p q v) k h = h
fits_kept s s' (Midpoint p l) k h = sort_kept is_line_sort (s l) (s' l) refl (k l (among_same l [])) h
fits_kept s s' (ArcLength c v) k h = sort_kept is_round_sort (s c) (s' c) refl (k c (among_same c [])) h
fits_kept s s' (ArcSweep c v) k h = sort_kept is_round_sort (s c) (s' c) refl (k c (among_same c [])) h

pub relation_kept :
    (f f' : ℕ → Bool) (s s' : ℕ → ℕ) (r : Relation) → ((p : ℕ) → among p (points_of r) ≡ true → f p ≡ true → f' p ≡ true)
    → ((c : ℕ) → among c (curves_of r) ≡ true → (s c ≡ 0 → ⊥) → s' c ≡ s c) → sound_relation f s r ≡ true → sound_relation f' s' r ≡ true
relation_kept f f' s s' r j k h =
    let u = and_left (every f (points_of r) && fits s r) (apart r) h in
    both (every f' (points_of r) && fits s' r) (apart r)
    (both (every f' (points_of r)) (fits s' r) (every_imp f f' (points_of r) j (and_left (every f (points_of r)) (fits s r) u)) (fits_kept s s' r k (and_right (every f (points_of r)) (fits s r) u)))
    (and_right (every f (points_of r) && fits s r) (apart r) h)

pub curve_kept : (f f' : ℕ → Bool) (c : Curve) → ((p : ℕ) → among p (uses_of c.kind c.slots) ≡ true → f p ≡ true → f' p ≡ true) → sound_curve f c ≡ true → sound_curve f' c ≡ true
curve_kept f f' c j h =
    both (every f' (uses_of c.kind c.slots)) (distinct c.kind)
    (every_imp f f' (uses_of c.kind c.slots) j (and_left (every f (uses_of c.kind c.slots)) (distinct c.kind) h))
    (and_right (every f (uses_of c.kind c.slots)) (distinct c.kind) h)

-- ---- a drawing that grew: points stay, curves stay what they are

pub record Grown (d d' : Drawing) : Type 0 where
  pub points : (p : ℕ) → has d p ≡ true → has d' p ≡ true
  pub sorts : (i : ℕ) → (sort_on d i ≡ 0 → ⊥) → sort_on d' i ≡ sort_on d i
  pub next : d.next ≤ d'.next

pub grown_refl : (d : Drawing) → Grown d d
grown_refl d = record { points = λ p h. h; sorts = λ i h. refl; next = omega arith }

pub grown_trans : {d e f : Drawing} → Grown d e → Grown e f → Grown d f
grown_trans g h =
    record { points = λ p k. h.points p (g.points p k); sorts = λ i k. h.sorts i (λ e. k (sym (g.sorts i k) ∙ e)) ∙ g.sorts i k; next = omega (arith, g.next, h.next) }
