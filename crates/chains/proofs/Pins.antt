-- Pins: what they name is there, and stays; so a pinned drawing stays valid. Assumes nothing.
use mathlib.Core.Path.{◌≡◌, refl, sym, ap, ◌∙◌, subst}
use mathlib.Core.Bool.{Bool, true, false, not, ◌&&◌, ◌||◌}
use mathlib.Core.List.{List, [], ◌∷◌, ◌++◌}
use mathlib.Core.Option.{Option, some, none}
use Prim.Native.Nat.{ℕ}
use native.Mathlib.Omega.{arith}
use lib.Dec.{eqb}
use borrow.Author.Tests.{eqb-false}
use Rattle.sketch.specs.declared.Curve.{Curve}
use Rattle.sketch.specs.declared.CurveKind.{CurveKind}
use Rattle.sketch.specs.declared.CurveKind.TheVariants.{Line, Arc, Circle, Bezier, Conic}
use Rattle.sketch.specs.declared.Relation.TheVariants.{Coincident, PointOnCurve}
use Rattle.sketch.specs.Lists.{ite, every, keep}
use Rattle.sketch.specs.Lookup.{among}
use Rattle.sketch.specs.Drawing.{Drawing, Limits, curve_ids, curve_in, uses_of, points_of}
use Rattle.sketch.specs.Valid.{ok_relation, sort_of, sort_at, differ, distinct, sound_curve, fits, apart}
use Rattle.sketch.specs.Facts.{Every, Valid}
use Rattle.sketch.proofs.Bools.{never, and_left, and_right, both}
use Rattle.edit_plan.specs.declared.Pin.{Pin}
use Rattle.edit_plan.specs.declared.Pin.TheVariants.{On, At}
use Rattle.edit_plan.specs.declared.PinnedPoint.{PinnedPoint}
use Rattle.edit_plan.specs.Outcome.{accepted}
use Rattle.edit_plan.specs.Tables.{add_relation, uses}
use Rattle.edit_plan.specs.Steps.{ends_of, ends_at, pin, pin_all}
use Rattle.edit_plan.specs.Suited.{PinHolds}
use Rattle.edit_plan.proofs.Tables.{Holds, holds_map, holds_then}
use Rattle.edit_plan.proofs.Every.{or_left, or_right, or_cases, among_same, every_in, is_differ, every_imp}
use Rattle.chains.proofs.Grown.{has, sort_on, present, Grown, grown_refl}
use Rattle.chains.proofs.Released.{curve_sound_lem}
use Rattle.chains.proofs.Kept.{Kept, kept_trans, keep_relation}

-- what a pin names is there: a curve, or a point
abbrev pub Lies : Drawing → Pin → Type 0
Lies d (On c) = present (sort_on d c) ≡ true
Lies d (At e) = has d e ≡ true

abbrev pub AllLie : Drawing → List PinnedPoint → Type 0
AllLie d [] = Unit {0}
AllLie d (w ∷ ws) = Lies d w.pin × AllLie d ws

pub lies_grown : (d d' : Drawing) → Grown d d' → (w : Pin) → Lies d w → Lies d' w
lies_grown d d' g (On c) h = ap present (g.sorts c (λ e. never (ap present (sym e) ∙ h))) ∙ h
lies_grown d d' g (At e) h = g.points e h

pub all_lie_grown : (d d' : Drawing) → Grown d d' → (ws : List PinnedPoint) → AllLie d ws → AllLie d' ws
all_lie_grown d d' g [] h = tt
all_lie_grown d d' g (w ∷ ws) h = (lies_grown d d' g w.pin h.0, all_lie_grown d d' g ws h.1)

-- ---- a pin that is held names what is there

among_parts : {A : Type 0} (i : ℕ) (xs ys : List ℕ) → among i (xs ++ ys) ≡ true → (among i xs ≡ true → A) → (among i ys ≡ true → A) → A
among_parts i [] ys h f g = g h
among_parts i (x ∷ xs) ys h f g =
    or_cases (eqb i x) (among i (xs ++ ys)) h (λ q. f (or_left (eqb i x) (among i xs) q)) (λ q. among_parts i xs ys q (λ r. f (or_right (eqb i x) (among i xs) r)) g)

used_there : (f : ℕ → Bool) (e : ℕ) (p : Curve → Bool) (cs : List Curve) → Every (sound_curve f) cs → among e (uses (keep p cs)) ≡ true → f e ≡ true
used_there f e p [] s h = never h
used_there f e p (c ∷ cs) s h = go (p c) h (used_there f e p cs s.1)
  where
    go : (b : Bool) → among e (uses (ite b (c ∷ keep p cs) (keep p cs))) ≡ true → (among e (uses (keep p cs)) ≡ true → f e ≡ true) → f e ≡ true
    go true h ih =
        among_parts e (uses_of c.kind c.slots) (uses (keep p cs)) h
        (λ q. every_in f (uses_of c.kind c.slots) e (and_left (every f (uses_of c.kind c.slots)) (distinct c.kind) s.0) q) ih
    go false h ih = ih h

kind_present : (k : CurveKind) → present (sort_of k) ≡ true
unfolding sort_of
kind_present (Line a b) = refl
kind_present (Arc o a b) = refl
kind_present (Circle o r) = refl
kind_present (Bezier n) = refl
kind_present (Conic a p b rho) = refl

curve_present : (i : ℕ) (cs : List Curve) → among i (curve_ids cs) ≡ true → present (sort_at (curve_in cs i)) ≡ true
unfolding curve_in sort_at
curve_present i [] h = never h
curve_present i (c ∷ cs) h = go (eqb i c.id) h (curve_present i cs)
  where
    go : (b : Bool) → b || among i (curve_ids cs) ≡ true → (among i (curve_ids cs) ≡ true → present (sort_at (curve_in cs i)) ≡ true) → present (sort_at (ite b (some c) (curve_in cs i))) ≡ true
    go true h ih = kind_present c.kind
    go false h ih = ih h

pub held_lies : (m : Limits) (d : Drawing) → Valid m d → (t : ℕ) (w : Pin) → PinHolds d t w → Lies d w
held_lies m d v t (On c) h = curve_present c d.curves h.1
held_lies m d v t (At e) h = used_there (has d) e (λ c. not (eqb t c.id)) d.curves v.curves_sound h

-- ---- a pinned drawing

-- the ends of a line or an arc are among the points that it uses
pub ends_used : (k : CurveKind) (s : List ℕ) (e : ℕ × ℕ) → ends_of k ≡ some e → (among e.0 (uses_of k s) ≡ true) × (among e.1 (uses_of k s) ≡ true)
unfolding ends_of uses_of
ends_used (Line a b) s e q =
    let z : ◌≡◌ {A = ℕ × ℕ} (a, b) e = cc in
    subst (λ (y : ℕ × ℕ). (among y.0 (a ∷ b ∷ []) ≡ true) × (among y.1 (a ∷ b ∷ []) ≡ true)) z
    (among_same a (b ∷ []), or_right (eqb b a) (among b (b ∷ [])) (among_same b []))
ends_used (Arc o a b) s e q =
    let z : ◌≡◌ {A = ℕ × ℕ} (a, b) e = cc in
    let l : List ℕ = o ∷ a ∷ b ∷ [] in
    subst (λ (y : ℕ × ℕ). (among y.0 l ≡ true) × (among y.1 l ≡ true)) z (
      or_right (eqb a o) (among a (a ∷ b ∷ [])) (among_same a (b ∷ [])),
      or_right (eqb b o) (among b (a ∷ b ∷ [])) (or_right (eqb b a) (among b (b ∷ [])) (among_same b [])),
    )
ends_used (Circle o r) s e q = let z : ◌≡◌ {A = ℕ} 0 1 = cc in absurd (omega arith)
ends_used (Bezier n) s e q = let z : ◌≡◌ {A = ℕ} 0 1 = cc in absurd (omega arith)
ends_used (Conic a p b rho) s e q = let z : ◌≡◌ {A = ℕ} 0 1 = cc in absurd (omega arith)

module _ (m : Limits) where
  pub ends_there : (d : Drawing) → Valid m d → (i : ℕ) (e : ℕ × ℕ) → ends_at (curve_in d.curves i) ≡ some e → (has d e.0 ≡ true) × (has d e.1 ≡ true)
  unfolding ends_at
  ends_there d v i e q = go (curve_in d.curves i) refl q
    where
      go : (o : Option Curve) → curve_in d.curves i ≡ o → ends_at o ≡ some e → (has d e.0 ≡ true) × (has d e.1 ≡ true)
      go none p q = let z : ◌≡◌ {A = ℕ} 0 1 = cc in absurd (omega arith)
      go (some c) p q =
          let own = uses_of c.kind c.slots in
          let u = ends_used c.kind c.slots e q in
          let h = and_left (every (has d) own) (distinct c.kind) (curve_sound_lem m d v i c p) in
          (every_in (has d) own e.0 h u.0, every_in (has d) own e.1 h u.1)

  pub keep_pin : (d : Drawing) (p : ℕ) (w : Pin) → Valid m d → has d p ≡ true → Lies d w → Holds (λ d' u. Kept m d d') (pin m d p w)
  unfolding pin ok_relation points_of fits apart
  keep_pin d p (On c) v h f =
      keep_relation m d (PointOnCurve p c) v refl
      (both ((has d p && true) && present (sort_on d c)) true (both (has d p && true) (present (sort_on d c)) (both (has d p) true h refl) f) refl)
  keep_pin d p (At e) v h f = go (eqb e p) refl
    where
      go : (b : Bool) → eqb e p ≡ b → Holds (λ d' u. Kept m d d') (ite b (accepted d tt) (add_relation m d (Coincident p e)))
      go true q = record { valid = v; grown = grown_refl d }
      go false q =
          keep_relation m d (Coincident p e) v refl
          (both ((has d p && (has d e && true)) && true) (differ p e)
          (both (has d p && (has d e && true)) true (both (has d p) (has d e && true) h (both (has d e) true f refl)) refl)
          (is_differ p e (λ z. eqb-false e p q (sym z))))

  pub keep_pins : (d : Drawing) (ps : List ℕ) (ws : List PinnedPoint) → Valid m d → every (has d) ps ≡ true → AllLie d ws → Holds (λ d' u. Kept m d d') (pin_all m d ps ws)
  keep_pins d [] ws v h f = record { valid = v; grown = grown_refl d }
  keep_pins d (p ∷ ps) [] v h f = record { valid = v; grown = grown_refl d }
  keep_pins d (p ∷ ps) (w ∷ ws) v h f =
      holds_then (λ d' u. Kept m d d') (λ d' u. Kept m d d') (pin m d p w.pin) _ (keep_pin d p w.pin v (and_left (has d p) (every (has d) ps) h) f.0) λ d' u g.
      holds_map (λ d'' u. Kept m d' d'') (λ d'' u. Kept m d d'') (pin_all m d' ps ws) (λ d'' u k. kept_trans m g k)
      (keep_pins d' ps ws g.valid (every_imp (has d) (has d') ps (λ i q x. g.grown.points i x) (and_right (has d p) (every (has d) ps) h)) (all_lie_grown d d' g.grown ws f.1))
