-- Pieces of one sort, and the relations that tie them. Assumes nothing.
use mathlib.Core.Path.{◌≡◌, refl, sym, ap, ◌∙◌}
use mathlib.Core.Bool.{Bool, true, false, ◌&&◌}
use mathlib.Core.List.{List, [], ◌∷◌}
use mathlib.Core.Option.{Option, some, none}
use Prim.Native.Nat.{ℕ, suc}
use native.Mathlib.Omega.{arith}
use Rattle.sketch.specs.declared.Curve.{Curve}
use Rattle.sketch.specs.declared.CurveKind.{CurveKind}
use Rattle.sketch.specs.declared.CurveKind.TheVariants.{Line, Arc, Circle, Bezier, Conic}
use Rattle.sketch.specs.Drawing.{Drawing, Limits, curve_in, points_of}
use Rattle.sketch.specs.Valid.{ok_relation, sort_of, sort_at, is_line_sort, differ, fits, apart, sound_relation}
use Rattle.sketch.specs.Facts.{Valid}
use Rattle.sketch.proofs.Bools.{never, both}
use Rattle.edit_plan.specs.Tables.{add_relation}
use Rattle.edit_plan.specs.Steps.{line_ends, is_some, line_at, tie_relation, tie}
use Rattle.edit_plan.proofs.Tables.{Holds, holds_map, holds_then}
use Rattle.edit_plan.proofs.Every.{is_differ}
use Rattle.chains.proofs.Grown.{has, sort_on, alike, Grown, grown_refl}
use Rattle.chains.proofs.Kept.{UpFrom, Kept, kept_trans, keep_relation}

abbrev pub Sorted : Drawing → ℕ → List ℕ → Type 0
Sorted d s [] = Unit {0}
Sorted d s (i ∷ is) = (sort_on d i ≡ s) × Sorted d s is

pub there_is : (s : ℕ) → alike s s ≡ true → s ≡ 0 → ⊥
there_is s a e = never (ap (λ (x : ℕ). alike x x) (sym e) ∙ a)

pub sort_grown : (d d' : Drawing) → Grown d d' → (s : ℕ) → alike s s ≡ true → (i : ℕ) → sort_on d i ≡ s → sort_on d' i ≡ s
sort_grown d d' g s a i h = g.sorts i (λ e. there_is s a (sym h ∙ e)) ∙ h

pub sorted_grown : (d d' : Drawing) → Grown d d' → (s : ℕ) → alike s s ≡ true → (is : List ℕ) → Sorted d s is → Sorted d' s is
sorted_grown d d' g s a [] h = tt
sorted_grown d d' g s a (i ∷ is) h = (sort_grown d d' g s a i h.0, sorted_grown d d' g s a is h.1)

line_sort : (o : Option Curve) → line_at o ≡ is_line_sort (sort_at o)
unfolding sort_at sort_of
line_sort none = refl
line_sort (some c) = go c.kind
  where
    go : (k : CurveKind) → is_some (line_ends k) ≡ is_line_sort (sort_of k)
    go (Line a b) = refl
    go (Arc o a b) = refl
    go (Circle o r) = refl
    go (Bezier n) = refl
    go (Conic a p b rho) = refl

tied_sound : (d : Drawing) (s : ℕ) → alike s s ≡ true → (a b : ℕ) → sort_on d a ≡ s → sort_on d b ≡ s → (a ≡ b → ⊥) → (ok_relation (tie_relation (is_line_sort s) a b) ≡ true) × (sound_relation (has d) (sort_on d) (tie_relation (is_line_sort s) a b) ≡ true)
unfolding ok_relation points_of fits apart
tied_sound d s l a b p q ne = go (is_line_sort s) refl
  where
    go : (u : Bool) → is_line_sort s ≡ u → (ok_relation (tie_relation u a b) ≡ true) × (sound_relation (has d) (sort_on d) (tie_relation u a b) ≡ true)
    go true e = (refl, both (is_line_sort (sort_on d a) && is_line_sort (sort_on d b)) (differ a b) (both (is_line_sort (sort_on d a)) (is_line_sort (sort_on d b)) (ap is_line_sort p ∙ e) (ap is_line_sort q ∙ e)) (is_differ a b ne))
    go false e = (refl, both (alike (sort_on d a) (sort_on d b)) (differ a b) (ap (λ (x : ℕ). alike x (sort_on d b)) p ∙ ap (alike s) q ∙ l) (is_differ a b ne))

module _ (m : Limits) where
  pub keep_tie : (d : Drawing) (s : ℕ) → alike s s ≡ true → (a : ℕ) (is : List ℕ) → Valid m d → sort_on d a ≡ s → Sorted d s is → UpFrom (suc a) is → Holds (λ d' u. Kept m d d') (tie m d a is)
  keep_tie d s l a [] v p q u = record { valid = v; grown = grown_refl d }
  keep_tie d s l a (b ∷ is) v p q u =
      let e : line_at (curve_in d.curves a) ≡ is_line_sort s = line_sort (curve_in d.curves a) ∙ ap is_line_sort p in
      let t = tied_sound d s l a b p q.0 (λ z. omega (arith, u.0)) in
      holds_then (λ d' x. Kept m d d') (λ d' x. Kept m d d') (add_relation m d (tie_relation (line_at (curve_in d.curves a)) a b)) _
      (keep_relation m d (tie_relation (line_at (curve_in d.curves a)) a b) v (ap (λ (z : Bool). ok_relation (tie_relation z a b)) e ∙ t.0) (ap (λ (z : Bool). sound_relation (has d) (sort_on d) (tie_relation z a b)) e ∙ t.1)) λ d' x g.
      holds_map (λ d'' x. Kept m d' d'') (λ d'' x. Kept m d d'') (tie m d' b is) (λ d'' x k. kept_trans m g k)
      (keep_tie d' s l b is g.valid (sort_grown d d' g.grown s l b q.0) (sorted_grown d d' g.grown s l is q.1) u.1)
