-- Kinds that may take one another's place: lines a line's, arcs and circles theirs. Assumes nothing.
use mathlib.Core.Path.{◌≡◌, refl, sym, ap, ◌∙◌, subst}
use mathlib.Core.Bool.{Bool, true, not, ◌&&◌, ◌||◌}
use mathlib.Core.List.{List}
use Prim.Native.Nat.{ℕ}
use lib.ListN.{drop}
use lib.Dec.{eqb}
use borrow.Author.Tests.{eq-eqb}
use Rattle.sketch.specs.declared.Curve.{Curve}
use Rattle.sketch.specs.declared.CurveKind.{CurveKind}
use Rattle.sketch.specs.declared.CurveKind.TheVariants.{Line, Arc, Circle, Bezier, Conic}
use Rattle.sketch.specs.Lists.{every}
use Rattle.sketch.specs.Drawing.{uses_of}
use Rattle.sketch.specs.Valid.{ok_number, in_slots, ok_curve, sort_of, is_line_sort, distinct, sound_curve}
use Rattle.sketch.proofs.Bools.{never, and_left, and_right, both}
use Rattle.edit_plan.specs.Tables.{rekind}
use Rattle.chains.proofs.Grown.{alike, sound_kind}

analytic : (k : CurveKind) → alike (sort_of k) (sort_of k) ≡ true → in_slots k ≡ 0
unfolding sort_of in_slots
analytic (Line a b) h = refl
analytic (Arc c a b) h = refl
analytic (Circle c r) h = refl
analytic (Bezier n) h = never h
analytic (Conic a p b rho) h = never h

uses_same : (k : CurveKind) (s s' : List ℕ) → alike (sort_of k) (sort_of k) ≡ true → uses_of k s ≡ uses_of k s'
unfolding sort_of uses_of
uses_same (Line a b) s s' h = refl
uses_same (Arc c a b) s s' h = refl
uses_same (Circle c r) s s' h = refl
uses_same (Bezier n) s s' h = never h
uses_same (Conic a p b rho) s s' h = never h

rekind_is : (t : ℕ) (k : CurveKind) (c : Curve) → c.id ≡ t → rekind t k c ≡ record { id = c.id; construction = c.construction; centerline = c.centerline; infinite = c.infinite; kind = k; slots = c.slots }
rekind_is t k c e = rw (eq-eqb t c.id (sym e))

module _ (t : ℕ) (k : CurveKind) (c : Curve) (e : c.id ≡ t) (s : sort_of k ≡ sort_of c.kind) (a : alike (sort_of k) (sort_of k) ≡ true) where
  pub rekind_ok : ok_number k ≡ true → ok_curve c ≡ true → ok_curve (rekind t k c) ≡ true
  rekind_ok n h =
      let u = and_left (not c.infinite || is_line_sort (sort_of c.kind)) (ok_number c.kind) (and_left ((not c.infinite || is_line_sort (sort_of c.kind)) && ok_number c.kind) (every (λ i. eqb i 0) (drop (in_slots c.kind) c.slots)) h) in
      let z = and_right ((not c.infinite || is_line_sort (sort_of c.kind)) && ok_number c.kind) (every (λ i. eqb i 0) (drop (in_slots c.kind) c.slots)) h in
      let q : in_slots c.kind ≡ in_slots k = analytic c.kind (subst (λ (x : ℕ). alike x x ≡ true) s a) ∙ sym (analytic k a) in
      ap ok_curve (rekind_is t k c e)
      ∙ both ((not c.infinite || is_line_sort (sort_of k)) && ok_number k) (every (λ i. eqb i 0) (drop (in_slots k) c.slots))
      (both (not c.infinite || is_line_sort (sort_of k)) (ok_number k) (ap (λ (x : ℕ). not c.infinite || is_line_sort x) s ∙ u) n)
      (ap (λ (j : ℕ). every (λ i. eqb i 0) (drop j c.slots)) (sym q) ∙ z)

  pub rekind_sound : (h : ℕ → Bool) (l : List ℕ) → sound_kind h k l ≡ true → sound_curve h (rekind t k c) ≡ true
  rekind_sound h l q = ap (sound_curve h) (rekind_is t k c e) ∙ ap (λ (z : List ℕ). every h z && distinct k) (uses_same k c.slots l a) ∙ q
