-- Points that curves don't use: one curve more, one point fewer. Assumes nothing.
use mathlib.Core.Path.{◌≡◌, refl, ap, sym, ◌∙◌}
use mathlib.Core.Bool.{Bool, true, false, not, ◌&&◌, ◌||◌}
use mathlib.Core.List.{List, [], ◌∷◌, ◌++◌, append_assoc, append-nil}
use Prim.Native.Nat.{ℕ, ◌+◌, ◌<◌}
use native.Mathlib.Numerals.{add-one}
use native.Mathlib.Omega.{arith}
use lib.Dec.{eqb}
use lib.ListN.{length, take, get_or}
use lib.Seq.{take-suc}
use borrow.Author.Tests.{eq-eqb, ne_eqb}
use Rattle.std.specs.Prelude.{option_to_list, Option, Some, None, is_some}
use Rattle.sketch.specs.declared.Curve.{Curve}
use Rattle.sketch.specs.Lists.{ite, keep}
use Rattle.sketch.specs.Lookup.{among}
use Rattle.sketch.specs.Drawing.{uses_of}
use Rattle.sketch.specs.Blanks.{no_curve}
use Rattle.sketch.proofs.Lists.{keep_append, keep_twice, keep_same, keep_true}
use Rattle.edit_plan.specs.declared.Orphans.{Orphans}
use Rattle.edit_plan.specs.Tables.{uses, others}
use Rattle.edit_plan.specs.Changes.{orphan_list, unused_by}
use Rattle.edit_plan.proofs.Leaves.{among_append}

pub uses_append : (xs ys : List Curve) → uses (xs ++ ys) ≡ uses xs ++ uses ys
uses_append [] ys = refl
uses_append (x ∷ xs) ys = ap (λ t. uses_of x.kind x.slots ++ t) (uses_append xs ys) ∙ sym (append_assoc (uses_of x.kind x.slots) (uses xs) (uses ys))

abbrev pub unused_in : Curve → ℕ → Bool
unused_in c p = not (among p (uses_of c.kind c.slots))

more_used : (xs : List Curve) (c : Curve) (p : ℕ) → (not (among p (uses xs)) && unused_in c p) ≡ not (among p (uses (xs ++ (c ∷ []))))
more_used xs c p =
    go (among p (uses xs)) (among p (uses_of c.kind c.slots))
    ∙ ap not (sym (among_append p (uses xs) (uses_of c.kind c.slots)) ∙ ap (λ t. among p (uses xs ++ t)) (sym (append-nil (uses_of c.kind c.slots))) ∙ ap (among p) (sym (uses_append xs (c ∷ []))))
  where
    go : (a b : Bool) → (not a && not b) ≡ not (a || b)
    go true b = refl
    go false b = refl

unused_more : (xs : List Curve) (c : Curve) (ps : List ℕ) → keep (unused_in c) (unused_by xs ps) ≡ unused_by (xs ++ (c ∷ [])) ps
unused_more xs c ps = keep_twice (unused_in c) (λ p. not (among p (uses xs))) ps ∙ keep_same _ _ ps (more_used xs c)

-- nothing is used where there is no curve
pub unused_none : (ps : List ℕ) → unused_by [] ps ≡ ps
unused_none ps = keep_true (λ p. true) (λ p. refl) ps

-- one curve of a table more, unless it is g
module _ (g i : ℕ) (cs : List Curve) (h : i < length cs) where
  others_next : others g (take (i + 1) cs) ≡ others g (take i cs) ++ ite (not (eqb g (get_or cs i no_curve).id)) (get_or cs i no_curve ∷ []) []
  others_next = rw (add-one, take-suc cs i no_curve h) (keep_append (λ (c : Curve). not (eqb g c.id)) (take i cs) (get_or cs i no_curve ∷ []))

  pub unused_on : (new old ps : List ℕ) → (g ≡ (get_or cs i no_curve).id → ⊥) → new ≡ keep (unused_in (get_or cs i no_curve)) old → old ≡ unused_by (others g (take i cs)) ps → new ≡ unused_by (others g (take (i + 1) cs)) ps
  unused_on new old ps ne e w =
      e ∙ ap (keep (unused_in (get_or cs i no_curve))) w ∙ unused_more (others g (take i cs)) (get_or cs i no_curve) ps
      ∙ ap (λ (t : List Curve). unused_by t ps) (sym after)
    where
      after : others g (take (i + 1) cs) ≡ others g (take i cs) ++ (get_or cs i no_curve ∷ [])
      after = others_next ∙ ap (λ b. others g (take i cs) ++ ite (not b) (get_or cs i no_curve ∷ []) []) (ne_eqb g (get_or cs i no_curve).id ne)

  pub unused_past : (old ps : List ℕ) → g ≡ (get_or cs i no_curve).id → old ≡ unused_by (others g (take i cs)) ps → old ≡ unused_by (others g (take (i + 1) cs)) ps
  unused_past old ps e w = w ∙ ap (λ (t : List Curve). unused_by t ps) (sym after)
    where
      after : others g (take (i + 1) cs) ≡ others g (take i cs)
      after =
          others_next ∙ ap (λ b. others g (take i cs) ++ ite (not b) (get_or cs i no_curve ∷ []) []) (eq-eqb g (get_or cs i no_curve).id e)
          ∙ append-nil (others g (take i cs))

-- ---- up to three points

pub orphans_kept : (f : ℕ → Bool) (o : Orphans) → keep f (option_to_list o.first) ++ (keep f (option_to_list o.second) ++ keep f (option_to_list o.third)) ≡ keep f (orphan_list o)
orphans_kept f o =
    ap (λ t. keep f (option_to_list o.first) ++ t) (sym (keep_append f (option_to_list o.second) (option_to_list o.third)))
    ∙ sym (keep_append f (option_to_list o.first) (option_to_list o.second ++ option_to_list o.third))

pub none_go : (o : Orphans) → (is_some o.first || is_some o.second) || is_some o.third ≡ false → orphan_list o ≡ []
none_go o h = go o.first o.second o.third h
  where
    go : (a b c : Option ℕ) → (is_some a || is_some b) || is_some c ≡ false → option_to_list a ++ (option_to_list b ++ option_to_list c) ≡ []
    go None None None e = refl
    go (Some a) b c e = let z : ◌≡◌ {A = ℕ} 0 1 = cc in absurd (omega arith)
    go None (Some b) c e = let z : ◌≡◌ {A = ℕ} 0 1 = cc in absurd (omega arith)
    go None None (Some c) e = let z : ◌≡◌ {A = ℕ} 0 1 = cc in absurd (omega arith)
