-- The pieces of one curve while a plan is applied: what holds of them after each step. Assumes nothing.
use mathlib.Core.Path.{◌≡◌, refl, sym, ap, ◌∙◌, subst}
use mathlib.Core.Bool.{Bool}
use mathlib.Core.List.{List, [], ◌∷◌, ◌++◌, map}
use mathlib.Core.Option.{Option, some, none}
use Prim.Native.Nat.{ℕ, suc, ◌+◌, ◌≤◌, ◌<◌}
use native.Mathlib.Omega.{arith}
use native.Mathlib.Decide.{ℕ_discrete, dec_lt}
use borrow.Author.Tests.{eq-eqb}
use Rattle.sketch.specs.declared.Curve.{Curve}
use Rattle.sketch.specs.declared.CurveKind.{CurveKind}
use Rattle.sketch.specs.Drawing.{curve_ids, curve_in}
use Rattle.edit_plan.specs.declared.Removed.{Removed}
use Rattle.edit_plan.specs.Counts.{occurrences}
use Rattle.edit_plan.specs.Tables.{rekind, new_curve}
use Rattle.edit_plan.specs.Steps.{ends_of, ends_at}
use Rattle.edit_plan.proofs.Tables.{occ_same, occ_other, look_some, look_left, look_right, occ_ids, ids_set, rekind_same, look_set, look_set_other}
use Rattle.agreement.specs.Families.{centre_of, centre_at}
use Rattle.agreement.proofs.Counts.{one_is}

-- a piece is a curve's id with its two ends, as a report has them
abbrev pub Piece : Type 0
Piece = Removed

abbrev pub names : List Piece → List ℕ
names ps = map (λ p. p.curve) ps

abbrev pub link : ℕ → ℕ → ℕ → Piece
link i a b = record { curve = i; from = a; to = b }

pub same_ends : (a b x y : ℕ) → ◌≡◌ {A = Option (ℕ × ℕ)} (some (a, b)) (some (x, y)) → (a ≡ x) × (b ≡ y)
same_ends a b x y e =
    let v : ◌≡◌ {A = ℕ × ℕ} (a, b) (x, y) = cc in
    (ap (λ (z : ℕ × ℕ). z.0) v, ap (λ (z : ℕ × ℕ). z.1) v)

-- each piece stands in the table
abbrev pub Standing : List Curve → List Piece → Type 0
Standing cs [] = Unit {0}
Standing cs (p ∷ ps) = (ends_at (curve_in cs p.curve) ≡ some (p.from, p.to)) × Standing cs ps

-- from the table cs below n to cs' below n': t became the pieces ps, about its centre if it has one, the other curves are as they were, what else is new is
-- a piece
pub record PiecesAdded (n : ℕ) (cs : List Curve) (t : ℕ) (n' : ℕ) (cs' : List Curve) (ps : List Piece) : Type 0 where
  pub grows : n ≤ n'
  pub beside : (i : ℕ) → i < n → (i ≡ t → ⊥) → (curve_in cs' i ≡ curve_in cs i) × (occurrences i (curve_ids cs') ≡ occurrences i (curve_ids cs))
  pub stand : Standing cs' ps
  pub low : (i : ℕ) → i < n → occurrences i (names ps) ≡ occurrences i (t ∷ [])
  pub high : (i : ℕ) → n ≤ i → occurrences i (names ps) ≡ occurrences i (curve_ids cs')
  pub once : (i : ℕ) → n ≤ i → occurrences i (curve_ids cs') ≤ 1
  pub below : (i : ℕ) → n' ≤ i → occurrences i (curve_ids cs') ≡ 0
  pub centred : (i : ℕ) → 0 < occurrences i (names ps) → centre_at (curve_in cs' i) ≡ centre_at (curve_in cs t)

-- ids lie from 1 to below n
pub record Low (n : ℕ) (cs : List Curve) : Type 0 where
  pub below : (i : ℕ) → n ≤ i → occurrences i (curve_ids cs) ≡ 0
  pub above : occurrences 0 (curve_ids cs) ≡ 0

pub stand_in : (cs : List Curve) (i : ℕ) (e : ℕ × ℕ) → ends_at (curve_in cs i) ≡ some e → 0 < occurrences i (curve_ids cs)
unfolding ends_at
stand_in cs i e h = go (curve_in cs i) refl h
  where
    go : (o : Option Curve) → curve_in cs i ≡ o → ends_at o ≡ some e → 0 < occurrences i (curve_ids cs)
    go none q h = let z : ◌≡◌ {A = ℕ} 0 1 = cc in absurd (omega arith)
    go (some c) q h = (look_some cs i c q).0

standing_as : (cs cs' : List Curve) (ps : List Piece) → ((i : ℕ) → 0 < occurrences i (names ps) → curve_in cs' i ≡ curve_in cs i) → Standing cs ps → Standing cs' ps
standing_as cs cs' [] k h = tt
standing_as cs cs' (p ∷ ps) k h =
    (ap ends_at (k p.curve (omega (arith, occ_same p.curve (names ps)))) ∙ h.0, standing_as cs cs' ps (λ i q. k i (omega arith)) h.1)

standing_append : (cs : List Curve) (ps qs : List Piece) → Standing cs ps → Standing cs qs → Standing cs (ps ++ qs)
standing_append cs [] qs h k = k
standing_append cs (p ∷ ps) qs h k = (h.0, standing_append cs ps qs h.1 k)

names_append : (i : ℕ) (ps qs : List Piece) → occurrences i (names (ps ++ qs)) ≡ occurrences i (names ps) + occurrences i (names qs)
names_append i [] qs = omega arith
names_append i (p ∷ ps) qs = let h = names_append i ps qs in omega arith

-- ids go on rising
pub pieces_added_grow : {n : ℕ} {cs : List Curve} {t n' : ℕ} {cs' : List Curve} {ps : List Piece} (n'' : ℕ) → n' ≤ n'' → PiecesAdded n cs t n' cs' ps → PiecesAdded n cs t n'' cs' ps
pieces_added_grow n'' g l =
    record { grows = omega arith; beside = l.beside; stand = l.stand; low = l.low; high = l.high; once = l.once; below = λ i h. l.below i (omega arith); centred = l.centred }

-- the first piece: t itself, its kind changed or not
pub pieces_added_one :
    (n : ℕ) (cs : List Curve) (t n' : ℕ) (cs' : List Curve) (a b : ℕ) → Low n cs → n ≤ n' → curve_ids cs' ≡ curve_ids cs
    → ((i : ℕ) → (i ≡ t → ⊥) → curve_in cs' i ≡ curve_in cs i) → ends_at (curve_in cs' t) ≡ some (a, b) → centre_at (curve_in cs' t) ≡ centre_at (curve_in cs t)
    → PiecesAdded n cs t n' cs' (link t a b ∷ [])
pieces_added_one n cs t n' cs' a b w g e o h q =
    record {
      grows = g;
      beside = λ i q ne. (o i ne, ap (occurrences i) e);
      stand = (h, tt);
      low = λ i q. refl;
      high = λ i q. occ_other i t [] (λ z. omega (arith, there i q z)) ∙ sym (zero_at i q);
      once = λ i q. omega (arith, zero_at i q);
      below = λ i q. zero_at i (omega arith);
      centred = λ i p. ap (λ (j : ℕ). centre_at (curve_in cs' j)) (one_is i t p) ∙ q;
    }
  where
    zero_at : (i : ℕ) → n ≤ i → occurrences i (curve_ids cs') ≡ 0
    zero_at i q = ap (occurrences i) e ∙ w.below i q

    there : (i : ℕ) → n ≤ i → i ≡ t → 1 ≤ 0
    there i q z = omega (arith, zero_at i q, subst (λ (j : ℕ). 0 < occurrences j (curve_ids cs')) (sym z) (stand_in cs' t (a, b) h))

-- one more piece, last
module _ {n : ℕ} {cs : List Curve} {t n' : ℕ} {cs' : List Curve} {ps : List Piece} (l : PiecesAdded n cs t n' cs' ps) (k : CurveKind) (u : Bool) (a b : ℕ) (e : ends_of k ≡ some (a, b)) (o : centre_of k ≡ centre_at (curve_in cs t)) where
  count : (i : ℕ) → occurrences i (curve_ids (cs' ++ (new_curve n' k u ∷ []))) ≡ occurrences i (curve_ids cs') + occurrences i (n' ∷ [])
  count i = occ_ids i cs' (new_curve n' k u ∷ [])

  old_look : (i : ℕ) → (i ≡ n' → ⊥) → curve_in (cs' ++ (new_curve n' k u ∷ [])) i ≡ curve_in cs' i
  old_look i ne = look_left cs' (new_curve n' k u ∷ []) i (occ_other i n' [] ne)

  new_look : curve_in (cs' ++ (new_curve n' k u ∷ [])) n' ≡ some (new_curve n' k u)
  unfolding curve_in
  new_look = rw (look_right cs' (new_curve n' k u ∷ []) n' (l.below n' (omega arith)), eq-eqb n' n' refl) refl

  new_ends : ends_at (curve_in (cs' ++ (new_curve n' k u ∷ [])) n') ≡ some (a, b)
  unfolding ends_at
  new_ends = ap ends_at new_look ∙ e

  not_piece : (i : ℕ) → 0 < occurrences i (names ps) → i ≡ n' → ⊥
  not_piece i p z = omega (arith, ap (λ (j : ℕ). occurrences j (names ps)) z, l.high n' l.grows, l.below n' (omega arith))

  pub pieces_added_more : PiecesAdded n cs t (suc n') (cs' ++ (new_curve n' k u ∷ [])) (ps ++ (link n' a b ∷ []))
  pieces_added_more =
      record {
        grows = omega (arith, l.grows);
        beside = λ i q ne. (old_look i (λ z. omega (arith, l.grows)) ∙ (l.beside i q ne).0, omega (arith, count i, (l.beside i q ne).1, occ_other i n' [] (λ z. omega (arith, l.grows))));
        stand =
            standing_append (cs' ++ (new_curve n' k u ∷ [])) ps (link n' a b ∷ [])
            (standing_as cs' (cs' ++ (new_curve n' k u ∷ [])) ps (λ i q. old_look i (not_piece i q)) l.stand)
            (new_ends, tt);
        low = λ i q. omega (arith, names_append i ps (link n' a b ∷ []), l.low i q, occ_other i n' [] (λ z. omega (arith, l.grows)));
        high = λ i q. omega (arith, names_append i ps (link n' a b ∷ []), l.high i q, count i);
        once = λ i q. once_at i q (ℕ_discrete i n');
        below = λ i q. omega (arith, count i, l.below i (omega arith), occ_other i n' [] (λ z. omega arith));
        centred = λ i q. centred_at i q (ℕ_discrete i n');
      }
    where
      centred_at : (i : ℕ) → 0 < occurrences i (names (ps ++ (link n' a b ∷ []))) → Dec (i ≡ n') → centre_at (curve_in (cs' ++ (new_curve n' k u ∷ [])) i) ≡ centre_at (curve_in cs t)
      centred_at i q (yes z) = ap (λ (j : ℕ). centre_at (curve_in (cs' ++ (new_curve n' k u ∷ [])) j)) z ∙ ap centre_at new_look ∙ o
      centred_at i q (no ne) = ap centre_at (old_look i ne) ∙ l.centred i (omega (arith, names_append i ps (link n' a b ∷ []), occ_other i n' [] ne))

      once_at : (i : ℕ) → n ≤ i → Dec (i ≡ n') → occurrences i (curve_ids (cs' ++ (new_curve n' k u ∷ []))) ≤ 1
      once_at i q (yes z) = omega (arith, count i, ap (λ (j : ℕ). occurrences j (n' ∷ [])) z, occ_same n' [], l.below i (omega arith))
      once_at i q (no ne) = omega (arith, count i, l.once i q, occ_other i n' [] ne)

-- the second piece is new
pub second_new : {n : ℕ} {cs : List Curve} {t n' : ℕ} {cs' : List Curve} {ps : List Piece} (p q : Piece) → PiecesAdded n cs t n' cs' (p ∷ q ∷ ps) → p.curve ≡ t → n ≤ q.curve
second_new {n} {cs} {t} {n'} {cs'} {ps} p q l e = go (dec_lt q.curve n)
  where
    go : Dec (q.curve < n) → n ≤ q.curve
    go (yes h) = absurd (omega (arith, l.low q.curve h, ap (λ (i : ℕ). occurrences q.curve (i ∷ q.curve ∷ names ps)) e, occ_same q.curve []))
    go (no ne) = omega arith

-- the swap: the first two pieces exchange their ids
module _ {n : ℕ} {cs : List Curve} {t n' : ℕ} {cs' : List Curve} {ps : List Piece} (g a b c e : ℕ) (l : PiecesAdded n cs t n' cs' (link t a b ∷ link g c e ∷ ps)) (h : t < n) (x y : Curve) (ex : curve_in cs' t ≡ some x) (ey : curve_in cs' g ≡ some y) where
  swapped : List Curve
  swapped = map (rekind g x.kind) (map (rekind t y.kind) cs')

  split_occ : (i : ℕ) → occurrences i (t ∷ g ∷ names ps) ≡ occurrences i (t ∷ []) + (occurrences i (g ∷ []) + occurrences i (names ps))
  split_occ i = omega arith

  g_high : n ≤ g
  g_high = second_new (link t a b) (link g c e) l refl

  rest_t : occurrences t (names ps) ≡ 0
  rest_t = omega (arith, l.low t h, split_occ t)

  rest_g : occurrences g (names ps) ≡ 0
  rest_g = omega (arith, l.high g g_high, l.once g g_high, split_occ g, occ_same g [])

  ids_swapped : curve_ids swapped ≡ curve_ids cs'
  unfolding swapped
  ids_swapped = ids_set g x.kind (map (rekind t y.kind) cs') ∙ ids_set t y.kind cs'

  look_swapped : (i : ℕ) → (i ≡ t → ⊥) → (i ≡ g → ⊥) → curve_in swapped i ≡ curve_in cs' i
  unfolding swapped
  look_swapped i nt ng = look_set_other g x.kind (map (rekind t y.kind) cs') i ng ∙ look_set_other t y.kind cs' i nt

  -- each has the other's kind
  look_g : curve_in swapped g ≡ some (rekind g x.kind y)
  unfolding swapped
  look_g = look_set g x.kind (map (rekind t y.kind) cs') g y (look_set_other t y.kind cs' g (λ z. omega (arith, g_high)) ∙ ey)

  look_t : curve_in swapped t ≡ some (rekind t y.kind x)
  unfolding swapped
  look_t = look_set_other g x.kind (map (rekind t y.kind) cs') t (λ z. omega (arith, g_high)) ∙ look_set t y.kind cs' t x ex

  kind_g : (rekind g x.kind y).kind ≡ x.kind
  kind_g = rekind_same g x.kind y (look_some cs' g y ey).1

  kind_t : (rekind t y.kind x).kind ≡ y.kind
  kind_t = rekind_same t y.kind x (look_some cs' t x ex).1

  ends_g : ends_at (curve_in swapped g) ≡ some (a, b)
  unfolding ends_at
  ends_g = ap ends_at look_g ∙ ap ends_of kind_g ∙ sym (ap ends_at ex) ∙ l.stand.0

  ends_t : ends_at (curve_in swapped t) ≡ some (c, e)
  unfolding ends_at
  ends_t = ap ends_at look_t ∙ ap ends_of kind_t ∙ sym (ap ends_at ey) ∙ l.stand.1.0

  pub pieces_added_swap : PiecesAdded n cs t n' (map (rekind g x.kind) (map (rekind t y.kind) cs')) (link g a b ∷ link t c e ∷ ps)
  unfolding swapped
  pieces_added_swap =
      record {
        grows = l.grows;
        beside = λ i q ne. (look_swapped i ne (λ z. omega (arith, g_high)) ∙ (l.beside i q ne).0, ap (occurrences i) ids_swapped ∙ (l.beside i q ne).1);
        stand = (
          ends_g,
          (
            ends_t,
            standing_as cs' swapped ps
                (λ i q. look_swapped i (λ z. omega (arith, rest_t, ap (λ (j : ℕ). occurrences j (names ps)) z)) (λ z. omega (arith, rest_g, ap (λ (j : ℕ). occurrences j (names ps)) z)))
                l.stand.1.1,
          ),
        );
        low = λ i q. omega (arith, l.low i q);
        high = λ i q. omega (arith, l.high i q, ap (occurrences i) ids_swapped);
        once = λ i q. omega (arith, l.once i q, ap (occurrences i) ids_swapped);
        below = λ i q. ap (occurrences i) ids_swapped ∙ l.below i q;
        centred = λ i q. centred_at i q (ℕ_discrete i t) (ℕ_discrete i g);
      }
    where
      centred_at : (i : ℕ) → 0 < occurrences i (g ∷ t ∷ names ps) → Dec (i ≡ t) → Dec (i ≡ g) → centre_at (curve_in swapped i) ≡ centre_at (curve_in cs t)
      centred_at i q (yes z) w = ap (λ (j : ℕ). centre_at (curve_in swapped j)) z ∙ ap centre_at look_t ∙ ap centre_of kind_t ∙ sym (ap centre_at ey) ∙ l.centred g (omega (arith, split_occ g, occ_same g []))
      centred_at i q (no nt) (yes z) = ap (λ (j : ℕ). centre_at (curve_in swapped j)) z ∙ ap centre_at look_g ∙ ap centre_of kind_g ∙ sym (ap centre_at ex) ∙ l.centred t (omega (arith, split_occ t, occ_same t []))
      centred_at i q (no nt) (no ng) = ap centre_at (look_swapped i nt ng) ∙ l.centred i (omega arith)
