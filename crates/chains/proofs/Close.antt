-- From pieces that are laid out, one of them removed or none, to the effect that chains and rings need. Assumes nothing.
use mathlib.Core.Path.{◌≡◌, refl, sym, ap, ◌∙◌}
use mathlib.Core.Bool.{true, not}
use mathlib.Core.List.Memᴰ
use mathlib.Core.List.{List, [], ◌∷◌, map}
use mathlib.Core.Option.{some}
use Prim.Native.Nat.{ℕ, ◌+◌, ◌≤◌, ◌<◌}
use native.Mathlib.Omega.{arith}
use native.Mathlib.Decide.{ℕ_discrete, dec_lt}
use lib.ListN.{length}
use lib.Dec.{eqb}
use borrow.Author.Tests.{eq-eqb, ne_eqb}
use Rattle.sketch.specs.declared.Curve.{Curve}
use Rattle.sketch.specs.Drawing.{Drawing, curve_ids, curve_in}
use Rattle.edit_plan.specs.declared.Removed.{Removed}
use Rattle.edit_plan.specs.Counts.{occurrences}
use Rattle.edit_plan.specs.Steps.{ends_at}
use Rattle.edit_plan.specs.Changes.{is_circle}
use Rattle.edit_plan.proofs.Tables.{occ_append, occ_same, occ_other, look_none}
use Rattle.agreement.specs.Families.{removed_ids, added, Member, member_ids, Joined, ValidMemberAs, ValidMembers, centre_at}
use Rattle.agreement.specs.EditEffect.{Pieces, CircleEffect, removed_whole, cut_to_arcs, EditEffect}
use Rattle.agreement.proofs.Counts.{away, there_count, at_most}
use Rattle.agreement.proofs.Families.{added_old, added_new}
use Rattle.chains.specs.CurveView.{ids, ends, curve_view}
use Rattle.chains.proofs.AddedPieces.{Piece, names, link, Standing, PiecesAdded, Low, stand_in, same_ends}

gone_zero : (r : Removed) → occurrences 0 (removed_ids r) ≡ 0
gone_zero r = go (ℕ_discrete r.curve 0)
  where
    go : Dec (r.curve ≡ 0) → occurrences 0 (removed_ids r) ≡ 0
    go (yes q) = rw (eq-eqb r.curve 0 q)
    go (no ne) = rw (ne_eqb r.curve 0 ne) (occ_other 0 r.curve [] (λ e. ne (sym e)))

gone_above : (i : ℕ) (r : Removed) → 0 < i → occurrences i (removed_ids r) ≡ occurrences i (r.curve ∷ [])
gone_above i r h = go (ℕ_discrete r.curve 0)
  where
    go : Dec (r.curve ≡ 0) → occurrences i (removed_ids r) ≡ occurrences i (r.curve ∷ [])
    go (yes q) = rw (eq-eqb r.curve 0 q) (sym (occ_other i r.curve [] (λ e. omega arith)))
    go (no ne) = rw (ne_eqb r.curve 0 ne)

-- the pieces join by their ends, from a to b
abbrev pub Linked : ℕ → List Piece → ℕ → Type 0
Linked a [] b = a ≡ b
Linked a (p ∷ ps) b = (p.from ≡ a) × Linked p.to ps b

-- a circle's pieces join from a point's id back to it, and one of them is new
pub record ClosedPieces (n : ℕ) (ps : List Piece) : Type 0 where
  pub from : ℕ
  pub above_zero : 0 < from
  pub linked : Linked from ps from
  pub piece : ℕ
  pub new : n ≤ piece
  pub present : 0 < occurrences piece (names ps)

none_there : (l : List ℕ) → ((i : ℕ) → occurrences i l ≡ 0) → l ≡ []
none_there [] h = refl
none_there (x ∷ l) h = absurd (omega (arith, h x, occ_same x l))

one_there : (i : ℕ) (l : List ℕ) → 0 < occurrences i l → 0 < length l
one_there i [] h = absurd (omega arith)
one_there i (x ∷ l) h = omega arith

-- all stand but g
abbrev marked : ℕ → List Piece → List Member
marked g ps = map (λ p. record { id = p.curve; from = p.from; to = p.to; stands = not (eqb g p.curve) }) ps

joined_marked : (g a b : ℕ) (ps : List Piece) → Linked a ps b → Joined a (marked g ps) b
joined_marked g a b [] h = h
joined_marked g a b (p ∷ ps) h = (h.0, joined_marked g p.to b ps h.1)

ids_marked : (g : ℕ) (ps : List Piece) → member_ids (marked g ps) ≡ names ps
ids_marked g [] = refl
ids_marked g (p ∷ ps) = ap (λ (l : List ℕ). p.curve ∷ l) (ids_marked g ps)

module _ (d : Drawing) (w : Low d.next d.curves) (t : ℕ) (here : 0 < occurrences t (ids d)) where
  pub t_below : t < d.next
  t_below = go (dec_lt t d.next)
    where
      go : Dec (t < d.next) → t < d.next
      go (yes q) = q
      go (no ne) = absurd (omega (arith, w.below t (omega arith)))

  pub t_above : 0 < t
  t_above = go (ℕ_discrete t 0)
    where
      go : Dec (t ≡ 0) → 0 < t
      go (yes q) = absurd (omega (arith, ap (λ (j : ℕ). occurrences j (ids d)) q, w.above))
      go (no ne) = omega arith

  pub pieces_added_zero : (n' : ℕ) (cs' : List Curve) (ps : List Piece) → PiecesAdded d.next d.curves t n' cs' ps → occurrences 0 (curve_ids cs') ≡ 0
  pieces_added_zero n' cs' ps l = (l.beside 0 (omega (arith, t_below)) (λ e. omega (arith, t_above))).1 ∙ w.above

  -- t became ps in cs', and of these g, where it is not 0, is gone from d''
  module _
      (d'' : Drawing) (cs' : List Curve) (ps : List Piece) (l : PiecesAdded d.next d.curves t d''.next cs' ps) (r : Removed)
      (look : (i : ℕ) → (i ≡ r.curve → ⊥) → curve_in d''.curves i ≡ curve_in cs' i)
      (same : (i : ℕ) → (i ≡ r.curve → ⊥) → occurrences i (ids d'') ≡ occurrences i (curve_ids cs'))
      (went : occurrences r.curve (ids d'') ≡ 0)
      (was : 0 < r.curve → ends_at (curve_in cs' r.curve) ≡ some (r.from, r.to))
      (at : 0 < r.curve → 0 < occurrences r.curve (names ps))
    where
      -- a curve that stood beside t is not the removed one
      not_gone : (i : ℕ) → 0 < i → i < d.next → (i ≡ t → ⊥) → i ≡ r.curve → ⊥
      not_gone i p q ne e = omega (arith, at (omega arith), l.low r.curve (omega arith), occ_other r.curve t [] (λ f. ne (e ∙ f)))

      zero_stays : occurrences 0 (ids d'') ≡ 0
      zero_stays = go (ℕ_discrete 0 r.curve)
        where
          go : Dec (0 ≡ r.curve) → occurrences 0 (ids d'') ≡ 0
          go (yes q) = ap (λ (j : ℕ). occurrences j (ids d'')) q ∙ went
          go (no ne) = same 0 ne ∙ (l.beside 0 (omega (arith, t_below)) (λ e. omega (arith, t_above))).1 ∙ w.above

      old_count : (i : ℕ) → i < d.next → occurrences i (added curve_view d d'' r) ≡ 0
      old_count i q = go (ℕ_discrete (occurrences i (ids d)) 0) (ℕ_discrete i 0)
        where
          go : Dec (occurrences i (ids d) ≡ 0) → Dec (i ≡ 0) → occurrences i (added curve_view d d'' r) ≡ 0
          go (no ne) u = added_old curve_view d d'' r i (omega arith)
          go (yes z) (yes o) = added_new curve_view d d'' r i z ∙ ap (λ (j : ℕ). occurrences j (ids d'') + occurrences j (removed_ids r)) o ∙ omega (arith, zero_stays, gone_zero r)
          go (yes z) (no p) =
              let nt : i ≡ t → ⊥ = λ e. omega (arith, ap (λ (j : ℕ). occurrences j (ids d)) e) in
              let ng = not_gone i (omega arith) q nt in
              omega (arith, added_new curve_view d d'' r i z, same i ng, (l.beside i q nt).1, gone_above i r (omega arith), occ_other i r.curve [] ng)

      new_count : (i : ℕ) → d.next ≤ i → occurrences i (added curve_view d d'' r) ≡ occurrences i (names ps)
      new_count i q = go (ℕ_discrete i r.curve)
        where
          pos : 0 < i
          pos = omega (arith, t_below)

          go : Dec (i ≡ r.curve) → occurrences i (added curve_view d d'' r) ≡ occurrences i (names ps)
          go (yes e) =
              omega (
                arith,
                added_new curve_view d d'' r i (w.below i q),
                ap (λ (j : ℕ). occurrences j (ids d'')) e,
                went,
                gone_above i r pos,
                ap (λ (j : ℕ). occurrences j (r.curve ∷ [])) e,
                occ_same r.curve [],
                l.high i q,
                l.once i q,
                ap (λ (j : ℕ). occurrences j (names ps)) e,
                at (omega (arith, pos)),
              )
          go (no ne) = omega (arith, added_new curve_view d d'' r i (w.below i q), same i ne, gone_above i r pos, occ_other i r.curve [] ne, l.high i q)

      sum : (i : ℕ) → occurrences i (t ∷ added curve_view d d'' r) ≡ occurrences i (t ∷ []) + occurrences i (added curve_view d d'' r)
      sum i = occ_append i (t ∷ []) (added curve_view d d'' r)

      count : (i : ℕ) → occurrences i (names ps) ≡ occurrences i (t ∷ added curve_view d d'' r)
      count i = go (dec_lt i d.next)
        where
          go : Dec (i < d.next) → occurrences i (names ps) ≡ occurrences i (t ∷ added curve_view d d'' r)
          go (yes q) = omega (arith, sum i, old_count i q, l.low i q)
          go (no ne) = omega (arith, sum i, new_count i (omega arith), occ_other i t [] (λ e. omega (arith, t_below)))

      single : (i : ℕ) → occurrences i (names ps) ≤ 1
      single i = go (dec_lt i d.next)
        where
          go : Dec (i < d.next) → occurrences i (names ps) ≤ 1
          go (yes q) = omega (arith, l.low i q, at_most i t)
          go (no ne) = omega (arith, l.high i (omega arith), l.once i (omega arith))

      fresh : (i : ℕ) → 0 < occurrences i (added curve_view d d'' r) → (d.next ≤ i) × (i < d''.next)
      fresh i p = go (dec_lt i d.next) (dec_lt i d''.next)
        where
          go : Dec (i < d.next) → Dec (i < d''.next) → (d.next ≤ i) × (i < d''.next)
          go (yes q) u = absurd (omega (arith, old_count i q))
          go (no ne) (yes q) = (omega arith, q)
          go (no ne) (no nf) = absurd (omega (arith, new_count i (omega arith), l.high i (omega arith), l.below i (omega arith)))

      rights : (qs : List Piece) → Standing cs' qs → ValidMembers curve_view d'' (r ∷ []) (marked r.curve qs)
      rights [] h = tt
      rights (q ∷ qs) h = (go (ℕ_discrete r.curve q.curve), rights qs h.1)
        where
          standing : r.curve ≡ q.curve → 0 < r.curve
          standing e = nonzero (ℕ_discrete r.curve 0)
            where
              nonzero : Dec (r.curve ≡ 0) → 0 < r.curve
              nonzero (yes z) =
                  absurd (omega (arith, stand_in cs' q.curve (q.from, q.to) h.0, ap (λ (j : ℕ). occurrences j (curve_ids cs')) (sym e ∙ z), (l.beside 0 (omega (arith, t_below)) (λ f. omega (arith, t_above))).1, w.above))
              nonzero (no ne) = omega arith

          is : r.curve ≡ q.curve → q ≡ r
          is e =
              let (f, o) = same_ends q.from q.to r.from r.to (sym h.0 ∙ ap (λ (j : ℕ). ends_at (curve_in cs' j)) (sym e) ∙ was (standing e)) in
              let n : q.curve ≡ r.curve = sym e in
              λ j. record { curve = n j; from = f j; to = o j }

          go : Dec (r.curve ≡ q.curve) → ValidMemberAs curve_view d'' (r ∷ []) q.curve q.from q.to (not (eqb r.curve q.curve))
          go (yes e) = rw (eq-eqb r.curve q.curve e) (away q.curve (ids d'') (ap (λ (j : ℕ). occurrences j (ids d'')) (sym e) ∙ went), Memᴰ.head (is e))
          go (no ne) = rw (ne_eqb r.curve q.curve ne) (ap ends_at (look q.curve (λ e. ne (sym e))) ∙ h.0)

      pub pieces_added_chain : (a b : ℕ) → Linked a ps b → Pieces curve_view d t d'' r a b
      pieces_added_chain a b j =
          record {
            list = marked r.curve ps;
            joined = joined_marked r.curve a b ps j;
            right = rights ps l.stand;
            are = λ i. ap (occurrences i) (ids_marked r.curve ps) ∙ count i;
            once = λ i. omega (arith, count i, single i);
            new = fresh;
          }

      -- a circle that is cut keeps its id
      pieces_added_circle : (r.curve ≡ t → ⊥) × ClosedPieces d.next ps → CircleEffect curve_view d t d'' r
      pieces_added_circle (ne, o) =
          cut_to_arcs (λ e. ne (ap (λ (x : Removed). x.curve) e)) (one_there o.piece (added curve_view d d'' r) (omega (arith, new_count o.piece o.new, o.present)))
          o.from o.above_zero (pieces_added_chain o.from o.from o.linked)

      pub pieces_added_effect :
          ((a b : ℕ) → ends d t ≡ some (a, b) → Linked a ps b) → ((k : Curve) → curve_in d.curves t ≡ some k → is_circle k.kind ≡ true → (r.curve ≡ t → ⊥) × ClosedPieces d.next ps)
          → EditEffect curve_view d t d'' r
      pieces_added_effect j o =
          record {
            grows = l.grows;
            stood = here;
            others = λ i q ne. beside_at i q ne (ℕ_discrete i 0);
            others_curve = λ i q ne. look_beside i q ne (ℕ_discrete i 0) (ℕ_discrete i r.curve);
            pieces = λ a b e. pieces_added_chain a b (j a b e);
            circle = λ k e u. pieces_added_circle (o k e u);
            centred = λ i p u. ap centre_at (look i (λ e. omega (arith, there_count i (ids d'') u, ap (λ (j : ℕ). occurrences j (ids d'')) e, went))) ∙ l.centred i (omega (arith, count i));
          }
        where
          -- any other curve is as it was
          look_beside : (i : ℕ) → i < d.next → (i ≡ t → ⊥) → Dec (i ≡ 0) → Dec (i ≡ r.curve) → curve_in d''.curves i ≡ curve_in d.curves i
          look_beside i q ne u (no ng) = look i ng ∙ (l.beside i q ne).0
          look_beside i q ne (no p) (yes e) = absurd (not_gone i (omega arith) q ne e)
          look_beside i q ne (yes z) (yes e) =
              look_none d''.curves i (ap (λ (j : ℕ). occurrences j (ids d'')) z ∙ zero_stays) ∙ sym (look_none d.curves i (ap (λ (j : ℕ). occurrences j (ids d)) z ∙ w.above))

          beside_at : (i : ℕ) → i < d.next → (i ≡ t → ⊥) → Dec (i ≡ 0) → (ends d'' i ≡ ends d i) × (occurrences i (ids d'') ≡ occurrences i (ids d))
          beside_at i q ne u = (ap ends_at (look_beside i q ne u (ℕ_discrete i r.curve)), go u (ℕ_discrete i r.curve))
            where
              go : Dec (i ≡ 0) → Dec (i ≡ r.curve) → occurrences i (ids d'') ≡ occurrences i (ids d)
              go u (no ng) = same i ng ∙ (l.beside i q ne).1
              go (no p) (yes e) = absurd (not_gone i (omega arith) q ne e)
              go (yes z) (yes e) = ap (λ (j : ℕ). occurrences j (ids d'')) z ∙ zero_stays ∙ sym (ap (λ (j : ℕ). occurrences j (ids d)) z ∙ w.above)

  -- t is removed, and its report has no ends: a circle that is removed whole
  module _ (d'' : Drawing) (same : (i : ℕ) → (i ≡ t → ⊥) → occurrences i (ids d'') ≡ occurrences i (ids d)) (went : occurrences t (ids d'') ≡ 0) where
    pub none_added : (i : ℕ) → occurrences i (added curve_view d d'' (link t 0 0)) ≡ 0
    none_added i = go (ℕ_discrete (occurrences i (ids d)) 0)
      where
        go : Dec (occurrences i (ids d) ≡ 0) → occurrences i (added curve_view d d'' (link t 0 0)) ≡ 0
        go (no ne) = added_old curve_view d d'' (link t 0 0) i (omega arith)
        go (yes z) =
            let nt : i ≡ t → ⊥ = λ e. omega (arith, here, ap (λ (j : ℕ). occurrences j (ids d)) e) in
            added_new curve_view d d'' (link t 0 0) i z ∙ omega (arith, same i nt, gone_at i nt (ℕ_discrete i 0))
          where
            gone_at : (i : ℕ) → (i ≡ t → ⊥) → Dec (i ≡ 0) → occurrences i (removed_ids (link t 0 0)) ≡ 0
            gone_at i nt (yes e) = ap (λ (j : ℕ). occurrences j (removed_ids (link t 0 0))) e ∙ gone_zero (link t 0 0)
            gone_at i nt (no p) = gone_above i (link t 0 0) (omega arith) ∙ occ_other i t [] nt

    pub removed_circle : CircleEffect curve_view d t d'' (link t 0 0)
    removed_circle = removed_whole refl (none_there (added curve_view d d'' (link t 0 0)) none_added) (away t (ids d'') went)
