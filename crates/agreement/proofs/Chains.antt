-- A family's chain outlives an edit: the pieces take the place of the member that was edited. Assumes the edit's `EditEffect`.
use mathlib.Core.Path.{◌≡◌, refl, sym, ap, ◌∙◌, subst}
use mathlib.Core.Bool.{Bool, true, false}
use mathlib.Core.List.Memᴰ
use mathlib.Core.List.{List, [], ◌∷◌, ◌++◌}
use mathlib.Core.Option.{Option}
use Prim.Native.Nat.{ℕ, ◌+◌, ◌≤◌, ◌<◌}
use native.Mathlib.Omega.{arith}
use native.Mathlib.Decide.{ℕ_discrete}
use Rattle.sketch.specs.Lists.{ite}
use Rattle.sketch.specs.Lookup.{among}
use Rattle.edit_plan.specs.declared.Removed.{Removed}
use Rattle.edit_plan.specs.Counts.{occurrences}
use Rattle.edit_plan.proofs.Tables.{occ_append, occ_same, occ_other}
use Rattle.agreement.specs.Families.{CurveView, added, Member, member_ids, Joined, ValidMemberAs, ValidMembers, Chain, centre_at}
use Rattle.agreement.specs.EditEffect.{Pieces, EditEffect}
use Rattle.agreement.proofs.Counts.{among_as, there, there_count, away_count}

-- ---- parts of a chain

ids_append : (xs ys : List Member) → member_ids (xs ++ ys) ≡ member_ids xs ++ member_ids ys
ids_append [] ys = refl
ids_append (x ∷ xs) ys = ap (λ (r : List ℕ). x.id ∷ r) (ids_append xs ys)

joined_split : (a c : ℕ) (xs : List Member) (m : Member) (ys : List Member) → Joined a (xs ++ (m ∷ ys)) c → Joined a xs m.from × Joined m.to ys c
joined_split a c [] m ys h = (sym h.0, h.1)
joined_split a c (x ∷ xs) m ys h = let i = joined_split x.to c xs m ys h.1 in ((h.0, i.0), i.1)

joined_join : (a b c : ℕ) (xs ys : List Member) → Joined a xs b → Joined b ys c → Joined a (xs ++ ys) c
joined_join a b c [] ys h k = subst (λ (n : ℕ). Joined n ys c) (sym h) k
joined_join a b c (x ∷ xs) ys h k = (h.0, joined_join x.to b c xs ys h.1 k)

-- where an id stands in a chain
record Place (t : ℕ) (ms : List Member) : Type 0 where
  front : List Member
  at : Member
  back : List Member
  is : ms ≡ front ++ (at ∷ back)
  named : at.id ≡ t

place_later : (t : ℕ) (m : Member) (ms : List Member) → Place t ms → Place t (m ∷ ms)
place_later t m ms p = record { front = m ∷ p.front; at = p.at; back = p.back; is = ap (λ (r : List Member). m ∷ r) p.is; named = p.named }

place : (t : ℕ) (ms : List Member) → 0 < occurrences t (member_ids ms) → Place t ms
place t [] h = absurd (omega arith)
place t (m ∷ ms) h = go (ℕ_discrete t m.id) (place t ms)
  where
    go : Dec (t ≡ m.id) → (0 < occurrences t (member_ids ms) → Place t ms) → Place t (m ∷ ms)
    go (yes e) ih = record { front = []; at = m; back = ms; is = refl; named = sym e }
    go (no ne) ih = place_later t m ms (ih (omega (arith, occ_other t m.id (member_ids ms) ne)))

module _ {D : Type 0} (v : CurveView D) where
  rights_split : (d : D) (rs : List Removed) (xs ys : List Member) → ValidMembers v d rs (xs ++ ys) → ValidMembers v d rs xs × ValidMembers v d rs ys
  rights_split d rs [] ys h = (tt, h)
  rights_split d rs (x ∷ xs) ys h = let i = rights_split d rs xs ys h.1 in ((h.0, i.0), i.1)

  rights_join : (d : D) (rs : List Removed) (xs ys : List Member) → ValidMembers v d rs xs → ValidMembers v d rs ys → ValidMembers v d rs (xs ++ ys)
  rights_join d rs [] ys h k = k
  rights_join d rs (x ∷ xs) ys h k = (h.0, rights_join d rs xs ys h.1 k)

  -- the curve i is as it was
  abbrev Alike : D → D → ℕ → Type 0
  Alike d d' i = (v.ends d' i ≡ v.ends d i) × (occurrences i (v.ids d') ≡ occurrences i (v.ids d))

  right_keeps : (d d' : D) (rs : List Removed) (r : Removed) (i a b : ℕ) (u : Bool) → Alike d d' i → ValidMemberAs v d rs i a b u → ValidMemberAs v d' (rs ++ (r ∷ [])) i a b u
  right_keeps d d' rs r i a b true o h = o.0 ∙ h
  right_keeps d d' rs r i a b false o h = (among_as i (v.ids d') (v.ids d) o.1 ∙ h.0, Memᴰ.append_left (r ∷ []) h.1)

  rights_keep : (d d' : D) (rs : List Removed) (r : Removed) (ms : List Member) → ((i : ℕ) → 0 < occurrences i (member_ids ms) → Alike d d' i) → ValidMembers v d rs ms → ValidMembers v d' (rs ++ (r ∷ [])) ms
  rights_keep d d' rs r [] o h = tt
  rights_keep d d' rs r (m ∷ ms) o h = (
    right_keeps d d' rs r m.id m.from m.to m.stands (o m.id (omega (arith, occ_same m.id (member_ids ms)))) h.0,
    rights_keep d d' rs r ms (λ i p. o i (omega arith)) h.1,
  )

  -- other reports may come before
  right_late : (d : D) (rs qs : List Removed) (i a b : ℕ) (u : Bool) → ValidMemberAs v d qs i a b u → ValidMemberAs v d (rs ++ qs) i a b u
  right_late d rs qs i a b true h = h
  right_late d rs qs i a b false h = (h.0, Memᴰ.append_right rs h.1)

  pub rights_late : (d : D) (rs qs : List Removed) (ms : List Member) → ValidMembers v d qs ms → ValidMembers v d (rs ++ qs) ms
  rights_late d rs qs [] h = tt
  rights_late d rs qs (m ∷ ms) h = (right_late d rs qs m.id m.from m.to m.stands h.0, rights_late d rs qs ms h.1)

  -- ---- one edit

  -- a chain, of curves with ids below the next, those that stand about one centre or about none
  pub record Inv (fam : List ℕ) (d : D) (rs : List Removed) (a b : ℕ) (o : Option ℕ) : Type 0 where
    pub chain : Chain v fam d rs a b
    pub below : (i : ℕ) → 0 < occurrences i fam → i < v.next d
    pub centred : (i : ℕ) → 0 < occurrences i fam → among i (v.ids d) ≡ true → centre_at (v.curve d i) ≡ o

  -- another curve than the target's keeps its centre
  centred_beside :
      (d d' : D) (t : ℕ) (r : Removed) (o : Option ℕ) → EditEffect v d t d' r → (i : ℕ) → i < v.next d → (i ≡ t → ⊥)
      → (among i (v.ids d) ≡ true → centre_at (v.curve d i) ≡ o) → among i (v.ids d') ≡ true → centre_at (v.curve d' i) ≡ o
  centred_beside d d' t r o s i b ne h u =
      ap centre_at (s.others_curve i b ne) ∙ h (among_as i (v.ids d) (v.ids d') (sym (s.others i b ne).1) ∙ u)

  -- of a curve outside the family
  outside : (fam : List ℕ) (d d' : D) (t : ℕ) (r : Removed) (rs : List Removed) (a b : ℕ) (o : Option ℕ) → Inv fam d rs a b o → EditEffect v d t d' r → occurrences t fam ≡ 0 → Inv fam d' (rs ++ (r ∷ [])) a b o
  outside fam d d' t r rs a b o w s z =
      let c = w.chain in
      record {
        chain =
            record {
              members = c.members;
              joined = c.joined;
              right = rights_keep d d' rs r c.members (λ i p. s.others i (w.below i (omega (arith, c.each i))) (λ e. omega (arith, c.each i, ap (λ (j : ℕ). occurrences j fam) e))) c.right;
              each = c.each;
              once = c.once;
            };
        below = λ i p. omega (arith, w.below i p, s.grows);
        centred = λ i p u. centred_beside d d' t r o s i (w.below i p) (λ e. omega (arith, ap (λ (j : ℕ). occurrences j fam) e)) (w.centred i p) u;
      }

  -- of a member
  module _ (fam : List ℕ) (d d' : D) (t : ℕ) (r : Removed) (rs : List Removed) (a b : ℕ) (o : Option ℕ) (w : Inv fam d rs a b o) (s : EditEffect v d t d' r) where
    module _ (front back : List Member) (m : Member) (at : w.chain.members ≡ front ++ (m ∷ back)) (named : m.id ≡ t) (q : Pieces v d t d' r m.from m.to) where
      -- how often an id is in the family, by the three parts of its chain
      parts : (i : ℕ) → occurrences i fam ≡ occurrences i (member_ids front) + (occurrences i (t ∷ []) + occurrences i (member_ids back))
      parts i =
          sym (w.chain.each i) ∙ ap (λ (l : List Member). occurrences i (member_ids l)) at ∙ ap (occurrences i) (ids_append front (m ∷ back)) ∙ occ_append i (member_ids front) (m.id ∷ member_ids back)
          ∙ ap (λ (n : ℕ). occurrences i (member_ids front) + occurrences i (n ∷ member_ids back)) named ∙ omega arith

      here : occurrences t (t ∷ []) ≡ 1
      here = occ_same t [] ∙ omega arith

      not_target : (i : ℕ) (l : List Member) → 0 < occurrences i (member_ids l) → occurrences t (member_ids l) ≡ 0 → i ≡ t → ⊥
      not_target i l p z e = omega (arith, ap (λ (j : ℕ). occurrences j (member_ids l)) e)

      -- the other members are as they were
      beside : (l : List Member) → occurrences t (member_ids l) ≡ 0 → ((i : ℕ) → 0 < occurrences i (member_ids l) → 0 < occurrences i fam) → ValidMembers v d rs l → ValidMembers v d' (rs ++ (r ∷ [])) l
      beside l z k h = rights_keep d d' rs r l (λ i p. s.others i (w.below i (k i p)) (not_target i l p z)) h

      sum : (i : ℕ) → occurrences i (t ∷ added v d d' r) ≡ occurrences i (t ∷ []) + occurrences i (added v d d' r)
      sum i = occ_append i (t ∷ []) (added v d d' r)

      -- what was added was not in the family
      apart : (i : ℕ) → 0 < occurrences i (added v d d' r) → occurrences i fam ≡ 0
      apart i p = go (ℕ_discrete (occurrences i fam) 0)
        where
          go : Dec (occurrences i fam ≡ 0) → occurrences i fam ≡ 0
          go (yes e) = e
          go (no ne) = absurd (omega (arith, (q.new i p).0, w.below i (omega arith)))

      grown : Inv (fam ++ added v d d' r) d' (rs ++ (r ∷ [])) a b o
      grown =
          record {
            chain =
                record {
                  members = front ++ (q.list ++ back);
                  joined =
                      let j = joined_split a b front m back (subst (λ (l : List Member). Joined a l b) at w.chain.joined) in
                      joined_join a m.from b front (q.list ++ back) j.0 (joined_join m.from m.to b q.list back q.joined j.1);
                  right =
                      let j = rights_split d rs front (m ∷ back) (subst (ValidMembers v d rs) at w.chain.right) in
                      rights_join d' (rs ++ (r ∷ [])) front (q.list ++ back)
                      (beside front (omega (arith, parts t, here, w.chain.once t)) (λ i p. omega (arith, parts i)) j.0)
                      (rights_join d' (rs ++ (r ∷ [])) q.list back
                      (rights_late d' rs (r ∷ []) q.list q.right)
                      (beside back (omega (arith, parts t, here, w.chain.once t)) (λ i p. omega (arith, parts i)) j.1.1));
                  each = λ i.
                      ap (occurrences i) (ids_append front (q.list ++ back) ∙ ap (λ (l : List ℕ). member_ids front ++ l) (ids_append q.list back))
                      ∙ omega (arith, occ_append i (member_ids front) (member_ids q.list ++ member_ids back), occ_append i (member_ids q.list) (member_ids back), q.are i, sum i, parts i, occ_append i fam (added v d d' r));
                  once = λ i. once_at i (ℕ_discrete (occurrences i (added v d d' r)) 0);
                };
            below = λ i p. below_at i p (ℕ_discrete (occurrences i (added v d d' r)) 0);
            centred = λ i p u. centred_at i p u (ℕ_discrete i t) (ℕ_discrete (occurrences i (added v d d' r)) 0);
          }
        where
          once_at : (i : ℕ) → Dec (occurrences i (added v d d' r) ≡ 0) → occurrences i (fam ++ added v d d' r) ≤ 1
          once_at i (yes e) = omega (arith, occ_append i fam (added v d d' r), w.chain.once i)
          once_at i (no ne) = omega (arith, occ_append i fam (added v d d' r), apart i (omega arith), q.once i, sum i)

          below_at : (i : ℕ) → 0 < occurrences i (fam ++ added v d d' r) → Dec (occurrences i (added v d d' r) ≡ 0) → i < v.next d'
          below_at i p (yes e) = omega (arith, w.below i (omega (arith, occ_append i fam (added v d d' r))), s.grows)
          below_at i p (no ne) = (q.new i (omega arith)).1

          by_target : centre_at (v.curve d t) ≡ o
          by_target = w.centred t (omega (arith, parts t, here)) (there t (v.ids d) s.stood)

          centred_at : (i : ℕ) → 0 < occurrences i (fam ++ added v d d' r) → among i (v.ids d') ≡ true → Dec (i ≡ t) → Dec (occurrences i (added v d d' r) ≡ 0) → centre_at (v.curve d' i) ≡ o
          centred_at i p u (yes e) z = s.centred i (omega (arith, sum i, ap (λ (j : ℕ). occurrences j (t ∷ [])) e, here)) u ∙ by_target
          centred_at i p u (no nt) (no ne) = s.centred i (omega (arith, sum i)) u ∙ by_target
          centred_at i p u (no nt) (yes z) =
              let in_fam : 0 < occurrences i fam = omega (arith, occ_append i fam (added v d d' r)) in
              centred_beside d d' t r o s i (w.below i in_fam) nt (w.centred i in_fam) u

    -- the member stands, since the edit found it
    stands : (i f h : ℕ) (u : Bool) → i ≡ t → ValidMemberAs v d rs i f h u → Pieces v d t d' r f h
    stands i f h true e k = s.pieces f h (ap (v.ends d) (sym e) ∙ k)
    stands i f h false e k = absurd (omega (arith, s.stood, away_count i (v.ids d) k.0, ap (λ (j : ℕ). occurrences j (v.ids d)) e))

    inside : 0 < occurrences t fam → Inv (fam ++ added v d d' r) d' (rs ++ (r ∷ [])) a b o
    inside z =
        let p = place t w.chain.members (omega (arith, w.chain.each t)) in
        let m = p.at in
        let j = rights_split d rs p.front (m ∷ p.back) (subst (ValidMembers v d rs) p.is w.chain.right) in
        grown p.front p.back m p.is p.named (stands m.id m.from m.to m.stands p.named j.1.0)

    pub step : Inv (ite (among t fam) (fam ++ added v d d' r) fam) d' (rs ++ (r ∷ [])) a b o
    step = go (among t fam) refl
      where
        go : (u : Bool) → among t fam ≡ u → Inv (ite u (fam ++ added v d d' r) fam) d' (rs ++ (r ∷ [])) a b o
        go true e = inside (there_count t fam e)
        go false e = outside fam d d' t r rs a b o w s (away_count t fam e)
