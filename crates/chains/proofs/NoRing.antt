-- Faults of the worked example that are none of the three that a circle may become: its first arc turned round, its second ending where it starts, lines in the
-- place of arcs, the whole circle reported with its centre, an arc gone without a report, the circle itself gone so. Assumes nothing.
use mathlib.Core.Path.{◌≡◌, refl, sym, ap, ◌∙◌}
use mathlib.Core.Bool.{Bool, true, false}
use mathlib.Core.List.Memᴰ
use mathlib.Core.List.{List, [], ◌∷◌, Memᴰ}
use mathlib.Core.Option.{Option, some, none}
use mathlib.Core.Logic.{◌⊎◌, inl, inr, ⊎_elim}
use Prim.Native.Nat.{ℕ}
use native.Mathlib.Omega.{arith}
use lib.Dec.{eqb}
use Rattle.sketch.specs.declared.CurveKind.{CurveKind}
use Rattle.sketch.specs.declared.CurveKind.TheVariants.{Line, Arc}
use Rattle.sketch.specs.Lists.{ite}
use Rattle.sketch.specs.Drawing.{Drawing, curve_in}
use Rattle.edit_plan.specs.declared.Removed.{Removed}
use Rattle.edit_plan.specs.Tables.{new_curve}
use Rattle.edit_plan.specs.Steps.{ends_of, ends_at}
use Rattle.agreement.specs.Machines.{Entry}
use Rattle.agreement.specs.Families.{ValidMemberAs, centre_of, Ring, CircleOf, circle_uncut, circle_removed, circle_cut, whole_circle}
use Rattle.agreement.proofs.Rings.{end_without_start, start_without_end, member_lost}
use Rattle.chains.specs.CurveView.{ends, curve_view}
use Rattle.chains.specs.CutCircle.{wheel, uncut, two_arcs, one_arc, no_curves, split_report, edited_curve}
use Rattle.chains.proofs.AddedPieces.{same_ends}

-- ---- a split that leaves other arcs

abbrev arcs : CurveKind → CurveKind → Drawing
arcs x y =
    record { next = 6; points = two_arcs.points; curves = new_curve 2 x false ∷ new_curve 5 y false ∷ []; relations = two_arcs.relations }

-- one entry, of the circle
abbrev entry : Drawing → Removed → Entry Drawing ℕ Removed
entry d r = record { after = record { drawing = d; count = 1 }; edit = 2; report = r }

nothing_removed : (i a b : ℕ) → Memᴰ (record { curve = i; from = a; to = b }) (split_report ∷ []) → (i ≡ 0) × (a ≡ 0) × (b ≡ 0)
nothing_removed i a b h =
    ⊎_elim (λ (e : record { curve = i; from = a; to = b } ≡ split_report). (ap (λ (r : Removed). r.curve) e, ap (λ (r : Removed). r.from) e, ap (λ (r : Removed). r.to) e)) (λ n. absurd (Memᴰ.not-nil n)) (Memᴰ.cases_cons h)

ends_arcs : (x y : CurveKind) (i a b : ℕ) → ends (arcs x y) i ≡ some (a, b) → (ends_of x ≡ some (a, b)) ⊎ (ends_of y ≡ some (a, b))
unfolding curve_in ends_at
ends_arcs x y i a b = go (eqb i 2) (eqb i 5)
  where
    go : (p q : Bool) → ends_at (ite p (some (new_curve 2 x false)) (ite q (some (new_curve 5 y false)) none)) ≡ some (a, b) → (ends_of x ≡ some (a, b)) ⊎ (ends_of y ≡ some (a, b))
    go true q h = inl h
    go false true h = inr h
    go false false h = let z : ◌≡◌ {A = ℕ} 0 1 = cc in absurd (omega arith)

-- a split that reports nothing leaves the third case alone, a ring
by_ring : (x y : CurveKind) → (Ring curve_view (2 ∷ 5 ∷ []) (arcs x y) (split_report ∷ []) (centre_of wheel.kind) → ⊥) → CircleOf curve_view edited_curve uncut (entry (arcs x y) split_report ∷ []) (arcs x y) 2 wheel → ⊥
by_ring x y k (circle_uncut f g h) = let z : ◌≡◌ {A = ℕ} 0 1 = cc in omega arith
by_ring x y k (circle_removed f g h) =
    let e : split_report ≡ whole_circle 2 = cc in
    let z : ◌≡◌ {A = ℕ} 0 2 = ap (λ (r : Removed). r.curve) e in
    omega arith
by_ring x y k (circle_cut r f n h) = k h

-- both arcs lead from 4 to 3: one ends at 3, and none starts there
pub first_turned : CircleOf curve_view edited_curve uncut (entry (arcs (Arc 1 4 3) (Arc 1 4 3)) split_report ∷ []) (arcs (Arc 1 4 3) (Arc 1 4 3)) 2 wheel → ⊥
unfolding ends_of
first_turned =
    by_ring (Arc 1 4 3) (Arc 1 4 3) λ h.
    end_without_start curve_view (arcs (Arc 1 4 3) (Arc 1 4 3)) (split_report ∷ []) 3 2 (omega arith) h
    (λ m r e. from_at m.id m.from m.to m.stands r e) (λ m r e. to_at m.id m.from m.to m.stands r e)
  where
    both : (i a b : ℕ) → ends (arcs (Arc 1 4 3) (Arc 1 4 3)) i ≡ some (a, b) → (4 ≡ a) × (3 ≡ b)
    both i a b h = ⊎_elim (same_ends 4 3 a b) (same_ends 4 3 a b) (ends_arcs (Arc 1 4 3) (Arc 1 4 3) i a b h)

    from_at : (i a b : ℕ) (u : Bool) → ValidMemberAs curve_view (arcs (Arc 1 4 3) (Arc 1 4 3)) (split_report ∷ []) i a b u → a ≡ 3 → ⊥
    from_at i a b true r e = omega (arith, (both i a b r).0)
    from_at i a b false r e = omega (arith, (nothing_removed i a b r.1).1)

    to_at : (i a b : ℕ) (u : Bool) → ValidMemberAs curve_view (arcs (Arc 1 4 3) (Arc 1 4 3)) (split_report ∷ []) i a b u → i ≡ 2 → b ≡ 3
    to_at i a b true r e = sym (both i a b r).1
    to_at i a b false r e = absurd (omega (arith, (nothing_removed i a b r.1).0))

-- the second arc leads from 4 to 4: the first starts at 3, and none ends there
pub second_ends_at_start : CircleOf curve_view edited_curve uncut (entry (arcs (Arc 1 3 4) (Arc 1 4 4)) split_report ∷ []) (arcs (Arc 1 3 4) (Arc 1 4 4)) 2 wheel → ⊥
unfolding curve_in ends_of ends_at
second_ends_at_start =
    by_ring (Arc 1 3 4) (Arc 1 4 4) λ h.
    start_without_end curve_view (arcs (Arc 1 3 4) (Arc 1 4 4)) (split_report ∷ []) 3 2 (omega arith) h
    (λ m r e. to_at m.id m.from m.to m.stands r e) (λ m r e. from_at m.id m.from m.to m.stands r e)
  where
    to_at : (i a b : ℕ) (u : Bool) → ValidMemberAs curve_view (arcs (Arc 1 3 4) (Arc 1 4 4)) (split_report ∷ []) i a b u → b ≡ 3 → ⊥
    to_at i a b true r e = ⊎_elim (λ h. omega (arith, (same_ends 3 4 a b h).1)) (λ h. omega (arith, (same_ends 4 4 a b h).1)) (ends_arcs (Arc 1 3 4) (Arc 1 4 4) i a b r)
    to_at i a b false r e = omega (arith, (nothing_removed i a b r.1).2)

    from_at : (i a b : ℕ) (u : Bool) → ValidMemberAs curve_view (arcs (Arc 1 3 4) (Arc 1 4 4)) (split_report ∷ []) i a b u → i ≡ 2 → a ≡ 3
    from_at i a b true r e = sym (same_ends 3 4 a b (ap (ends (arcs (Arc 1 3 4) (Arc 1 4 4))) (sym e) ∙ r)).0
    from_at i a b false r e = absurd (omega (arith, (nothing_removed i a b r.1).0))

-- lines in the place of arcs have no centre
pub arcs_straightened : CircleOf curve_view edited_curve uncut (entry (arcs (Line 3 4) (Line 4 3)) split_report ∷ []) (arcs (Line 3 4) (Line 4 3)) 2 wheel → ⊥
unfolding curve_in centre_of
arcs_straightened =
    by_ring (Line 3 4) (Line 4 3) λ h.
    let e : ◌≡◌ {A = Option ℕ} none (some 1) = h.centred 2 (omega arith) refl in
    let z : ◌≡◌ {A = ℕ} 0 1 = cc in
    omega arith

-- ---- reports

-- the centre stands where a zero should
pub reported_with_centre : CircleOf curve_view edited_curve uncut (entry no_curves (record { curve = 2; from = 1; to = 0 }) ∷ []) no_curves 2 wheel → ⊥
reported_with_centre (circle_uncut f g h) = let z : ◌≡◌ {A = ℕ} 0 1 = cc in omega arith
reported_with_centre (circle_removed f g h) =
    let e : record { curve = 2; from = 1; to = 0 } ≡ whole_circle 2 = cc in
    let z : ◌≡◌ {A = ℕ} 1 0 = ap (λ (r : Removed). r.from) e in
    omega arith
reported_with_centre (circle_cut r f n h) = omega (arith, h.several)

-- the arc 5 is gone after a second edit, which reports nothing
pub arc_lost :
    let l : List (Entry Drawing ℕ Removed) = entry two_arcs split_report ∷ record { after = record { drawing = one_arc; count = 2 }; edit = 5; report = split_report } ∷ [] in
    CircleOf curve_view edited_curve uncut l one_arc 2 wheel → ⊥
unfolding curve_in ends_of ends_at
arc_lost (circle_uncut f g h) = let z : ◌≡◌ {A = ℕ} 0 1 = cc in omega arith
arc_lost (circle_removed f g h) =
    let e : split_report ≡ whole_circle 2 = cc in
    let z : ◌≡◌ {A = ℕ} 0 2 = ap (λ (r : Removed). r.curve) e in
    omega arith
arc_lost (circle_cut r f n h) =
    member_lost curve_view one_arc (split_report ∷ split_report ∷ []) 5 (omega arith) (λ m r e. gone m.id m.from m.to m.stands r e) h
  where
    gone : (i a b : ℕ) (u : Bool) → ValidMemberAs curve_view one_arc (split_report ∷ split_report ∷ []) i a b u → i ≡ 5 → ⊥
    gone i a b true r e = let h = ap (ends one_arc) (sym e) ∙ r in let z : ◌≡◌ {A = ℕ} 0 1 = cc in omega arith
    gone i a b false r e = ⊎_elim (λ q. omega (arith, ap (λ (x : Removed). x.curve) q)) (λ q. omega (arith, (nothing_removed i a b q).0)) (Memᴰ.cases_cons r.1)

-- the circle is gone after the edit of another curve
pub circle_lost :
    let l : List (Entry Drawing ℕ Removed) = record { after = record { drawing = no_curves; count = 1 }; edit = 9; report = split_report } ∷ [] in
    CircleOf curve_view edited_curve uncut l no_curves 2 wheel → ⊥
unfolding curve_in
circle_lost (circle_uncut f g h) = let z : ◌≡◌ {A = ℕ} 0 1 = cc in omega arith
circle_lost (circle_removed f g h) = let z : ◌≡◌ {A = ℕ} 0 1 = cc in omega arith
circle_lost (circle_cut r f n h) = let z : ◌≡◌ {A = ℕ} 0 1 = cc in omega arith
