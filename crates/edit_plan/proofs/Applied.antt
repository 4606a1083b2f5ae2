-- Cuts of a line or an arc are one number and one drawing, refused or not. Assumes nothing.
use mathlib.Core.Path.{◌≡◌, refl, sym, ap, ◌∙◌}
use mathlib.Core.Bool.{Bool, true, false, not, ◌||◌}
use mathlib.Core.List.{List, [], ◌∷◌, ◌++◌, map, append-nil, append_assoc}
use mathlib.Core.Option.{some}
use Prim.Native.Nat.{ℕ, suc, ◌+◌}
use native.Mathlib.Omega.{arith}
use lib.Dec.{ltb}
use lib.ListN.{length}
use borrow.Author.Tests.{ne_eqb}
use Rattle.sketch.specs.declared.Point.{Point}
use Rattle.sketch.specs.declared.Curve.{Curve}
use Rattle.sketch.specs.declared.CurveKind.{CurveKind}
use Rattle.sketch.specs.declared.Relation.{Relation}
use Rattle.sketch.specs.Lists.{ite, every, keep}
use Rattle.sketch.specs.Lookup.{among}
use Rattle.sketch.specs.Drawing.{Drawing, Limits, curve_ids, curve_in, uses_of, no_slots}
use Rattle.sketch.specs.Valid.{distinct, has_point}
use Rattle.sketch.specs.Facts.{Every, Valid}
use Rattle.sketch.proofs.Bools.{and_right}
use Rattle.edit_plan.specs.declared.PinnedPoint.{PinnedPoint}
use Rattle.edit_plan.specs.declared.Plan.TheVariants.{Cut, CutTwo}
use Rattle.edit_plan.specs.declared.Removed.{Removed}
use Rattle.edit_plan.specs.Counts.{occurrences}
use Rattle.edit_plan.specs.Outcome.{Outcome, accepted}
use Rattle.edit_plan.specs.Tables.{new_point, new_curve, rekind, uses}
use Rattle.edit_plan.specs.Steps.{ends_of, is_line, tie_relation, swap, reported, removal}
use Rattle.edit_plan.specs.ApplyPlan.{apply_plan_to}
use Rattle.edit_plan.specs.Suited.{PinHolds}
use Rattle.edit_plan.specs.Changes.{is_circle, is_whole, start_of, end_of, piece_of, kept_piece, gone_piece, pin_relation, cut_middle, change_for, extent_of, staying, unused_by, candidates_for}
use Rattle.edit_plan.specs.Room.{mk_additions, additions_for, room_with}
use Rattle.edit_plan.proofs.Leaves.{or_false}
use Rattle.edit_plan.proofs.Bridge.{unless_refused, guard_point, guard_curve, guard_relation, freed, is_open, open_added, middle_added, cut_chain, middle_chain, room_one, room_middle}
use Rattle.edit_plan.proofs.Finals.{same, Given, stays, with_pieces, swapped, removal_is, used_is, kept_used, added_used, tie_stays, pin_stays, none_go, end_used, report_is, far_alone, middle_used}
use Rattle.edit_plan.proofs.AtOnce.{final_of, orphans_of, room_number, left_cut, freed_is, given, sound, start_old, end_old, target_old, pin_apart, old_other}

module _ {m : Limits} {d : Drawing} (v : Valid m d) (c : Curve) (found : curve_in d.curves c.id ≡ some c) where
  module _ (met : Drawing → Bool) where
    abbrev i : ℕ
    i = d.next

    -- ---- one cut

    module _ (w : PinnedPoint) (b : Bool) (o : is_open c.kind ≡ true) (held : PinHolds d c.id w.pin) where
      abbrev a : ℕ
      a = start_of c.kind

      abbrev z : ℕ
      z = end_of c.kind

      abbrev kept : CurveKind
      kept = kept_piece c.kind b a i z

      abbrev gone : CurveKind
      gone = gone_piece c.kind b a i z

      abbrev ps : List Point
      ps = d.points ++ (new_point i w.at ∷ [])

      abbrev rs : List Relation
      rs = pin_relation w.pin i ∷ []

      abbrev os : List ℕ
      os = unused_by (map (rekind c.id kept) d.curves ++ []) (uses_of gone no_slots)

      at_g : Given d c (suc i)
      at_g = given v c found (suc i) (omega arith)

      either : (is_open c.kind || is_circle c.kind) ≡ true
      either = rw o

      swap_is : (x : Bool) → let l = with_pieces d c (suc i) at_g ps rs (suc (suc i)) (piece_of c.kind a i) (piece_of c.kind i z) in
          ite x (swap c.id (suc i) l) l ≡ with_pieces d c (suc i) at_g ps rs (suc (suc i)) (kept_piece c.kind x a i z) (gone_piece c.kind x a i z)
      swap_is true = swapped d c (suc i) at_g ps rs (suc (suc i)) (piece_of c.kind a i) (piece_of c.kind i z)
      swap_is false = refl

      pinned_stays : Every (stays (suc i) os) rs
      pinned_stays = (
        pin_stays d c (suc i) at_g ps rs (suc (suc i)) kept gone [] refl w.pin i held (old_other v c found (suc i) (omega arith))
            (kept_used d c (suc i) at_g ps rs (suc (suc i)) kept gone [] refl i (end_used b c.kind a i z c.slots either)),
        tt,
      )

      orphans_are : os ≡ orphans_of d c (Cut w b)
      unfolding candidates_for
      orphans_are =
          far_alone b c.kind i c.slots _ _ o (and_right (every (has_point d.points) (uses_of c.kind c.slots)) (distinct c.kind) (sound v c found))
          (λ q. omega (arith, start_old v c found o)) (λ q. omega (arith, end_old v c found o))
          (λ p. used_is d c (suc i) at_g ps rs (suc (suc i)) kept gone [] refl p ∙ or_false _)

      pub cut_bridge : let e = extent_of c.kind c.id (Cut w b) in let h = change_for c (Cut w b) i in
          apply_plan_to met m d c (Cut w b) ≡ unless_refused (room_number m d c (Cut w b) e) (accepted (final_of d c h e (orphans_of d c (Cut w b))) h.removed)
      unfolding change_for additions_for is_whole
      cut_bridge =
          let e = extent_of c.kind c.id (Cut w b) in
          let h = change_for c (Cut w b) i in
          let np = length d.points in
          let nc = length d.curves in
          let nr = length (freed c d.relations) in
          let r : Outcome Drawing Removed = accepted (final_of d c h e (orphans_of d c (Cut w b))) h.removed in
          let ends : removal (suc i) (ite b (swap c.id (suc i) (open_added met m d c found o w.at (freed c d.relations ++ rs))) (open_added met m d c found o w.at (freed c d.relations ++ rs))) ≡ r =
          ap (removal (suc i)) (swap_is b) ∙ removal_is d c (suc i) at_g ps rs (suc (suc i)) kept gone [] refl pinned_stays
          ∙ ap (λ l. accepted (record { next = suc (suc i); points = keep (λ p. staying os p.id) ps; curves = map (rekind c.id kept) d.curves ++ []; relations = l ++ rs }) (reported (suc i) (ends_of gone))) (left_cut c (Cut w b) os d.relations refl)
          ∙ ap (λ x. accepted (final_of d c h e x) (reported (suc i) (ends_of gone))) orphans_are
          ∙ ap (accepted (final_of d c h e (orphans_of d c (Cut w b)))) (report_is b c.kind (suc i) a i z either) in
          cut_chain met m d c found o w (pin_apart v c found w.pin i held (omega arith)) b
          ∙ ap (λ x. guard_point m i np w.at (guard_curve m (suc i) nc (guard_relation m nr x))) ends
          ∙ sym (room_one m i np nc nr r w.at)
          ∙ ap (λ x. unless_refused (room_with m i np nc (not (ltb (x + 0) m.relations)) (mk_additions w.at w.at 0 0 0)) r) (sym (freed_is c (Cut w b) d.relations))

    -- ---- two cuts of a line or an arc

    module _ (w u : PinnedPoint) (o : is_open c.kind ≡ true) (circle : is_circle c.kind ≡ false) (held : PinHolds d c.id w.pin) (held' : PinHolds d c.id u.pin) where
      abbrev j : ℕ
      j = suc i

      abbrev g : ℕ
      g = suc (suc i)

      abbrev first : CurveKind
      first = piece_of c.kind (start_of c.kind) i

      abbrev middle : CurveKind
      middle = piece_of c.kind i j

      abbrev last : CurveKind
      last = piece_of c.kind j (end_of c.kind)

      abbrev ys : List Curve
      ys = new_curve (suc g) last c.construction ∷ []

      abbrev points : List Point
      points = d.points ++ (new_point i w.at ∷ new_point j u.at ∷ [])

      abbrev relations : List Relation
      relations = pin_relation w.pin i ∷ pin_relation u.pin j ∷ tie_relation (is_line c.kind) c.id (suc g) ∷ []

      abbrev unused : List ℕ
      unused = unused_by (map (rekind c.id first) d.curves ++ ys) (uses_of middle no_slots)

      free : Given d c g
      free = given v c found g (omega arith)

      apart_last : occurrences g (curve_ids ys) ≡ 0
      apart_last = rw (ne_eqb g (suc g) (λ e. omega arith))

      first_used : (p : ℕ) → among p (uses_of first c.slots) ≡ true → among p (uses (map (rekind c.id first) d.curves ++ ys)) ≡ true
      first_used p h = kept_used d c g free points relations (suc (suc g)) first middle ys apart_last p h

      last_used : (p : ℕ) → among p (uses_of last no_slots) ≡ true → among p (uses (map (rekind c.id first) d.curves ++ ys)) ≡ true
      last_used p h = added_used d c g free points relations (suc (suc g)) first middle ys apart_last p (ap (among p) (append-nil (uses_of last no_slots)) ∙ h)

      none_unused : unused ≡ []
      none_unused =
          none_go d c g free points relations (suc (suc g)) first middle ys apart_last
          (middle_used c.kind (start_of c.kind) i j (end_of c.kind) c.slots (λ p. among p (uses (map (rekind c.id first) d.curves ++ ys))) o first_used last_used)

      all_stay : Every (stays g unused) relations
      all_stay =
          let new = old_other v c found g (omega arith) in (
            pin_stays d c g free points relations (suc (suc g)) first middle ys apart_last w.pin i held new (first_used i (end_used false c.kind (start_of c.kind) i 0 c.slots (rw o))),
            (
              pin_stays d c g free points relations (suc (suc g)) first middle ys apart_last u.pin j held' new (last_used j (end_used true c.kind 0 j (end_of c.kind) no_slots (rw o))),
              (tie_stays d c g free points relations (suc (suc g)) first middle ys apart_last (is_line c.kind) (suc g) (λ e. omega (arith, target_old v c found)) (λ e. omega arith), tt),
            ),
          )

      report_middle : reported g (ends_of middle) ≡ record { curve = g; from = i; to = j }
      report_middle = report_is true c.kind g i j 0 (rw o)

      pub middle_bridge : let e = extent_of c.kind c.id (CutTwo w u false) in let h = change_for c (CutTwo w u false) i in
          apply_plan_to met m d c (CutTwo w u false) ≡ unless_refused (room_number m d c (CutTwo w u false) e) (accepted (final_of d c h e (orphans_of d c (CutTwo w u false))) h.removed)
      unfolding change_for additions_for candidates_for is_whole
      middle_bridge =
          let plan = CutTwo w u false in
          let e = extent_of c.kind c.id plan in
          let h = cut_middle c w u i in
          let np = length d.points in
          let nc = length d.curves in
          let fs = freed c d.relations in
          let nr = length fs in
          let r : Outcome Drawing Removed = accepted (final_of d c h e []) h.removed in
          let cs = map (rekind c.id first) d.curves in
          let g-piece = new_curve g middle c.construction in
          let added_is : middle_added met m d c found o w.at u.at (((fs ++ (pin_relation w.pin i ∷ [])) ++ (pin_relation u.pin j ∷ [])) ++ (tie_relation (is_line c.kind) c.id (suc g) ∷ [])) ≡ record { next = suc (suc g); points = points; curves = cs ++ (g-piece ∷ ys); relations = fs ++ relations } =
          same _ _ _ _ _ _ _ _ refl (append_assoc d.points (new_point i w.at ∷ []) (new_point j u.at ∷ [])) (append_assoc cs (g-piece ∷ []) ys)
          (ap (λ l. l ++ (tie_relation (is_line c.kind) c.id (suc g) ∷ [])) (append_assoc fs (pin_relation w.pin i ∷ []) (pin_relation u.pin j ∷ [])) ∙ append_assoc fs (pin_relation w.pin i ∷ pin_relation u.pin j ∷ []) (tie_relation (is_line c.kind) c.id (suc g) ∷ [])) in
          let ends : removal g (middle_added met m d c found o w.at u.at (((fs ++ (pin_relation w.pin i ∷ [])) ++ (pin_relation u.pin j ∷ [])) ++ (tie_relation (is_line c.kind) c.id (suc g) ∷ []))) ≡ r =
          ap (removal g) added_is ∙ removal_is d c g free points relations (suc (suc g)) first middle ys apart_last all_stay
          ∙ ap (λ l. accepted (record { next = suc (suc g); points = keep (λ p. staying unused p.id) points; curves = cs ++ ys; relations = l ++ relations }) (reported g (ends_of middle))) (left_cut c plan unused d.relations refl)
          ∙ ap (λ x. accepted (final_of d c h e x) (reported g (ends_of middle))) none_unused
          ∙ ap (accepted (final_of d c h e [])) report_middle in
          middle_chain met m d c found o w u (pin_apart v c found w.pin i held (omega arith)) (pin_apart v c found u.pin j held' (omega arith))
          ∙ ap (λ x. guard_point m i np w.at (guard_point m j (suc np) u.at (guard_curve m g nc (guard_curve m (suc g) (suc nc) (guard_relation m nr (guard_relation m (suc nr) (guard_relation m (suc (suc nr)) x))))))) ends
          ∙ sym (room_middle m i np nc nr r w.at u.at)
          ∙ ap (λ x. unless_refused (room_with m i np nc (not (ltb (x + 2) m.relations)) (mk_additions w.at u.at 1 1 2)) r) (sym (freed_is c plan d.relations))
          ∙ rw circle
