-- Cuts of a circle, and divisions, are one number and one drawing, refused or not. Assumes nothing.
use mathlib.Core.Path.{◌≡◌, refl, sym, ap, ◌∙◌}
use mathlib.Core.Bool.{Bool, true, false, not, ◌||◌}
use mathlib.Core.List.{List, [], ◌∷◌, ◌++◌, map, append_assoc}
use mathlib.Core.Option.{some}
use Prim.Native.Nat.{ℕ, suc, ◌+◌}
use native.Mathlib.Omega.{arith}
use lib.Dec.{ltb}
use lib.ListN.{length}
use Rattle.std.specs.Prelude.{Some}
use Rattle.geom.specs.declared.Vec2.{Vec2}
use Rattle.sketch.specs.declared.Point.{Point}
use Rattle.sketch.specs.declared.Curve.{Curve}
use Rattle.sketch.specs.declared.CurveKind.{CurveKind}
use Rattle.sketch.specs.declared.Relation.{Relation}
use Rattle.sketch.specs.Lists.{ite, keep}
use Rattle.sketch.specs.Lookup.{among}
use Rattle.sketch.specs.Drawing.{Drawing, Limits, curve_in, uses_of, no_slots}
use Rattle.sketch.specs.Facts.{Every, Valid}
use Rattle.edit_plan.specs.declared.PinnedPoint.{PinnedPoint}
use Rattle.edit_plan.specs.declared.Plan.TheVariants.{CutTwo, Divide, DivideTwo}
use Rattle.edit_plan.specs.declared.Removed.{Removed}
use Rattle.edit_plan.specs.Outcome.{Outcome, accepted}
use Rattle.edit_plan.specs.Tables.{new_point, rekind, uses}
use Rattle.edit_plan.specs.Steps.{ends_of, is_line, tie_relation, swap, reported, removal, nothing}
use Rattle.edit_plan.specs.ApplyPlan.{apply_plan_to}
use Rattle.edit_plan.specs.Suited.{PinHolds}
use Rattle.edit_plan.specs.Changes.{is_circle, is_whole, piece_of, kept_piece, gone_piece, pin_relation, halves_of, half_circles, cut_once, divide_once, change_for, extent_of, staying, unused_by, candidates_for}
use Rattle.edit_plan.specs.Room.{mk_additions, additions_for, room_with}
use Rattle.edit_plan.proofs.Leaves.{or_true}
use Rattle.edit_plan.proofs.Bridge.{unless_refused, guard_point, guard_curve, guard_relation, freed, is_open, open_added, circle_added, divide_chain, divide_circle_chain, cut_circle_chain, room_one, room_circle, room_pinned}
use Rattle.edit_plan.proofs.Finals.{same, Given, stays, with_pieces, swapped, removal_is, kept_used, pin_stays, none_go, end_used, report_is, halves_alike}
use Rattle.edit_plan.proofs.AtOnce.{final_of, orphans_of, room_number, nobody_goes, left_all, left_cut, freed_is, seam_used, given, pin_apart, old_other}

module _ {m : Limits} {d : Drawing} (v : Valid m d) (c : Curve) (found : curve_in d.curves c.id ≡ some c) where
  module _ (met : Drawing → Bool) where
    abbrev i : ℕ
    i = d.next

    -- ---- two cuts of a circle

    module _ (w u : PinnedPoint) (b : Bool) (o : is_circle c.kind ≡ true) (held : PinHolds d c.id w.pin) (held' : PinHolds d c.id u.pin) where
      abbrev j' : ℕ
      j' = suc i

      abbrev g' : ℕ
      g' = suc (suc i)

      abbrev half : CurveKind
      half = kept_piece c.kind b i j' i

      abbrev other_half : CurveKind
      other_half = gone_piece c.kind b i j' i

      abbrev points' : List Point
      points' = d.points ++ (new_point i w.at ∷ new_point j' u.at ∷ [])

      abbrev relations' : List Relation
      relations' = pin_relation w.pin i ∷ pin_relation u.pin j' ∷ []

      abbrev unused' : List ℕ
      unused' = unused_by (map (rekind c.id half) d.curves ++ []) (uses_of other_half no_slots)

      free' : Given d c g'
      free' = given v c found g' (omega arith)

      round : (is_open c.kind || is_circle c.kind) ≡ true
      round = rw o (or_true (is_open c.kind))

      half_used : (p : ℕ) → among p (uses_of half c.slots) ≡ true → among p (uses (map (rekind c.id half) d.curves ++ [])) ≡ true
      half_used p h = kept_used d c g' free' points' relations' (suc g') half other_half [] refl p h

      none_unused' : unused' ≡ []
      none_unused' =
          none_go d c g' free' points' relations' (suc g') half other_half [] refl
          (halves_alike b c.kind i j' c.slots (λ p. among p (uses (map (rekind c.id half) d.curves ++ []))) o half_used)

      both_stay : Every (stays g' unused') relations'
      both_stay =
          let new = old_other v c found g' (omega arith) in (
            pin_stays d c g' free' points' relations' (suc g') half other_half [] refl w.pin i held new (half_used i (seam_used b c.kind i j' c.slots o)),
            (pin_stays d c g' free' points' relations' (suc g') half other_half [] refl u.pin j' held' new (half_used j' (end_used b c.kind i j' i c.slots round)), tt),
          )

      turned : (x : Bool) → let l = with_pieces d c g' free' points' relations' (suc g') (piece_of c.kind i j') (piece_of c.kind j' i) in
          ite x (swap c.id g' l) l ≡ with_pieces d c g' free' points' relations' (suc g') (kept_piece c.kind x i j' i) (gone_piece c.kind x i j' i)
      turned true = swapped d c g' free' points' relations' (suc g') (piece_of c.kind i j') (piece_of c.kind j' i)
      turned false = refl

      pub cut_circle_bridge : let e = extent_of c.kind c.id (CutTwo w u b) in let h = change_for c (CutTwo w u b) i in
          apply_plan_to met m d c (CutTwo w u b) ≡ unless_refused (room_number m d c (CutTwo w u b) e) (accepted (final_of d c h e (orphans_of d c (CutTwo w u b))) h.removed)
      unfolding change_for additions_for candidates_for is_whole
      cut_circle_bridge =
          let plan = CutTwo w u b in
          let e = extent_of c.kind c.id plan in
          let h = cut_once c (half_circles w.at u.at i) b (pin_relation w.pin i) (Some (pin_relation u.pin j')) in
          let np = length d.points in
          let nc = length d.curves in
          let fs = freed c d.relations in
          let nr = length fs in
          let r : Outcome Drawing Removed = accepted (final_of d c h e []) h.removed in
          let cs = map (rekind c.id half) d.curves in
          let l : Drawing = circle_added met m d c found o w.at u.at ((fs ++ (pin_relation w.pin i ∷ [])) ++ (pin_relation u.pin j' ∷ [])) in
          let added_is : l ≡ with_pieces d c g' free' points' relations' (suc g') (piece_of c.kind i j') (piece_of c.kind j' i) =
          same _ _ _ _ _ _ _ _ refl (append_assoc d.points (new_point i w.at ∷ []) (new_point j' u.at ∷ [])) refl (append_assoc fs (pin_relation w.pin i ∷ []) (pin_relation u.pin j' ∷ [])) in
          let ends : removal g' (ite b (swap c.id g' l) l) ≡ r =
          ap (λ x. removal g' (ite b (swap c.id g' x) x)) added_is ∙ ap (removal g') (turned b)
          ∙ removal_is d c g' free' points' relations' (suc g') half other_half [] refl both_stay
          ∙ ap (λ y. accepted (record { next = suc g'; points = keep (λ p. staying unused' p.id) points'; curves = cs ++ []; relations = y ++ relations' }) (reported g' (ends_of other_half))) (left_cut c plan unused' d.relations refl)
          ∙ ap (λ x. accepted (final_of d c h e x) (reported g' (ends_of other_half))) none_unused'
          ∙ ap (accepted (final_of d c h e [])) (report_is b c.kind g' i j' i round) in
          cut_circle_chain met m d c found o w u (pin_apart v c found w.pin i held (omega arith)) (pin_apart v c found u.pin j' held' (omega arith)) b
          ∙ ap (λ x. guard_point m i np w.at (guard_point m j' (suc np) u.at (guard_curve m g' nc (guard_relation m nr (guard_relation m (suc nr) x))))) ends
          ∙ sym (room_pinned m i np nc nr r w.at u.at)
          ∙ ap (λ x. unless_refused (room_with m i np nc (not (ltb (x + 1) m.relations)) (mk_additions w.at u.at 1 0 1)) r) (sym (freed_is c plan d.relations))
          ∙ rw o

    -- ---- divisions: nothing goes

    pub divide_bridge : (p : Vec2) → is_open c.kind ≡ true → let e = extent_of c.kind c.id (Divide p) in let h = change_for c (Divide p) i in
        apply_plan_to met m d c (Divide p) ≡ unless_refused (room_number m d c (Divide p) e) (accepted (final_of d c h e (orphans_of d c (Divide p))) h.removed)
    unfolding change_for additions_for candidates_for is_whole
    divide_bridge p o =
        let plan = Divide p in
        let e = extent_of c.kind c.id plan in
        let h = divide_once c (halves_of c.kind p i) in
        let np = length d.points in
        let nc = length d.curves in
        let fs = freed c d.relations in
        let nr = length fs in
        let tie = tie_relation (is_line c.kind) c.id (suc i) ∷ [] in
        let r : Outcome Drawing Removed = accepted (final_of d c h e []) nothing in
        let ends : accepted (open_added met m d c found o p (fs ++ tie)) nothing ≡ r =
        ap (λ x. accepted x nothing) (same _ _ _ _ _ _ _ _ refl (sym (nobody_goes (d.points ++ (new_point i p ∷ [])))) refl (ap (λ x. x ++ tie) (left_all c plan d.relations refl))) in
        divide_chain met m d c found o p
        ∙ ap (λ x. guard_point m i np p (guard_curve m (suc i) nc (guard_relation m nr x))) ends
        ∙ sym (room_one m i np nc nr r p)
        ∙ ap (λ x. unless_refused (room_with m i np nc (not (ltb (x + 0) m.relations)) (mk_additions p p 0 0 0)) r) (sym (freed_is c plan d.relations))

    pub divide_circle_bridge : (p q : Vec2) → is_circle c.kind ≡ true → let e = extent_of c.kind c.id (DivideTwo p q) in let h = change_for c (DivideTwo p q) i in
        apply_plan_to met m d c (DivideTwo p q) ≡ unless_refused (room_number m d c (DivideTwo p q) e) (accepted (final_of d c h e (orphans_of d c (DivideTwo p q))) h.removed)
    unfolding change_for additions_for candidates_for is_whole
    divide_circle_bridge p q o =
        let plan = DivideTwo p q in
        let e = extent_of c.kind c.id plan in
        let h = divide_once c (half_circles p q i) in
        let np = length d.points in
        let nc = length d.curves in
        let fs = freed c d.relations in
        let nr = length fs in
        let tie = tie_relation (is_line c.kind) c.id (suc (suc i)) ∷ [] in
        let new = new_point i p ∷ new_point (suc i) q ∷ [] in
        let r : Outcome Drawing Removed = accepted (final_of d c h e []) nothing in
        let ends : accepted (circle_added met m d c found o p q (fs ++ tie)) nothing ≡ r =
        ap (λ x. accepted x nothing)
        (same _ _ _ _ _ _ _ _ refl (append_assoc d.points (new_point i p ∷ []) (new_point (suc i) q ∷ []) ∙ sym (nobody_goes (d.points ++ new))) refl (ap (λ x. x ++ tie) (left_all c plan d.relations refl))) in
        divide_circle_chain met m d c found o p q
        ∙ ap (λ x. guard_point m i np p (guard_point m (suc i) (suc np) q (guard_curve m (suc (suc i)) nc (guard_relation m nr x)))) ends
        ∙ sym (room_circle m i np nc nr r p q)
        ∙ ap (λ x. unless_refused (room_with m i np nc (not (ltb (x + 0) m.relations)) (mk_additions p q 1 0 0)) r) (sym (freed_is c plan d.relations))
