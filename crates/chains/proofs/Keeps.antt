-- A plan whose pins are held, applied on a valid drawing and not refused, leaves a valid drawing: `apply_plan_valid`. Assumes nothing.
use mathlib.Core.Path.{◌≡◌, refl, sym, ap, ◌∙◌, subst}
use mathlib.Core.Bool.{Bool, true, false}
use mathlib.Core.List.{List, [], ◌∷◌, map}
use mathlib.Core.Option.{Option, some, none}
use Prim.Native.Nat.{ℕ, suc, ◌<◌}
use native.Mathlib.Omega.{arith}
use Rattle.geom.specs.declared.Vec2.{Vec2}
use Rattle.sketch.specs.declared.Curve.{Curve}
use Rattle.sketch.specs.declared.CurveKind.{CurveKind}
use Rattle.sketch.specs.Lists.{ite}
use Rattle.sketch.specs.Drawing.{Drawing, Limits, curve_in}
use Rattle.sketch.specs.Valid.{ok_number, sort_of, sort_at}
use Rattle.sketch.specs.Facts.{Valid}
use Rattle.sketch.proofs.Facts.{ok_number_lem}
use Rattle.edit_plan.specs.declared.Pin.{Pin}
use Rattle.edit_plan.specs.declared.PinnedPoint.{PinnedPoint}
use Rattle.edit_plan.specs.declared.Plan.{Plan}
use Rattle.edit_plan.specs.declared.Plan.TheVariants.{Whole, Cut, CutTwo, Divide, DivideTwo, Move}
use Rattle.edit_plan.specs.declared.Removed.{Removed}
use Rattle.edit_plan.specs.Outcome.{◌then◌}
use Rattle.edit_plan.specs.Tables.{set_kind, move_point}
use Rattle.edit_plan.specs.Steps.{ends_of, ends_at, release_extent, split_at, pin, pin_all, tie, swap, removal}
use Rattle.edit_plan.specs.ApplyPlan.{remove_piece, cut, divide, check_met, move_end, apply_plan_to, apply_plan_at, apply_plan}
use Rattle.edit_plan.specs.Suited.{Pinned}
use Rattle.edit_plan.proofs.Tables.{Holds, holds_then, holds_guard, look_some, look_set_other}
use Rattle.chains.proofs.Grown.{has, sort_on, alike, sound_kind, grown_refl, grown_trans}
use Rattle.chains.proofs.Steps.{grown_set, valid_set, grown_move, valid_move}
use Rattle.chains.proofs.Released.{curve_sound_lem, curve_ok, grown_release, valid_release}
use Rattle.chains.proofs.Gone.{valid_remove}
use Rattle.chains.proofs.Kept.{UpFrom, up_less, Kept, kept_trans}
use Rattle.chains.proofs.Pins.{Lies, AllLie, lies_grown, all_lie_grown, held_lies, ends_there, keep_pin, keep_pins}
use Rattle.chains.proofs.Ties.{Sorted, there_is, sort_grown, sorted_grown, keep_tie}
use Rattle.chains.proofs.Sorts.{rekind_ok, rekind_sound}
use Rattle.chains.proofs.Splits.{SplitHeld, keep_split}
use Rattle.chains.proofs.Shapes.{swap_is}

curve_of_lem : (d : Drawing) (s : ℕ) → alike s s ≡ true → (i : ℕ) → sort_on d i ≡ s → (x : Curve) × (curve_in d.curves i ≡ some x) × (sort_of x.kind ≡ s)
unfolding sort_at
curve_of_lem d s a i h = go (curve_in d.curves i) refl h
  where
    go : (o : Option Curve) → curve_in d.curves i ≡ o → sort_at o ≡ s → (x : Curve) × (curve_in d.curves i ≡ some x) × (sort_of x.kind ≡ s)
    go none e h = absurd (there_is s a (sym h))
    go (some x) e h = (x, e, h)

module _ (m : Limits) where
  -- t takes the kind of a curve of its sort
  take_held : (d : Drawing) → Valid m d → (s : ℕ) → alike s s ≡ true → (t : ℕ) (x : Curve) → curve_in d.curves t ≡ some x → sort_of x.kind ≡ s → (k : CurveKind) (l : List ℕ) → sort_of k ≡ s → ok_number k ≡ true → sound_kind (has d) k l ≡ true → Kept m d (set_kind t k d)
  take_held d v s a t x ex sx k l sk n h =
      let e = (look_some d.curves t x ex).1 in
      let z : sort_of k ≡ sort_of x.kind = sk ∙ sym sx in
      let b : alike (sort_of k) (sort_of k) ≡ true = ap (λ (y : ℕ). alike y y) sk ∙ a in
      record {
        valid = valid_set m d v t k x ex z (rekind_ok t k x e z b n (curve_ok m d v t x ex)) (rekind_sound t k x e z b (has d) l h);
        grown = grown_set m d v t k x ex z;
      }

  keep_swap : (d : Drawing) → Valid m d → (s : ℕ) → alike s s ≡ true → (t g : ℕ) → t < g → sort_on d t ≡ s → sort_on d g ≡ s → Kept m d (swap t g d)
  keep_swap d v s a t g ne p q =
      let (x, ex, sx) = curve_of_lem d s a t p in
      let (y, ey, sy) = curve_of_lem d s a g q in
      swap_held x ex sx y ey sy
    where
      swap_held : (x : Curve) → curve_in d.curves t ≡ some x → sort_of x.kind ≡ s → (y : Curve) → curve_in d.curves g ≡ some y → sort_of y.kind ≡ s → Kept m d (swap t g d)
      swap_held x ex sx y ey sy =
          let h = take_held d v s a t x ex sx y.kind y.slots sy (ok_number_lem y (curve_ok m d v g y ey)) (curve_sound_lem m d v g y ey) in
          let e = look_set_other t y.kind d.curves g (λ z. omega arith) ∙ ey in
          let k = take_held (set_kind t y.kind d) h.valid s a g y e sy x.kind x.slots sx (ok_number_lem x (curve_ok m d v t x ex)) (curve_sound_lem m d v t x ex) in
          subst (Kept m d) (sym (swap_is t g d x y ex ey)) (kept_trans m h k)

  abbrev Ok : Drawing → Removed → Type 0
  Ok d r = Valid m d

  keep_without : (d : Drawing) → Valid m d → (s : ℕ) → alike s s ≡ true → (t : ℕ) (is : List ℕ) → sort_on d t ≡ s → Sorted d s is → UpFrom (suc t) is → (first_goes : Bool) → Holds Ok (remove_piece m t first_goes is d)
  unfolding remove_piece
  keep_without d v s a t [] p q u b = tt
  keep_without d v s a t (g ∷ js) p q u b = go (ite b (swap t g d) d) (swapped b)
    where
      swapped : (b : Bool) → Kept m d (ite b (swap t g d) d)
      swapped true = keep_swap d v s a t g (omega (arith, u.0)) p q.0
      swapped false = record { valid = v; grown = grown_refl d }

      go : (d₁ : Drawing) → Kept m d d₁ → Holds Ok (tie m d₁ t js then (λ d' x. removal g d'))
      go d₁ h =
          holds_then (λ d' x. Kept m d₁ d') Ok (tie m d₁ t js) _
          (keep_tie m d₁ s a t js h.valid (sort_grown d d₁ h.grown s a t p) (sorted_grown d d₁ h.grown s a js q.1) (up_less (suc g) (suc t) js (omega (arith, u.0)) u.1)) λ d' x k.
          valid_remove m d' k.valid g

  module _ (met : Drawing → Bool) (d : Drawing) (v : Valid m d) (c : Curve) (at : curve_in d.curves c.id ≡ some c) where
    abbrev eased : Drawing
    eased = release_extent c.id c.kind d

    keep_extend : (at_end : Bool) (s : Vec2) (w : Pin) → Lies d w → Holds Ok (move_end met m d at_end s w (ends_of c.kind))
    unfolding move_end check_met ends_at
    keep_extend at_end s w f = go (ends_of c.kind) refl
      where
        end_of : (b : Bool) (e : ℕ × ℕ) → (has d e.0 ≡ true) × (has d e.1 ≡ true) → has d (ite b e.1 e.0) ≡ true
        end_of true e h = h.1
        end_of false e h = h.0

        go : (o : Option (ℕ × ℕ)) → ends_of c.kind ≡ o → Holds Ok (move_end met m d at_end s w o)
        go none q = tt
        go (some e) q =
            let p : ℕ = ite at_end e.1 e.0 in
            let g = grown_move m d v p s in
            holds_guard Ok _ 24 _ λ o.
            holds_then (λ d' x. Kept m (move_point p s d) d') Ok (pin m (move_point p s d) p w) _
            (keep_pin m (move_point p s d) p w (valid_move m d v p s o)
            (g.points p (end_of at_end e (ends_there m d v c.id e (ap ends_at at ∙ q)))) (lies_grown d (move_point p s d) g w f)) λ d' x k.
            holds_guard Ok _ 19 _ λ z. k.valid

    keep_cut : (ws : List PinnedPoint) (first_goes : Bool) → AllLie d ws → Holds Ok (cut m d c ws first_goes)
    keep_cut ws first_goes f =
        let vs = map (λ w. w.at) ws in
        holds_then (SplitHeld m eased c.id) Ok (split_at m eased c vs) _ (keep_split m eased (valid_release m d v c.id c at) c.id c at vs) λ d' q h.
        holds_then (λ d'' x. Kept m d' d'') Ok (pin_all m d' q.points ws) _
        (keep_pins m d' q.points ws h.held.valid h.there (all_lie_grown d d' (grown_trans (grown_release m d v c.id c at) h.held.grown) ws f)) λ d'' x k.
        keep_without d'' k.valid h.sort h.solid c.id q.pieces (sort_grown d' d'' k.grown h.sort h.solid c.id h.sort_is) (sorted_grown d' d'' k.grown h.sort h.solid q.pieces h.sorted) h.up first_goes

    keep_divide : (vs : List Vec2) → Holds Ok (divide m d c vs)
    keep_divide vs =
        holds_then (SplitHeld m eased c.id) Ok (split_at m eased c vs) _ (keep_split m eased (valid_release m d v c.id c at) c.id c at vs) λ d' q h.
        holds_then (λ d'' x. Kept m d' d'') Ok (tie m d' c.id q.pieces) _ (keep_tie m d' h.sort h.solid c.id q.pieces h.held.valid h.sort_is h.sorted h.up) λ d'' x k. k.valid

    applied_valid : (plan : Plan) → Pinned d c.id plan → Holds Ok (apply_plan_to met m d c plan)
    unfolding apply_plan_to
    applied_valid Whole f = valid_remove m d v c.id
    applied_valid (Cut w first_goes) f = keep_cut (w ∷ []) first_goes (held_lies m d v c.id w.pin f, tt)
    applied_valid (CutTwo w u first_goes) f = keep_cut (w ∷ u ∷ []) first_goes (held_lies m d v c.id w.pin f.0, (held_lies m d v c.id u.pin f.1, tt))
    applied_valid (Divide u) f = keep_divide (u ∷ [])
    applied_valid (DivideTwo u w) f = keep_divide (u ∷ w ∷ [])
    applied_valid (Move at_end u w) f = keep_extend at_end u w (held_lies m d v c.id w f)

  -- the theorem
  pub apply_plan_valid : (met : Drawing → Bool) (d : Drawing) → Valid m d → (t : ℕ) (plan : Plan) → Pinned d t plan → Holds (λ d' r. Valid m d') (apply_plan met m d t plan)
  unfolding apply_plan_at
  apply_plan_valid met d v t plan f = go (curve_in d.curves t) refl
    where
      go : (o : Option Curve) → curve_in d.curves t ≡ o → Holds (λ d' r. Valid m d') (apply_plan_at met m d plan o)
      go none e = tt
      go (some c) e =
          let q : c.id ≡ t = (look_some d.curves t c e).1 in
          applied_valid met d v c (ap (curve_in d.curves) q ∙ e) plan (subst (λ (z : ℕ). Pinned d z plan) (sym q) f)
