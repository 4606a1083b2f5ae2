-- A move as the list definition makes it: what refuses it, and the drawing made at once.
use mathlib.Core.Path.{◌≡◌, refl, sym, ap, ◌∙◌}
use mathlib.Core.Bool.{Bool, true, false}
use mathlib.Core.List.{List, [], ◌∷◌, ◌++◌, map, append-nil}
use mathlib.Core.Option.{some}
use Prim.Native.Nat.{ℕ, zero, suc, ◌+◌, ◌≤◌, ◌<◌}
use native.Mathlib.Omega.{arith}
use lib.Dec.{leb, ltb, eqb}
use lib.ListN.{length, get_or, set}
use borrow.Author.Tests.{eq-eqb, ne_eqb, lt-ltb, le-leb, lt-leb, ltb-true, ltb-false}
use Rattle.geom.specs.declared.Vec2.{Vec2}
use Rattle.sketch.specs.declared.Point.{Point}
use Rattle.sketch.specs.declared.Relation.{Relation}
use Rattle.sketch.specs.declared.Relation.TheVariants.{Coincident, PointOnCurve}
use Rattle.sketch.specs.Lists.{ite, guard_number}
use Rattle.sketch.specs.Drawing.{Drawing, limits, point_ids}
use Rattle.sketch.specs.Blanks.{no_point}
use Rattle.sketch.specs.Facts.{Rising, Valid}
use Rattle.edit_plan.specs.declared.Pin.{Pin}
use Rattle.edit_plan.specs.declared.Pin.TheVariants.{On, At}
use Rattle.edit_plan.specs.declared.Removed.{Removed}
use Rattle.edit_plan.specs.Outcome.{Outcome, accepted, ◌then◌, guard}
use Rattle.edit_plan.specs.Tables.{ok_position, moved, move_point, with_relation}
use Rattle.edit_plan.specs.Steps.{pin}
use Rattle.edit_plan.specs.ApplyPlan.{check_met, move_end}
use Rattle.edit_plan.proofs.Bridge.{unless_refused}
use Rattle.apply.specs.Moved.{pinned_by, moved_to, point_at_place, drawing_moved, move_refusal}

-- ---- ids rise, so that the point at a place alone is moved

above : (n b : ℕ) (l : List Point) (k : ℕ) → Rising n b (point_ids l) → k < length l → b < (get_or l k no_point).id
above n b [] k h q = absurd (omega arith)
above n b (p ∷ l) zero h q = h.0
above n b (p ∷ l) (suc k) h q = let u = above n p.id l k h.2 (omega arith) in omega (arith, h.0)

module _ (v : Vec2) (i : ℕ) where
  stays : (p : Point) → (i ≡ p.id → ⊥) → moved i v p ≡ p
  stays p ne = rw (ne_eqb i p.id ne)

  none_moved : (n b : ℕ) (l : List Point) → Rising n b (point_ids l) → i ≤ b → map (moved i v) l ≡ l
  none_moved n b [] h q = refl
  none_moved n b (p ∷ l) h q =
      ap (λ x. x ∷ map (moved i v) l) (stays p (λ e. omega (arith, h.0))) ∙ ap (λ t. p ∷ t) (none_moved n p.id l h.2 (omega (arith, h.0)))

  pub one_moved : (n b : ℕ) (l : List Point) (k : ℕ) → Rising n b (point_ids l) → k < length l → (get_or l k no_point).id ≡ i → set l k (moved i v (get_or l k no_point)) ≡ map (moved i v) l
  one_moved n b [] k h q e = absurd (omega arith)
  one_moved n b (p ∷ l) zero h q e = ap (λ t. moved i v p ∷ t) (sym (none_moved n p.id l h.2 (omega arith)))
  one_moved n b (p ∷ l) (suc k) h q e =
      let u = above n p.id l k h.2 (omega arith) in
      ap (λ t. p ∷ t) (one_moved n p.id l k h.2 (omega arith) e) ∙ ap (λ x. x ∷ map (moved i v) l) (sym (stays p (λ j. omega arith)))

-- ---- a pin

module _ (d : Drawing) (p : ℕ) (f : Drawing → Unit {0} → Outcome Drawing Removed) where
  abbrev n : ℕ
  n = length d.relations

  relation_then : (r : Relation) → (guard (ltb n limits.relations) 22 (accepted (with_relation d r) tt) then f) ≡ unless_refused (guard_number (leb (n + 1) limits.relations) 22 0) (f (with_relation d r) tt)
  unfolding guard guard_number unless_refused
  relation_then r = go (ltb n limits.relations) refl
    where
      go : (b : Bool) → ltb n limits.relations ≡ b → (guard b 22 (accepted (with_relation d r) tt) then f) ≡ unless_refused (guard_number (leb (n + 1) limits.relations) 22 0) (f (with_relation d r) tt)
      go true q = rw (le-leb (n + 1) limits.relations (omega (arith, ltb-true n limits.relations q)))
      go false q = rw (lt-leb (n + 1) limits.relations (omega (arith, ltb-false n limits.relations q)))

  abbrev with_pin : List Relation → Drawing
  with_pin rs = record { next = d.next; points = d.points; curves = d.curves; relations = d.relations ++ rs }

  pin_then : (w : Pin) → n ≤ limits.relations → (pin limits d p w then f) ≡ unless_refused (guard_number (leb (n + length (pinned_by w p)) limits.relations) 22 0) (f (with_pin (pinned_by w p)) tt)
  unfolding pin pinned_by guard_number unless_refused
  pin_then (On c) h = relation_then (PointOnCurve p c)
  pin_then (At e) h = go (eqb e p)
    where
      go : (b : Bool) → (ite b (accepted d tt) (guard (ltb n limits.relations) 22 (accepted (with_relation d (Coincident p e)) tt)) then f)
          ≡ unless_refused (guard_number (leb (n + length (ite b [] (Coincident p e ∷ []))) limits.relations) 22 0) (f (with_pin (ite b [] (Coincident p e ∷ []))) tt)
      go true =
          let z : n + 0 ≡ n = omega arith in
          sym (rw (z, le-leb n limits.relations h, append-nil d.relations))
      go false = relation_then (Coincident p e)

-- ---- the move of an end

module _ {d : Drawing} (valid : Valid limits d) (k : ℕ) (below : k < length d.points) (v : Vec2) (w : Pin) where
  abbrev p : ℕ
  p = (point_at_place d k).id

  points_are : set d.points k (moved_to v (point_at_place d k)) ≡ map (moved p v) d.points
  points_are =
      let u : moved p v (point_at_place d k) ≡ moved_to v (point_at_place d k) = rw (eq-eqb p p refl) in
      ap (set d.points k) (sym u) ∙ one_moved v p d.next 0 d.points k valid.points_rise below refl

  pub drawing_moved_lem : drawing_moved d k v w ≡ record { next = d.next; points = map (moved p v) d.points; curves = d.curves; relations = d.relations ++ pinned_by w p }
  drawing_moved_lem = ap (λ (l : List Point). record { next = d.next; points = l; curves = d.curves; relations = d.relations ++ pinned_by w p }) points_are

  pub move_is : (met : Drawing → Bool) (at_end : Bool) (e : ℕ × ℕ) → p ≡ ite at_end e.1 e.0 → move_end met limits d at_end v w (some e) ≡ unless_refused (move_refusal d.points d.relations k v w) (check_met met (drawing_moved d k v w))
  unfolding move_end guard guard_number unless_refused
  move_is met at_end e q = rw (← q, drawing_moved_lem, lt-ltb k (length d.points) below) (go (ok_position v))
    where
      go : (b : Bool) → guard b 24 (pin limits (move_point p v d) p w then (λ d' u. check_met met d'))
          ≡ unless_refused (guard_number b 24 (guard_number (leb (length d.relations + length (pinned_by w p)) limits.relations) 22 0)) (check_met met (record { next = d.next; points = map (moved p v) d.points; curves = d.curves; relations = d.relations ++ pinned_by w p }))
      go true = pin_then (move_point p v d) p (λ d' u. check_met met d') w valid.relations_fit
      go false = refl
