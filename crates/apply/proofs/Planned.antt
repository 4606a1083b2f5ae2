-- A plan for the curve at a place, by numbers: what refuses it, and what it leaves room for. Assumes nothing.
use mathlib.Core.Path.{◌≡◌, refl, sym, ap, subst, ◌∙◌}
use mathlib.Core.Bool.{Bool, true, false, not}
use mathlib.Core.List.{List, []}
use Prim.Native.Nat.{ℕ, suc, ◌+◌, ◌/◌, ◌≤◌, ◌<◌}
use native.Mathlib.Omega.{arith}
use lib.Dec.{leb, ltb, eqb}
use lib.ListN.{length, length-map}
use borrow.Author.Tests.{le-leb, lt-ltb, le-ltb, ltb-true}
use Rattle.std.specs.Prelude.{Some}
use Rattle.sketch.specs.declared.Curve.{Curve}
use Rattle.sketch.specs.Lists.{ite, guard_number}
use Rattle.sketch.specs.Drawing.{Drawing, limits, no_slots}
use Rattle.sketch.proofs.Facts.{guard_number_none}
use Rattle.image.specs.Records.{point_size, curve_size, ids_at, slots_of, curve_kind_at}
use Rattle.big_endian.specs.Fields.{field}
use Rattle.image.specs.Decode.{read_point, read_curve}
use Rattle.rows.specs.Rows.{rows_in, row_in, points_in, curves_in, relations_in}
use Rattle.rows.proofs.Rows.{length_rows_in}
use Rattle.edit_plan.specs.declared.Plan.{Plan}
use Rattle.edit_plan.specs.declared.Plan.TheVariants.{Whole, Cut, CutTwo, Divide, DivideTwo, Move}
use Rattle.geom.specs.declared.Vec2.{Vec2}
use Rattle.geom.specs.Plane.{origin}
use Rattle.edit_plan.specs.declared.Extent.{Extent}
use Rattle.edit_plan.specs.declared.Change.{Change}
use Rattle.edit_plan.specs.declared.Removed.{Removed}
use Rattle.edit_plan.specs.Tables.{ok_position, others}
use Rattle.edit_plan.specs.Suited.{suits}
use Rattle.edit_plan.specs.Changes.{is_circle, is_whole, change_for, cut_once, cut_middle, half_circles, pin_relation, extent_of, orphan_list, candidates_for, unused_by, points_new, curves_new, relations_new, whole_gone}
use Rattle.edit_plan.specs.Room.{mk_additions, additions_for, room_with, room_with_left, room_for, left_over, takes}
use Rattle.edit_plan.proofs.AtOnce.{left_all, freed_is}
use Rattle.edit_plan.proofs.Amounts.{small}
use Rattle.apply.specs.Answers.{Answer}
use Rattle.apply.specs.Applied.{target_in, plan_extent, plan_orphans, plan_change, plan_refusal, removed_by, Answered}
use Rattle.apply.specs.Clauses.{drawing_read, left_rows, staying_rows, curves_without, points_after, curves_after, relations_after, rows_image, image_after, EightSlots, CountsWithin, TablesWithin, refused_by, RowsApplied}
use Rattle.apply.proofs.Turns.{curve_read, length_curves}
use Rattle.apply.proofs.Concerned.{rows_counted, fewer_left}
use Rattle.apply.proofs.Parts.{length_after}
use Rattle.apply.proofs.Images.{length_points_after, length_relations_after, staying_few, answered_refused}

-- ---- counts

pub length_points : (t : List ℕ) → length (points_in t) ≡ length t / point_size
length_points t = length-map (rows_in point_size t) read_point ∙ length_rows_in point_size t

released_count : (c : Curve) (plan : Plan) (r : List ℕ) → is_whole plan ≡ false → length (left_rows (extent_of c.kind c.id plan) [] r) ≡ left_over (extent_of c.kind c.id plan) (relations_in r)
released_count c plan r h =
    rows_counted (extent_of c.kind c.id plan) [] r ∙ sym (ap length (left_all c plan (relations_in r) h)) ∙ sym (freed_is c plan (relations_in r))

-- ---- refusals

pub unsuited : (b : Bool) (rest : ℕ) → b ≡ false → 10 ≡ guard_number b 10 rest
unfolding guard_number
unsuited b rest h = rw h

-- the relations' number tells as much as that of those that are left, where there is room for two more
pub count_enough : (n left : ℕ) → left ≤ n → n < 254 → (more : ℕ) → more ≤ 2 → ltb (n + more) limits.relations ≡ ltb (left + more) limits.relations
count_enough n left h k more m = rw (lt-ltb (n + more) 256 (omega arith), lt-ltb (left + more) 256 (omega arith))

pub refusal_is : (c : Curve) (plan : Plan) (next : ℕ) (p cu r : List ℕ) (e : Extent) (left x : ℕ) → suits c.kind plan ≡ true → e ≡ extent_of c.kind c.id plan
    → ((more : ℕ) → more ≤ 2 → ltb (left + more) limits.relations ≡ ltb (length (left_rows e [] r) + more) limits.relations)
    → x ≡ room_for c.kind plan next (length p / point_size) (length cu / curve_size) left
    → x ≡ guard_number (suits c.kind plan) 10 (room_for c.kind plan next (length (points_in p)) (length (curves_in cu)) (left_over (extent_of c.kind c.id plan) (relations_in r)))
unfolding guard_number
refusal_is c plan next p cu r e left x s ee l f = f ∙ go (is_whole plan) refl ∙ sym (ap (λ b. guard_number b 10 (room_for c.kind plan next (length (points_in p)) (length (curves_in cu)) (left_over (extent_of c.kind c.id plan) (relations_in r)))) s)
  where
    go : (b : Bool) → is_whole plan ≡ b → ite b 0 (room_with_left next (length p / point_size) (length cu / curve_size) left (additions_for c.kind plan))
        ≡ ite b 0 (room_with_left next (length (points_in p)) (length (curves_in cu)) (left_over (extent_of c.kind c.id plan) (relations_in r)) (additions_for c.kind plan))
    go true h = refl
    go false h =
        let m = (small (additions_for c.kind plan) c.kind plan refl).relations in
        rw (length_points p, length_curves cu)
        (ap (λ b. room_with limits next (length p / point_size) (length cu / curve_size) (not b) (additions_for c.kind plan)) (l (additions_for c.kind plan).relations m)
        ∙ ap (λ n. room_with_left next (length p / point_size) (length cu / curve_size) n (additions_for c.kind plan)) (ap (λ x. length (left_rows x [] r)) ee ∙ released_count c plan r h))

module _ (next : ℕ) (p cu r : List ℕ) (k : ℕ) (plan : Plan) where
  pub past_refused : length cu / curve_size ≤ k → plan_refusal (drawing_read next p cu r) k plan ≡ 8
  unfolding guard_number
  past_refused h = let n = length_curves cu in rw (le-ltb k (length (curves_in cu)) (omega arith))

  pub target_is : (c : Curve) → k < length cu / curve_size → c ≡ read_curve (row_in curve_size cu k) → c ≡ target_in (drawing_read next p cu r) k
  target_is c h e = e ∙ sym (curve_read cu k h)

  pub refusal_at : (c : Curve) (x : ℕ) → k < length cu / curve_size → c ≡ read_curve (row_in curve_size cu k)
      → x ≡ guard_number (suits c.kind plan) 10 (room_for c.kind plan next (length (points_in p)) (length (curves_in cu)) (left_over (extent_of c.kind c.id plan) (relations_in r)))
      → plan_refusal (drawing_read next p cu r) k plan ≡ x
  unfolding guard_number
  refusal_at c x h e f =
      let n = length_curves cu in
      rw (lt-ltb k (length (curves_in cu)) (omega arith), ← target_is c h e) (sym f)

-- ---- room

not_both : (b : Bool) → not (not b) ≡ true → b ≡ true
not_both true h = refl
not_both false h = h

module _ (i np nc left : ℕ) where
  record Space (dp dc dr : ℕ) : Type 0 where
    ids : suc (i + dp) + dc < limits.ids
    points : np + dp < 512
    curves : nc + dc < 128
    relations : left + dr < 256

  space : (v u : Vec2) (dp dc dr : ℕ) → room_with_left i np nc left (mk_additions v u dp dc dr) ≡ 0 → Space dp dc dr
  unfolding room_with
  space v u dp dc dr h =
      let full = not (ltb (left + dr) 256) in
      let a = guard_number_none (ltb i limits.ids) 23 _ (omega arith) h in
      let b = guard_number_none (ltb np 512) 22 _ (omega arith) a.1 in
      let c = guard_number_none (ok_position v) 24 _ (omega arith) b.1 in
      let e = guard_number_none (ltb (i + dp) limits.ids) 23 _ (omega arith) c.1 in
      let j = guard_number_none (ltb (np + dp) 512) 22 _ (omega arith) e.1 in
      let k = guard_number_none (ok_position u) 24 _ (omega arith) j.1 in
      let l = guard_number_none (ltb (suc (i + dp)) limits.ids) 23 _ (omega arith) k.1 in
      let m = guard_number_none (ltb nc 128) 22 _ (omega arith) l.1 in
      let n = guard_number_none (ltb (suc (i + dp) + dc) limits.ids) 23 _ (omega arith) m.1 in
      let o = guard_number_none (ltb (nc + dc) 128) 22 _ (omega arith) n.1 in
      let p = guard_number_none (not full) 22 0 (omega arith) o.1 in
      record {
        ids = ltb-true _ _ n.0;
        points = ltb-true _ _ j.0;
        curves = ltb-true _ _ o.0;
        relations = ltb-true _ _ (not_both (ltb (left + dr) 256) p.0);
      }

  pub record Roomy (t : ℕ) (h : Change) : Type 0 where
    pub ids : i + t ≤ limits.ids
    pub points : np + length (points_new h) ≤ 512
    pub curves : nc + length (curves_new h) ≤ 128
    pub relations : left + length (relations_new h) ≤ 256

  module _ (c : Curve) where
    pub roomy : (plan : Plan) → room_with_left i np nc left (additions_for c.kind plan) ≡ 0 → Roomy (takes c.kind plan) (change_for c plan i)
    unfolding additions_for change_for takes
    roomy Whole z = let u = space origin origin 0 0 0 z in record { ids = omega (arith, u.ids); points = omega (arith, u.points); curves = omega (arith, u.curves); relations = omega (arith, u.relations) }
    roomy (Cut w b) z = let u = space w.at w.at 0 0 0 z in record { ids = omega (arith, u.ids); points = omega (arith, u.points); curves = omega (arith, u.curves); relations = omega (arith, u.relations) }
    roomy (CutTwo w v b) z = go (is_circle c.kind) z
      where
        go : (x : Bool) → room_with_left i np nc left (ite x (mk_additions w.at v.at 1 0 1) (mk_additions w.at v.at 1 1 2)) ≡ 0
            → Roomy (ite x 3 4) (ite x (cut_once c (half_circles w.at v.at i) b (pin_relation w.pin i) (Some (pin_relation v.pin (suc i)))) (cut_middle c w v i))
        go true z = let u = space w.at v.at 1 0 1 z in record { ids = omega (arith, u.ids); points = omega (arith, u.points); curves = omega (arith, u.curves); relations = omega (arith, u.relations) }
        go false z = let u = space w.at v.at 1 1 2 z in record { ids = omega (arith, u.ids); points = omega (arith, u.points); curves = omega (arith, u.curves); relations = omega (arith, u.relations) }
    roomy (Divide v) z = let u = space v v 0 0 0 z in record { ids = omega (arith, u.ids); points = omega (arith, u.points); curves = omega (arith, u.curves); relations = omega (arith, u.relations) }
    roomy (DivideTwo v t) z = let u = space v t 1 0 0 z in record { ids = omega (arith, u.ids); points = omega (arith, u.points); curves = omega (arith, u.curves); relations = omega (arith, u.relations) }
    roomy (Move b v w) z = let u = space origin origin 0 0 0 z in record { ids = omega (arith, u.ids); points = omega (arith, u.points); curves = omega (arith, u.curves); relations = omega (arith, u.relations) }

-- ---- slots

pub read_slots : (r : List ℕ) → length (read_curve r).slots ≡ 8
unfolding ids_at
read_slots r = go (eqb (field r curve_kind_at 1) 4)
  where
    go : (b : Bool) → length (ite b (slots_of r) no_slots) ≡ 8
    go true = refl
    go false = refl

pub change_slots : (c : Curve) (i : ℕ) → length c.slots ≡ 8 → (plan : Plan) → EightSlots (change_for c plan i)
unfolding change_for
change_slots c i h Whole = (h, refl)
change_slots c i h (Cut w b) = (h, tt)
change_slots c i h (CutTwo w v b) = go (is_circle c.kind)
  where
    go : (x : Bool) → EightSlots (ite x (cut_once c (half_circles w.at v.at i) b (pin_relation w.pin i) (Some (pin_relation v.pin (suc i)))) (cut_middle c w v i))
    go true = (h, tt)
    go false = (h, refl)
change_slots c i h (Divide v) = (h, refl)
change_slots c i h (DivideTwo v t) = (h, refl)
change_slots c i h (Move b v w) = (h, refl)

-- ---- answers, by what the code knows

answered_as : (n n' : ℕ) (image image' : List ℕ) (gone gone' : Removed) (before after : List ℕ) (r : Answer) → n ≡ n' → image ≡ image' → gone ≡ gone' → Answered n' image' gone' before after r → Answered n image gone before after r
answered_as n n' image image' gone gone' before after r e f g w = rw (e, f, g) w

module _ (next : ℕ) (p cu r : List ℕ) (k : ℕ) (plan : Plan) (before after : List ℕ) (res : Answer) (c : Curve) (e : Extent) (os : List ℕ)
    (is : c ≡ target_in (drawing_read next p cu r) k) (ee : e ≡ extent_of c.kind c.id plan)
    (eo : os ≡ unused_by (others c.id (curves_in cu)) (orphan_list (candidates_for c.kind plan))) (zero : plan_refusal (drawing_read next p cu r) k plan ≡ 0) where
  abbrev d : Drawing
  d = drawing_read next p cu r

  extent_is : plan_extent d k plan ≡ e
  extent_is = sym (ee ∙ ap (λ (c : Curve). extent_of c.kind c.id plan) is)

  orphans_are : plan_orphans d k plan ≡ os
  orphans_are = sym (eo ∙ ap (λ (c : Curve). unused_by (others c.id (curves_in cu)) (orphan_list (candidates_for c.kind plan))) is)

  pub whole_is : e.whole ≡ is_whole plan
  whole_is = ap (λ (e : Extent). e.whole) ee

  abbrev without_image : Extent → List ℕ → List ℕ
  without_image e os = rows_image next (staying_rows os p) (curves_without k cu) (left_rows e os r)

  abbrev changed_image : Extent → List ℕ → Change → List ℕ
  changed_image e os h = rows_image h.next (points_after os h p) (curves_after k h cu) (relations_after e os h r)

  abbrev image : Bool → List ℕ
  image b = ite b (without_image (plan_extent d k plan) (plan_orphans d k plan)) (changed_image (plan_extent d k plan) (plan_orphans d k plan) (plan_change d k plan))

  abbrev gone : Bool → Removed
  gone b = ite b (whole_gone (plan_extent d k plan)) (plan_change d k plan).removed

  pub whole_answered : e.whole ≡ true → Answered 0 (rows_image next (staying_rows os p) (curves_without k cu) (left_rows e os r)) (whole_gone e) before after res → RowsApplied next p cu r k plan before after res
  whole_answered w a =
      let b : is_whole plan ≡ true = sym whole_is ∙ w in
      answered_as (plan_refusal d k plan) 0 (image (is_whole plan)) (without_image e os) (gone (is_whole plan)) (whole_gone e) before after res zero
      (ap image b ∙ ap (λ x. without_image x (plan_orphans d k plan)) extent_is ∙ ap (without_image e) orphans_are) (ap gone b ∙ ap whole_gone extent_is) a

  room_is : room_for c.kind plan next (length (points_in p)) (length (curves_in cu)) (left_over (extent_of c.kind c.id plan) (relations_in r)) ≡ 0
  unfolding guard_number
  room_is =
      let x = guard_number_none (ltb k (length (curves_in cu))) 8 _ (omega arith) zero in
      let y = guard_number_none (suits (target_in d k).kind plan) 10 _ (omega arith) x.1 in
      rw is y.1

  pub room_at : e.whole ≡ false → Roomy next (length p / point_size) (length cu / curve_size) (length (left_rows e [] r)) (takes c.kind plan) (change_for c plan next)
  room_at w =
      let b : is_whole plan ≡ false = sym whole_is ∙ w in
      let l : left_over (extent_of c.kind c.id plan) (relations_in r) ≡ length (left_rows e [] r) = sym (released_count c plan r b) ∙ ap (λ x. length (left_rows x [] r)) (sym ee) in
      let z : room_with_left next (length p / point_size) (length cu / curve_size) (length (left_rows e [] r)) (additions_for c.kind plan) ≡ 0 =
      rw (← length_points p, ← length_curves cu, ← l) (sym (ap (λ x. ite x 0 (room_with_left next (length (points_in p)) (length (curves_in cu)) (left_over (extent_of c.kind c.id plan) (relations_in r)) (additions_for c.kind plan))) b) ∙ room_is) in
      roomy next (length p / point_size) (length cu / curve_size) (length (left_rows e [] r)) c plan z

  module _ (h : Change) (eh : h ≡ change_for c plan (ite (leb (next + takes c.kind plan) limits.ids) next 0)) (w : e.whole ≡ false) where
    pub change_is : h ≡ change_for c plan next
    change_is = eh ∙ ap (λ b. change_for c plan (ite b next 0)) (le-leb _ _ (room_at w).ids)

    planned : plan_change d k plan ≡ h
    planned = sym (change_is ∙ ap (λ (c : Curve). change_for c plan next) is)

    pub changed_answered : Answered 0 (rows_image h.next (points_after os h p) (curves_after k h cu) (relations_after e os h r)) h.removed before after res → RowsApplied next p cu r k plan before after res
    changed_answered a =
        let b : is_whole plan ≡ false = sym whole_is ∙ w in
        answered_as (plan_refusal d k plan) 0 (image (is_whole plan)) (changed_image e os h) (gone (is_whole plan)) h.removed before after res zero
        (ap image b ∙ ap (λ x. changed_image x (plan_orphans d k plan) (plan_change d k plan)) extent_is ∙ ap (λ x. changed_image e x (plan_change d k plan)) orphans_are ∙ ap (changed_image e os) planned)
        (ap gone b ∙ ap (λ (h : Change). h.removed) planned) a

    -- what is written is within the limits
    pub changed_within : length c.slots ≡ 8 → TablesWithin p cu r → k < length cu / curve_size → EightSlots h × CountsWithin (length (points_after os h p)) (length (curves_after k h cu)) (length (relations_after e os h r))
    changed_within s t b =
        let m = room_at w in
        let x : length (points_new h) ≡ length (points_new (change_for c plan next)) = ap (λ (h : Change). length (points_new h)) change_is in
        let y : length (curves_new h) ≡ length (curves_new (change_for c plan next)) = ap (λ (h : Change). length (curves_new h)) change_is in
        let z : length (relations_new h) ≡ length (relations_new (change_for c plan next)) = ap (λ (h : Change). length (relations_new h)) change_is in (
          subst EightSlots (sym change_is) (change_slots c next s plan),
          record {
            points = omega (arith, length_points_after os h p, staying_few os p, length_rows_in point_size p, m.points, x);
            curves = omega (arith, length_after k cu b h, m.curves, y);
            relations = omega (arith, length_relations_after e os h r, fewer_left e os r, m.relations, z);
          },
        )

module _ (next : ℕ) (p cu r : List ℕ) (k : ℕ) (plan : Plan) where
  pub target_slots : (c : Curve) → k < length cu / curve_size → c ≡ target_in (drawing_read next p cu r) k → length c.slots ≡ 8
  target_slots c h e = ap (λ (c : Curve). length c.slots) (e ∙ curve_read cu k h) ∙ read_slots (row_in curve_size cu k)

  pub refused_answered : (l : List ℕ) (n : ℕ) → plan_refusal (drawing_read next p cu r) k plan ≡ n → (n ≡ 0 → ⊥) → RowsApplied next p cu r k plan l l (refused_by n)
  refused_answered l n e h =
      subst (λ x. Answered x (image_after next p cu r k plan) (removed_by (drawing_read next p cu r) k plan) l l (refused_by n)) (sym e)
      (answered_refused (image_after next p cu r k plan) (removed_by (drawing_read next p cu r) k plan) l n h)
