-- What is added to a valid drawing, set or moved in it leaves it valid, given what it is used with; and the drawing only grows. Assumes nothing.
use mathlib.Core.Path.{◌≡◌, refl, sym, ap, ◌∙◌}
use mathlib.Core.Bool.{Bool, true, false, ◌&&◌}
use mathlib.Core.List.{List, [], ◌∷◌, ◌++◌, map, Memᴰ}
use mathlib.Core.Option.{Option, some, none}
use Prim.Native.Nat.{ℕ, suc, ◌<◌}
use native.Mathlib.Omega.{arith}
use native.Mathlib.Decide.{ℕ_discrete}
use lib.ListN.{length, length-append, length-map}
use lib.Dec.{eqb}
use borrow.Author.Tests.{eq-eqb, ne_eqb}
use Rattle.geom.specs.declared.Vec2.{Vec2}
use Rattle.sketch.specs.declared.Point.{Point}
use Rattle.sketch.specs.declared.Curve.{Curve}
use Rattle.sketch.specs.declared.CurveKind.{CurveKind}
use Rattle.sketch.specs.declared.Relation.{Relation}
use Rattle.sketch.specs.Lists.{ite}
use Rattle.sketch.specs.Drawing.{Drawing, Limits, point_ids, curve_ids, curve_in}
use Rattle.sketch.specs.Valid.{ok_coordinate, ok_point, ok_curve, ok_relation, sort_of, sort_at, sound_curve, sound_relation}
use Rattle.sketch.specs.Facts.{Every, Valid}
use Rattle.edit_plan.specs.Tables.{ok_position, new_point, with_point, new_curve, with_curve, with_relation, rekind, set_kind, moved, move_point}
use Rattle.edit_plan.proofs.Bridge.{look_front}
use Rattle.edit_plan.proofs.Tables.{look_some, look_right, ids_set, look_set, look_set_other}
use Rattle.edit_plan.proofs.Every.{every_append, every_as, every_map, among_same, among_left, among_right, rising_more, rising_end, rising_low, rising_high, look_member}
use Rattle.chains.proofs.AddedPieces.{Low}
use Rattle.chains.proofs.Grown.{has, sort_on, relation_kept, curve_kept, Grown}

pub low_of : (m : Limits) (d : Drawing) → Valid m d → Low d.next d.curves
low_of m d v =
    record {
      below = λ i g. rising_high d.next 0 i (curve_ids d.curves) v.curves_rise g;
      above = rising_low d.next 0 0 (curve_ids d.curves) v.curves_rise (omega arith);
    }

module _ (m : Limits) (d : Drawing) (v : Valid m d) where
  old_relations : (d' : Drawing) → Grown d d' → Every (sound_relation (has d') (sort_on d')) d.relations
  old_relations d' g = every_as _ _ d.relations (λ r h. relation_kept (has d) (has d') (sort_on d) (sort_on d') r (λ p q. g.points p) (λ c q. g.sorts c) h) v.relations_sound

  old_curves : (d' : Drawing) → Grown d d' → Every (sound_curve (has d')) d.curves
  old_curves d' g = every_as _ _ d.curves (λ c h. curve_kept (has d) (has d') c (λ p q. g.points p) h) v.curves_sound

  -- ---- a point

  ids_end : (ps : List Point) (p : Point) → point_ids (ps ++ (p ∷ [])) ≡ point_ids ps ++ (p.id ∷ [])
  ids_end [] p = refl
  ids_end (q ∷ ps) p = ap (λ (l : List ℕ). q.id ∷ l) (ids_end ps p)

  module _ (s : Vec2) where
    pub grown_point : Grown d (with_point d s)
    grown_point =
        record {
          points = λ p h. rw (ids_end d.points (new_point d.next s)) (among_left p (point_ids d.points) (d.next ∷ []) h);
          sorts = λ i h. refl;
          next = omega arith;
        }

    pub new_point_lem : has (with_point d s) d.next ≡ true
    new_point_lem = rw (ids_end d.points (new_point d.next s)) (among_right d.next (point_ids d.points) (d.next ∷ []) (among_same d.next []))

    pub valid_point : d.next < m.ids → length d.points < m.points → ok_position s ≡ true → Valid m (with_point d s)
    valid_point a b c =
        record {
          points_fit = simp length-append (omega arith);
          curves_fit = v.curves_fit;
          relations_fit = v.relations_fit;
          next_low = omega arith;
          next_high = omega arith;
          points_rise = rw (ids_end d.points (new_point d.next s)) (rising_end d.next 0 (point_ids d.points) v.next_low v.points_rise);
          curves_rise = rising_more d.next (suc d.next) 0 (curve_ids d.curves) (omega arith) v.curves_rise;
          points_ok = every_append ok_point d.points _ v.points_ok (c, tt);
          curves_ok = v.curves_ok;
          relations_ok = v.relations_ok;
          curves_sound = old_curves (with_point d s) grown_point;
          relations_sound = old_relations (with_point d s) grown_point;
        }

  -- ---- a curve

  found_sort : (cs : List Curve) (i : ℕ) → (sort_at (curve_in cs i) ≡ 0 → ⊥) → (c : Curve) × (curve_in cs i ≡ some c)
  unfolding sort_at
  found_sort cs i h = go (curve_in cs i) refl h
    where
      go : (o : Option Curve) → curve_in cs i ≡ o → (sort_at o ≡ 0 → ⊥) → (c : Curve) × (curve_in cs i ≡ some c)
      go none e h = absurd (h refl)
      go (some c) e h = (c, e)

  curve_ids_end : (cs : List Curve) (c : Curve) → curve_ids (cs ++ (c ∷ [])) ≡ curve_ids cs ++ (c.id ∷ [])
  curve_ids_end [] c = refl
  curve_ids_end (x ∷ cs) c = ap (λ (l : List ℕ). x.id ∷ l) (curve_ids_end cs c)

  module _ (k : CurveKind) (b : Bool) where
    pub grown_curve : Grown d (with_curve d k b)
    grown_curve =
        record {
          points = λ p h. h;
          sorts = λ i h. let (c, e) = found_sort d.curves i h in ap sort_at (look_front d.curves (new_curve d.next k b ∷ []) i c e) ∙ sym (ap sort_at e);
          next = omega arith;
        }

    pub new_curve_lem : curve_in (with_curve d k b).curves d.next ≡ some (new_curve d.next k b)
    unfolding curve_in
    new_curve_lem = rw (look_right d.curves (new_curve d.next k b ∷ []) d.next ((low_of m d v).below d.next (omega arith)), eq-eqb d.next d.next refl)

    pub valid_curve : d.next < m.ids → length d.curves < m.curves → ok_curve (new_curve d.next k b) ≡ true → sound_curve (has d) (new_curve d.next k b) ≡ true → Valid m (with_curve d k b)
    valid_curve x y o s =
        record {
          points_fit = v.points_fit;
          curves_fit = simp length-append (omega arith);
          relations_fit = v.relations_fit;
          next_low = omega arith;
          next_high = omega arith;
          points_rise = rising_more d.next (suc d.next) 0 (point_ids d.points) (omega arith) v.points_rise;
          curves_rise = rw (curve_ids_end d.curves (new_curve d.next k b)) (rising_end d.next 0 (curve_ids d.curves) v.next_low v.curves_rise);
          points_ok = v.points_ok;
          curves_ok = every_append ok_curve d.curves _ v.curves_ok (o, tt);
          relations_ok = v.relations_ok;
          curves_sound = every_append (sound_curve (has d)) d.curves _ v.curves_sound (s, tt);
          relations_sound = old_relations (with_curve d k b) grown_curve;
        }

  -- ---- a relation

  module _ (r : Relation) where
    pub grown_relation : Grown d (with_relation d r)
    grown_relation = record { points = λ p h. h; sorts = λ i h. refl; next = omega arith }

    pub valid_relation : length d.relations < m.relations → ok_relation r ≡ true → sound_relation (has d) (sort_on d) r ≡ true → Valid m (with_relation d r)
    valid_relation x o s =
        record {
          points_fit = v.points_fit;
          curves_fit = v.curves_fit;
          relations_fit = simp length-append (omega arith);
          next_low = v.next_low;
          next_high = v.next_high;
          points_rise = v.points_rise;
          curves_rise = v.curves_rise;
          points_ok = v.points_ok;
          curves_ok = v.curves_ok;
          relations_ok = every_append ok_relation d.relations _ v.relations_ok (o, tt);
          curves_sound = v.curves_sound;
          relations_sound = every_append (sound_relation (has d) (sort_on d)) d.relations _ v.relations_sound (s, tt);
        }

  -- ---- a kind set

  module _ (t : ℕ) (k : CurveKind) (c : Curve) (at : curve_in d.curves t ≡ some c) (s : sort_of k ≡ sort_of c.kind) where
    sort_set : (i : ℕ) → sort_on (set_kind t k d) i ≡ sort_on d i
    unfolding sort_at
    sort_set i = go (ℕ_discrete i t)
      where
        go : Dec (i ≡ t) → sort_on (set_kind t k d) i ≡ sort_on d i
        go (no ne) = ap sort_at (look_set_other t k d.curves i ne)
        go (yes e) =
            let q : c.id ≡ t = (look_some d.curves t c at).1 in
            let u : (rekind t k c).kind ≡ k = rw (eq-eqb t c.id (sym q)) in
            ap (sort_on (set_kind t k d)) e ∙ ap sort_at (look_set t k d.curves t c at) ∙ ap sort_of u ∙ s ∙ sym (ap (sort_on d) e ∙ ap sort_at at)

    pub grown_set : Grown d (set_kind t k d)
    grown_set = record { points = λ p h. h; sorts = λ i h. sort_set i; next = omega arith }

    each_set : (f : Curve → Bool) → f (rekind t k c) ≡ true → (x : Curve) → Memᴰ x d.curves → f x ≡ true → f (rekind t k x) ≡ true
    each_set f h x q g = go (ℕ_discrete t x.id)
      where
        go : Dec (t ≡ x.id) → f (rekind t k x) ≡ true
        go (no ne) = ap f (rw (ne_eqb t x.id ne)) ∙ g
        go (yes e) =
            let l = (look_member d.next 0 d.curves x v.curves_rise q).0 in
            let z : some c ≡ some x = sym at ∙ ap (curve_in d.curves) e ∙ l in
            let y : c ≡ x = cc in
            ap (λ (w : Curve). f (rekind t k w)) (sym y) ∙ h

    pub valid_set : ok_curve (rekind t k c) ≡ true → sound_curve (has d) (rekind t k c) ≡ true → Valid m (set_kind t k d)
    valid_set o h =
        record {
          points_fit = v.points_fit;
          curves_fit = simp length-map v.curves_fit;
          relations_fit = v.relations_fit;
          next_low = v.next_low;
          next_high = v.next_high;
          points_rise = v.points_rise;
          curves_rise = rw (ids_set t k d.curves) v.curves_rise;
          points_ok = v.points_ok;
          curves_ok = every_map ok_curve ok_curve (rekind t k) d.curves (each_set ok_curve o) v.curves_ok;
          relations_ok = v.relations_ok;
          curves_sound = every_map (sound_curve (has d)) (sound_curve (has d)) (rekind t k) d.curves (each_set (sound_curve (has d)) h) v.curves_sound;
          relations_sound = old_relations (set_kind t k d) grown_set;
        }

  -- ---- a point moved

  module _ (i : ℕ) (s : Vec2) where
    ids_moved : (ps : List Point) → point_ids (map (moved i s) ps) ≡ point_ids ps
    ids_moved [] = refl
    ids_moved (p ∷ ps) = ap (λ (l : List ℕ). p.id ∷ l) (ids_moved ps)

    pub grown_move : Grown d (move_point i s d)
    grown_move = record { points = λ p h. rw (ids_moved d.points) h; sorts = λ j h. refl; next = omega arith }

    moved_ok : ok_position s ≡ true → (p : Point) → ok_point p ≡ true → ok_point (moved i s p) ≡ true
    moved_ok o p h = go (eqb i p.id)
      where
        go : (b : Bool) → ok_coordinate (ite b s.x p.x) && ok_coordinate (ite b s.y p.y) ≡ true
        go true = o
        go false = h

    pub valid_move : ok_position s ≡ true → Valid m (move_point i s d)
    valid_move o =
        record {
          points_fit = simp length-map v.points_fit;
          curves_fit = v.curves_fit;
          relations_fit = v.relations_fit;
          next_low = v.next_low;
          next_high = v.next_high;
          points_rise = rw (ids_moved d.points) v.points_rise;
          curves_rise = v.curves_rise;
          points_ok = every_map ok_point ok_point (moved i s) d.points (λ p q h. moved_ok o p h) v.points_ok;
          curves_ok = v.curves_ok;
          relations_ok = v.relations_ok;
          curves_sound = old_curves (move_point i s d) grown_move;
          relations_sound = old_relations (move_point i s d) grown_move;
        }
