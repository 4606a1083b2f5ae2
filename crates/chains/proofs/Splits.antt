-- A curve cut into pieces, all of its sort: the drawing stays valid, and grows. Assumes nothing.
use mathlib.Core.Path.{◌≡◌, refl, sym, ap, ◌∙◌, subst}
use mathlib.Core.Bool.{Bool, true, ◌&&◌}
use mathlib.Core.List.{List, [], ◌∷◌}
use mathlib.Core.Option.{some}
use Prim.Native.Nat.{ℕ, suc, ◌≤◌, ◌<◌}
use native.Mathlib.Omega.{arith}
use lib.Dec.{eqb}
use borrow.Author.Tests.{eqb-true, ltb-true}
use Rattle.geom.specs.declared.Vec2.{Vec2}
use Rattle.sketch.specs.declared.Curve.{Curve}
use Rattle.sketch.specs.declared.CurveKind.{CurveKind}
use Rattle.sketch.specs.declared.CurveKind.TheVariants.{Line, Arc, Circle, Bezier, Conic}
use Rattle.sketch.specs.Lists.{every}
use Rattle.sketch.specs.Lookup.{among}
use Rattle.sketch.specs.Drawing.{Drawing, Limits, point_ids, curve_in, uses_of, no_slots}
use Rattle.sketch.specs.Valid.{ok_number, in_slots, ok_curve, sort_of, sort_at, differ, distinct}
use Rattle.sketch.specs.Facts.{Valid}
use Rattle.sketch.proofs.Bools.{never, and_left, and_right, both}
use Rattle.edit_plan.specs.Outcome.{◌then◌}
use Rattle.edit_plan.specs.Tables.{new_curve, add_curve, set_kind}
use Rattle.edit_plan.specs.Steps.{links, pieces_of, add_points, add_curves, Parts, add_pieces}
use Rattle.edit_plan.proofs.Tables.{Holds, holds_map, holds_then, holds_guard, look_some}
use Rattle.edit_plan.proofs.Every.{or_right, or_cases, among_same, rising_look, every_in, differ_is, is_differ, every_imp, rising_among}
use Rattle.chains.proofs.Grown.{has, sort_on, alike, sound_kind}
use Rattle.chains.proofs.Steps.{grown_curve, new_curve_lem, valid_curve, grown_set, valid_set}
use Rattle.chains.proofs.Released.{curve_sound_lem, curve_ok}
use Rattle.chains.proofs.Kept.{UpFrom, up_less, Kept, kept_trans, PointsHeld, keep_points}
use Rattle.chains.proofs.Ties.{Sorted, sort_grown}
use Rattle.chains.proofs.Sorts.{rekind_ok, rekind_sound}

module _ (m : Limits) where
  -- f makes a piece from two points, of the sort s; a point may be its end where Vertex holds of it
  record Maker (s : ℕ) (f : ℕ → ℕ → CurveKind) : Type 1 where
    Vertex : (ℕ → Bool) → ℕ → Type 0
    more : (h h' : ℕ → Bool) → ((p : ℕ) → h p ≡ true → h' p ≡ true) → (x : ℕ) → Vertex h x → Vertex h' x
    ok : (x y i : ℕ) (u : Bool) → ok_curve (new_curve i (f x y) u) ≡ true
    number : (x y : ℕ) → ok_number (f x y) ≡ true
    sort : (x y : ℕ) → sort_of (f x y) ≡ s
    sound : (h : ℕ → Bool) (x y : ℕ) → Vertex h x → Vertex h y → (x ≡ y → ⊥) → sound_kind h (f x y) no_slots ≡ true
    solid : alike s s ≡ true

  module _ {s : ℕ} {f : ℕ → ℕ → CurveKind} (w : Maker s f) where
    -- each end may be one, and differs from the next
    Walk : (ℕ → Bool) → ℕ → List ℕ → ℕ → Type 0
    Walk h a [] b = (w.Vertex h a) × (w.Vertex h b) × (a ≡ b → ⊥)
    Walk h a (q ∷ qs) b = (w.Vertex h a) × (w.Vertex h q) × (a ≡ q → ⊥) × Walk h q qs b

    walk_more : (h h' : ℕ → Bool) → ((p : ℕ) → h p ≡ true → h' p ≡ true) → (a : ℕ) (qs : List ℕ) (b : ℕ) → Walk h a qs b → Walk h' a qs b
    unfolding Walk
    walk_more h h' k a [] b x = (w.more h h' k a x.0, w.more h h' k b x.1, x.2)
    walk_more h h' k a (q ∷ qs) b x = (w.more h h' k a x.0, w.more h h' k q x.1, x.2, walk_more h h' k q qs b x.3)

    -- points rising from lo on, between two ends that lie below
    walk_up : (h : ℕ → Bool) (lo a : ℕ) (qs : List ℕ) (b : ℕ) → a < lo → b < lo → (a ≡ b → ⊥) → w.Vertex h a → w.Vertex h b → ((q : ℕ) → among q qs ≡ true → w.Vertex h q) → UpFrom lo qs → Walk h a qs b
    unfolding Walk
    walk_up h lo a [] b x y ne va vb k u = (va, vb, ne)
    walk_up h lo a (q ∷ qs) b x y ne va vb k u =
        let vq = k q (among_same q qs) in
        (va, vq, (λ e. omega (arith, u.0)), walk_up h (suc q) q qs b (omega arith) (omega (arith, u.0)) (λ e. omega (arith, u.0)) vq vb (λ i p. k i (or_right (eqb i q) (among i qs) p)) u.1)

    record CurvesHeld (d d' : Drawing) (is : List ℕ) : Type 0 where
      held : Kept m d d'
      sorted : Sorted d' s is
      up : UpFrom d.next is

    record CurveHeld (d d' : Drawing) (i : ℕ) : Type 0 where
      held : Kept m d d'
      sort_is : sort_on d' i ≡ s
      is : i ≡ d.next
      next : d'.next ≡ suc d.next

    keep_curve : (d : Drawing) (x y : ℕ) (u : Bool) → Valid m d → w.Vertex (has d) x → w.Vertex (has d) y → (x ≡ y → ⊥) → Holds (CurveHeld d) (add_curve m d (f x y) u)
    unfolding sort_at
    keep_curve d x y u v p q ne =
        holds_guard (CurveHeld d) _ 23 _ λ a. holds_guard (CurveHeld d) _ 22 _ λ b.
        record {
          held = record { valid = valid_curve m d v (f x y) u (ltb-true _ _ a) (ltb-true _ _ b) (w.ok x y d.next u) (w.sound (has d) x y p q ne); grown = grown_curve m d v (f x y) u };
          sort_is = ap sort_at (new_curve_lem m d v (f x y) u) ∙ w.sort x y;
          is = refl;
          next = refl;
        }

    keep_curves : (d : Drawing) (a : ℕ) (qs : List ℕ) (b : ℕ) (u : Bool) → Valid m d → Walk (has d) a qs b → Holds (CurvesHeld d) (add_curves m d (links f a qs b) u)
    unfolding Walk
    keep_curves d a [] b u v x =
        holds_then (CurveHeld d) (CurvesHeld d) (add_curve m d (f a b) u) _ (keep_curve d a b u v x.0 x.1 x.2) λ d' i h.
        record { held = h.held; sorted = (h.sort_is, tt); up = (omega (arith, h.is), tt) }
    keep_curves d a (q ∷ qs) b u v x =
        holds_then (CurveHeld d) (CurvesHeld d) (add_curve m d (f a q) u) _ (keep_curve d a q u v x.0 x.1 x.2) λ d' i h.
        holds_then (CurvesHeld d') (CurvesHeld d) (add_curves m d' (links f q qs b) u) _ (keep_curves d' q qs b u h.held.valid (walk_more (has d) (has d') h.held.grown.points q qs b x.3)) λ d'' is k.
        record {
          held = kept_trans m h.held k.held;
          sorted = (sort_grown d' d'' k.held.grown s w.solid i h.sort_is, k.sorted);
          up = (omega (arith, h.is), up_less d'.next (suc i) is (omega (arith, h.is, h.next)) k.up);
        }

    module _ (d : Drawing) (v : Valid m d) (t : ℕ) (c : Curve) (at : curve_in d.curves t ≡ some c) (sc : sort_of c.kind ≡ s) where
      same_sort : (x y : ℕ) → sort_of (f x y) ≡ sort_of c.kind
      same_sort x y = w.sort x y ∙ sym sc

      set_held : (x y : ℕ) → w.Vertex (has d) x → w.Vertex (has d) y → (x ≡ y → ⊥) → Kept m d (set_kind t (f x y) d)
      set_held x y p q ne =
          let e = (look_some d.curves t c at).1 in
          let a : alike (sort_of (f x y)) (sort_of (f x y)) ≡ true = ap (λ (z : ℕ). alike z z) (w.sort x y) ∙ w.solid in
          record {
            valid =
                valid_set m d v t (f x y) c at (same_sort x y) (rekind_ok t (f x y) c e (same_sort x y) a (w.number x y) (curve_ok m d v t c at))
                (rekind_sound t (f x y) c e (same_sort x y) a (has d) no_slots (w.sound (has d) x y p q ne));
            grown = grown_set m d v t (f x y) c at (same_sort x y);
          }

      record PiecesHeld (ps : List ℕ) (d' : Drawing) (q : Parts) : Type 0 where
        held : Kept m d d'
        sort_is : sort_on d' t ≡ s
        sorted : Sorted d' s q.pieces
        up : UpFrom d.next q.pieces
        same : q.points ≡ ps

      here_sort : sort_on d t ≡ s
      unfolding sort_at
      here_sort = ap sort_at at ∙ sc

      keep_add_pieces : (u : Bool) (ps : List ℕ) (a : ℕ) (qs : List ℕ) (b : ℕ) → Walk (has d) a qs b → Holds (PiecesHeld ps) (add_pieces m d t u ps (links f a qs b))
      unfolding add_pieces Walk
      keep_add_pieces u ps a [] b x =
          let g = set_held a b x.0 x.1 x.2 in
          record { held = g; sort_is = sort_grown d (set_kind t (f a b) d) g.grown s w.solid t here_sort; sorted = tt; up = tt; same = refl }
      keep_add_pieces u ps a (q ∷ qs) b x =
          let g = set_held a q x.0 x.1 x.2 in
          holds_then (CurvesHeld (set_kind t (f a q) d)) (PiecesHeld ps) (add_curves m (set_kind t (f a q) d) (links f q qs b) u) _ (keep_curves (set_kind t (f a q) d) q qs b u g.valid x.3) λ d' is k.
          record {
            held = kept_trans m g k.held;
            sort_is = sort_grown (set_kind t (f a q) d) d' k.held.grown s w.solid t (sort_grown d (set_kind t (f a q) d) g.grown s w.solid t here_sort);
            sorted = k.sorted;
            up = k.up;
            same = refl;
          }

  lines : Maker 1 Line
  unfolding ok_number in_slots sort_of uses_of distinct
  lines =
      record {
        Vertex = λ h x. h x ≡ true;
        more = λ h h' k x p. k x p;
        ok = λ x y i u. refl;
        number = λ x y. refl;
        sort = λ x y. refl;
        sound = λ h x y p q ne. both (h x && (h y && true)) (differ x y) (both (h x) (h y && true) p (both (h y) true q refl)) (is_differ x y ne);
        solid = refl;
      }

  arcs : (o : ℕ) → Maker 2 (Arc o)
  unfolding ok_number in_slots sort_of uses_of distinct
  arcs o =
      record {
        Vertex = λ h x. (h x ≡ true) × (h o ≡ true) × (o ≡ x → ⊥);
        more = λ h h' k x p. (k x p.0, k o p.1, p.2);
        ok = λ x y i u. refl;
        number = λ x y. refl;
        sort = λ x y. refl;
        sound = λ h x y p q ne.
            both (h o && (h x && (h y && true))) (differ o x && differ o y && differ x y)
            (both (h o) (h x && (h y && true)) p.1 (both (h x) (h y && true) p.0 (both (h y) true q.0 refl)))
            (both (differ o x && differ o y) (differ x y) (both (differ o x) (differ o y) (is_differ o x p.2) (is_differ o y q.2)) (is_differ x y ne));
        solid = refl;
      }

  -- ---- split_at

  up_among : (lo : ℕ) (ps : List ℕ) (q : ℕ) → UpFrom lo ps → among q ps ≡ true → lo ≤ q
  up_among lo [] q u h = never h
  up_among lo (p ∷ ps) q u h = or_cases (eqb q p) (among q ps) h (λ e. omega (arith, u.0, eqb-true q p e)) (λ k. omega (arith, u.0, up_among (suc p) ps q u.1 k))

  pub record SplitHeld (d : Drawing) (t : ℕ) (d' : Drawing) (q : Parts) : Type 0 where
    pub sort : ℕ
    pub solid : alike sort sort ≡ true
    pub held : Kept m d d'
    pub sort_is : sort_on d' t ≡ sort
    pub sorted : Sorted d' sort q.pieces
    pub up : UpFrom (suc t) q.pieces
    pub there : every (has d') q.points ≡ true

  module _ (d : Drawing) (v : Valid m d) (t : ℕ) (c : Curve) (at : curve_in d.curves t ≡ some c) where
    t_low : t < d.next
    t_low = rising_look d.curves 0 t c v.curves_rise at

    point_low : (p : ℕ) → has d p ≡ true → p < d.next
    point_low p h = (rising_among d.next 0 p (point_ids d.points) v.points_rise h).1

    sound_as : (k : CurveKind) → c.kind ≡ k → sound_kind (has d) k c.slots ≡ true
    sound_as k e = subst (λ (z : CurveKind). sound_kind (has d) z c.slots ≡ true) e (curve_sound_lem m d v t c at)

    module _ (d₁ : Drawing) (ps : List ℕ) (h : PointsHeld m d d₁ ps) (u : Bool) where
      at₁ : curve_in d₁.curves t ≡ some c
      at₁ = ap (λ (l : List Curve). curve_in l t) h.curves ∙ at

      old : (p : ℕ) → has d p ≡ true → has d₁ p ≡ true
      old p q = h.held.grown.points p q

      new : (p : ℕ) → among p ps ≡ true → has d₁ p ≡ true
      new p q = every_in (has d₁) ps p h.there q

      to_split : {s : ℕ} {f : ℕ → ℕ → CurveKind} (w : Maker s f) (sc : sort_of c.kind ≡ s) (d₂ : Drawing) (q : Parts) → PiecesHeld w d₁ h.held.valid t c at₁ sc ps d₂ q → SplitHeld d t d₂ q
      to_split {s} w sc d₂ q k =
          record {
            sort = s;
            solid = w.solid;
            held = kept_trans m h.held k.held;
            sort_is = k.sort_is;
            sorted = k.sorted;
            up = up_less d₁.next (suc t) q.pieces (omega (arith, t_low, h.held.grown.next)) k.up;
            there = ap (every (has d₂)) k.same ∙ every_imp (has d₁) (has d₂) ps (λ i x y. k.held.grown.points i y) h.there;
          }

      round_split : (o a : ℕ) (qs : List ℕ) (b : ℕ) (ks : List CurveKind) → links (Arc o) a qs b ≡ ks → sort_of c.kind ≡ 2 → Walk (arcs o) (has d₁) a qs b → Holds (SplitHeld d t) (add_pieces m d₁ t u ps ks)
      round_split o a qs b ks e sc x =
          subst (λ (z : List CurveKind). Holds (SplitHeld d t) (add_pieces m d₁ t u ps z)) e
          (holds_map (PiecesHeld (arcs o) d₁ h.held.valid t c at₁ sc ps) (SplitHeld d t) (add_pieces m d₁ t u ps (links (Arc o) a qs b)) (to_split (arcs o) sc)
          (keep_add_pieces (arcs o) d₁ h.held.valid t c at₁ sc u ps a qs b x))

      keep_pieces : (k : CurveKind) → c.kind ≡ k → Holds (SplitHeld d t) (add_pieces m d₁ t u ps (pieces_of k ps))
      unfolding pieces_of add_pieces uses_of distinct sort_of Walk lines arcs
      keep_pieces (Line a b) e =
          let x = sound_as (Line a b) e in
          let y = and_left (has d a && (has d b && true)) (differ a b) x in
          let ha = and_left (has d a) (has d b && true) y in
          let hb = and_left (has d b) true (and_right (has d a) (has d b && true) y) in
          let sc : sort_of c.kind ≡ 1 = ap sort_of e in
          holds_map (PiecesHeld lines d₁ h.held.valid t c at₁ sc ps) (SplitHeld d t) (add_pieces m d₁ t u ps (links Line a ps b)) (to_split lines sc)
          (keep_add_pieces lines d₁ h.held.valid t c at₁ sc u ps a ps b
          (walk_up lines (has d₁) d.next a ps b (point_low a ha) (point_low b hb) (differ_is a b (and_right (has d a && (has d b && true)) (differ a b) x)) (old a ha) (old b hb) new h.up))
      keep_pieces (Arc o a b) e =
          let x = sound_as (Arc o a b) e in
          let y = and_left (has d o && (has d a && (has d b && true))) (differ o a && differ o b && differ a b) x in
          let z = and_right (has d o && (has d a && (has d b && true))) (differ o a && differ o b && differ a b) x in
          let ho = and_left (has d o) (has d a && (has d b && true)) y in
          let y₁ = and_right (has d o) (has d a && (has d b && true)) y in
          let ha = and_left (has d a) (has d b && true) y₁ in
          let hb = and_left (has d b) true (and_right (has d a) (has d b && true) y₁) in
          let z₁ = and_left (differ o a && differ o b) (differ a b) z in
          round_split o a ps b (links (Arc o) a ps b) refl (ap sort_of e)
          (walk_up (arcs o) (has d₁) d.next a ps b (point_low a ha) (point_low b hb) (differ_is a b (and_right (differ o a && differ o b) (differ a b) z))
          (old a ha, old o ho, differ_is o a (and_left (differ o a) (differ o b) z₁)) (old b hb, old o ho, differ_is o b (and_right (differ o a) (differ o b) z₁))
          (λ q i. (new q i, old o ho, (λ f. omega (arith, point_low o ho, up_among d.next ps q h.up i)))) h.up)
      keep_pieces (Circle o r) e = go ps h.up new
        where
          ho : has d o ≡ true
          ho = and_left (has d o) true (and_left (has d o && true) true (sound_as (Circle o r) e))

          go : (qs : List ℕ) → UpFrom d.next qs → ((p : ℕ) → among p qs ≡ true → has d₁ p ≡ true) → Holds (SplitHeld d t) (add_pieces m d₁ t u ps (pieces_of (Circle o r) qs))
          go [] y k = tt
          go (p ∷ []) y k = tt
          go (p ∷ q ∷ qs) y k =
              let vertex : (i : ℕ) → among i (p ∷ q ∷ qs) ≡ true → (has d₁ i ≡ true) × (has d₁ o ≡ true) × (o ≡ i → ⊥) = λ i j. (k i j, old o ho, (λ f. omega (arith, point_low o ho, up_among d.next (p ∷ q ∷ qs) i y j))) in
              let vp = vertex p (among_same p (q ∷ qs)) in
              let vq = vertex q (or_right (eqb q p) (among q (q ∷ qs)) (among_same q qs)) in
              round_split o p (q ∷ qs) p (links (Arc o) p (q ∷ qs) p) refl (ap sort_of e) (
                vp,
                vq,
                (λ f. omega (arith, y.1.0)),
                walk_up (arcs o) (has d₁) (suc q) q qs p (omega arith) (omega (arith, y.1.0)) (λ f. omega (arith, y.1.0)) vq vp
                    (λ i j. vertex i (or_right (eqb i p) (among i (q ∷ qs)) (or_right (eqb i q) (among i qs) j))) y.1.1,
              )
      keep_pieces (Bezier n) e = tt
      keep_pieces (Conic a p b rho) e = tt

    pub keep_split : (ss : List Vec2) → Holds (SplitHeld d t) (add_points m d ss then (λ d' ps. add_pieces m d' t c.construction ps (pieces_of c.kind ps)))
    keep_split ss =
        holds_then (PointsHeld m d) (SplitHeld d t) (add_points m d ss) _ (keep_points m d ss v) λ d₁ ps h. keep_pieces d₁ ps h c.construction c.kind refl
