-- A plan applied and not refused has the effect that chains and rings need: `apply_plan_effect`, for every plan. Assumes that ids lie below the next.
use mathlib.Core.Path.{◌≡◌, refl, sym, ap, ◌∙◌, subst}
use mathlib.Core.Bool.{Bool, true, false}
use mathlib.Core.List.{List, [], ◌∷◌, map}
use mathlib.Core.Option.{Option, some, none}
use Prim.Native.Nat.{ℕ, ◌≤◌, ◌<◌}
use native.Mathlib.Omega.{arith}
use native.Mathlib.Decide.{ℕ_discrete}
use lib.ListN.{length}
use Rattle.geom.specs.declared.Vec2.{Vec2}
use Rattle.sketch.specs.declared.Curve.{Curve}
use Rattle.sketch.specs.declared.CurveKind.{CurveKind}
use Rattle.sketch.specs.declared.CurveKind.TheVariants.{Line, Arc, Circle, Bezier, Conic}
use Rattle.sketch.specs.Lists.{ite}
use Rattle.sketch.specs.Lookup.{among}
use Rattle.sketch.specs.Drawing.{Drawing, Limits, curve_ids, curve_in}
use Rattle.sketch.proofs.Bools.{never}
use Rattle.edit_plan.specs.declared.Pin.{Pin}
use Rattle.edit_plan.specs.declared.PinnedPoint.{PinnedPoint}
use Rattle.edit_plan.specs.declared.Plan.{Plan}
use Rattle.edit_plan.specs.declared.Plan.TheVariants.{Whole, Cut, CutTwo, Divide, DivideTwo, Move}
use Rattle.edit_plan.specs.declared.Removed.{Removed}
use Rattle.edit_plan.specs.Counts.{occurrences}
use Rattle.edit_plan.specs.Outcome.{◌then◌}
use Rattle.edit_plan.specs.Tables.{set_kind, move_point, others, remove}
use Rattle.edit_plan.specs.Steps.{ends_of, ends_at, release_extent, links, pieces_of, add_points, add_pieces, split_at, pin, pin_all, tie, swap_kinds, swap, reported, nothing, removal}
use Rattle.edit_plan.specs.Changes.{is_circle}
use Rattle.edit_plan.specs.ApplyPlan.{remove_piece, cut, divide, check_met, move_end, apply_plan_to, apply_plan_at, apply_plan}
use Rattle.edit_plan.proofs.Tables.{occ_append, occ_same, occ_other, Holds, holds_map, holds_then, holds_guard, look_some, occ_gone, occ_stays, look_stays}
use Rattle.agreement.specs.Families.{added, centre_of, centre_at}
use Rattle.agreement.specs.EditEffect.{EditEffect}
use Rattle.agreement.proofs.Counts.{there_count}
use Rattle.chains.specs.CurveView.{ids, ends, curve_view}
use Rattle.chains.proofs.AddedPieces.{Piece, names, link, PiecesAdded, Low, pieces_added_one, second_new, pieces_added_swap, same_ends}
use Rattle.chains.proofs.Close.{Linked, ClosedPieces, pieces_added_effect, none_added, removed_circle, pieces_added_zero, t_below, t_above}
use Rattle.chains.proofs.Same.{Same, FirstIs, same_trans, same_points, same_pin, same_pins, same_tie}
use Rattle.chains.proofs.Rows.{Parted, pieces_added_same, add_pieces_linked}

pub swap_is : (t g : ℕ) (d : Drawing) (x y : Curve) → curve_in d.curves t ≡ some x → curve_in d.curves g ≡ some y → swap t g d ≡ set_kind g x.kind (set_kind t y.kind d)
unfolding swap_kinds
swap_is t g d x y ex ey = rw (ex, ey)

-- a curve with ends is no circle
circle_ends : (k : CurveKind) (a b : ℕ) → ends_of k ≡ some (a, b) → is_circle k ≡ false
unfolding ends_of is_circle
circle_ends (Line x y) a b e = refl
circle_ends (Arc o x y) a b e = refl
circle_ends (Circle o r) a b e = let z : ◌≡◌ {A = ℕ} 0 1 = cc in absurd (omega arith)
circle_ends (Bezier n) a b e = refl
circle_ends (Conic x p y rho) a b e = refl

module _ (met : Drawing → Bool) (m : Limits) (d : Drawing) (w : Low d.next d.curves) where
  abbrev Effect : ℕ → Drawing → Removed → Type 0
  Effect t d' r = EditEffect curve_view d t d' r

  -- a curve is cut from a to b as its ends say, if it has any; a circle from a new point back to it, in two pieces or more
  pub record PartedOf (k : CurveKind) (t : ℕ) (d' : Drawing) (is : List ℕ) : Type 0 where
    pub a : ℕ
    pub b : ℕ
    pub cut_is : Parted d t d' is a b
    pub whose : (x y : ℕ) → ends_of k ≡ some (x, y) → (a ≡ x) × (b ≡ y)
    pub round : is_circle k ≡ true → (a ≡ b) × (0 < a)
    pub several : is_circle k ≡ true → 0 < length is

  module _ (t : ℕ) (c : Curve) (at : curve_in d.curves t ≡ some c) where
    here : 0 < occurrences t (ids d)
    here = (look_some d.curves t c at).0

    next_above_zero : 0 < d.next
    next_above_zero = omega (arith, t_below d w t here)

    -- a curve with ends, its pieces being made by f
    add_pieces_between :
        (k : CurveKind) (f : ℕ → ℕ → CurveKind) (a b : ℕ) → ends_of k ≡ some (a, b) → ((x y : ℕ) → ends_of (f x y) ≡ some (x, y)) → ((x y : ℕ) → centre_of (f x y) ≡ centre_at (curve_in d.curves t))
        → (d' : Drawing) → Same d d' → (u : Bool) (ps : List ℕ) → Holds (λ d'' q. PartedOf k t d'' q.pieces) (add_pieces m d' t u ps (links f a ps b))
    add_pieces_between k f a b e fe fo d' s u ps =
        holds_map (λ d'' q. Parted d t d'' q.pieces a b × (0 < length ps → 0 < length q.pieces)) (λ d'' q. PartedOf k t d'' q.pieces) (add_pieces m d' t u ps (links f a ps b))
        (λ d'' q h.
        record {
          a = a;
          b = b;
          cut_is = h.0;
          whose = λ x y g. same_ends a b x y (sym e ∙ g);
          round = λ g. never (sym (circle_ends k a b e) ∙ g);
          several = λ g. never (sym (circle_ends k a b e) ∙ g);
        })
        (add_pieces_linked d t f fe fo u m w c at d' s ps a ps b)

    add_pieces_cut : (k : CurveKind) → centre_of k ≡ centre_at (curve_in d.curves t) → (d' : Drawing) → Same d d' → (u : Bool) (ps : List ℕ) → FirstIs d.next ps → Holds (λ d'' q. PartedOf k t d'' q.pieces) (add_pieces m d' t u ps (pieces_of k ps))
    unfolding pieces_of add_pieces ends_of is_circle centre_of
    add_pieces_cut (Line a b) cs d' s u ps first = add_pieces_between (Line a b) Line a b refl (λ x y. refl) (λ x y. cs) d' s u ps
    add_pieces_cut (Arc o a b) cs d' s u ps first = add_pieces_between (Arc o a b) (Arc o) a b refl (λ x y. refl) (λ x y. cs) d' s u ps
    add_pieces_cut (Circle o r) cs d' s u [] first = tt
    add_pieces_cut (Circle o r) cs d' s u (p ∷ []) first = tt
    add_pieces_cut (Circle o r) cs d' s u (p ∷ q ∷ ps) first =
        holds_map (λ d'' r. Parted d t d'' r.pieces p p × (0 < length (q ∷ ps) → 0 < length r.pieces)) (λ d'' q. PartedOf (Circle o r) t d'' q.pieces) (add_pieces m d' t u (p ∷ q ∷ ps) (links (Arc o) p (q ∷ ps) p))
        (λ d'' q h.
        record {
          a = p;
          b = p;
          cut_is = h.0;
          whose = λ x y e. let z : ◌≡◌ {A = ℕ} 0 1 = cc in absurd (omega arith);
          round = λ e. (refl, omega (arith, first, next_above_zero));
          several = λ e. h.1 (omega arith);
        })
        (add_pieces_linked d t (Arc o) (λ x y. refl) (λ x y. cs) u m w c at d' s (p ∷ q ∷ ps) p (q ∷ ps) p)
    add_pieces_cut (Bezier n) cs d' s u ps first = tt
    add_pieces_cut (Conic a p b rho) cs d' s u ps first = tt

    -- the pieces that a table has, as the chain wants them
    linked_as : (k : CurveKind) (a b x y : ℕ) (ps : List Piece) → ((x y : ℕ) → ends_of k ≡ some (x, y) → (a ≡ x) × (b ≡ y)) → Linked a ps b → ends_of k ≡ some (x, y) → Linked x ps y
    linked_as k a b x y ps h l e = subst (λ (z : ℕ). Linked z ps y) (h x y e).0 (subst (λ (z : ℕ). Linked a ps z) (h x y e).1 l)

    ends_here : ends d t ≡ ends_of c.kind
    unfolding ends_at
    ends_here = ap ends_at at

    kind_here : (k : Curve) → curve_in d.curves t ≡ some k → is_circle k.kind ≡ true → is_circle c.kind ≡ true
    kind_here k e h = let q : k ≡ c = cc in ap (λ (x : Curve). is_circle x.kind) (sym q) ∙ h

    -- the pieces join the curve's ends, or, a circle's, lead from a point back to it
    record Way (ps : List Piece) : Type 0 where
      line : (x y : ℕ) → ends_of c.kind ≡ some (x, y) → Linked x ps y
      closed : is_circle c.kind ≡ true → ClosedPieces d.next ps

    way : (a b : ℕ) (ps : List Piece) → ((x y : ℕ) → ends_of c.kind ≡ some (x, y) → (a ≡ x) × (b ≡ y)) → (is_circle c.kind ≡ true → (a ≡ b) × (0 < a)) → Linked a ps b → (g : ℕ) → (is_circle c.kind ≡ true → (d.next ≤ g) × (0 < occurrences g (names ps))) → Way ps
    way a b ps h o j g n =
        record {
          line = λ x y e. linked_as c.kind a b x y ps h j e;
          closed = λ e.
              record { from = a; above_zero = (o e).1; linked = subst (λ (z : ℕ). Linked a ps z) (sym (o e).0) j; piece = g; new = (n e).0; present = (n e).1 };
        }

    -- none removed
    close : (d' : Drawing) (ps : List Piece) → PiecesAdded d.next d.curves t d'.next d'.curves ps → Way ps → Effect t d' nothing
    close d' ps l j =
        let z = pieces_added_zero d w t here d'.next d'.curves ps l in
        pieces_added_effect d w t here d' d'.curves ps l nothing (λ i ne. refl) (λ i ne. refl) z (λ p. absurd (omega arith)) (λ p. absurd (omega arith))
        (λ x y e. j.line x y (sym ends_here ∙ e)) (λ k e u. (λ q. omega (arith, t_above d w t here), j.closed (kind_here k e u)))

    -- the piece g removed
    close_without : (g : ℕ) (d' : Drawing) (ps : List Piece) → PiecesAdded d.next d.curves t d'.next d'.curves ps → (f h : ℕ) → ends_at (curve_in d'.curves g) ≡ some (f, h) → 0 < occurrences g (names ps) → (is_circle c.kind ≡ true → d.next ≤ g) → Way ps → Effect t (remove g d') (reported g (ends_at (curve_in d'.curves g)))
    unfolding reported
    close_without g d' ps l f h e o n j =
        let look : (i : ℕ) → (i ≡ g → ⊥) → curve_in (others g d'.curves) i ≡ curve_in d'.curves i = λ i ne. look_stays g i d'.curves ne in
        let same : (i : ℕ) → (i ≡ g → ⊥) → occurrences i (curve_ids (others g d'.curves)) ≡ occurrences i (curve_ids d'.curves) = λ i ne. occ_stays g i d'.curves ne in
        rw e
        (pieces_added_effect d w t here (remove g d') d'.curves ps l (link g f h) look same (occ_gone g d'.curves) (λ p. e) (λ p. o)
        (λ x y e. j.line x y (sym ends_here ∙ e)) (λ k e u. (λ q. omega (arith, n (kind_here k e u), t_below d w t here), j.closed (kind_here k e u))))

    some_of : (o : Option Curve) (e : ℕ × ℕ) → ends_at o ≡ some e → (x : Curve) × (o ≡ some x)
    unfolding ends_at
    some_of none e h = let z : ◌≡◌ {A = ℕ} 0 1 = cc in absurd (omega arith)
    some_of (some x) e h = (x, refl)

    -- the second piece goes, after the swap where it was the first
    without_at :
        (d' : Drawing) (a b mid : ℕ) (g : Piece) (gs : List Piece) (js : List ℕ) → PiecesAdded d.next d.curves t d'.next d'.curves (link t a mid ∷ g ∷ gs) → Linked mid (g ∷ gs) b
        → ((x y : ℕ) → ends_of c.kind ≡ some (x, y) → (a ≡ x) × (b ≡ y)) → (is_circle c.kind ≡ true → (a ≡ b) × (0 < a)) → (first_goes : Bool) → Holds (Effect t) (remove_piece m t first_goes (g.curve ∷ js) d')
    unfolding remove_piece swap_kinds
    without_at d' a b mid g gs js l j h o false =
        holds_then (λ d'' u. Same d' d'') (Effect t) (tie m d' t js) _ (same_tie m d' t js) λ d'' u s.
        let k = pieces_added_same s l in
        let new = second_new (link t a mid) g l refl in
        let in_ps : 0 < occurrences g.curve (names (link t a mid ∷ g ∷ gs)) = omega (arith, occ_same g.curve (names gs)) in
        close_without g.curve d'' (link t a mid ∷ g ∷ gs) k g.from g.to k.stand.1.0 in_ps (λ e. new)
        (way a b (link t a mid ∷ g ∷ gs) h o (refl, j) g.curve (λ e. (new, in_ps)))
    without_at d' a b mid g gs js l j h o true =
        let (x, ex) = some_of (curve_in d'.curves t) (a, mid) l.stand.0 in
        let (y, ey) = some_of (curve_in d'.curves g.curve) (g.from, g.to) l.stand.1.0 in
        let e = swap_is t g.curve d' x y ex ey in
        let d₁ : Drawing = set_kind g.curve x.kind (set_kind t y.kind d') in
        let k = pieces_added_swap g.curve a mid g.from g.to l (t_below d w t here) x y ex ey in
        let new = second_new (link t a mid) g l refl in
        let in_ps : 0 < occurrences g.curve (names (link g.curve a mid ∷ link t g.from g.to ∷ gs)) = omega (arith, occ_same g.curve (t ∷ names gs)) in
        subst (λ (z : Drawing). Holds (Effect t) (tie m z t js then (λ d'' u. removal g.curve d''))) (sym e)
        (holds_then (λ d'' u. Same d₁ d'') (Effect t) (tie m d₁ t js) _ (same_tie m d₁ t js) λ d'' u s.
        let q : PiecesAdded d.next d.curves t d''.next d''.curves (link g.curve a mid ∷ link t g.from g.to ∷ gs) = pieces_added_same s k in
        close_without g.curve d'' (link g.curve a mid ∷ link t g.from g.to ∷ gs) q a mid q.stand.0 in_ps (λ e. new)
        (way a b (link g.curve a mid ∷ link t g.from g.to ∷ gs) h o (refl, j) g.curve (λ e. (new, in_ps))))

    without_shape : (d' : Drawing) (is : List ℕ) (first_goes : Bool) → PartedOf c.kind t d' is → Holds (Effect t) (remove_piece m t first_goes is d')
    unfolding remove_piece
    without_shape d' is u q = go q.cut_is.rest q.cut_is.pieces_added q.cut_is.named q.cut_is.linked is
      where
        go : (rest : List Piece) → PiecesAdded d.next d.curves t d'.next d'.curves (link t q.a q.cut_is.mid ∷ rest) → names rest ≡ is → Linked q.cut_is.mid rest q.b → (js : List ℕ) → Holds (Effect t) (remove_piece m t u is d')
        go [] l e j js = subst (λ (z : List ℕ). Holds (Effect t) (remove_piece m t u z d')) e tt
        go (g ∷ gs) l e j js = subst (λ (z : List ℕ). Holds (Effect t) (remove_piece m t u z d')) e (without_at d' q.a q.b q.cut_is.mid g gs (names gs) l j q.whose q.round u)

    -- the curve as it was
    start : (a b : ℕ) → ends_of c.kind ≡ some (a, b) → PiecesAdded d.next d.curves t d.next d.curves (link t a b ∷ [])
    start a b e = pieces_added_one d.next d.curves t d.next d.curves a b w (omega arith) refl (λ i ne. refl) (ends_here ∙ e) refl

    way_start : (a b : ℕ) → ends_of c.kind ≡ some (a, b) → Way (link t a b ∷ [])
    way_start a b e = way a b (link t a b ∷ []) (λ x y f. same_ends a b x y (sym e ∙ f)) (λ f. never (sym (circle_ends c.kind a b e) ∙ f)) (refl, refl) 0 (λ f. never (sym (circle_ends c.kind a b e) ∙ f))

    t_alone : (i : ℕ) → Dec (i ≡ t) → among i (curve_ids (others t d.curves)) ≡ true → occurrences i (t ∷ []) ≡ 0
    t_alone i (yes e) u = absurd (omega (arith, there_count i (curve_ids (others t d.curves)) u, ap (λ (j : ℕ). occurrences j (curve_ids (others t d.curves))) e, occ_gone t d.curves))
    t_alone i (no ne) u = occ_other i t [] ne

    whole_shape : Effect t (remove t d) (reported t (ends_at (curve_in d.curves t)))
    unfolding reported
    whole_shape = go (ends_of c.kind) refl
      where
        go : (o : Option (ℕ × ℕ)) → ends_of c.kind ≡ o → Effect t (remove t d) (reported t (ends_at (curve_in d.curves t)))
        go none e =
            let n : ends d t ≡ none = ends_here ∙ e in
            rw n
            (record {
              grows = omega arith;
              stood = here;
              others = λ i q ne. (ap ends_at (look_stays t i d.curves ne), occ_stays t i d.curves ne);
              others_curve = λ i q ne. look_stays t i d.curves ne;
              pieces = λ a b f. let g = sym n ∙ f in let z : ◌≡◌ {A = ℕ} 0 1 = cc in absurd (omega arith);
              circle = λ k f u. removed_circle d w t here (remove t d) (λ i ne. occ_stays t i d.curves ne) (occ_gone t d.curves);
              centred = λ i p u.
                  absurd
                  (omega (
                    arith,
                    occ_append i (t ∷ []) (added curve_view d (remove t d) (link t 0 0)),
                    none_added d w t here (remove t d) (λ i ne. occ_stays t i d.curves ne) (occ_gone t d.curves) i,
                    t_alone i (ℕ_discrete i t) u,
                  ));
            })
        go (some (a, b)) e = close_without t d (link t a b ∷ []) (start a b e) a b (ends_here ∙ e) (omega (arith, occ_same t [])) (λ f. never (sym (circle_ends c.kind a b e) ∙ f)) (way_start a b e)

    move_shape : (at_end : Bool) (s : Vec2) (p : Pin) → Holds (Effect t) (move_end met m d at_end s p (ends_of c.kind))
    unfolding move_end check_met
    move_shape at_end s p = go (ends_of c.kind) refl
      where
        go : (o : Option (ℕ × ℕ)) → ends_of c.kind ≡ o → Holds (Effect t) (move_end met m d at_end s p o)
        go none q = tt
        go (some (a, b)) q =
            let i : ℕ = ite at_end b a in
            holds_guard (Effect t) _ 24 _ λ u.
            holds_then (λ d' v. Same (move_point i s d) d') (Effect t) (pin m (move_point i s d) i p) _ (same_pin m (move_point i s d) i p) λ d' v h.
            holds_guard (Effect t) _ 19 _ λ z.
            let l : PiecesAdded d.next d.curves t (move_point i s d).next (move_point i s d).curves (link t a b ∷ []) = start a b q in
            close d' (link t a b ∷ []) (pieces_added_same h l) (way_start a b q)

    release_same : Same d (release_extent t c.kind d)
    release_same = record { curves = refl; grows = omega arith }

    split_cut : (ss : List Vec2) (u : Bool) → Holds (λ d'' q. PartedOf c.kind t d'' q.pieces) (add_points m (release_extent t c.kind d) ss then (λ d' ps. add_pieces m d' t u ps (pieces_of c.kind ps)))
    split_cut ss u =
        holds_then (λ d' ps. Same (release_extent t c.kind d) d' × FirstIs d.next ps) (λ d'' q. PartedOf c.kind t d'' q.pieces) (add_points m (release_extent t c.kind d) ss) _ (same_points m (release_extent t c.kind d) ss) λ d' ps s.
        add_pieces_cut c.kind (sym (ap centre_at at)) d' (same_trans release_same s.0) u ps s.1

    cut_same : {is : List ℕ} (d' d'' : Drawing) → Same d' d'' → PartedOf c.kind t d' is → PartedOf c.kind t d'' is
    cut_same d' d'' s q =
        record {
          a = q.a;
          b = q.b;
          cut_is = record { mid = q.cut_is.mid; rest = q.cut_is.rest; pieces_added = pieces_added_same s q.cut_is.pieces_added; named = q.cut_is.named; linked = q.cut_is.linked };
          whose = q.whose;
          round = q.round;
          several = q.several;
        }

    -- all pieces stay
    all_stay : (d' : Drawing) (is : List ℕ) → PartedOf c.kind t d' is → Effect t d' nothing
    all_stay d' is q = go q.cut_is.rest q.cut_is.pieces_added q.cut_is.named q.cut_is.linked
      where
        go : (rest : List Piece) → PiecesAdded d.next d.curves t d'.next d'.curves (link t q.a q.cut_is.mid ∷ rest) → names rest ≡ is → Linked q.cut_is.mid rest q.b → Effect t d' nothing
        go [] l e j =
            close d' (link t q.a q.cut_is.mid ∷ []) l
            (way q.a q.b (link t q.a q.cut_is.mid ∷ []) q.whose q.round (refl, j) 0 (λ f. absurd (omega (arith, q.several f, ap length e))))
        go (g ∷ gs) l e j =
            close d' (link t q.a q.cut_is.mid ∷ g ∷ gs) l
            (way q.a q.b (link t q.a q.cut_is.mid ∷ g ∷ gs) q.whose q.round (refl, j) g.curve (λ f. (second_new (link t q.a q.cut_is.mid) g l refl, omega (arith, occ_same g.curve (names gs)))))

  cut_shape : (c : Curve) → curve_in d.curves c.id ≡ some c → (ws : List PinnedPoint) (first_goes : Bool) → Holds (Effect c.id) (cut m d c ws first_goes)
  cut_shape c at ws first_goes =
      holds_then (λ d' q. PartedOf c.kind c.id d' q.pieces) (Effect c.id) (split_at m (release_extent c.id c.kind d) c (map (λ w. w.at) ws)) _ (split_cut c.id c at (map (λ w. w.at) ws) c.construction) λ d' q h.
      holds_then (λ d'' u. Same d' d'') (Effect c.id) (pin_all m d' q.points ws) _ (same_pins m d' q.points ws) λ d'' u s.
      without_shape c.id c at d'' q.pieces first_goes (cut_same c.id c at d' d'' s h)

  divide_shape : (c : Curve) → curve_in d.curves c.id ≡ some c → (vs : List Vec2) → Holds (Effect c.id) (divide m d c vs)
  divide_shape c at vs =
      holds_then (λ d' q. PartedOf c.kind c.id d' q.pieces) (Effect c.id) (split_at m (release_extent c.id c.kind d) c vs) _ (split_cut c.id c at vs c.construction) λ d' q h.
      holds_then (λ d'' u. Same d' d'') (Effect c.id) (tie m d' c.id q.pieces) _ (same_tie m d' c.id q.pieces) λ d'' u s.
      all_stay c.id c at d'' q.pieces (cut_same c.id c at d' d'' s h)

  applied_shape : (c : Curve) → curve_in d.curves c.id ≡ some c → (plan : Plan) → Holds (Effect c.id) (apply_plan_to met m d c plan)
  unfolding apply_plan_to
  applied_shape c at Whole = whole_shape c.id c at
  applied_shape c at (Cut w first_goes) = cut_shape c at (w ∷ []) first_goes
  applied_shape c at (CutTwo w v first_goes) = cut_shape c at (w ∷ v ∷ []) first_goes
  applied_shape c at (Divide v) = divide_shape c at (v ∷ [])
  applied_shape c at (DivideTwo v u) = divide_shape c at (v ∷ u ∷ [])
  applied_shape c at (Move at_end v w) = move_shape c.id c at at_end v w

  -- the theorem: whatever the plan
  pub apply_plan_effect : (t : ℕ) (plan : Plan) → Holds (Effect t) (apply_plan met m d t plan)
  unfolding apply_plan_at
  apply_plan_effect t plan = go (curve_in d.curves t) refl
    where
      go : (o : Option Curve) → curve_in d.curves t ≡ o → Holds (Effect t) (apply_plan_at met m d plan o)
      go none e = tt
      go (some c) e =
          let q : c.id ≡ t = (look_some d.curves t c e).1 in
          subst (λ (z : ℕ). Holds (Effect z) (apply_plan_to met m d c plan)) q (applied_shape c (ap (curve_in d.curves) q ∙ e) plan)
