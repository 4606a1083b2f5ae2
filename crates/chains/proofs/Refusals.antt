-- A plan that suits its curve is refused by 22, 23 or 24 alone (`suited_refusals`), and the move of a line's end by 24, 22 or 19 (`move_refusals`): the other
-- numbers in the definitions of applying are never met. Assumes nothing.
use mathlib.Core.Path.{◌≡◌, refl, sym, ap, ◌∙◌, subst}
use mathlib.Core.Bool.{Bool, true, false}
use mathlib.Core.List.{List, [], ◌∷◌, map}
use mathlib.Core.Option.{some}
use Prim.Native.Nat.{ℕ, suc, ◌<◌}
use native.Mathlib.Omega.{arith}
use lib.ListN.{length}
use lib.Dec.{eqb, leb}
use borrow.Author.Tests.{leb-true}
use Rattle.geom.specs.declared.Vec2.{Vec2}
use Rattle.sketch.specs.declared.Curve.{Curve}
use Rattle.sketch.specs.declared.CurveKind.{CurveKind}
use Rattle.sketch.specs.declared.CurveKind.TheVariants.{Line, Arc, Circle, Bezier, Conic}
use Rattle.sketch.specs.declared.Relation.{Relation}
use Rattle.sketch.specs.declared.Relation.TheVariants.{Coincident, PointOnCurve}
use Rattle.sketch.specs.Lists.{ite}
use Rattle.sketch.specs.Lookup.{among}
use Rattle.sketch.specs.Drawing.{Drawing, Limits, curve_in}
use Rattle.sketch.proofs.Bools.{never}
use Rattle.edit_plan.specs.declared.Pin.{Pin}
use Rattle.edit_plan.specs.declared.Pin.TheVariants.{On, At}
use Rattle.edit_plan.specs.declared.PinnedPoint.{PinnedPoint}
use Rattle.edit_plan.specs.declared.Plan.{Plan}
use Rattle.edit_plan.specs.declared.Plan.TheVariants.{Whole, Cut, CutTwo, Divide, DivideTwo, Move}
use Rattle.edit_plan.specs.declared.Removed.{Removed}
use Rattle.edit_plan.specs.Outcome.{Outcome, refused, accepted, ◌then◌, guard}
use Rattle.edit_plan.specs.Tables.{ok_position, add_point, add_curve, add_relation, set_kind, move_point}
use Rattle.edit_plan.specs.Steps.{ends_of, is_line, release_extent, links, pieces_of, add_points, add_curves, add_pieces, split_at, pin, pin_all, line_at, tie_relation, tie, swap, nothing}
use Rattle.edit_plan.specs.ApplyPlan.{remove_piece, cut, divide, check_met, move_end, apply_plan_to, apply_plan_at, apply_plan}
use Rattle.edit_plan.specs.Suited.{suits_open, suits_closed, suits}
use Rattle.edit_plan.proofs.Tables.{Holds, holds_map, holds_then}

-- a refusal is by one of some numbers
abbrev pub By : List ℕ → {D A : Type 0} → Outcome D A → Type 0
By ns (refused n) = among n ns ≡ true
By ns (accepted d a) = Unit {0}

-- nothing to remember of what was accepted
any : {D A : Type 0} (o : Outcome D A) → Holds (λ d a. Unit {0}) o
any (refused n) = tt
any (accepted d a) = tt

module _ (ns : List ℕ) where
  by_then : {D A B : Type 0} (H : D → A → Type 0) (o : Outcome D A) (f : D → A → Outcome D B) → Holds H o → By ns o → ((d : D) (a : A) → H d a → By ns (f d a)) → By ns (o then f)
  by_then H (refused n) f h t k = t
  by_then H (accepted d a) f h t k = k d a h

  by_next : {D A B : Type 0} (o : Outcome D A) (f : D → A → Outcome D B) → By ns o → ((d : D) (a : A) → By ns (f d a)) → By ns (o then f)
  by_next o f t k = by_then (λ d a. Unit {0}) o f (any o) t (λ d a u. k d a)

  by_guard : {D A : Type 0} (b : Bool) (n : ℕ) (o : Outcome D A) → among n ns ≡ true → By ns o → By ns (guard b n o)
  unfolding guard
  by_guard true n o m t = t
  by_guard false n o m t = m

  by_relation : among 22 ns ≡ true → (m : Limits) (d : Drawing) (r : Relation) → By ns (add_relation m d r)
  by_relation h m d r = by_guard _ 22 _ h tt

  by_pin : among 22 ns ≡ true → (m : Limits) (d : Drawing) (p : ℕ) (w : Pin) → By ns (pin m d p w)
  unfolding pin
  by_pin h m d p (On c) = by_relation h m d (PointOnCurve p c)
  by_pin h m d p (At e) = go (eqb e p)
    where
      go : (b : Bool) → By ns (ite b (accepted d tt) (add_relation m d (Coincident p e)))
      go true = tt
      go false = by_relation h m d (Coincident p e)

-- ---- a move

abbrev pub moving : List ℕ
moving = 19 ∷ 22 ∷ 24 ∷ []

ended : (k : CurveKind) → is_line k ≡ true → (e : ℕ × ℕ) × (ends_of k ≡ some e)
unfolding ends_of
ended (Line a b) h = ((a, b), refl)
ended (Arc o a b) h = never h
ended (Circle o r) h = never h
ended (Bezier n) h = never h
ended (Conic a p b rho) h = never h

by_extend : (met : Drawing → Bool) (m : Limits) (d : Drawing) (b : Bool) (v : Vec2) (w : Pin) (e : ℕ × ℕ) → By moving (move_end met m d b v w (some e))
unfolding move_end check_met
by_extend met m d b v w e =
    let p : ℕ = ite b e.1 e.0 in
    by_guard moving _ 24 _ refl (by_next moving (pin m (move_point p v d) p w) _ (by_pin moving refl m (move_point p v d) p w) λ d' u. by_guard moving _ 19 _ refl tt)

-- what is refused by 19 after the pin was added fails the test
pinned_fails :
    (met : Drawing → Bool) (o : Outcome Drawing (Unit {0})) → By (22 ∷ []) o → (o then (λ d u. check_met met d)) ≡ refused 19
    → (d : Drawing) × ((o then (λ d u. check_met (λ x. true) d)) ≡ accepted d nothing) × (met d ≡ false)
unfolding check_met guard
pinned_fails met (refused n) t q = let z : n ≡ 19 = cc in never (subst (λ (k : ℕ). among k (22 ∷ []) ≡ true) z t)
pinned_fails met (accepted d u) t q = go (met d) refl q
  where
    go : (b : Bool) → met d ≡ b → guard b 19 (accepted d nothing) ≡ refused 19 → (d' : Drawing) × (◌≡◌ {A = Outcome Drawing Removed} (accepted d nothing) (accepted d' nothing)) × (met d' ≡ false)
    go true e q = let z : ◌≡◌ {A = ℕ} 0 1 = cc in absurd (omega arith)
    go false e q = (d, refl, e)

end_fails :
    (met : Drawing → Bool) (m : Limits) (d : Drawing) (b : Bool) (v : Vec2) (w : Pin) (e : ℕ × ℕ) → move_end met m d b v w (some e) ≡ refused 19
    → (d' : Drawing) × (move_end (λ x. true) m d b v w (some e) ≡ accepted d' nothing) × (met d' ≡ false)
unfolding move_end guard
end_fails met m d b v w e q = go (ok_position v) q
  where
    p : ℕ
    p = ite b e.1 e.0

    go :
        (k : Bool) → guard k 24 (pin m (move_point p v d) p w then (λ d' u. check_met met d')) ≡ refused 19
        → (d' : Drawing) × (guard k 24 (pin m (move_point p v d) p w then (λ d' u. check_met (λ x. true) d')) ≡ accepted d' nothing) × (met d' ≡ false)
    go true q = pinned_fails met (pin m (move_point p v d) p w) (by_pin (22 ∷ []) refl m (move_point p v d) p w) q
    go false q = let z : ◌≡◌ {A = ℕ} 24 19 = cc in absurd (omega arith)

-- ---- cuts

abbrev pub cutting : List ℕ
cutting = 22 ∷ 23 ∷ 24 ∷ []

-- a line or an arc is cut anywhere, a circle at two places or more
abbrev cuttable : CurveKind → ℕ → Bool
cuttable (Line a b) n = true
cuttable (Arc c a b) n = true
cuttable (Circle c r) n = leb 2 n
cuttable (Bezier d) n = false
cuttable (Conic a p b rho) n = false

-- one piece more than there are points between the ends
count_links : (f : ℕ → ℕ → CurveKind) (a : ℕ) (ps : List ℕ) (b : ℕ) → length (links f a ps b) ≡ suc (length ps)
count_links f a [] b = refl
count_links f a (p ∷ ps) b = ap suc (count_links f p ps b)

count_pieces : (k : CurveKind) (ps : List ℕ) → cuttable k (length ps) ≡ true → 0 < length ps → 1 < length (pieces_of k ps)
unfolding pieces_of
count_pieces (Line a b) ps h z = let e = count_links Line a ps b in omega arith
count_pieces (Arc o a b) ps h z = let e = count_links (Arc o) a ps b in omega arith
count_pieces (Circle o r) [] h z = absurd (omega (arith, leb-true 2 0 h))
count_pieces (Circle o r) (p ∷ []) h z = absurd (omega (arith, leb-true 2 1 h))
count_pieces (Circle o r) (p ∷ q ∷ ps) h z = let e = count_links (Arc o) p (q ∷ ps) p in omega arith
count_pieces (Bezier n) ps h z = never h
count_pieces (Conic a p b rho) ps h z = never h

module _ (m : Limits) where
  by_point : (d : Drawing) (v : Vec2) → By cutting (add_point m d v)
  by_point d v = by_guard cutting _ 23 _ refl (by_guard cutting _ 22 _ refl (by_guard cutting _ 24 _ refl tt))

  by_curve : (d : Drawing) (k : CurveKind) (u : Bool) → By cutting (add_curve m d k u)
  by_curve d k u = by_guard cutting _ 23 _ refl (by_guard cutting _ 22 _ refl tt)

  by_points : (d : Drawing) (vs : List Vec2) → By cutting (add_points m d vs)
  by_points d [] = tt
  by_points d (v ∷ vs) = by_next cutting (add_point m d v) _ (by_point d v) λ d' p. by_next cutting (add_points m d' vs) _ (by_points d' vs) λ d'' ps. tt

  count_points : (d : Drawing) (vs : List Vec2) → Holds (λ d' ps. length ps ≡ length vs) (add_points m d vs)
  count_points d [] = refl
  count_points d (v ∷ vs) =
      holds_then (λ d' p. Unit {0}) (λ d' ps. length ps ≡ length (v ∷ vs)) (add_point m d v) _ (any (add_point m d v)) λ d' p u.
      holds_then (λ d'' ps. length ps ≡ length vs) (λ d'' ps. length ps ≡ length (v ∷ vs)) (add_points m d' vs) _ (count_points d' vs) λ d'' ps h. ap suc h

  by_curves : (d : Drawing) (ks : List CurveKind) (u : Bool) → By cutting (add_curves m d ks u)
  by_curves d [] u = tt
  by_curves d (k ∷ ks) u = by_next cutting (add_curve m d k u) _ (by_curve d k u) λ d' i. by_next cutting (add_curves m d' ks u) _ (by_curves d' ks u) λ d'' is. tt

  count_curves : (d : Drawing) (ks : List CurveKind) (u : Bool) → Holds (λ d' is. length is ≡ length ks) (add_curves m d ks u)
  count_curves d [] u = refl
  count_curves d (k ∷ ks) u =
      holds_then (λ d' i. Unit {0}) (λ d' is. length is ≡ length (k ∷ ks)) (add_curve m d k u) _ (any (add_curve m d k u)) λ d' i x.
      holds_then (λ d'' is. length is ≡ length ks) (λ d'' is. length is ≡ length (k ∷ ks)) (add_curves m d' ks u) _ (count_curves d' ks u) λ d'' is h. ap suc h

  by_add_pieces : (d : Drawing) (t : ℕ) (u : Bool) (ps : List ℕ) (ks : List CurveKind) → 0 < length ks → By cutting (add_pieces m d t u ps ks)
  unfolding add_pieces
  by_add_pieces d t u ps [] h = absurd (omega arith)
  by_add_pieces d t u ps (k ∷ ks) h = by_next cutting (add_curves m (set_kind t k d) ks u) _ (by_curves (set_kind t k d) ks u) λ d' is. tt

  count_added_pieces : (d : Drawing) (t : ℕ) (u : Bool) (ps : List ℕ) (ks : List CurveKind) → Holds (λ d' q. suc (length q.pieces) ≡ length ks) (add_pieces m d t u ps ks)
  unfolding add_pieces
  count_added_pieces d t u ps [] = tt
  count_added_pieces d t u ps (k ∷ ks) =
      holds_then (λ d' is. length is ≡ length ks) (λ d' q. suc (length q.pieces) ≡ length (k ∷ ks)) (add_curves m (set_kind t k d) ks u) _ (count_curves (set_kind t k d) ks u) λ d' is h. ap suc h

  module _ (d : Drawing) (c : Curve) (vs : List Vec2) (h : cuttable c.kind (length vs) ≡ true) (z : 0 < length vs) where
    many : (ps : List ℕ) → length ps ≡ length vs → 1 < length (pieces_of c.kind ps)
    many ps e = count_pieces c.kind ps (ap (cuttable c.kind) e ∙ h) (omega arith)

    by_split : By cutting (split_at m d c vs)
    by_split =
        by_then cutting (λ d' ps. length ps ≡ length vs) (add_points m d vs) _ (count_points d vs) (by_points d vs) λ d' ps e.
        by_add_pieces d' c.id c.construction ps (pieces_of c.kind ps) (omega (arith, many ps e))

    count_split : Holds (λ d' q. 0 < length q.pieces) (split_at m d c vs)
    count_split =
        holds_then (λ d' ps. length ps ≡ length vs) (λ d' q. 0 < length q.pieces) (add_points m d vs) _ (count_points d vs) λ d' ps e.
        holds_map (λ d'' q. suc (length q.pieces) ≡ length (pieces_of c.kind ps)) (λ d'' q. 0 < length q.pieces) (add_pieces m d' c.id c.construction ps (pieces_of c.kind ps))
        (λ d'' q x. omega (arith, many ps e)) (count_added_pieces d' c.id c.construction ps (pieces_of c.kind ps))

  by_pins : (d : Drawing) (ps : List ℕ) (ws : List PinnedPoint) → By cutting (pin_all m d ps ws)
  by_pins d [] ws = tt
  by_pins d (p ∷ ps) [] = tt
  by_pins d (p ∷ ps) (w ∷ ws) = by_next cutting (pin m d p w.pin) _ (by_pin cutting refl m d p w.pin) λ d' u. by_pins d' ps ws

  by_tie : (d : Drawing) (a : ℕ) (bs : List ℕ) → By cutting (tie m d a bs)
  by_tie d a [] = tt
  by_tie d a (b ∷ bs) =
      let r = tie_relation (line_at (curve_in d.curves a)) a b in
      by_next cutting (add_relation m d r) _ (by_relation cutting refl m d r) λ d' u. by_tie d' b bs

  by_without : (t : ℕ) (b : Bool) (is : List ℕ) (d : Drawing) → 0 < length is → By cutting (remove_piece m t b is d)
  unfolding remove_piece
  by_without t b [] d h = absurd (omega arith)
  by_without t b (g ∷ is) d h =
      let e = ite b (swap t g d) d in
      by_next cutting (tie m e t is) _ (by_tie e t is) λ d' u. tt

  by_cut : (d : Drawing) (c : Curve) (w : PinnedPoint) (ws : List PinnedPoint) (b : Bool) → cuttable c.kind (length (map (λ (x : PinnedPoint). x.at) (w ∷ ws))) ≡ true → By cutting (cut m d c (w ∷ ws) b)
  by_cut d c w ws b h =
      let e = release_extent c.id c.kind d in
      let vs : List Vec2 = map (λ (x : PinnedPoint). x.at) (w ∷ ws) in
      by_then cutting (λ d' q. 0 < length q.pieces) (split_at m e c vs) _ (count_split e c vs h (omega arith)) (by_split e c vs h (omega arith)) λ d' q x.
      by_next cutting (pin_all m d' q.points (w ∷ ws)) _ (by_pins d' q.points (w ∷ ws)) λ d'' u.
      by_without c.id b q.pieces d'' x

  by_divide : (d : Drawing) (c : Curve) (v : Vec2) (vs : List Vec2) → cuttable c.kind (length (v ∷ vs)) ≡ true → By cutting (divide m d c (v ∷ vs))
  by_divide d c v vs h =
      let e = release_extent c.id c.kind d in
      by_next cutting (split_at m e c (v ∷ vs)) _ (by_split e c (v ∷ vs) h (omega arith)) λ d' q.
      by_next cutting (tie m d' c.id q.pieces) _ (by_tie d' c.id q.pieces) λ d'' u. tt

  -- ---- what suits a curve can be cut

  suits_one : (k : CurveKind) (w : PinnedPoint) (b : Bool) → suits k (Cut w b) ≡ true → cuttable k 1 ≡ true
  unfolding suits suits_open suits_closed
  suits_one (Line a b) w u h = refl
  suits_one (Arc o a b) w u h = refl
  suits_one (Circle o r) w u h = never h
  suits_one (Bezier n) w u h = never h
  suits_one (Conic a p b rho) w u h = never h

  suits_divided : (k : CurveKind) (v : Vec2) → suits k (Divide v) ≡ true → cuttable k 1 ≡ true
  unfolding suits suits_open suits_closed
  suits_divided (Line a b) v h = refl
  suits_divided (Arc o a b) v h = refl
  suits_divided (Circle o r) v h = never h
  suits_divided (Bezier n) v h = never h
  suits_divided (Conic a p b rho) v h = never h

  suits_some : (k : CurveKind) (plan : Plan) → suits k plan ≡ true → cuttable k 2 ≡ true
  unfolding suits
  suits_some (Line a b) plan h = refl
  suits_some (Arc o a b) plan h = refl
  suits_some (Circle o r) plan h = refl
  suits_some (Bezier n) plan h = never h
  suits_some (Conic a p b rho) plan h = never h

  not_moved : (k : CurveKind) (b : Bool) (v : Vec2) (w : Pin) → suits k (Move b v w) ≡ false
  unfolding suits suits_open suits_closed
  not_moved (Line a b) u v w = refl
  not_moved (Arc o a b) u v w = refl
  not_moved (Circle o r) u v w = refl
  not_moved (Bezier n) u v w = refl
  not_moved (Conic a p b rho) u v w = refl

  by_suited : (met : Drawing → Bool) (d : Drawing) (c : Curve) (plan : Plan) → suits c.kind plan ≡ true → By cutting (apply_plan_to met m d c plan)
  unfolding apply_plan_to
  by_suited met d c Whole h = tt
  by_suited met d c (Cut w b) h = by_cut d c w [] b (suits_one c.kind w b h)
  by_suited met d c (CutTwo w v b) h = by_cut d c w (v ∷ []) b (suits_some c.kind (CutTwo w v b) h)
  by_suited met d c (Divide v) h = by_divide d c v [] (suits_divided c.kind v h)
  by_suited met d c (DivideTwo v u) h = by_divide d c v (u ∷ []) (suits_some c.kind (DivideTwo v u) h)
  by_suited met d c (Move b v w) h = never (sym (not_moved c.kind b v w) ∙ h)

  -- ---- the theorems

  pub suited_refusals : (met : Drawing → Bool) (d : Drawing) (t : ℕ) (c : Curve) (plan : Plan) → curve_in d.curves t ≡ some c → suits c.kind plan ≡ true → By cutting (apply_plan met m d t plan)
  unfolding apply_plan_at
  suited_refusals met d t c plan e h = rw e (by_suited met d c plan h)

  pub move_refusals : (met : Drawing → Bool) (d : Drawing) (t : ℕ) (c : Curve) (b : Bool) (v : Vec2) (w : Pin) → curve_in d.curves t ≡ some c → is_line c.kind ≡ true → By moving (apply_plan met m d t (Move b v w))
  unfolding apply_plan_at apply_plan_to
  move_refusals met d t c b v w e h =
      let (x, q) = ended c.kind h in
      rw (e, q) (by_extend met m d b v w x)

  -- 19 says that the drawing which the move leaves fails the test
  pub move_fails :
      (met : Drawing → Bool) (d : Drawing) (t : ℕ) (c : Curve) (b : Bool) (v : Vec2) (w : Pin) → curve_in d.curves t ≡ some c → is_line c.kind ≡ true → apply_plan met m d t (Move b v w) ≡ refused 19
      → (d' : Drawing) × (apply_plan (λ x. true) m d t (Move b v w) ≡ accepted d' nothing) × (met d' ≡ false)
  unfolding apply_plan_at apply_plan_to
  move_fails met d t c b v w e h q =
      let (x, i) = ended c.kind h in
      let to : (f : Drawing → Bool) → apply_plan f m d t (Move b v w) ≡ move_end f m d b v w (some x) = λ f. rw (e, i) in
      let (d', left, fails) = end_fails met m d b v w x (sym (to met) ∙ q) in
      (d', to (λ y. true) ∙ left, fails)
