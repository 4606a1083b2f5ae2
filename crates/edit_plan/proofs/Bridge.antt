-- The chain of steps up to its end: the tests of its additions come first, and then the drawing with all pieces laid. Assumes nothing.
use mathlib.Core.Path.{◌≡◌, refl, ap, ◌∙◌}
use mathlib.Core.Bool.{Bool, true, false, not}
use mathlib.Core.List.{List, [], ◌∷◌, ◌++◌, map, append_assoc}
use mathlib.Core.Option.{some}
use Prim.Native.Nat.{ℕ, suc, ◌+◌, ◌≤◌}
use native.Mathlib.Numerals.{add-one}
use native.Mathlib.Omega.{arith}
use lib.Dec.{eqb, ltb}
use lib.ListN.{length, length-map}
use borrow.Author.Tests.{eq-eqb, lt-ltb, ltb-true}
use Rattle.geom.specs.declared.Vec2.{Vec2}
use Rattle.sketch.specs.declared.Curve.{Curve}
use Rattle.sketch.specs.declared.CurveKind.{CurveKind}
use Rattle.sketch.specs.declared.CurveKind.TheVariants.{Line, Arc, Circle, Bezier, Conic}
use Rattle.sketch.specs.declared.Relation.{Relation}
use Rattle.sketch.specs.Lists.{ite, guard_number, concat_map}
use Rattle.sketch.specs.Drawing.{Drawing, Limits, curve_in}
use Rattle.sketch.proofs.Bools.{never}
use Rattle.edit_plan.specs.declared.Pin.{Pin}
use Rattle.edit_plan.specs.declared.Pin.TheVariants.{On, At}
use Rattle.edit_plan.specs.declared.PinnedPoint.{PinnedPoint}
use Rattle.edit_plan.specs.declared.Plan.TheVariants.{Cut, CutTwo, Divide, DivideTwo}
use Rattle.edit_plan.specs.Outcome.{Outcome, refused, accepted, ◌then◌, guard}
use Rattle.edit_plan.specs.Tables.{ok_position, new_point, new_curve, rekind, add_relation}
use Rattle.edit_plan.specs.Steps.{line_ends, is_line, release_relation, pieces_of, add_pieces, pin, line_at, tie_relation, swap, nothing, removal}
use Rattle.edit_plan.specs.ApplyPlan.{remove_piece, apply_plan_to}
use Rattle.edit_plan.specs.Changes.{is_circle, start_of, end_of, piece_of, pin_relation}
use Rattle.edit_plan.specs.Room.{mk_additions, room_with}
use Rattle.edit_plan.proofs.Tables.{look_set}
use Rattle.edit_plan.proofs.Leaves.{add_none, add_two}

-- ---- tests go to the front

pub guard_then : {D A B : Type 0} (b : Bool) (n : ℕ) (o : Outcome D A) (f : D → A → Outcome D B) → (guard b n o then f) ≡ guard b n (o then f)
unfolding guard
guard_then true n o f = refl
guard_then false n o f = refl

-- what a number decides: 0 accepts
unfoldable pub unless_refused : {D A : Type 0} → ℕ → Outcome D A → Outcome D A
unless_refused n o = ite (eqb n 0) o (refused n)

module _ {D A : Type 0} where
  unless_refused_guard : (b : Bool) (n rest : ℕ) (o : Outcome D A) → eqb n 0 ≡ false → unless_refused (guard_number b n rest) o ≡ guard b n (unless_refused rest o)
  unfolding unless_refused guard_number guard
  unless_refused_guard true n rest o h = refl
  unless_refused_guard false n rest o h = rw h

  pub unless_refused_none : (o : Outcome D A) → unless_refused 0 o ≡ o
  unfolding unless_refused
  unless_refused_none o = refl

  abbrev pub guard_point : Limits → ℕ → ℕ → Vec2 → Outcome D A → Outcome D A
  guard_point m i n v o = guard (ltb i m.ids) 23 (guard (ltb n m.points) 22 (guard (ok_position v) 24 o))

  abbrev pub guard_curve : Limits → ℕ → ℕ → Outcome D A → Outcome D A
  guard_curve m i n o = guard (ltb i m.ids) 23 (guard (ltb n m.curves) 22 o)

  abbrev pub guard_relation : Limits → ℕ → Outcome D A → Outcome D A
  guard_relation m n o = guard (ltb n m.relations) 22 o

  module _ (m : Limits) where
    point_again : (i n : ℕ) (v : Vec2) (o : Outcome D A) → guard_point m i n v (guard_point m i n v o) ≡ guard_point m i n v o
    unfolding guard
    point_again i n v o = go (ltb i m.ids) (ltb n m.points) (ok_position v)
      where
        go : (a b c : Bool) → guard a 23 (guard b 22 (guard c 24 (guard a 23 (guard b 22 (guard c 24 o))))) ≡ guard a 23 (guard b 22 (guard c 24 o))
        go true true true = refl
        go true true false = refl
        go true false c = refl
        go false b c = refl

    curve_again : (i n : ℕ) (o : Outcome D A) → guard_curve m i n (guard_curve m i n o) ≡ guard_curve m i n o
    unfolding guard
    curve_again i n o = go (ltb i m.ids) (ltb n m.curves)
      where
        go : (a b : Bool) → guard a 23 (guard b 22 (guard a 23 (guard b 22 o))) ≡ guard a 23 (guard b 22 o)
        go true true = refl
        go true false = refl
        go false b = refl

    relation_lower : (a b : ℕ) (o : Outcome D A) → a ≤ b → guard_relation m a (guard_relation m b o) ≡ guard_relation m b o
    unfolding guard
    relation_lower a b o h = go (ltb b m.relations) refl
      where
        go : (x : Bool) → ltb b m.relations ≡ x → guard (ltb a m.relations) 22 (guard x 22 o) ≡ guard x 22 o
        go true e = rw (lt-ltb a m.relations (omega (arith, ltb-true b m.relations e)))
        go false e = either (ltb a m.relations)
          where
            either : (y : Bool) → ◌≡◌ {A = Outcome D A} (guard y 22 (refused 22)) (refused 22)
            either true = refl
            either false = refl

    -- the number's tests, one by one
    room_needs :
        (i np nc nr : ℕ) (v u : Vec2) (p q r : ℕ) (o : Outcome D A)
        → unless_refused (room_with m i np nc (not (ltb (nr + r) m.relations)) (mk_additions v u p q r)) o
        ≡ guard_point m i np v (guard_point m (i + p) (np + p) u (guard_curve m (suc (i + p)) nc (guard_curve m (suc (i + p) + q) (nc + q) (guard_relation m (nr + r) o))))
    unfolding room_with
    room_needs i np nc nr v u p q r o = simp (unless_refused_guard, unless_refused_none, not_not)
      where
        not_not : (b : Bool) → not (not b) ≡ b
        not_not true = refl
        not_not false = refl

    module _ (i np nc nr : ℕ) (o : Outcome D A) where
      -- one place: a point, a curve and a relation
      pub room_one : (v : Vec2) → unless_refused (room_with m i np nc (not (ltb (nr + 0) m.relations)) (mk_additions v v 0 0 0)) o ≡ guard_point m i np v (guard_curve m (suc i) nc (guard_relation m nr o))
      room_one v = room_needs i np nc nr v v 0 0 0 o ∙ simp (add_none, point_again, curve_again)

      -- two places of a circle: two points, a curve, and one or two relations
      pub room_circle : (v u : Vec2) → unless_refused (room_with m i np nc (not (ltb (nr + 0) m.relations)) (mk_additions v u 1 0 0)) o ≡ guard_point m i np v (guard_point m (suc i) (suc np) u (guard_curve m (suc (suc i)) nc (guard_relation m nr o)))
      room_circle v u = room_needs i np nc nr v u 1 0 0 o ∙ simp (add_none, add-one, curve_again)

      pub room_pinned : (v u : Vec2) → unless_refused (room_with m i np nc (not (ltb (nr + 1) m.relations)) (mk_additions v u 1 0 1)) o ≡ guard_point m i np v (guard_point m (suc i) (suc np) u (guard_curve m (suc (suc i)) nc (guard_relation m nr (guard_relation m (suc nr) o))))
      room_pinned v u = room_needs i np nc nr v u 1 0 1 o ∙ simp (add_none, add-one, curve_again, relation_lower nr (suc nr) o (omega arith))

      -- two places of a line or an arc: two points, two curves and three relations
      pub room_middle : (v u : Vec2) → unless_refused (room_with m i np nc (not (ltb (nr + 2) m.relations)) (mk_additions v u 1 1 2)) o ≡ guard_point m i np v (guard_point m (suc i) (suc np) u (guard_curve m (suc (suc i)) nc (guard_curve m (suc (suc (suc i))) (suc nc) (guard_relation m nr (guard_relation m (suc nr) (guard_relation m (suc (suc nr)) o))))))
      room_middle v u =
          room_needs i np nc nr v u 1 1 2 o
          ∙ simp (add-one, add_two, relation_lower (suc nr) (suc (suc nr)) o (omega arith), relation_lower nr (suc (suc nr)) o (omega arith))

-- ---- look-ups

pub look_front : (xs ys : List Curve) (i : ℕ) (c : Curve) → curve_in xs i ≡ some c → curve_in (xs ++ ys) i ≡ some c
unfolding curve_in
look_front [] ys i c e = let z : ◌≡◌ {A = ℕ} 0 1 = cc in absurd (omega arith)
look_front (x ∷ xs) ys i c e = go (eqb i x.id) e (look_front xs ys i c)
  where
    go : (b : Bool) → ite b (some x) (curve_in xs i) ≡ some c → (curve_in xs i ≡ some c → curve_in (xs ++ ys) i ≡ some c) → ite b (some x) (curve_in (xs ++ ys) i) ≡ some c
    go true e ih = e
    go false e ih = ih e

pub length_end : {A : Type 0} (l : List A) (a : A) → length (l ++ (a ∷ [])) ≡ suc (length l)
length_end [] a = refl
length_end (b ∷ l) a = ap suc (length_end l a)

-- ---- pieces

-- a line or an arc
unfoldable pub is_open : CurveKind → Bool
is_open (Line a b) = true
is_open (Arc c a b) = true
is_open (Circle c r) = false
is_open (Bezier n) = false
is_open (Conic a p b rho) = false

pub two_pieces : (k : CurveKind) (p : ℕ) → is_open k ≡ true → pieces_of k (p ∷ []) ≡ piece_of k (start_of k) p ∷ piece_of k p (end_of k) ∷ []
unfolding pieces_of piece_of start_of end_of is_open
two_pieces (Line a b) p h = refl
two_pieces (Arc c a b) p h = refl
two_pieces (Circle c r) p h = never h
two_pieces (Bezier n) p h = never h
two_pieces (Conic a q b rho) p h = never h

pub three_pieces : (k : CurveKind) (p q : ℕ) → is_open k ≡ true → pieces_of k (p ∷ q ∷ []) ≡ piece_of k (start_of k) p ∷ piece_of k p q ∷ piece_of k q (end_of k) ∷ []
unfolding pieces_of piece_of start_of end_of is_open
three_pieces (Line a b) p q h = refl
three_pieces (Arc c a b) p q h = refl
three_pieces (Circle c r) p q h = never h
three_pieces (Bezier n) p q h = never h
three_pieces (Conic a u b rho) p q h = never h

pub circle_pieces : (k : CurveKind) (p q : ℕ) → is_circle k ≡ true → pieces_of k (p ∷ q ∷ []) ≡ piece_of k p q ∷ piece_of k q p ∷ []
unfolding pieces_of piece_of is_circle
circle_pieces (Line a b) p q h = never h
circle_pieces (Arc c a b) p q h = never h
circle_pieces (Circle c r) p q h = refl
circle_pieces (Bezier n) p q h = never h
circle_pieces (Conic a u b rho) p q h = never h

line_piece : (k : CurveKind) (p q : ℕ) → is_line (piece_of k p q) ≡ is_line k
unfolding piece_of
line_piece (Line a b) p q = refl
line_piece (Arc c a b) p q = refl
line_piece (Circle c r) p q = refl
line_piece (Bezier n) p q = refl
line_piece (Conic a u b rho) p q = refl

-- the target's sort after its first piece was set and others were added
pub line_added : (cs ys : List Curve) (t : ℕ) (c : Curve) (p q : ℕ) → curve_in cs t ≡ some c → line_at (curve_in (map (rekind c.id (piece_of c.kind p q)) cs ++ ys) t) ≡ is_line c.kind
line_added cs ys t c p q e =
    let k = piece_of c.kind p q in
    ap line_at (look_front (map (rekind c.id k) cs) ys t (rekind c.id k c) (look_set c.id k cs t c e))
    ∙ rw (eq-eqb c.id c.id refl) (line_piece c.kind p q)

-- ---- pins

-- a pin to a point that is not p itself
abbrev pub Apart : ℕ → Pin → Type 0
Apart p (On c) = Unit {0}
Apart p (At e) = eqb e p ≡ false

pub pin_is : (m : Limits) (d : Drawing) (p : ℕ) (w : Pin) → Apart p w → pin m d p w ≡ add_relation m d (pin_relation w p)
unfolding pin pin_relation
pin_is m d p (On c) h = refl
pin_is m d p (At e) h = rw h

-- ---- the chain up to its end

abbrev pub freed : Curve → List Relation → List Relation
freed c rs = concat_map (release_relation c.id (line_ends c.kind)) rs

module _ (met : Drawing → Bool) (m : Limits) (d : Drawing) (c : Curve) (found : curve_in d.curves c.id ≡ some c) where
  abbrev i : ℕ
  i = d.next

  abbrev np : ℕ
  np = length d.points

  abbrev nc : ℕ
  nc = length d.curves

  abbrev nr : ℕ
  nr = length (freed c d.relations)

  -- the target with the kind k, then a piece g of the kind q
  abbrev pub curves_added : CurveKind → ℕ → CurveKind → List Curve
  curves_added k g q = map (rekind c.id k) d.curves ++ (new_curve g q c.construction ∷ [])

  module _ (o : is_open c.kind ≡ true) where
    abbrev a : ℕ
    a = start_of c.kind

    abbrev b : ℕ
    b = end_of c.kind

    abbrev pub open_added : Vec2 → List Relation → Drawing
    open_added v rs =
        record {
          next = suc (suc i);
          points = d.points ++ (new_point i v ∷ []);
          curves = curves_added (piece_of c.kind a i) (suc i) (piece_of c.kind i b);
          relations = rs;
        }

    pub divide_chain :
        (v : Vec2) → apply_plan_to met m d c (Divide v)
        ≡ guard_point m i np v (guard_curve m (suc i) nc (guard_relation m nr (accepted (open_added v (freed c d.relations ++ (tie_relation (is_line c.kind) c.id (suc i) ∷ []))) nothing)))
    unfolding apply_plan_to add_pieces
    divide_chain v = simp (guard_then, two_pieces c.kind i o, length-map, line_added)

    module _ (w : PinnedPoint) (apart : Apart i w.pin) where
      pinned_there : (e : Drawing) → pin m e i w.pin ≡ add_relation m e (pin_relation w.pin i)
      pinned_there e = pin_is m e i w.pin apart

      pub cut_chain :
          (first_goes : Bool) → let l = open_added w.at (freed c d.relations ++ (pin_relation w.pin i ∷ [])) in
          apply_plan_to met m d c (Cut w first_goes)
          ≡ guard_point m i np w.at (guard_curve m (suc i) nc (guard_relation m nr (removal (suc i) (ite first_goes (swap c.id (suc i) l) l))))
      unfolding apply_plan_to add_pieces remove_piece
      cut_chain first_goes = simp (guard_then, two_pieces c.kind i o, length-map, pinned_there)

    -- two cuts: the last piece is new, too
    abbrev pub middle_added : Vec2 → Vec2 → List Relation → Drawing
    middle_added v u rs =
        record {
          next = suc (suc (suc (suc i)));
          points = (d.points ++ (new_point i v ∷ [])) ++ (new_point (suc i) u ∷ []);
          curves = curves_added (piece_of c.kind a i) (suc (suc i)) (piece_of c.kind i (suc i)) ++ (new_curve (suc (suc (suc i))) (piece_of c.kind (suc i) b) c.construction ∷ []);
          relations = rs;
        }

    module _ (w v : PinnedPoint) (apart : Apart i w.pin) (apart' : Apart (suc i) v.pin) where
      first_there : (e : Drawing) → pin m e i w.pin ≡ add_relation m e (pin_relation w.pin i)
      first_there e = pin_is m e i w.pin apart

      second_there : (e : Drawing) → pin m e (suc i) v.pin ≡ add_relation m e (pin_relation v.pin (suc i))
      second_there e = pin_is m e (suc i) v.pin apart'

      line_there : line_at (curve_in (middle_added w.at v.at []).curves c.id) ≡ is_line c.kind
      line_there =
          let x = new_curve (suc (suc i)) (piece_of c.kind i (suc i)) c.construction in
          let y = new_curve (suc (suc (suc i))) (piece_of c.kind (suc i) b) c.construction in
          ap (λ l. line_at (curve_in l c.id)) (append_assoc (map (rekind c.id (piece_of c.kind a i)) d.curves) (x ∷ []) (y ∷ []))
          ∙ line_added d.curves (x ∷ y ∷ []) c.id c a i found

      pub middle_chain :
          apply_plan_to met m d c (CutTwo w v false)
          ≡ guard_point m i np w.at (guard_point m (suc i) (suc np) v.at (guard_curve m (suc (suc i)) nc (guard_curve m (suc (suc (suc i))) (suc nc)
          (guard_relation m nr (guard_relation m (suc nr) (guard_relation m (suc (suc nr))
          (removal (suc (suc i)) (middle_added w.at v.at (((freed c d.relations ++ (pin_relation w.pin i ∷ [])) ++ (pin_relation v.pin (suc i) ∷ [])) ++ (tie_relation (is_line c.kind) c.id (suc (suc (suc i))) ∷ []))))))))))
      unfolding apply_plan_to add_pieces remove_piece
      middle_chain = simp (guard_then, three_pieces c.kind i (suc i) o, length-map, length_end, first_there, second_there, line_there)

  module _ (o : is_circle c.kind ≡ true) where
    abbrev pub circle_added : Vec2 → Vec2 → List Relation → Drawing
    circle_added v u rs =
        record {
          next = suc (suc (suc i));
          points = (d.points ++ (new_point i v ∷ [])) ++ (new_point (suc i) u ∷ []);
          curves = curves_added (piece_of c.kind i (suc i)) (suc (suc i)) (piece_of c.kind (suc i) i);
          relations = rs;
        }

    pub divide_circle_chain :
        (v u : Vec2) → apply_plan_to met m d c (DivideTwo v u)
        ≡ guard_point m i np v (guard_point m (suc i) (suc np) u (guard_curve m (suc (suc i)) nc (guard_relation m nr (accepted (circle_added v u (freed c d.relations ++ (tie_relation (is_line c.kind) c.id (suc (suc i)) ∷ []))) nothing))))
    unfolding apply_plan_to add_pieces
    divide_circle_chain v u = simp (guard_then, circle_pieces c.kind i (suc i) o, length-map, length_end, line_added)

    module _ (w v : PinnedPoint) (apart : Apart i w.pin) (apart' : Apart (suc i) v.pin) where
      first_pinned : (e : Drawing) → pin m e i w.pin ≡ add_relation m e (pin_relation w.pin i)
      first_pinned e = pin_is m e i w.pin apart

      second_pinned : (e : Drawing) → pin m e (suc i) v.pin ≡ add_relation m e (pin_relation v.pin (suc i))
      second_pinned e = pin_is m e (suc i) v.pin apart'

      pub cut_circle_chain :
          (first_goes : Bool) → let l = circle_added w.at v.at ((freed c d.relations ++ (pin_relation w.pin i ∷ [])) ++ (pin_relation v.pin (suc i) ∷ [])) in
          apply_plan_to met m d c (CutTwo w v first_goes)
          ≡ guard_point m i np w.at (guard_point m (suc i) (suc np) v.at (guard_curve m (suc (suc i)) nc (guard_relation m nr (guard_relation m (suc nr)
          (removal (suc (suc i)) (ite first_goes (swap c.id (suc (suc i)) l) l))))))
      unfolding apply_plan_to add_pieces remove_piece
      cut_circle_chain first_goes = simp (guard_then, circle_pieces c.kind i (suc i) o, length-map, length_end, first_pinned, second_pinned)
