-- Where the endless line of a support meets the curves of a table, one law for each way out of the code. Assumes nothing.
use mathlib.Core.Path.{◌≡◌, refl, sym, ap, ◌∙◌, subst}
use mathlib.Core.Bool.{Bool, true, false}
use mathlib.Core.List.{List, [], ◌∷◌, ◌++◌, map}
use mathlib.Core.Option.{Option, some, none}
use Prim.Native.Nat.{ℕ, suc, ◌+◌, ◌≤◌, ◌<◌}
use Rattle.std.specs.Prelude.{min, ◌⊎◌}
use Rattle.std.proofs.Common.{inl, inr}
use Rattle.std.proofs.lemmas.Bool.{cases_lt}
use native.Mathlib.Numerals.{add-one}
use native.Mathlib.Omega.{arith}
use lib.ListN.{length, take, drop, get_or, set, length-map, length-append, drop_of_length-le}
use lib.Seq.{take-suc, take_all}
use lib.Ieee.{Float}
use borrow.Author.Tests.{le-leb}
use Rattle.float.specs.Numbers.{◌⊖◌, ◌⊘◌, 0f, 1f}
use Rattle.geom.specs.declared.Vec2.{Vec2}
use Rattle.shape.specs.declared.Shape.{Shape}
use Rattle.shape.specs.declared.Shape.TheVariants as S
use Rattle.shape.specs.Measures.{arc, circle}
use Rattle.sketch.specs.declared.Point.{Point}
use Rattle.sketch.specs.declared.Curve.{Curve}
use Rattle.sketch.specs.declared.CurveKind.{CurveKind}
use Rattle.sketch.specs.declared.CurveKind.TheVariants.{Line, Arc, Circle, Bezier, Conic}
use Rattle.sketch.specs.Blanks.{no_curve}
use Rattle.sketch.specs.Drawing.{uses_of}
use Rattle.sketch_geometry.specs.Geometry.{position_of, shape_of}
use Rattle.bernstein.specs.Answers.{Answer, Found, Refused}
use Rattle.support.specs.declared.Piece.TheVariants as P
use Rattle.support.specs.Freeform.{bezier}
use Rattle.support.specs.Hits as H
use Rattle.support.specs.Hits.{shape_hits, freeform_hits, endless_line}
use Rattle.support.specs.Pieces.{zip_points, hits_of, with_room, answer_of, list_of, HitsWritten}
use Rattle.support.proofs.Coordinates.{points_stored}
use Rattle.edit_plan.specs.Tables.{others}
use Rattle.edit_plan.proofs.Loops.{map_append}
use Rattle.std.specs.Prelude.{Result, Ok, Err}
use Rattle.refusal.specs.declared.Refusal.{Refusal}
use Rattle.refusal.specs.Refusals.{number}
use Rattle.hit_search.specs.declared.Controls.{Controls}
use Rattle.hit_search.specs.declared.Progress.{Progress}
use Rattle.hit_search.specs.NearestHit.{Support, boundary, curve_hits, Best, best_of, stopped, finished, continue_with, nearest_hit}
use Rattle.hit_search.specs.Values.{best_in}
use Rattle.hit_search.specs.Clauses.{ControlsAre, Fits, resumed}
use Rattle.hit_search.proofs.OtherCurves.{others_past, others_on}

-- ---- control points

take_min : {A : Type 0} (l : List A) (n : ℕ) → length l ≡ 8 → take (min n 8) l ≡ take n l
take_min l n e =
    elim (cases_lt n 8) [
      | inl h ↦ let k : min n 8 ≡ n = omega arith in ap (λ j. take j l) k
      | inr h ↦ let k : min n 8 ≡ 8 = omega arith in ap (λ j. take j l) k ∙ take_all 8 l (omega arith) ∙ sym (take_all n l (omega arith))
    ]

-- the points in the first i slots are laid out
pub record Front (ps : List Point) (slots : List ℕ) (xs ys : List Float) (i : ℕ) : Type 0 where
  pub are : zip_points (take i xs) (take i ys) ≡ map (position_of ps) (take i slots)

module _ (ps : List Point) (slots : List ℕ) (xs ys : List Float) where
  pub front_none : Front ps slots xs ys 0
  unfolding zip_points
  front_none = record { are = refl }

  pub front_on : {i : ℕ} → Front ps slots xs ys i → i < length slots → i < length xs → i < length ys → (p : Vec2) → p ≡ position_of ps (get_or slots i 0)
      → Front ps slots (set xs i p.x) (set ys i p.y) (i + 1)
  front_on {i} f s a b p e =
      let t : take (i + 1) slots ≡ take i slots ++ (get_or slots i 0 ∷ []) = rw add-one (take-suc slots i 0 s) in
      record {
        are =
            points_stored p xs ys i a b
            ∙ ap (λ l. l ++ (p ∷ [])) f.are
            ∙ ap (λ q. map (position_of ps) (take i slots) ++ (q ∷ [])) e
            ∙ sym (ap (map (position_of ps)) t ∙ map_append (position_of ps) (take i slots) (get_or slots i 0 ∷ []));
      }

  pub front_whole : (n : ℕ) {i : ℕ} → length slots ≡ 8 → length xs ≡ 8 → length ys ≡ 8 → i ≡ min n 8 → Front ps slots xs ys i → ControlsAre ps slots n (record { xs = xs; ys = ys })
  front_whole n {i} s a b e f =
      record {
        xs_long = a;
        ys_long = b;
        are =
            sym (ap (λ l. zip_points l (take i ys)) (whole xs a) ∙ ap (zip_points (take n xs)) (whole ys b)) ∙ f.are
            ∙ ap (map (position_of ps)) (whole slots s);
      }
    where
      whole : {A : Type 0} (l : List A) → length l ≡ 8 → take i l ≡ take n l
      whole l k = ap (λ j. take j l) e ∙ take_min l n k

-- ---- one curve

pub with_room_lem : (hx hy : List Float) (budget : ℕ) (o : H.HitsResult) → 28 ≤ length hx → 28 ≤ length hy → with_room hx hy budget o ≡ o
unfolding with_room H.guard_hits
with_room_lem hx hy budget o h k = rw (le-leb 28 (length hx) h, le-leb 28 (length hy) k)

module _ {hx hy laterX laterY : List Float} {r : Answer} where
  pub met_fits : {o : H.HitsResult} → HitsWritten o hx hy laterX laterY r → Fits laterX laterY r
  unfolding answer_of list_of
  met_fits {o} w = subst (Fits laterX laterY) (sym w.answer) (go o w.across w.up)
    where
      enough : (l : List Vec2) (f : Vec2 → Float) (h later : List Float) → later ≡ map f l ++ drop (length l) h → length l ≤ length later
      enough l f h later e = rw (e, length-append, length-map) (omega arith)

      go : (o : H.HitsResult) → laterX ≡ map (λ p. p.x) (list_of o) ++ drop (length (list_of o)) hx → laterY ≡ map (λ p. p.y) (list_of o) ++ drop (length (list_of o)) hy → Fits laterX laterY (answer_of o)
      go (H.found l b) e f = (enough l (λ p. p.x) hx laterX e, enough l (λ p. p.y) hy laterY f)
      go (H.refused n b) e f = tt

  pub met_as : {o o' : H.HitsResult} → o ≡ o' → HitsWritten o hx hy laterX laterY r → HitsWritten o' hx hy laterX laterY r
  met_as e w = subst (λ (x : H.HitsResult). HitsWritten x hx hy laterX laterY r) e w

-- a curve that is not freeform has an outline
pub outlined_is : (ps : List Point) (k : CurveKind) → ((n : ℕ) → k ≡ Bezier n → ⊥) → ((a p b : ℕ) (rho : Float) → k ≡ Conic a p b rho → ⊥) → none ≡ shape_of ps k → ⊥
unfolding shape_of
outlined_is ps (Line a b) h g e = let z : ◌≡◌ {A = ℕ} 0 1 = cc in omega arith
outlined_is ps (Arc c a b) h g e = let z : ◌≡◌ {A = ℕ} 0 1 = cc in omega arith
outlined_is ps (Circle c r) h g e = let z : ◌≡◌ {A = ℕ} 0 1 = cc in omega arith
outlined_is ps (Bezier n) h g e = h n refl
outlined_is ps (Conic a p b rho) h g e = g a p b rho refl

module _ (ps : List Point) (s : Support) (foot : Vec2) (c : Curve) (budget : ℕ) where
  pub meets_shape : (k : CurveKind) {sh sh' : Shape} (xs ys : List Float) → some sh ≡ shape_of ps k → sh' ≡ boundary c.infinite sh foot
      → hits_of s.a s.b (P.Analytic sh') xs ys budget ≡ curve_hits ps s foot c k budget
  unfolding hits_of curve_hits shape_of boundary
  meets_shape (Line a b) {sh} xs ys e f = let q : sh ≡ S.Line (position_of ps a) (position_of ps b) = cc in rw (f, q)
  meets_shape (Arc o a b) {sh} xs ys e f = let q : sh ≡ arc (position_of ps o) (position_of ps a) (position_of ps b) = cc in rw (f, q)
  meets_shape (Circle o r) {sh} xs ys e f = let q : sh ≡ circle (position_of ps o) r = cc in rw (f, q)
  meets_shape (Bezier n) xs ys e f = let z : ◌≡◌ {A = ℕ} 0 1 = cc in absurd (omega arith)
  meets_shape (Conic a p b rho) xs ys e f = let z : ◌≡◌ {A = ℕ} 0 1 = cc in absurd (omega arith)

  pub meets_along : (k : CurveKind) {sh sh' : Shape} → some sh ≡ shape_of ps k → sh' ≡ boundary c.infinite sh foot
      → shape_hits s.a s.b sh' budget ≡ curve_hits ps s foot c k budget
  unfolding hits_of
  meets_along k e f = meets_shape k [] [] e f

  pub meets_bezier : {k : CurveKind} {n : ℕ} {r : Controls} → k ≡ Bezier n → ControlsAre ps c.slots (n + 1) r
      → hits_of s.a s.b (P.Bezier (n + 1)) r.xs r.ys budget ≡ curve_hits ps s foot c k budget
  unfolding hits_of curve_hits uses_of
  meets_bezier {k} {n} e w = rw e (ap (λ l. freeform_hits s.a s.b (bezier l) budget) (w.are ∙ ap (λ i. map (position_of ps) (take i c.slots)) (add-one n)))

  pub meets_conic : {k : CurveKind} {i j m : ℕ} {rho : Float} {p q t : Vec2} → k ≡ Conic i j m rho → p ≡ position_of ps i → q ≡ position_of ps j → t ≡ position_of ps m
      → hits_of s.a s.b (P.Conic (rho ⊘ (1f ⊖ rho))) (p.x ∷ q.x ∷ t.x ∷ 0f ∷ 0f ∷ 0f ∷ 0f ∷ 0f ∷ []) (p.y ∷ q.y ∷ t.y ∷ 0f ∷ 0f ∷ 0f ∷ 0f ∷ 0f ∷ []) budget ≡ curve_hits ps s foot c k budget
  unfolding hits_of curve_hits
  meets_conic e u v w = rw (e, u, v, w)

-- ---- one curve more of a search

points_again : (l : List Vec2) → zip_points (map (λ p. p.x) l) (map (λ p. p.y) l) ≡ l
unfolding zip_points
points_again [] = refl
points_again (p ∷ l) = ap (λ t. p ∷ t) (points_again l)

take_front : (xs ys : List Float) → take (length xs) (xs ++ ys) ≡ xs
take_front [] ys = refl
take_front (x ∷ xs) ys = ap (λ t. x ∷ t) (take_front xs ys)

front_of : (l : List Vec2) (f : Vec2 → Float) (h later : List Float) → later ≡ map f l ++ drop (length l) h → take (length l) later ≡ map f l
front_of l f h later e =
    let n : length l ≡ length (map f l) = sym (length-map l f) in
    ap (take (length l)) e ∙ ap (λ k. take k (map f l ++ drop (length l) h)) n ∙ take_front (map f l) (drop (length l) h)

module _ (ps : List Point) (s : Support) (foot : Vec2) (c : Curve) (budget : ℕ) {hx hy laterX laterY : List Float} {r : Answer}
    (w : HitsWritten (curve_hits ps s foot c c.kind budget) hx hy laterX laterY r) (best : Option Best) (os : List Curve) where
  pub look_stopped : {n b : ℕ} → r ≡ Refused n b → nearest_hit ps s foot (c ∷ os) best budget ≡ stopped n
  unfolding nearest_hit continue_with answer_of
  look_stopped {n} {b} e = go (curve_hits ps s foot c c.kind budget) (sym e ∙ w.answer)
    where
      go : (o : H.HitsResult) → Refused n b ≡ answer_of o → continue_with (λ qs left. nearest_hit ps s foot os (best_of s c.id best qs) left) o ≡ stopped n
      go (H.found l b') q = let z : ◌≡◌ {A = ℕ} 0 1 = cc in absurd (omega arith)
      go (H.refused m b') q = let z : m ≡ n = cc in ap stopped z

  pub look_went : {n b : ℕ} → r ≡ Found n b → {best' : Option Best} → best' ≡ best_of s c.id best (zip_points (take n laterX) (take n laterY))
      → nearest_hit ps s foot (c ∷ os) best budget ≡ nearest_hit ps s foot os best' b
  unfolding nearest_hit continue_with answer_of list_of
  look_went {n} {b} e {best'} f = go (curve_hits ps s foot c c.kind budget) (sym e ∙ w.answer) w.across w.up
    where
      go : (o : H.HitsResult) → Found n b ≡ answer_of o → laterX ≡ map (λ p. p.x) (list_of o) ++ drop (length (list_of o)) hx
          → laterY ≡ map (λ p. p.y) (list_of o) ++ drop (length (list_of o)) hy → continue_with (λ qs left. nearest_hit ps s foot os (best_of s c.id best qs) left) o ≡ nearest_hit ps s foot os best' b
      go (H.refused m b') q u v = let z : ◌≡◌ {A = ℕ} 0 1 = cc in absurd (omega arith)
      go (H.found l b') q u v =
          let z : n ≡ length l = cc in
          let y : b ≡ b' = cc in
          let g : zip_points (take n laterX) (take n laterY) ≡ l =
          ap (λ k. zip_points (take k laterX) (take k laterY)) z
          ∙ ap (λ x. zip_points x (take (length l) laterY)) (front_of l (λ p. p.x) hx laterX u)
          ∙ ap (zip_points (map (λ p. p.x) l)) (front_of l (λ p. p.y) hy laterY v)
          ∙ points_again l in
          sym (ap (λ x. nearest_hit ps s foot os x b) (f ∙ ap (best_of s c.id best) g) ∙ ap (nearest_hit ps s foot os (best_of s c.id best l)) y)

-- ---- all curves

-- the search is the search from place i on
pub record Sweep (ps : List Point) (s : Support) (foot : Vec2) (id : ℕ) (cs : List Curve) (i : ℕ) (best : Option Best) (left : ℕ) : Type 0 where
  pub same : nearest_hit ps s foot (others id cs) none 1000000 ≡ nearest_hit ps s foot (others id (drop i cs)) best left

module _ {ps : List Point} {s : Support} {foot : Vec2} {id : ℕ} {cs : List Curve} {i : ℕ} {best : Option Best} {left : ℕ} (w : Sweep ps s foot id cs i best left) where
  pub swept : length cs ≤ i → finished best ≡ nearest_hit ps s foot (others id cs) none 1000000
  unfolding nearest_hit
  swept h = sym (w.same ∙ ap (λ l. nearest_hit ps s foot (others id l) best left) (drop_of_length-le cs h))

  module _ (h : i < length cs) where
    pub sweep_past : id ≡ (get_or cs i no_curve).id → Sweep ps s foot id cs (i + 1) best left
    sweep_past e = record { same = w.same ∙ ap (λ l. nearest_hit ps s foot l best left) (others_past cs i h id e) }

    module _ (e : id ≡ (get_or cs i no_curve).id → ⊥) (r : Result Progress Refusal)
        (f : (os : List Curve) → nearest_hit ps s foot (get_or cs i no_curve ∷ os) best left ≡ resumed ps s foot os r) where
      whole : nearest_hit ps s foot (others id cs) none 1000000 ≡ resumed ps s foot (others id (drop (i + 1) cs)) r
      whole = w.same ∙ ap (λ l. nearest_hit ps s foot l best left) (others_on cs i h id e) ∙ f (others id (drop (i + 1) cs))

      pub sweep_stopped : {why : Refusal} → r ≡ Err why → stopped (number why) ≡ nearest_hit ps s foot (others id cs) none 1000000
      sweep_stopped q = sym (whole ∙ ap (resumed ps s foot (others id (drop (i + 1) cs))) q)

      pub sweep_on : {p : Progress} → r ≡ Ok p → Sweep ps s foot id cs (i + 1) (best_in p.best) p.budget
      sweep_on q = record { same = whole ∙ ap (resumed ps s foot (others id (drop (i + 1) cs))) q }
