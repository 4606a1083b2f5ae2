-- Laws by which an answer and what lies in the lent floats are those of an outcome. Assumes nothing.
use mathlib.Core.Path.{◌≡◌, refl, sym, ap, ◌∙◌}
use mathlib.Core.Bool.{Bool, true, false}
use mathlib.Core.List.{List, [], ◌∷◌, ◌++◌, map}
use Prim.Native.Nat.{ℕ, ◌≤◌}
use native.Mathlib.Omega.{arith}
use lib.ListN.{length, take, drop, set, length-map, length-take}
use lib.Ieee.{Float}
use Rattle.geom.specs.Plane.{◌-ᵥ◌, normalized}
use Rattle.geom.specs.declared.Vec2.{Vec2}
use Rattle.std.specs.Prelude.{Option, Some, None}
use Rattle.shape.specs.declared.Crossings.{Crossings}
use Rattle.shape.specs.declared.Crossings.TheVariants.{Zero, One, Two}
use Rattle.shape.specs.declared.Shape.{Shape}
use Rattle.shape.specs.declared.Shape.TheVariants.{Line, Round}
use Rattle.shape.specs.Intersections.{points, crossings, direction_of, crossings_by}
use Rattle.shape.proofs.CrossingsBy.{crossings_by_lem}
use Rattle.sketch.specs.Lists.{keep}
use Rattle.bernstein.specs.Answers.{Answer, Found, Refused}
use Rattle.support.specs.Hits.{HitsResult, found, refused, guard_hits, overlaps, on_piece, shape_hits}
use Rattle.support.specs.Pieces.{answer_of, list_of, HitsWritten}
use Rattle.support.specs.Clauses.{HitsAtFront}

-- a refusal finds nothing
pub refused_not_found : {A : Type 0} {n b w k : ℕ} → Refused w k ≡ Found n b → A
refused_not_found e = let z : ◌≡◌ {A = ℕ} 0 1 = cc in absurd (omega arith)

module _ (hx hy : List Float) (b : ℕ) where
  pub met_none : HitsWritten (found [] b) hx hy hx hy (Found 0 b)
  unfolding answer_of list_of
  met_none = record { answer = refl; across = refl; up = refl }

  pub met_refused : (n : ℕ) → HitsWritten (refused n b) hx hy hx hy (Refused n b)
  unfolding answer_of list_of
  met_refused n = record { answer = refl; across = refl; up = refl }

first_stored : (l : List Float) (a : Float) → 28 ≤ length l → set l 0 a ≡ a ∷ drop 1 l
first_stored [] a h = absurd (omega arith)
first_stored (u ∷ l) a h = refl

second_stored : (l : List Float) (a b : Float) → 28 ≤ length l → set (set l 0 a) 1 b ≡ a ∷ b ∷ drop 2 l
second_stored [] a b h = absurd (omega arith)
second_stored (u ∷ []) a b h = absurd (omega arith)
second_stored (u ∷ v ∷ l) a b h = refl

module _ (hx hy : List Float) (b : ℕ) (h : 28 ≤ length hx) (g : 28 ≤ length hy) where
  pub met_one : (p : Vec2) → HitsWritten (found (p ∷ []) b) hx hy (set hx 0 p.x) (set hy 0 p.y) (Found 1 b)
  unfolding answer_of list_of
  met_one p = record { answer = refl; across = first_stored hx p.x h; up = first_stored hy p.y g }

  pub met_two : (p q : Vec2) → HitsWritten (found (p ∷ q ∷ []) b) hx hy (set (set hx 0 p.x) 1 q.x) (set (set hy 0 p.y) 1 q.y) (Found 2 b)
  unfolding answer_of list_of
  met_two p q = record { answer = refl; across = second_stored hx p.x q.x h; up = second_stored hy p.y q.y g }

-- ---- what was gathered elsewhere first

-- the count that is answered is that of the list
counted : (o : HitsResult) (k b : ℕ) → answer_of o ≡ Found k b → k ≡ length (list_of o)
unfolding answer_of list_of
counted (found l c) k b e = cc
counted (refused n c) k b e = let z : ◌≡◌ {A = ℕ} 0 1 = cc in absurd (omega arith)

left_alone : (o : HitsResult) (hx hy : List Float) (n b : ℕ) → answer_of o ≡ Refused n b → HitsWritten o hx hy hx hy (Refused n b)
unfolding answer_of list_of
left_alone (found l c) hx hy n b e = let z : ◌≡◌ {A = ℕ} 0 1 = cc in absurd (omega arith)
left_alone (refused m c) hx hy n b e = record { answer = sym e; across = refl; up = refl }

module _ (o : HitsResult) (qx qy : List Float) (r : Answer) (w : HitsAtFront o qx qy r) where
  -- a refusal leaves the lent floats alone
  pub met_nothing : (hx hy : List Float) (n b : ℕ) → r ≡ Refused n b → HitsWritten o hx hy hx hy (Refused n b)
  met_nothing hx hy n b e = left_alone o hx hy n b (sym w.answer ∙ e)

  module _ (k b : ℕ) (e : r ≡ Found k b) where
    same_count : k ≡ length (list_of o)
    same_count = counted o k b (sym w.answer ∙ e)

    front_x : take k qx ≡ map (λ p. p.x) (list_of o)
    front_x = rw same_count w.across

    front_y : take k qy ≡ map (λ p. p.y) (list_of o)
    front_y = rw same_count w.up

    pub hits_count_X : k ≡ length (take k qx)
    hits_count_X = rw front_x (same_count ∙ sym (length-map (list_of o) (λ p. p.x)))

    pub hits_count_Y : k ≡ length (take k qy)
    hits_count_Y = rw front_y (same_count ∙ sym (length-map (list_of o) (λ p. p.y)))

    pub hits_fit_X : k ≤ length qx
    hits_fit_X = omega (arith, hits_count_X, length-take k qx)

    pub hits_fit_Y : k ≤ length qy
    hits_fit_Y = omega (arith, hits_count_Y, length-take k qy)

    pub hits_room_X : (n : ℕ) → length qx ≡ n → n ≤ 28 → (hx : List Float) → 28 ≤ length hx → length (take k qx) ≤ length hx
    hits_room_X n same few hx room = omega (arith, hits_count_X, hits_fit_X)

    pub hits_room_Y : (n : ℕ) → length qy ≡ n → n ≤ 28 → (hy : List Float) → 28 ≤ length hy → length (take k qy) ≤ length hy
    hits_room_Y n same few hy room = omega (arith, hits_count_Y, hits_fit_Y)

    pub met_all : (hx hy laterX laterY : List Float) → laterX ≡ take k qx ++ drop k hx → laterY ≡ take k qy ++ drop k hy → HitsWritten o hx hy laterX laterY (Found k b)
    met_all hx hy laterX laterY ex ey =
        record { answer = sym e ∙ w.answer; across = ex ∙ rw (front_x, same_count); up = ey ∙ rw (front_y, same_count) }

-- ---- a line or round

pub as_outcome : {o o' : HitsResult} {hx hy laterX laterY : List Float} {r : Answer} → o ≡ o' → HitsWritten o' hx hy laterX laterY r → HitsWritten o hx hy laterX laterY r
as_outcome e h = rw e h

pub round_clear : (p : Vec2) (d : Option Vec2) (sh : Shape) (c : Vec2) (r start sweep : Float) → sh ≡ Round c r start sweep → overlaps p d sh ≡ false
unfolding overlaps
round_clear p None sh c r start sweep e = refl
round_clear p (Some u) sh c r start sweep e = rw e

module _ (a b : Vec2) (sh : Shape) (budget : ℕ) where
  pub overlapping : overlaps a (normalized (b -ᵥ a)) sh ≡ true → shape_hits a b sh budget ≡ refused 15 budget
  unfolding shape_hits guard_hits
  overlapping e = rw e

  pub clear : overlaps a (normalized (b -ᵥ a)) sh ≡ false → (all : Crossings) → all ≡ crossings (Line a b) sh
      → shape_hits a b sh budget ≡ found (keep (on_piece sh) (points all)) budget
  unfolding shape_hits guard_hits
  clear e all f = rw (e, f)

-- by the direction of the support
module _ (a b : Vec2) (sh : Shape) (budget : ℕ) {along : Option Vec2} (d : along ≡ normalized (b -ᵥ a)) {r : Bool} (o : r ≡ overlaps a along sh) where
  same_overlap : r ≡ overlaps a (normalized (b -ᵥ a)) sh
  same_overlap = o ∙ ap (λ (x : Option Vec2). overlaps a x sh) d

  pub overlapping_along : r ≡ true → shape_hits a b sh budget ≡ refused 15 budget
  overlapping_along h = overlapping a b sh budget (sym same_overlap ∙ h)

  pub clear_along : r ≡ false → (all : Crossings) → all ≡ crossings_by along (Line a b) sh → shape_hits a b sh budget ≡ found (keep (on_piece sh) (points all)) budget
  unfolding direction_of
  clear_along h all f = clear a b sh budget (sym same_overlap ∙ h) all (f ∙ crossings_by_lem along (Line a b) sh d)

module _ (sh : Shape) (all : Crossings) (b : ℕ) where
  abbrev kept : HitsResult
  kept = found (keep (on_piece sh) (points all)) b

  pub none_crosses : all ≡ Zero → kept ≡ found [] b
  none_crosses e = rw e

  module _ (p : Vec2) (e : all ≡ One p) where
    pub one_on : on_piece sh p ≡ true → kept ≡ found (p ∷ []) b
    one_on t = rw (e, t)

    pub one_off : on_piece sh p ≡ false → kept ≡ found [] b
    one_off t = rw (e, t)

  module _ (p q : Vec2) (e : all ≡ Two p q) where
    pub both_on : on_piece sh p ≡ true → on_piece sh q ≡ true → kept ≡ found (p ∷ q ∷ []) b
    both_on t u = rw (e, t, u)

    pub first_on : on_piece sh p ≡ true → on_piece sh q ≡ false → kept ≡ found (p ∷ []) b
    first_on t u = rw (e, t, u)

    pub second_on : on_piece sh p ≡ false → on_piece sh q ≡ true → kept ≡ found (q ∷ []) b
    second_on t u = rw (e, t, u)

    pub both_off : on_piece sh p ≡ false → on_piece sh q ≡ false → kept ≡ found [] b
    both_off t u = rw (e, t, u)
