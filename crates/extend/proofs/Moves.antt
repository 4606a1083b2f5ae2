-- The plan of any extend moves a line's end, and pins it to another curve. Assumes nothing.
use mathlib.Core.Path.{◌≡◌, refl, sym}
use mathlib.Core.Bool.{Bool, true, false, not, ◌&&◌, ◌||◌, cond}
use mathlib.Core.List.{List, [], ◌∷◌}
use mathlib.Core.Option.{Option, some, none}
use Prim.Native.Nat.{ℕ}
use native.Mathlib.Omega.{arith}
use lib.Dec.{eqb}
use lib.Ieee.{Float, lt, le}
use Rattle.float.specs.Numbers.{◌⊖◌, 1e-7, 1e-6}
use Rattle.float.specs.Sign.{abs}
use Rattle.geom.specs.Plane.{distance}
use Rattle.geom.specs.declared.Vec2.{Vec2}
use Rattle.shape.specs.declared.Shape.TheVariants as S
use Rattle.shape.specs.Measures.{param, point}
use Rattle.sketch.specs.declared.Point.{Point}
use Rattle.sketch.specs.declared.Curve.{Curve}
use Rattle.sketch.specs.declared.CurveKind.{CurveKind}
use Rattle.sketch.specs.declared.CurveKind.TheVariants.{Line, Arc, Circle, Bezier, Conic}
use Rattle.sketch.specs.Lookup.{among}
use Rattle.sketch.specs.Drawing.{Drawing, curve_in}
use Rattle.sketch.specs.Facts.{Every}
use Rattle.sketch_geometry.specs.Geometry.{position_of}
use Rattle.relations.specs.Met.{all_met}
use Rattle.support.specs.Hits as H
use Rattle.edit_plan.specs.declared.Pin.{Pin}
use Rattle.edit_plan.specs.declared.Plan.{Plan}
use Rattle.edit_plan.specs.declared.Plan.TheVariants as P
use Rattle.edit_plan.specs.Tables.{uses, others}
use Rattle.edit_plan.specs.Steps.{is_line, ends_at}
use Rattle.edit_plan.specs.Suited.{PinHolds}
use Rattle.refusal.specs.Refusals.{Accepted}
use Rattle.planning.specs.Planning.{pin_to}
use Rattle.hit_search.specs.NearestHit.{Support, gap_of, curve_hits, Best, better, best_of, Search, stopped, finished, continue_with, nearest_hit}
use Rattle.extend.specs.Extend.{plan_move, is_fixed, extend_end, extend_curve}
use Rattle.planning.proofs.Others.{is_other, others_are, pin_held}
use Rattle.planning.proofs.Suits.{guard_plan_accepted}

-- ---- the nearest hit is one of a curve that was asked

module _ (f : ℕ → Bool) where
  abbrev ByOne : Option Best → Type 0
  ByOne none = Unit {0}
  ByOne (some b) = f b.by ≡ true

  better_by : (gap : Float) (q : Vec2) (by : ℕ) (best : Option Best) → f by ≡ true → ByOne best → ByOne (better gap q by best)
  unfolding better
  better_by gap q by none p h = p
  better_by gap q by (some b) p h =
      go (lt gap (b.gap ⊖ 1e-7)) (le (abs (gap ⊖ b.gap)) 1e-7 && (not (eqb b.by by) || lt 1e-7 (distance b.at q)))
    where
      go : (u v : Bool) → ByOne (cond u (some record { gap = gap; at = q; by = by; tied = false }) (cond v (some record { gap = b.gap; at = b.at; by = b.by; tied = true }) (some b)))
      go true v = p
      go false true = h
      go false false = h

  best_by : (s : Support) (by : ℕ) (best : Option Best) (qs : List Vec2) → f by ≡ true → ByOne best → ByOne (best_of s by best qs)
  unfolding best_of
  best_by s by best [] p h = h
  best_by s by best (q ∷ qs) p h = best_by s by (cond (lt 1e-6 (gap_of s q)) (better (gap_of s q) q by best) best) qs p (go (lt 1e-6 (gap_of s q)))
    where
      go : (u : Bool) → ByOne (cond u (better (gap_of s q) q by best) best)
      go true = better_by (gap_of s q) q by best p h
      go false = h

  abbrev HitBy : Search → Type 0
  HitBy (stopped n) = Unit {0}
  HitBy (finished best) = ByOne best

  nearest_hit_by : (ps : List Point) (s : Support) (near : Vec2) (os : List Curve) (best : Option Best) (budget : ℕ) → Every (λ (o : Curve). f o.id) os → ByOne best → HitBy (nearest_hit ps s near os best budget)
  unfolding nearest_hit continue_with
  nearest_hit_by ps s near [] best budget p h = h
  nearest_hit_by ps s near (o ∷ os) best budget p h =
      go (λ qs b. nearest_hit_by ps s near os (best_of s o.id best qs) b p.1 (best_by s o.id best qs p.0 h)) (curve_hits ps s near o o.kind budget)
    where
      go :
          ((qs : List Vec2) (b : ℕ) → HitBy (nearest_hit ps s near os (best_of s o.id best qs) b)) → (r : H.HitsResult)
          → HitBy (continue_with (λ qs left. nearest_hit ps s near os (best_of s o.id best qs) left) r)
      go ih (H.found qs b) = ih qs b
      go ih (H.refused n b) = tt

-- ---- the plan

-- a move of an end of the curve t, held by another curve
pub record Moves (d : Drawing) (t : ℕ) (plan : Plan) : Type 0 where
  pub at_end : Bool
  pub place : Vec2
  pub pin : Pin
  pub is : plan ≡ P.Move at_end place pin
  pub held : PinHolds d t pin

module _ (d : Drawing) (c : Curve) where
  move_held : (at_b : Bool) (r : Search) (plan : Plan) → HitBy (is_other c.id d.curves) r → plan_move d at_b r ≡ Accepted plan → Moves d c.id plan
  unfolding plan_move
  move_held at_b (stopped n) plan p h = let z : ◌≡◌ {A = ℕ} 0 1 = cc in absurd (omega arith)
  move_held at_b (finished none) plan p h = let z : ◌≡◌ {A = ℕ} 0 1 = cc in absurd (omega arith)
  move_held at_b (finished (some b)) plan p h =
      let w : Pin = pin_to d.points b.at b.by (ends_at (curve_in d.curves b.by)) in
      let u = guard_plan_accepted (not b.tied) 17 (Accepted (P.Move at_b b.at w)) plan h in
      let q : P.Move at_b b.at w ≡ plan = cc in
      record { at_end = at_b; place = b.at; pin = w; is = sym q; held = pin_held d c.id b.by b.at p }

  end_held : (p : Vec2) (s : Support) (end : ℕ) (plan : Plan) → extend_end d c.id p s end ≡ Accepted plan → Moves d c.id plan
  unfolding extend_end
  end_held p s end plan h =
      let line = S.Line s.a s.b in
      let r : Search = nearest_hit d.points s (point line (param line p)) (others c.id d.curves) none 1000000 in
      let u = guard_plan_accepted (not (among end (uses (others c.id d.curves)) || is_fixed d.points end)) 14 (plan_move d s.at_b r) plan h in
      move_held s.at_b r plan
      (nearest_hit_by (is_other c.id d.curves) d.points s (point line (param line p)) (others c.id d.curves) none 1000000 (others_are c.id d.curves d.curves (λ i q. q)) tt) u.1

  extend_kind : (p : Vec2) (k : CurveKind) (plan : Plan) → extend_curve d p c k ≡ Accepted plan → (is_line k ≡ true) × Moves d c.id plan
  unfolding extend_curve
  extend_kind p (Line i j) plan h =
      let a = position_of d.points i in
      let b = position_of d.points j in
      let at_b = le (distance p b) (distance p a) in
      let s : Support = record { a = a; b = b; at_b = at_b } in
      let u = guard_plan_accepted (all_met d) 13 (extend_end d c.id p s (cond at_b j i)) plan h in
      (refl, end_held p s (cond at_b j i) plan u.1)
  extend_kind p (Arc m i j) plan h = let z : ◌≡◌ {A = ℕ} 0 1 = cc in absurd (omega arith)
  extend_kind p (Circle m r) plan h = let z : ◌≡◌ {A = ℕ} 0 1 = cc in absurd (omega arith)
  extend_kind p (Bezier n) plan h = let z : ◌≡◌ {A = ℕ} 0 1 = cc in absurd (omega arith)
  extend_kind p (Conic i m j rho) plan h = let z : ◌≡◌ {A = ℕ} 0 1 = cc in absurd (omega arith)

  pub extend_moves_end : (p : Vec2) (plan : Plan) → extend_curve d p c c.kind ≡ Accepted plan → (is_line c.kind ≡ true) × Moves d c.id plan
  extend_moves_end p plan h = extend_kind p c.kind plan h
