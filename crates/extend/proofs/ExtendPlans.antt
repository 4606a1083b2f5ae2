-- The plan of an extend, one law for each way out of the code. Assumes nothing.
use mathlib.Core.Path.{◌≡◌, refl, sym, ap, ◌∙◌}
use mathlib.Core.Bool.{Bool, true, false, not, ◌||◌, cond}
use mathlib.Core.List.{List, [], ◌∷◌}
use mathlib.Core.Option.{none}
use Prim.Native.Nat.{ℕ, zero, suc, ◌<◌}
use native.Mathlib.Omega.{arith}
use lib.ListN.{length, get_or, length-map}
use lib.Ieee.{Float, le}
use borrow.Author.Tests.{eq-eqb, ne_eqb}
use Rattle.geom.specs.Plane.{distance}
use Rattle.geom.specs.declared.Vec2.{Vec2}
use Rattle.shape.specs.declared.Shape.{Shape}
use Rattle.shape.specs.declared.Shape.TheVariants as S
use Rattle.shape.specs.Measures.{param, point}
use Rattle.sketch.specs.declared.Point.{Point}
use Rattle.sketch.specs.declared.Curve.{Curve}
use Rattle.sketch.specs.declared.CurveKind.{CurveKind}
use Rattle.sketch.specs.declared.CurveKind.TheVariants.{Line, Arc, Circle, Bezier, Conic}
use Rattle.sketch.specs.Lookup.{among, Ascends}
use Rattle.sketch.specs.Blanks.{no_point}
use Rattle.sketch.specs.Drawing.{Drawing, point_ids, curve_in}
use Rattle.sketch.proofs.Ascent.{above_ascends, above_at}
use Rattle.sketch.proofs.Bools.{never}
use Rattle.sketch.proofs.Facts.{get_or_mapped}
use Rattle.sketch_geometry.specs.Geometry.{position_of}
use Rattle.relations.specs.Met.{all_met}
use Rattle.edit_plan.specs.declared.Pin.{Pin}
use Rattle.edit_plan.specs.declared.Plan.TheVariants as P
use Rattle.edit_plan.specs.Tables.{uses, others}
use Rattle.edit_plan.specs.Steps.{ends_at, is_line}
use Rattle.std.specs.Prelude.{Result, Ok, Err}
use Rattle.std.specs.Prelude as O
use Rattle.refusal.specs.declared.Refusal.{Refusal}
use Rattle.refusal.specs.Refusals.{number, Refused}
use Rattle.hit_search.specs.declared.Nearest.{Nearest}
use Rattle.planning.specs.Planning.{PlanResult, guard_plan}
use Rattle.hit_search.specs.NearestHit.{Support, Search, finished, nearest_hit}
use Rattle.extend.specs.Extend.{plan_move, is_fixed, extend_end, extend_curve}
use Rattle.hit_search.specs.Values.{support, best_in, search_in}

-- ---- the end that moves

pub fixed_at : (ps : List Point) (k : ℕ) → Ascends (point_ids ps) → k < length ps → is_fixed ps (get_or ps k no_point).id ≡ (get_or ps k no_point).fixed
unfolding is_fixed
fixed_at [] k h q = absurd (omega arith)
fixed_at (p ∷ ps) zero h q = rw (eq-eqb p.id p.id refl)
fixed_at (p ∷ ps) (suc k) h q =
    let u = above_at p.id (point_ids ps) k h (rw (length-map ps (λ (x : Point). x.id)) (omega arith)) in
    let e = get_or_mapped (λ (x : Point). x.id) 0 no_point ps k (omega arith) in
    rw (ne_eqb (get_or ps k no_point).id p.id (λ x. omega arith)) (fixed_at ps k (above_ascends p.id (point_ids ps) h) (omega arith))

module _ (d : Drawing) (id : ℕ) (p : Vec2) (s : Support) (end : ℕ) {used : Bool} (u : used ≡ among end (uses (others id d.curves))) where
  abbrev line : Shape
  line = S.Line s.a s.b

  abbrev planned : PlanResult
  planned = plan_move d s.at_b (nearest_hit d.points s (point line (param line p)) (others id d.curves) none 1000000)

  pub end_used : used ≡ true → Refused 14 ≡ extend_end d id p s end
  unfolding extend_end guard_plan
  end_used h = sym (ap (λ b. guard_plan (not (b || is_fixed d.points end)) 14 planned) (sym u ∙ h))

  module _ (h : used ≡ false) {fixed : Bool} (f : is_fixed d.points end ≡ fixed) where
    free : extend_end d id p s end ≡ guard_plan (not fixed) 14 planned
    unfolding extend_end
    free = ap (λ b. guard_plan (not (b || is_fixed d.points end)) 14 planned) (sym u ∙ h) ∙ ap (λ b. guard_plan (not b) 14 planned) f

    pub end_stuck : fixed ≡ true → Refused 14 ≡ extend_end d id p s end
    unfolding guard_plan
    end_stuck g = sym (free ∙ ap (λ b. guard_plan (not b) 14 planned) g)

    module _ (g : fixed ≡ false) {sh : Shape} {t : Float} {foot : Vec2} (l : sh ≡ line) (m : t ≡ param sh p) (n : foot ≡ point sh t) where
      pub end_by_nearest_hit : {x : Search} → x ≡ nearest_hit d.points s foot (others id d.curves) none 1000000 → {r : PlanResult} → r ≡ plan_move d s.at_b x → r ≡ extend_end d id p s end
      unfolding guard_plan
      end_by_nearest_hit {x} e k =
          let z : foot ≡ point line (param line p) = n ∙ ap (point sh) m ∙ ap (λ (y : Shape). point y (param y p)) l in
          k ∙ ap (plan_move d s.at_b) (e ∙ ap (λ (q : Vec2). nearest_hit d.points s q (others id d.curves) none 1000000) z)
          ∙ sym (free ∙ ap (λ b. guard_plan (not b) 14 planned) g)

-- what was reached, as a plan
module _ (d : Drawing) (at_b : Bool) {x : Result (O.Option Nearest) Refusal} where
  pub reached_stop : {why : Refusal} → x ≡ Err why → Refused (number why) ≡ plan_move d at_b (search_in x)
  unfolding plan_move
  reached_stop e = sym (ap (λ (y : Result (O.Option Nearest) Refusal). plan_move d at_b (search_in y)) e)

  pub reached_best : {best : O.Option Nearest} → x ≡ Ok best → {r : PlanResult} → r ≡ plan_move d at_b (finished (best_in best)) → r ≡ plan_move d at_b (search_in x)
  reached_best e h = h ∙ sym (ap (λ (y : Result (O.Option Nearest) Refusal). plan_move d at_b (search_in y)) e)

-- ---- the curve

pub not_line_lem : (d : Drawing) (p : Vec2) (c : Curve) (k : CurveKind) → ((i j : ℕ) → k ≡ Line i j → ⊥) → Refused 10 ≡ extend_curve d p c k
unfolding extend_curve
not_line_lem d p c (Line i j) h = absurd (h i j refl)
not_line_lem d p c (Arc m i j) h = refl
not_line_lem d p c (Circle m r) h = refl
not_line_lem d p c (Bezier n) h = refl
not_line_lem d p c (Conic i m j rho) h = refl

pub unmet_line : (d : Drawing) (p : Vec2) (c : Curve) (k : CurveKind) → is_line k ≡ true → all_met d ≡ false → Refused 13 ≡ extend_curve d p c k
unfolding extend_curve guard_plan
unmet_line d p c (Line i j) h m = sym (rw m)
unmet_line d p c (Arc o i j) h m = never h
unmet_line d p c (Circle o r) h m = never h
unmet_line d p c (Bezier n) h m = never h
unmet_line d p c (Conic i o j rho) h m = never h

module _ (d : Drawing) (p : Vec2) (c : Curve) {k : CurveKind} {i j : ℕ} (e : k ≡ Line i j) where
  abbrev nearer : Bool
  nearer = le (distance p (position_of d.points j)) (distance p (position_of d.points i))

  abbrev ended : PlanResult
  ended = extend_end d c.id p (support (position_of d.points i) (position_of d.points j) nearer) (cond nearer j i)

  module _ (m : all_met d ≡ true) {a b : Vec2} (u : a ≡ position_of d.points i) (v : b ≡ position_of d.points j) {da db : Float} (x : db ≡ distance p b) (y : da ≡ distance p a) where
    as_measured : extend_end d c.id p (support a b (le db da)) (cond (le db da) j i) ≡ extend_curve d p c k
    unfolding extend_curve guard_plan
    as_measured = rw (x, y, u, v) (sym (ap (extend_curve d p c) e ∙ ap (λ t. guard_plan t 13 ended) m))

    pub line_at : {end : ℕ} → end ≡ cond (le db da) j i → {r : PlanResult} → r ≡ extend_end d c.id p (support a b (le db da)) end → r ≡ extend_curve d p c k
    line_at h f = f ∙ ap (extend_end d c.id p (support a b (le db da))) h ∙ as_measured
