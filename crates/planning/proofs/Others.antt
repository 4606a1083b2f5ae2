-- Whatever cuts a curve is another curve of the drawing, and what it is held by another's. Assumes nothing.
use mathlib.Core.Path.{◌≡◌, refl, sym, ap, ◌∙◌}
use mathlib.Core.Bool.{Bool, true, false, not, ◌&&◌, cond}
use mathlib.Core.List.{List, [], ◌∷◌, ◌++◌}
use mathlib.Core.Option.{Option, some, none}
use Prim.Native.Nat.{ℕ}
use native.Mathlib.Omega.{arith}
use lib.Dec.{eqb}
use lib.Ieee.{Float, lt}
use borrow.Author.Tests.{eqb-false, not-true}
use Rattle.float.specs.Order.{before}
use Rattle.geom.specs.declared.Vec2.{Vec2}
use Rattle.shape.specs.declared.Shape.{Shape}
use Rattle.shape.specs.Measures.{is_full, param}
use Rattle.sketch.specs.declared.Point.{Point}
use Rattle.sketch.specs.declared.Curve.{Curve}
use Rattle.sketch.specs.Lists.{ite, keep}
use Rattle.sketch.specs.Lookup.{among}
use Rattle.sketch.specs.Drawing.{Drawing, curve_ids, curve_in, uses_of}
use Rattle.sketch.specs.Facts.{Every}
use Rattle.sketch.proofs.Bools.{and_left, and_right, both}
use Rattle.sketch_geometry.specs.Geometry.{shape_of}
use Rattle.cuts.specs.declared.Cutter.{Cutter}
use Rattle.cuts.specs.declared.Cut.{Cut}
use Rattle.cuts.specs.Lists.{first_or, last_or}
use Rattle.cuts.specs.Cuts.{mk_cut, cuts_here, cut_step, cuts_on, cuts_by, cuts_among, cutter_of, cutters_of}
use Rattle.cuts.specs.Bracket.{insert_cut, sort_cuts, in_order, interior, last_one, first_one, beside, around, bracket}
use Rattle.edit_plan.specs.declared.Pin.TheVariants.{On, At}
use Rattle.edit_plan.specs.Tables.{uses, others}
use Rattle.edit_plan.specs.Steps.{ends_of, ends_at}
use Rattle.edit_plan.specs.Suited.{PinHolds}
use Rattle.chains.proofs.Pins.{ends_used}
use Rattle.edit_plan.proofs.Every.{every_append, every_keep, or_right, among_left, among_right, among_same}
use Rattle.edit_plan.proofs.Tables.{look_stays}
use Rattle.planning.specs.Planning.{cuts_of, near_end, pin_to}

-- ---- cuts come from the curves that were asked

module _ (P : ℕ → Bool) where
  abbrev pub By : Cut → Bool
  By k = P k.by

  step_by : (sh : Shape) (o : Cutter) (found : List Cut) (q : Vec2) → P o.id ≡ true → Every By found → Every By (cut_step sh o found q)
  unfolding cut_step
  step_by sh o found q p h = go (cuts_here sh o found q)
    where
      go : (b : Bool) → Every By (cond b (found ++ mk_cut (param sh q) q o.id ∷ []) found)
      go true = every_append By found (mk_cut (param sh q) q o.id ∷ []) h (p, tt)
      go false = h

  on_by : (sh : Shape) (o : Cutter) (found : List Cut) (qs : List Vec2) → P o.id ≡ true → Every By found → Every By (cuts_on sh o found qs)
  unfolding cuts_on
  on_by sh o found [] p h = h
  on_by sh o found (q ∷ qs) p h = on_by sh o (cut_step sh o found q) qs p (step_by sh o found q p h)

  pub among_by : (sh : Shape) (os : List Cutter) (found : List Cut) → Every (λ (o : Cutter). P o.id) os → Every By found → Every By (cuts_among sh os found)
  unfolding cuts_among cuts_by
  among_by sh [] found p h = h
  among_by sh (o ∷ os) found p h = among_by sh os (cuts_by sh o found) p.1 (on_by sh o found _ p.0 h)

-- ---- a bracket's cuts are among those given

-- those that a test keeps pass it
pub kept_are : (p : Cut → Bool) (l : List Cut) → Every p (keep p l)
kept_are p [] = tt
kept_are p (k ∷ l) = go (p k) refl (kept_are p l)
  where
    go : (b : Bool) → p k ≡ b → Every p (keep p l) → Every p (ite b (k ∷ keep p l) (keep p l))
    go true e ih = (e, ih)
    go false e ih = ih

module _ (f : Cut → Bool) where
  insert_every : (k : Cut) (l : List Cut) → f k ≡ true → Every f l → Every f (insert_cut k l)
  unfolding insert_cut
  insert_every k [] p h = (p, tt)
  insert_every k (j ∷ l) p h = go (before k.t j.t) (insert_every k l p h.1)
    where
      go : (b : Bool) → Every f (insert_cut k l) → Every f (cond b (k ∷ j ∷ l) (j ∷ insert_cut k l))
      go true ih = (p, h)
      go false ih = (h.0, ih)

  sort_every : (s l : List Cut) → Every f s → Every f l → Every f (sort_cuts s l)
  unfolding sort_cuts
  sort_every s [] h k = h
  sort_every s (x ∷ l) h k = sort_every (insert_cut x s) l (insert_every x s k.0 h) k.1

  kept : (p : Cut → Bool) (l : List Cut) → Every f l → Every f (keep p l)
  kept p l h = every_keep f f p l (λ a m q e. e) h

  pub last_every : (z : Cut) (l : List Cut) → f z ≡ true → Every f l → f (last_or z l) ≡ true
  unfolding last_or
  last_every z [] p h = p
  last_every z (a ∷ l) p h = last_every a l h.0 h.1

  first_every : (z : Cut) (l : List Cut) → f z ≡ true → Every f l → f (first_or z l) ≡ true
  unfolding first_or
  first_every z [] p h = p
  first_every z (a ∷ l) p h = h.0

  last_one_lem : (l : List Cut) → Every f l → Every f (last_one l)
  unfolding last_one
  last_one_lem [] h = tt
  last_one_lem (k ∷ l) h = (last_every k l h.0 h.1, tt)

  first_one_lem : (l : List Cut) → Every f l → Every f (first_one l)
  unfolding first_one
  first_one_lem [] h = tt
  first_one_lem (k ∷ l) h = (h.0, tt)

  pub beside_every : (tq : Float) (l : List Cut) → Every f l → Every f (beside tq l)
  unfolding beside
  beside_every tq l h =
      let below : Cut → Bool = λ k. lt k.t tq in
      let past : Cut → Bool = λ k. lt tq k.t in
      every_append f (last_one (keep below l)) (first_one (keep past l)) (last_one_lem (keep below l) (kept below l h)) (first_one_lem (keep past l) (kept past l h))

  around_every : (tq : Float) (l : List Cut) → Every f l → Every f (around tq l)
  unfolding around
  around_every tq [] h = tt
  around_every tq (k ∷ []) h = tt
  around_every tq (k ∷ j ∷ l) h =
      let all : List Cut = k ∷ j ∷ l in
      let past : Cut → Bool = λ i. lt tq i.t in
      let before : Cut → Bool = λ i. not (lt tq i.t) in
      sort_every [] (last_or (last_or j l) (keep before all) ∷ first_or k (keep past all) ∷ []) tt (
        last_every (last_or j l) (keep before all) (last_every j l h.1.0 h.1.1) (kept before all h),
        (first_every k (keep past all) h.0 (kept past all h), tt),
      )

  pub bracket_every : (sh : Shape) (tq : Float) (l : List Cut) → Every f l → Every f (bracket sh tq l)
  unfolding bracket in_order
  bracket_every sh tq l h = go (is_full sh)
    where
      sorted : Every f (sort_cuts [] (keep (interior sh) l))
      sorted = sort_every [] (keep (interior sh) l) tt (kept (interior sh) l h)

      go : (b : Bool) → Every f (cond b (around tq (sort_cuts [] (keep (interior sh) l))) (beside tq (sort_cuts [] (keep (interior sh) l))))
      go true = around_every tq _ sorted
      go false = beside_every tq _ sorted

-- ---- those that were asked are other curves of the drawing

-- an id that is not t, and stands in the table
abbrev pub is_other : ℕ → List Curve → ℕ → Bool
is_other t cs i = not (eqb t i) && among i (curve_ids cs)

pub others_are : (t : ℕ) (all cs : List Curve) → ((i : ℕ) → among i (curve_ids cs) ≡ true → among i (curve_ids all) ≡ true) → Every (λ (c : Curve). is_other t all c.id) (others t cs)
others_are t all [] w = tt
others_are t all (c ∷ cs) w = go (eqb t c.id) refl (others_are t all cs (λ i h. w i (or_right (eqb i c.id) _ h)))
  where
    go : (b : Bool) → eqb t c.id ≡ b → Every (λ (x : Curve). is_other t all x.id) (others t cs) → Every (λ (x : Curve). is_other t all x.id) (ite (not b) (c ∷ others t cs) (others t cs))
    go true q ih = ih
    go false q ih = (both (not (eqb t c.id)) (among c.id (curve_ids all)) (rw q) (w c.id (among_same c.id (curve_ids cs))), ih)

shape_ids : (f : ℕ → Bool) (ps : List Point) (cs : List Curve) → Every (λ (c : Curve). f c.id) cs → Every (λ (o : Cutter). f o.id) (cutters_of ps cs)
unfolding cutter_of
shape_ids f ps [] h = tt
shape_ids f ps (c ∷ cs) h = go (shape_of ps c.kind) (shape_ids f ps cs h.1)
  where
    go : (o : Option Shape) → Every (λ (x : Cutter). f x.id) (cutters_of ps cs) → Every (λ (x : Cutter). f x.id) (cutter_of c o ++ cutters_of ps cs)
    go none ih = ih
    go (some sh) ih = (h.0, ih)

module _ (d : Drawing) (t : ℕ) (sh : Shape) where
  pub cuts_by_others : Every (By (is_other t d.curves)) (cuts_of d t sh)
  cuts_by_others =
      among_by (is_other t d.curves) sh (cutters_of d.points (others t d.curves)) []
      (shape_ids (is_other t d.curves) d.points (others t d.curves) (others_are t d.curves d.curves (λ i h. h))) tt

  pub bracket_by_others : (tq : Float) → Every (By (is_other t d.curves)) (bracket sh tq (cuts_of d t sh))
  bracket_by_others tq = bracket_every (By (is_other t d.curves)) sh tq (cuts_of d t sh) cuts_by_others

-- ---- what a cut is held by

pub uses_found : (cs : List Curve) (i : ℕ) (c : Curve) (p : ℕ) → curve_in cs i ≡ some c → among p (uses_of c.kind c.slots) ≡ true → among p (uses cs) ≡ true
unfolding curve_in
uses_found [] i c p e h = let z : ◌≡◌ {A = ℕ} 0 1 = cc in absurd (omega arith)
uses_found (x ∷ cs) i c p e h = go (eqb i x.id) e (λ z. uses_found cs i c p z h)
  where
    go : (b : Bool) → ite b (some x) (curve_in cs i) ≡ some c → (curve_in cs i ≡ some c → among p (uses cs) ≡ true) → among p (uses_of x.kind x.slots ++ uses cs) ≡ true
    go true e ih =
        let q : x ≡ c = cc in
        among_left p (uses_of x.kind x.slots) (uses cs) (ap (λ (y : Curve). among p (uses_of y.kind y.slots)) q ∙ h)
    go false e ih = among_right p (uses_of x.kind x.slots) (uses cs) (ih e)

module _ (d : Drawing) (t by : ℕ) (q : Vec2) (p : is_other t d.curves by ≡ true) where
  apart : by ≡ t → ⊥
  apart e = eqb-false t by (not-true (eqb t by) (and_left (not (eqb t by)) (among by (curve_ids d.curves)) p)) (sym e)

  on_it : PinHolds d t (On by)
  on_it = (apart, and_right (not (eqb t by)) (among by (curve_ids d.curves)) p)

  used : (x : Curve) (e : ℕ) → curve_in d.curves by ≡ some x → among e (uses_of x.kind x.slots) ≡ true → PinHolds d t (At e)
  used x e h u = uses_found (others t d.curves) by x e (look_stays t by d.curves apart ∙ h) u

  pub pin_held : PinHolds d t (pin_to d.points q by (ends_at (curve_in d.curves by)))
  unfolding pin_to ends_at
  pin_held = go (curve_in d.curves by) refl
    where
      pin_holds : (x : Curve) (e : ℕ × ℕ) → curve_in d.curves by ≡ some x → ends_of x.kind ≡ some e → (u v : Bool) → PinHolds d t (ite u (At e.0) (ite v (At e.1) (On by)))
      pin_holds x e h k true v = used x e.0 h (ends_used x.kind x.slots e k).0
      pin_holds x e h k false true = used x e.1 h (ends_used x.kind x.slots e k).1
      pin_holds x e h k false false = on_it

      ends : (x : Curve) → curve_in d.curves by ≡ some x → (o : Option (ℕ × ℕ)) → ends_of x.kind ≡ o → PinHolds d t (pin_to d.points q by o)
      ends x h none k = on_it
      ends x h (some e) k = pin_holds x e h k (near_end d.points q e.0) (near_end d.points q e.1)

      go : (o : Option Curve) → curve_in d.curves by ≡ o → PinHolds d t (pin_to d.points q by (ends_at o))
      go none h = on_it
      go (some x) h = ends x h (ends_of x.kind) refl
