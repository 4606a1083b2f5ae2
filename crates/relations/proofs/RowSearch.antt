-- The search through an image's relations: what its turns and its ways out say. Assumes nothing.
use mathlib.Core.Path.{◌≡◌, sym, ap, subst, ◌∙◌}
use mathlib.Core.Bool.{Bool, true, false, not, ◌||◌}
use mathlib.Core.List.{List, map}
use Prim.Native.Nat.{ℕ, ◌+◌, ◌≤◌, ◌<◌}
use native.Mathlib.Omega.{arith}
use Rattle.std.specs.Prelude.{Option, Some, None}
use borrow.Author.Tests.{lt-ltb, le-ltb}
use lib.ListN.{length, take, length-map, length-take}
use lib.Seq.{take_all}
use Rattle.sketch.specs.declared.Point.{Point}
use Rattle.sketch.specs.declared.Curve.{Curve}
use Rattle.sketch.specs.declared.Relation.{Relation}
use Rattle.image.specs.Decode.{read_relation}
use Rattle.image.specs.Image.{drawing_of, image_fault}
use Rattle.image.specs.Records.{relation_size}
use Rattle.rows.specs.Rows.{point_table, curve_table, relation_table, rows_in, row_in, relations_in, HoldsPoints, HoldsCurves}
use Rattle.rows.proofs.GoodTables.{relations_in_lem}
use Rattle.rows.proofs.Holds.{holds_points, holds_curves}
use Rattle.sketch_geometry.specs.declared.Moved.{Moved}
use Rattle.sketch_geometry.specs.Positions.{points_after_move}
use Rattle.relations.specs.Met.{met, first_failing, below}
use Rattle.relations.specs.Moves.{names}
use Rattle.relations.specs.ImageContracts.{MetAfter}
use Rattle.relations.proofs.Failing.{Passed, search_end, search_here, search_on}

-- the relation at a place of a table
abbrev pub relation_row : List ℕ → ℕ → Relation
relation_row relations i = read_relation (row_in relation_size relations i)

-- i of n relations pass a test
abbrev pub PassedRows : (Relation → Bool) → List ℕ → ℕ → ℕ → Type 0
PassedRows f relations n i = Passed f read_relation n (rows_in relation_size relations) i

-- a relation is met after the move
abbrev met_after : List ℕ → Option Moved → Relation → Bool
met_after s m r = met (points_after_move m (drawing_of s).points) (drawing_of s).curves r

-- a relation names neither p nor c, or is met after the move
abbrev pub met_if_named_after : ℕ → ℕ → Option Moved → List Point → List Curve → Relation → Bool
met_if_named_after p c m ps cs r = not (names p c r) || met (points_after_move m ps) cs r

-- ---- one relation

module _ (s : List ℕ) (e : image_fault s ≡ 0) {points curves : List ℕ} (u : points ≡ point_table s) (v : curves ≡ curve_table s) (m : Option Moved) (r : Relation) {b : Bool}
    (w : MetAfter points curves m r b) where
  pub met_in_image : b ≡ met_after s m r
  met_in_image =
      w (drawing_of s).points (drawing_of s).curves
      (subst (λ (t : List ℕ). HoldsPoints (drawing_of s).points t) (sym u) (holds_points s e))
      (subst (λ (t : List ℕ). HoldsCurves (drawing_of s).curves t) (sym v) (holds_curves s e))

  module _ {q : Relation} (h : r ≡ q) where
    pub row_met : met_after s m q ≡ b
    row_met = sym (met_in_image ∙ ap (met_after s m) h)

    pub named_met : (p c : ℕ) {x : Bool} → x ≡ names p c r → x ≡ true → met_if_named_after p c m (drawing_of s).points (drawing_of s).curves q ≡ b
    named_met p c k t =
        let z : names p c q ≡ true = ap (names p c) (sym h) ∙ sym k ∙ t in
        rw z row_met

pub unnamed_met : (p c : ℕ) (m : Option Moved) (ps : List Point) (cs : List Curve) {r q : Relation} {x : Bool} → r ≡ q → x ≡ names p c r → x ≡ false → met_if_named_after p c m ps cs q ≡ true
unnamed_met p c m ps cs {q = q} h k t =
    let z : names p c q ≡ false = ap (names p c) (sym h) ∙ sym k ∙ t in
    rw z

-- ---- the search

module _ (relations : List ℕ) {n : ℕ} (h : n ≡ length (relations_in relations)) {f : Relation → Bool} {i : ℕ} (w : PassedRows f relations n i) where
  as_many : n ≡ length (rows_in relation_size relations)
  as_many = h ∙ length-map (rows_in relation_size relations) read_relation

  pub row_passes : i < n → f (relation_row relations i) ≡ true → PassedRows f relations n (i + 1)
  row_passes q g = search_on w _ q (omega (arith, as_many)) g

  module _ (s : List ℕ) (e : image_fault s ≡ 0) (u : relations ≡ relation_table s) where
    all_rows : map read_relation (take n (rows_in relation_size relations)) ≡ (drawing_of s).relations
    all_rows = ap (map read_relation) (take_all n (rows_in relation_size relations) (omega (arith, as_many))) ∙ ap relations_in u ∙ relations_in_lem s e

    counted : n ≡ length (drawing_of s).relations
    counted = h ∙ ap length (ap relations_in u ∙ relations_in_lem s e)

    pub row_fails : i < n → f (relation_row relations i) ≡ false → Some i ≡ below (length (drawing_of s).relations) (first_failing f (drawing_of s).relations)
    row_fails q g =
        let first : ℕ = first_failing f (drawing_of s).relations in
        let z : i ≡ first = search_here w _ q (omega (arith, as_many)) g ∙ ap (first_failing f) all_rows in
        rw (← z, lt-ltb i (length (drawing_of s).relations) (omega (arith, counted)))

    pub rows_done : i ≤ n → n ≤ i → None ≡ below (length (drawing_of s).relations) (first_failing f (drawing_of s).relations)
    rows_done a b =
        let y : n ≡ i = omega arith in
        let z : n ≡ first_failing f (drawing_of s).relations = y ∙ search_end w (rw length-take (omega arith)) ∙ ap (first_failing f) all_rows in
        rw (← z, le-ltb n (length (drawing_of s).relations) (omega (arith, counted)))
