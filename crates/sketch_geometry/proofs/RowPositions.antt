-- Points found in an image's records are the ones that its table holds, and one that has moved is where it moved to. Assumes nothing.
use mathlib.Core.Path.{◌≡◌, refl, sym, ap, ◌∙◌}
use mathlib.Core.Bool.{Bool, true, false, ◌||◌}
use mathlib.Core.List.{List, [], ◌∷◌, map}
use Prim.Native.Nat.{ℕ, ◌/◌, ◌≤◌, ◌<◌}
use native.Mathlib.Omega.{arith}
use lib.ListN.{length, length-map}
use lib.Dec.{eqb}
use borrow.Author.Tests.{ne_eqb, eqb-true}
use Rattle.geom.specs.Plane.{vec}
use Rattle.geom.specs.declared.Vec2.{Vec2}
use Rattle.sketch.specs.declared.Point.{Point}
use Rattle.sketch.specs.Blanks.{no_point}
use Rattle.sketch.specs.Lists.{ite}
use Rattle.sketch.specs.Lookup.{among, Found}
use Rattle.sketch.specs.Drawing.{point_ids}
use Rattle.sketch.proofs.Ascent.{among_at}
use Rattle.sketch.proofs.Facts.{get_or_mapped}
use Rattle.image.specs.Records.{point_size}
use Rattle.image.specs.Decode.{read_point}
use Rattle.rows.specs.Rows.{row_in, ids_in, HoldsPoints}
use Rattle.rows.proofs.Holds as H
use Rattle.edit_plan.specs.Tables.{moved}
use Rattle.sketch_geometry.specs.declared.Moved.{Moved}
use Rattle.std.specs.Prelude.{Option, Some, None}
use Rattle.sketch_geometry.specs.Geometry.{nowhere, position_of}
use Rattle.sketch_geometry.specs.Positions.{points_after_move}
use Rattle.sketch_geometry.proofs.Found.{point_at_lem, point_nowhere}

-- ---- a point that has moved

module _ (i : ℕ) (v : Vec2) where
  moved_ids : (ps : List Point) → point_ids (map (moved i v) ps) ≡ point_ids ps
  moved_ids [] = refl
  moved_ids (p ∷ ps) = ap (λ (l : List ℕ). p.id ∷ l) (moved_ids ps)

  moved_itself : (ps : List Point) → among i (point_ids ps) ≡ true → position_of (map (moved i v) ps) i ≡ v
  unfolding position_of
  moved_itself [] h = let z : ◌≡◌ {A = ℕ} 0 1 = cc in absurd (omega arith)
  moved_itself (p ∷ ps) h = go (eqb i p.id) h (moved_itself ps)
    where
      go : (b : Bool) → (b || among i (point_ids ps)) ≡ true → (among i (point_ids ps) ≡ true → position_of (map (moved i v) ps) i ≡ v)
          → ite b (vec (ite b v.x p.x) (ite b v.y p.y)) (position_of (map (moved i v) ps) i) ≡ v
      go true h w = refl
      go false h w = w h

  module _ (id : ℕ) (n : i ≡ id → ⊥) where
    pub moved_other : (ps : List Point) → position_of (map (moved i v) ps) id ≡ position_of ps id
    unfolding position_of
    moved_other [] = refl
    moved_other (p ∷ ps) = go (eqb id p.id) refl (moved_other ps)
      where
        go : (b : Bool) → eqb id p.id ≡ b → position_of (map (moved i v) ps) id ≡ position_of ps id
            → ite b (vec (ite (eqb i p.id) v.x p.x) (ite (eqb i p.id) v.y p.y)) (position_of (map (moved i v) ps) id) ≡ ite b (vec p.x p.y) (position_of ps id)
        go true e w = let q : i ≡ p.id → ⊥ = (λ z. n (z ∙ sym (eqb-true id p.id e))) in rw (ne_eqb i p.id q)
        go false e w = w

-- every other point stays
module _ (ps : List Point) (id : ℕ) {m : Option Moved} where
  pub none_moved : m ≡ None → position_of ps id ≡ position_of (points_after_move m ps) id
  unfolding points_after_move
  none_moved e = rw e

  pub another_moved : {x : Moved} → m ≡ Some x → (x.point ≡ id → ⊥) → position_of ps id ≡ position_of (points_after_move m ps) id
  unfolding points_after_move
  another_moved {x} e h = rw e (sym (moved_other x.point x.to id h ps))

-- ---- a point by its id

module _ {ps : List Point} {points : List ℕ} (w : HoldsPoints ps points) {id k : ℕ} (f : Found id (ids_in point_size points) k) where
  module _ (q : k < length points / point_size) where
    within : k < length ps
    within = rw (H.held_points w) q

    pub position_row : vec (read_point (row_in point_size points k)).x (read_point (row_in point_size points k)).y ≡ position_of ps id
    position_row =
        ap (λ (p : Point). vec p.x p.y) (H.held_point w k q) ∙ sym (point_at_lem ps k (H.point_ids_rise w) within) ∙ ap (position_of ps) (H.point_here w f q)

    there : among id (point_ids ps) ≡ true
    there = among_at id (point_ids ps) k (rw (length-map ps (λ (p : Point). p.id)) within) (get_or_mapped (λ (p : Point). p.id) 0 no_point ps k within ∙ H.point_here w f q)

    pub moved_there : {m : Option Moved} {x : Moved} → m ≡ Some x → x.point ≡ id → x.to ≡ position_of (points_after_move m ps) id
    unfolding points_after_move
    moved_there {x = x} e h = rw (e, h) (sym (moved_itself id x.to ps there))

  module _ (q : length points / point_size ≤ k) where
    pub position_missing : nowhere ≡ position_of ps id
    position_missing = sym (point_nowhere id ps (H.point_nowhere w f q))

    pub missing_after : (m : Option Moved) → nowhere ≡ position_of (points_after_move m ps) id
    unfolding points_after_move
    missing_after None = position_missing
    missing_after (Some x) = sym (point_nowhere id (map (moved x.point x.to) ps) (rw (moved_ids x.point x.to ps) (H.point_nowhere w f q)))
