-- Points and relations added to a valid drawing: it stays valid, and grows. Assumes nothing.
use mathlib.Core.Path.{◌≡◌, refl, ◌∙◌}
use mathlib.Core.Bool.{true}
use mathlib.Core.List.{List, [], ◌∷◌}
use Prim.Native.Nat.{ℕ, suc, ◌≤◌}
use native.Mathlib.Omega.{arith}
use borrow.Author.Tests.{ltb-true}
use Rattle.geom.specs.declared.Vec2.{Vec2}
use Rattle.sketch.specs.declared.Relation.{Relation}
use Rattle.sketch.specs.Lists.{every}
use Rattle.sketch.specs.Drawing.{Drawing, Limits}
use Rattle.sketch.specs.Valid.{ok_relation, sound_relation}
use Rattle.sketch.specs.Facts.{Valid}
use Rattle.sketch.proofs.Bools.{both}
use Rattle.edit_plan.specs.Tables.{add_point, add_relation}
use Rattle.edit_plan.specs.Steps.{add_points}
use Rattle.edit_plan.proofs.Tables.{Holds, holds_then, holds_guard}
use Rattle.chains.proofs.Grown.{has, sort_on, Grown, grown_refl, grown_trans}
use Rattle.chains.proofs.Steps.{grown_point, new_point_lem, valid_point, grown_relation, valid_relation}

-- ids from lo on, rising
abbrev pub UpFrom : ℕ → List ℕ → Type 0
UpFrom lo [] = Unit {0}
UpFrom lo (p ∷ ps) = (lo ≤ p) × UpFrom (suc p) ps

pub up_less : (lo lo' : ℕ) (ps : List ℕ) → lo' ≤ lo → UpFrom lo ps → UpFrom lo' ps
up_less lo lo' [] g h = tt
up_less lo lo' (p ∷ ps) g h = (omega arith, h.1)

pub record Kept (m : Limits) (d d' : Drawing) : Type 0 where
  pub valid : Valid m d'
  pub grown : Grown d d'

module _ (m : Limits) where
  pub kept_trans : {d e f : Drawing} → Kept m d e → Kept m e f → Kept m d f
  kept_trans g h = record { valid = h.valid; grown = grown_trans g.grown h.grown }

  pub record PointHeld (d d' : Drawing) (p : ℕ) : Type 0 where
    pub held : Kept m d d'
    pub there : has d' p ≡ true
    pub is : p ≡ d.next
    pub next : d'.next ≡ suc d.next
    pub curves : d'.curves ≡ d.curves

  keep_point : (d : Drawing) (s : Vec2) → Valid m d → Holds (PointHeld d) (add_point m d s)
  keep_point d s v =
      holds_guard (PointHeld d) _ 23 _ λ a. holds_guard (PointHeld d) _ 22 _ λ b. holds_guard (PointHeld d) _ 24 _ λ c.
      record {
        held = record { valid = valid_point m d v s (ltb-true _ _ a) (ltb-true _ _ b) c; grown = grown_point m d v s };
        there = new_point_lem m d v s;
        is = refl;
        next = refl;
        curves = refl;
      }

  pub record PointsHeld (d d' : Drawing) (ps : List ℕ) : Type 0 where
    pub held : Kept m d d'
    pub there : every (has d') ps ≡ true
    pub up : UpFrom d.next ps
    pub curves : d'.curves ≡ d.curves

  pub keep_points : (d : Drawing) (ss : List Vec2) → Valid m d → Holds (PointsHeld d) (add_points m d ss)
  keep_points d [] v = record { held = record { valid = v; grown = grown_refl d }; there = refl; up = tt; curves = refl }
  keep_points d (s ∷ ss) v =
      holds_then (PointHeld d) (PointsHeld d) (add_point m d s) _ (keep_point d s v) λ d' p h.
      holds_then (PointsHeld d') (PointsHeld d) (add_points m d' ss) _ (keep_points d' ss h.held.valid) λ d'' ps k.
      record {
        held = kept_trans h.held k.held;
        there = both (has d'' p) (every (has d'') ps) (k.held.grown.points p h.there) k.there;
        up = (omega (arith, h.is), up_less d'.next (suc p) ps (omega (arith, h.is, h.next)) k.up);
        curves = k.curves ∙ h.curves;
      }

  pub keep_relation : (d : Drawing) (r : Relation) → Valid m d → ok_relation r ≡ true → sound_relation (has d) (sort_on d) r ≡ true → Holds (λ d' u. Kept m d d') (add_relation m d r)
  keep_relation d r v o s =
      holds_guard (λ d' u. Kept m d d') _ 22 _ λ a. record { valid = valid_relation m d v r (ltb-true _ _ a) o s; grown = grown_relation m d v r }
