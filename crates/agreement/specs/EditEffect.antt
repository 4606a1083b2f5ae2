-- What one accepted edit does to a drawing's curves, as far as chains and rings need it: each edit has to meet this. Definitions only.
use Rattle.std.specs.Prelude.{◌≡◌, true, false, List, [], ◌∷◌, ℕ, ◌≤◌, ◌<◌, length}
use Rattle.std.proofs.Math.Option.{some}
use Rattle.sketch.specs.declared.Curve.{Curve}
use Rattle.sketch.specs.Lookup.{among}
use Rattle.edit_plan.specs.declared.Removed.{Removed}
use Rattle.edit_plan.specs.Counts.{occurrences}
use Rattle.edit_plan.specs.Changes.{is_circle}
use Rattle.agreement.specs.Families.{CurveView, added, Member, member_ids, Joined, ValidMembers, whole_circle, centre_at}

module _ {D : Type 0} (v : CurveView D) where
  -- the curve t, from a to b, became pieces: one stays t, the others are new
  pub record Pieces (d : D) (t : ℕ) (d' : D) (r : Removed) (a b : ℕ) : Type 0 where
    pub list : List Member
    -- each stands in d' or is the one reported, and they join t's old ends
    pub right : ValidMembers v d' (r ∷ []) list
    pub joined : Joined a list b
    -- they are t and what was added, each once
    pub are : (i : ℕ) → occurrences i (member_ids list) ≡ occurrences i (t ∷ added v d d' r)
    pub once : (i : ℕ) → occurrences i (t ∷ added v d d' r) ≤ 1
    -- what was added has ids that no curve had before
    pub new : (i : ℕ) → 0 < occurrences i (added v d d' r) → (v.next d ≤ i) × (i < v.next d')

  -- what became of the circle t: it was removed whole and so reported, or arcs that lead from a point back to it
  pub data CircleEffect (d : D) (t : ℕ) (d' : D) (r : Removed) : Type 0 where
    removed_whole : r ≡ whole_circle t → added v d d' r ≡ [] → among t (v.ids d') ≡ false → CircleEffect d t d' r
    cut_to_arcs : (r ≡ whole_circle t → ⊥) → 0 < length (added v d d' r) → (p : ℕ) → 0 < p → Pieces d t d' r p p → CircleEffect d t d' r

  pub record EditEffect (d : D) (t : ℕ) (d' : D) (r : Removed) : Type 0 where
    -- the next id doesn't fall
    pub grows : v.next d ≤ v.next d'
    -- t stood in d
    pub stood : 0 < occurrences t (v.ids d)
    -- any other curve stands or not as before, with its ends
    pub others : (i : ℕ) → i < v.next d → (i ≡ t → ⊥) → (v.ends d' i ≡ v.ends d i) × (occurrences i (v.ids d') ≡ occurrences i (v.ids d))
    -- and with its record
    pub others_curve : (i : ℕ) → i < v.next d → (i ≡ t → ⊥) → v.curve d' i ≡ v.curve d i
    pub pieces : (a b : ℕ) → v.ends d t ≡ some (a, b) → Pieces d t d' r a b
    pub circle : (k : Curve) → v.curve d t ≡ some k → is_circle k.kind ≡ true → CircleEffect d t d' r
    -- of t and what was added, that which stands has t's centre, if it had one
    pub centred : (i : ℕ) → 0 < occurrences i (t ∷ added v d d' r) → among i (v.ids d') ≡ true → centre_at (v.curve d' i) ≡ centre_at (v.curve d t)
