-- Families of curves, their chains and their rings (all three the glossary's terms), over any drawing whose curves have ids, two ends where they are lines
-- or arcs, and records. Definitions only.
use Rattle.std.specs.Prelude.{◌≡◌, Bool, true, false, not, ℕ, ◌≤◌, ◌<◌, length, eqb}
use mathlib.Core.List.{List, [], ◌∷◌, ◌++◌, map, Memᴰ}
use Rattle.std.proofs.Math.Option.{Option, some, none}
use Rattle.sketch.specs.declared.Curve.{Curve}
use Rattle.sketch.specs.declared.CurveKind.{CurveKind}
use Rattle.sketch.specs.declared.CurveKind.TheVariants.{Line, Arc, Circle, Bezier, Conic}
use Rattle.sketch.specs.Lists.{ite, keep}
use Rattle.sketch.specs.Lookup.{among}
use Rattle.edit_plan.specs.declared.Removed.{Removed}
use Rattle.edit_plan.specs.Counts.{occurrences}
use Rattle.edit_plan.specs.Changes.{is_circle}
use Rattle.agreement.specs.Machines.{Entry}

-- what a drawing's curves are seen by: their ids, the ends of a line or an arc, a curve's record, the next id
pub record CurveView (D : Type 0) : Type 0 where
  pub ids : D → List ℕ
  pub ends : D → ℕ → Option (ℕ × ℕ)
  pub curve : D → ℕ → Option Curve
  pub next : D → ℕ

-- ---- families

-- the id in a report; three zeros report nothing
abbrev pub removed_ids : Removed → List ℕ
removed_ids r = ite (eqb r.curve 0) [] (r.curve ∷ [])

abbrev pub reports : {D E : Type 0} → List (Entry D E Removed) → List Removed
reports l = map (λ x. x.report) l

module _ {D : Type 0} (v : CurveView D) where
  -- the curves that an edit from d to d' added, one that it removed again too
  abbrev pub added : D → D → Removed → List ℕ
  added d d' r = keep (λ i. not (among i (v.ids d))) (v.ids d' ++ removed_ids r)

  -- a family grows where an accepted edit is one of its members'
  abbrev pub family : {E : Type 0} → (E → ℕ) → D → List ℕ → List (Entry D E Removed) → List ℕ
  family target d fam [] = fam
  family target d fam (x ∷ xs) =
      family target x.after.drawing (ite (among (target x.edit) fam) (fam ++ added d x.after.drawing x.report) fam) xs

-- ---- chains

pub record Member : Type 0 where
  pub id : ℕ
  pub from : ℕ
  pub to : ℕ
  pub stands : Bool

abbrev pub member_ids : List Member → List ℕ
member_ids ms = map (λ m. m.id) ms

-- one's end is the following one's start, from a to b
abbrev pub Joined : ℕ → List Member → ℕ → Type 0
Joined a [] b = a ≡ b
Joined a (m ∷ ms) b = (m.from ≡ a) × Joined m.to ms b

module _ {D : Type 0} (v : CurveView D) where
  -- a standing member has the drawing's ends; one that is gone has those of a report
  abbrev pub ValidMemberAs : D → List Removed → ℕ → ℕ → ℕ → Bool → Type 0
  ValidMemberAs d rs i a b true = v.ends d i ≡ some (a, b)
  ValidMemberAs d rs i a b false = (among i (v.ids d) ≡ false) × Memᴰ (record { curve = i; from = a; to = b }) rs

  abbrev pub ValidMember : D → List Removed → Member → Type 0
  ValidMember d rs m = ValidMemberAs d rs m.id m.from m.to m.stands

  abbrev pub ValidMembers : D → List Removed → List Member → Type 0
  ValidMembers d rs [] = Unit {0}
  ValidMembers d rs (m ∷ ms) = ValidMember d rs m × ValidMembers d rs ms

  -- a family's chain in a drawing, after some reports: each member once, end to start, from a to b
  pub record Chain (fam : List ℕ) (d : D) (rs : List Removed) (a b : ℕ) : Type 0 where
    pub members : List Member
    pub right : ValidMembers d rs members
    pub joined : Joined a members b
    pub each : (i : ℕ) → occurrences i (member_ids members) ≡ occurrences i fam
    pub once : (i : ℕ) → occurrences i fam ≤ 1

  -- the chain of the starting curve c, from a to b, after some accepted edits that lead from `start` to d
  abbrev pub ChainOf : {E : Type 0} → (E → ℕ) → D → List (Entry D E Removed) → D → ℕ → ℕ → ℕ → Type 0
  ChainOf target start l d c a b = Chain (family v target start (c ∷ []) l) d (reports l) a b

-- ---- rings

-- the report of a circle that is removed whole: its id and two zeros
abbrev pub whole_circle : ℕ → Removed
whole_circle c = record { curve = c; from = 0; to = 0 }

-- the report of the first accepted edit of the curve c, if there is one
abbrev pub first_report : {D E : Type 0} → (E → ℕ) → ℕ → List (Entry D E Removed) → Option Removed
first_report target c [] = none
first_report target c (x ∷ xs) = ite (eqb (target x.edit) c) (some x.report) (first_report target c xs)

-- the centre of a round (the glossary's term: an arc or a circle)
unfoldable pub centre_of : CurveKind → Option ℕ
centre_of (Line a b) = none
centre_of (Arc c a b) = some c
centre_of (Circle c r) = some c
centre_of (Bezier n) = none
centre_of (Conic a p b rho) = none

abbrev pub centre_at : Option Curve → Option ℕ
centre_at none = none
centre_at (some c) = centre_of c.kind

module _ {D : Type 0} (v : CurveView D) where
  -- a family's ring about a centre: two members or more, each once, end to start, and the last leads to the first, whose start is a point's id;
  -- those that stand, which have two ends, are arcs about the centre
  pub record Ring (fam : List ℕ) (d : D) (rs : List Removed) (centre : Option ℕ) : Type 0 where
    pub several : 1 < length fam
    pub from : ℕ
    pub above_zero : 0 < from
    pub chain : Chain v fam d rs from from
    pub centred : (i : ℕ) → 0 < occurrences i fam → among i (v.ids d) ≡ true → centre_at (v.curve d i) ≡ centre

  -- the starting circle k, its id being c, after some accepted edits that lead from `start` to d: what its first edit reported decides
  pub data CircleOf {E : Type 0} (target : E → ℕ) (start : D) (l : List (Entry D E Removed)) (d : D) (c : ℕ) (k : Curve) : Type 0 where
    -- without one it stands as it was, and is its family alone
    circle_uncut : first_report target c l ≡ none → family v target start (c ∷ []) l ≡ c ∷ [] → v.curve d c ≡ some k → CircleOf target start l d c k
    -- removed whole it is its own family, and stands no more
    circle_removed :
        first_report target c l ≡ some (whole_circle c) → family v target start (c ∷ []) l ≡ c ∷ [] → among c (v.ids d) ≡ false
        → CircleOf target start l d c k
    -- cut, its standing and removed arcs make one ring
    circle_cut :
        (r : Removed) → first_report target c l ≡ some r → (r ≡ whole_circle c → ⊥) → Ring (family v target start (c ∷ []) l) d (reports l) (centre_of k.kind)
        → CircleOf target start l d c k

-- ---- both

module _ {D : Type 0} (v : CurveView D) where
  -- after some accepted edits that lead from `start`, at whatever count that was, to d: each of its lines and arcs has its chain, and each circle became one of the three
  pub record FamiliesJoined {E : Type 0} (target : E → ℕ) (start : D) (l : List (Entry D E Removed)) (d : D) : Type 0 where
    pub chains : (c a b : ℕ) → v.ends start c ≡ some (a, b) → ChainOf v target start l d c a b
    pub circles : (c : ℕ) (k : Curve) → v.curve start c ≡ some k → is_circle k.kind ≡ true → CircleOf v target start l d c k
