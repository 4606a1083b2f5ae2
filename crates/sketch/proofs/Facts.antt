-- A drawing breaks no rule exactly where the facts of a valid one hold.
use mathlib.Core.Path.{◌≡◌, refl, ◌∙◌}
use mathlib.Core.Bool.{Bool, true, false, not, ◌&&◌, ◌||◌}
use mathlib.Core.List.{List, [], ◌∷◌, map}
use mathlib.Core.Option.{some, none}
use Prim.Native.Nat.{ℕ, zero, suc, ◌<◌}
use native.Mathlib.Omega.{arith}
use lib.ListN.{length, get_or, length-map}
use lib.Dec.{leb, ltb, eqb}
use borrow.Author.Tests.{leb-true, ltb-true, le-leb, lt-ltb, eq-eqb, ne_eqb}
use Rattle.sketch.specs.declared.Point.{Point}
use Rattle.sketch.specs.declared.Curve.{Curve}
use Rattle.sketch.specs.declared.Relation.{Relation}
use Rattle.sketch.specs.Lists.{guard_number, ite}
use Rattle.sketch.specs.Lookup.{among, Above, Ascends, sort_among}
use Rattle.sketch.specs.Drawing.{Drawing, Limits, curve_in, point_ids, curve_ids}
use Rattle.sketch.specs.Valid.{ok_point, ok_number, ok_curve, ok_relation, sort_of, is_line_sort, sound_curve, sound_relation, has_point, sort_at, sort_in, table_fault, list_fault, curves_fault, relations_fault, fault_of}
use Rattle.sketch.specs.Columns.{sorts_of}
use Rattle.sketch.specs.Facts.{Every, Rising, Valid}
use Rattle.sketch.proofs.Bools.{never, and_left, and_right, and_both, both, all_three, three, or_left_false, or_right_false}
use Rattle.sketch.proofs.Ascent.{above_ascends, above_at}

-- ---- rules

-- a rule's number is not 0, so that 0 means that the test holds and the later rules do
pub guard_number_none : (b : Bool) (n rest : ℕ) → 0 < n → guard_number b n rest ≡ 0 → (b ≡ true) × (rest ≡ 0)
unfolding guard_number
guard_number_none true n rest p h = (refl, h)
guard_number_none false n rest p h = absurd (omega arith)

pub guard_number_kept : (b : Bool) (n rest : ℕ) → guard_number b (suc n) rest ≡ 0 → (b ≡ true) × (rest ≡ 0)
guard_number_kept b n rest e = guard_number_none b (suc n) rest (omega arith) e

pub none_guard_number : (b : Bool) (n rest : ℕ) → b ≡ true → rest ≡ 0 → guard_number b n rest ≡ 0
unfolding guard_number
none_guard_number true n rest h k = k
none_guard_number false n rest h k = never h

-- ---- ids that rise

pub rising_above : (next below : ℕ) (is : List ℕ) → Rising next below is → Above below is
rising_above next below [] h = tt
rising_above next below (i ∷ is) h = (h.0, rising_above next i is h.2)

pub rising_ascends : (next below : ℕ) (is : List ℕ) → Rising next below is → Ascends is
rising_ascends next below is h = above_ascends below is (rising_above next below is h)

pub rising_below : (next below : ℕ) (is : List ℕ) (k : ℕ) → Rising next below is → k < length is → get_or is k 0 < next
rising_below next below [] k h q = absurd (omega arith)
rising_below next below (i ∷ is) zero h q = h.1
rising_below next below (i ∷ is) (suc k) h q = rising_below next i is k h.2 (omega arith)

-- ---- tables

module _ {A : Type 0} (id : A → ℕ) (ok sound : A → Bool) (next : ℕ) where
  -- what no fault of a table means
  pub record Table (last : ℕ) (l : List A) : Type 0 where
    pub rise : Rising next last (map id l)
    pub oks : Every ok l
    pub sounds : Every sound l

  pub table_facts : (last : ℕ) (l : List A) (rest : ℕ) → table_fault id ok sound next last l rest ≡ 0 → Table last l × (rest ≡ 0)
  table_facts last [] rest h = (record { rise = tt; oks = tt; sounds = tt }, h)
  table_facts last (a ∷ l) rest h =
      let above : Bool = ltb last (id a) in
      let below : Bool = ltb (id a) next in
      let p = guard_number_none (ok a) 4 _ (omega arith) h in
      let q = guard_number_none (above && below && sound a) 5 _ (omega arith) p.1 in
      let u = all_three above below (sound a) q.0 in
      let k = table_facts (id a) l rest q.1 in (
        record {
          rise = (ltb-true _ _ u.0, ltb-true _ _ u.1, k.0.rise);
          oks = (p.0, k.0.oks);
          sounds = (u.2, k.0.sounds);
        },
        k.1,
      )

  -- a column of a table's ids rises where the table has no fault
  pub table_ascends : (last : ℕ) (l : List A) (column : List ℕ) → table_fault id ok sound next last l 0 ≡ 0 → column ≡ map id l → Ascends column
  table_ascends last l column h e = rw e (rising_ascends next last (map id l) (table_facts last l 0 h).0.rise)

  pub facts_table : (last : ℕ) (l : List A) (rest : ℕ) → Table last l → rest ≡ 0 → table_fault id ok sound next last l rest ≡ 0
  facts_table last [] rest t h = h
  facts_table last (a ∷ l) rest t h =
      let above : Bool = ltb last (id a) in
      let below : Bool = ltb (id a) next in
      none_guard_number (ok a) 4 _ t.oks.0
      (none_guard_number (above && below && sound a) 5 _
      (three above below (sound a) (lt-ltb _ _ t.rise.0) (lt-ltb _ _ t.rise.1) t.sounds.0)
      (facts_table (id a) l rest (record { rise = t.rise.2; oks = t.oks.1; sounds = t.sounds.1 }) h))

  -- what comes after a table counts where the table has no fault
  pub table_rest : (last : ℕ) (l : List A) (rest : ℕ) → table_fault id ok sound next last l rest ≡ guard_number (eqb (table_fault id ok sound next last l 0) 0) (table_fault id ok sound next last l 0) rest
  unfolding guard_number
  table_rest last [] rest = refl
  table_rest last (a ∷ l) rest = go (ok a) (ltb last (id a) && ltb (id a) next && sound a) (table_rest (id a) l rest)
    where
      later : ℕ → ℕ
      later n = table_fault id ok sound next (id a) l n

      go : (u v : Bool) → later rest ≡ guard_number (eqb (later 0) 0) (later 0) rest → guard_number u 4 (guard_number v 5 (later rest)) ≡ guard_number (eqb (guard_number u 4 (guard_number v 5 (later 0))) 0) (guard_number u 4 (guard_number v 5 (later 0))) rest
      go true true e = e
      go true false e = refl
      go false v e = refl

  pub table_first : (last : ℕ) (l : List A) (rest n : ℕ) → n ≡ table_fault id ok sound next last l 0 → (n ≡ 0 → ⊥) → table_fault id ok sound next last l rest ≡ n
  unfolding guard_number
  table_first last l rest n e h = table_rest last l rest ∙ rw (← e, ne_eqb n 0 h)

  pub table_later : (last : ℕ) (l : List A) (rest : ℕ) → table_fault id ok sound next last l 0 ≡ 0 → table_fault id ok sound next last l rest ≡ rest
  unfolding guard_number
  table_later last l rest e = table_rest last l rest ∙ rw (eq-eqb _ 0 e)

module _ {A : Type 0} (ok sound : A → Bool) where
  pub list_facts : (l : List A) → list_fault ok sound l ≡ 0 → Every ok l × Every sound l
  list_facts [] h = (tt, tt)
  list_facts (a ∷ l) h =
      let p = guard_number_none (ok a) 4 _ (omega arith) h in
      let q = guard_number_none (sound a) 5 _ (omega arith) p.1 in
      let k = list_facts l q.1 in
      ((p.0, k.0), (q.0, k.1))

  pub facts_list : (l : List A) → Every ok l → Every sound l → list_fault ok sound l ≡ 0
  facts_list [] o s = refl
  facts_list (a ∷ l) o s = none_guard_number (ok a) 4 _ o.0 (none_guard_number (sound a) 5 _ s.0 (facts_list l o.1 s.1))

-- ---- drawings

every_true : {A : Type 0} (l : List A) → Every (λ (a : A). true) l
every_true [] = tt
every_true (a ∷ l) = (refl, every_true l)

module _ (m : Limits) (d : Drawing) where
  abbrev few_points : Bool
  few_points = leb (length d.points) m.points

  abbrev few_curves : Bool
  few_curves = leb (length d.curves) m.curves

  abbrev few_relations : Bool
  few_relations = leb (length d.relations) m.relations

  abbrev low : Bool
  low = leb 1 d.next

  abbrev high : Bool
  high = leb d.next m.ids

  pub fault_valid : fault_of m d ≡ 0 → Valid m d
  fault_valid h =
      let p = guard_number_none (few_points && few_curves && few_relations) 3 _ (omega arith) h in
      let q = guard_number_none (low && high) 4 _ (omega arith) p.1 in
      let t = table_facts (λ (x : Point). x.id) ok_point (λ (x : Point). true) d.next 0 d.points _ q.1 in
      let c = table_facts (λ (x : Curve). x.id) ok_curve (sound_curve (has_point d.points)) d.next 0 d.curves _ t.1 in
      let r = list_facts ok_relation (sound_relation (has_point d.points) (sort_in d.curves)) d.relations c.1 in
      let u = all_three few_points few_curves few_relations p.0 in
      record {
        points_fit = leb-true _ _ u.0;
        curves_fit = leb-true _ _ u.1;
        relations_fit = leb-true _ _ u.2;
        next_low = leb-true _ _ (and_left low high q.0);
        next_high = leb-true _ _ (and_right low high q.0);
        points_rise = t.0.rise;
        curves_rise = c.0.rise;
        points_ok = t.0.oks;
        curves_ok = c.0.oks;
        relations_ok = r.0;
        curves_sound = c.0.sounds;
        relations_sound = r.1;
      }

  pub valid_fault : Valid m d → fault_of m d ≡ 0
  valid_fault v =
      none_guard_number (few_points && few_curves && few_relations) 3 _
      (three few_points few_curves few_relations (le-leb _ _ v.points_fit) (le-leb _ _ v.curves_fit) (le-leb _ _ v.relations_fit))
      (none_guard_number (low && high) 4 _ (both low high (le-leb _ _ v.next_low) (le-leb _ _ v.next_high))
      (facts_table (λ (x : Point). x.id) ok_point (λ (x : Point). true) d.next 0 d.points _
      (record { rise = v.points_rise; oks = v.points_ok; sounds = every_true d.points })
      (facts_table (λ (x : Curve). x.id) ok_curve (sound_curve (has_point d.points)) d.next 0 d.curves _
      (record { rise = v.curves_rise; oks = v.curves_ok; sounds = v.curves_sound })
      (facts_list ok_relation (sound_relation (has_point d.points) (sort_in d.curves)) d.relations v.relations_ok v.relations_sound))))

-- ---- columns of a drawing's ids and sorts

pub sort_among_lem : (cs : List Curve) (i : ℕ) → sort_among i (curve_ids cs) (sorts_of cs) ≡ sort_in cs i
unfolding sort_among curve_in sort_at
sort_among_lem [] i = refl
sort_among_lem (c ∷ cs) i = go (eqb i c.id) (sort_among_lem cs i)
  where
    go : (b : Bool) → sort_among i (curve_ids cs) (sorts_of cs) ≡ sort_in cs i → ite b (sort_of c.kind) (sort_among i (curve_ids cs) (sorts_of cs)) ≡ sort_at (ite b (some c) (curve_in cs i))
    go true e = refl
    go false e = e

pub curves_by_column :
    (next : ℕ) {points : List ℕ} (ps : List Point) (cs : List Curve) (rest : ℕ)
    → points ≡ point_ids ps
    → table_fault (λ (c : Curve). c.id) ok_curve (sound_curve (λ i. among i points)) next 0 cs rest ≡ curves_fault next ps cs rest
curves_by_column next ps cs rest e = simp e

pub relations_by_columns :
    {points curves sorts : List ℕ} (ps : List Point) (cs : List Curve) (rs : List Relation)
    → points ≡ point_ids ps → curves ≡ curve_ids cs → sorts ≡ sorts_of cs
    → list_fault ok_relation (sound_relation (λ i. among i points) (λ i. sort_among i curves sorts)) rs ≡ relations_fault ps cs rs
relations_by_columns ps cs rs e f g = simp (e, f, g, sort_among_lem)

-- ---- a curve by its place

pub get_or_mapped : {A B : Type 0} (f : A → B) (y : B) (z : A) (l : List A) (k : ℕ) → k < length l → get_or (map f l) k y ≡ f (get_or l k z)
get_or_mapped f y z [] k q = absurd (omega arith)
get_or_mapped f y z (a ∷ l) zero q = refl
get_or_mapped f y z (a ∷ l) (suc k) q = get_or_mapped f y z l k (omega arith)

-- ids rise, so that the curve at a place is the one that a look-up of its id finds
pub curve_at_lem : (z : Curve) (cs : List Curve) (k : ℕ) → Ascends (curve_ids cs) → k < length cs → curve_in cs (get_or cs k z).id ≡ some (get_or cs k z)
unfolding curve_in
curve_at_lem z [] k h q = absurd (omega arith)
curve_at_lem z (c ∷ cs) zero h q = rw (eq-eqb c.id c.id refl)
curve_at_lem z (c ∷ cs) (suc k) h q =
    let u = above_at c.id (curve_ids cs) k h (rw (length-map cs (λ (x : Curve). x.id)) (omega arith)) in
    let e = get_or_mapped (λ (x : Curve). x.id) 0 z cs k (omega arith) in
    rw (ne_eqb (get_or cs k z).id c.id (λ x. omega arith)) (curve_at_lem z cs k (above_ascends c.id (curve_ids cs) h) (omega arith))

pub curve_nowhere : (i : ℕ) (cs : List Curve) → among i (curve_ids cs) ≡ false → curve_in cs i ≡ none
unfolding curve_in
curve_nowhere i [] h = refl
curve_nowhere i (c ∷ cs) h =
    rw (or_left_false (eqb i c.id) (among i (curve_ids cs)) h) (curve_nowhere i cs (or_right_false (eqb i c.id) (among i (curve_ids cs)) h))

-- a curve that passes has a number in range
pub ok_number_lem : (c : Curve) → ok_curve c ≡ true → ok_number c.kind ≡ true
ok_number_lem c e =
    let line = not c.infinite || is_line_sort (sort_of c.kind) in
    (and_both line (ok_number c.kind) (and_both (line && ok_number c.kind) _ e).0).1
