-- The end of the chain, at once: what is left where a piece that was added is removed. Assumes nothing.
use mathlib.Core.Path.{◌≡◌, refl, sym, ap, ◌∙◌}
use mathlib.Core.Bool.{Bool, true, false, not, ◌&&◌, ◌||◌}
use mathlib.Core.List.{List, [], ◌∷◌, ◌++◌, map}
use mathlib.Core.Option.{some}
use Prim.Native.Nat.{ℕ}
use lib.Dec.{eqb}
use borrow.Author.Tests.{eq-eqb, ne_eqb}
use Rattle.sketch.specs.declared.Point.{Point}
use Rattle.sketch.specs.declared.Curve.{Curve}
use Rattle.sketch.specs.declared.CurveKind.{CurveKind}
use Rattle.sketch.specs.declared.CurveKind.TheVariants.{Line, Arc, Circle, Bezier, Conic}
use Rattle.sketch.specs.declared.Relation.{Relation}
use Rattle.sketch.specs.Lists.{ite, every, keep, concat_map}
use Rattle.sketch.specs.Lookup.{among}
use Rattle.sketch.specs.Drawing.{Drawing, curve_ids, curve_in, uses_of, points_of, no_slots}
use Rattle.sketch.specs.Valid.{differ, distinct}
use Rattle.sketch.specs.Facts.{Every, Rising}
use Rattle.sketch.proofs.Bools.{never, and_left, and_right}
use Rattle.edit_plan.specs.declared.Pin.{Pin}
use Rattle.edit_plan.specs.declared.Pin.TheVariants.{On, At}
use Rattle.edit_plan.specs.Counts.{occurrences}
use Rattle.edit_plan.specs.Outcome.{accepted}
use Rattle.edit_plan.specs.Suited.{PinHolds}
use Rattle.edit_plan.specs.Tables.{new_curve, rekind, curves_of, uses, others, remove}
use Rattle.edit_plan.specs.Steps.{ends_of, ends_at, line_ends, release_relation, tie_relation, swap_kinds, swap, reported, removal}
use Rattle.edit_plan.specs.Changes.{is_circle, start_of, end_of, piece_of, kept_piece, gone_piece, gone_as, pin_relation, staying, unused_by}
use Rattle.edit_plan.proofs.Every.{differ_is}
use Rattle.edit_plan.proofs.Tables.{look_set, look_right, ids_set, rekind_same}
use Rattle.edit_plan.proofs.Loops.{map_append}
use Rattle.edit_plan.proofs.Leaves.{among_append, or_true, or_two}
use Rattle.sketch.proofs.Lists.{keep_append}
use Rattle.edit_plan.proofs.Unused.{uses_append}
use Rattle.edit_plan.proofs.Fresh.{unnamed}
use Rattle.edit_plan.proofs.Gone.{keep_concat_map, keep_every, in_use_stays, rekind_none, rekind_twice, remove_added, uses_rekind, keep_unnamed, freed_unnamed}
use Rattle.edit_plan.proofs.Bridge.{look_front, is_open, freed}

pub same : (n n' : ℕ) (p p' : List Point) (c c' : List Curve) (r r' : List Relation) → n ≡ n' → p ≡ p' → c ≡ c' → r ≡ r' → ◌≡◌ {A = Drawing} (record { next = n; points = p; curves = c; relations = r }) (record { next = n'; points = p'; curves = c'; relations = r' })
same n n' p p' c c' r r' a b d e =
    ap (λ z. record { next = z; points = p; curves = c; relations = r }) a ∙ ap (λ z. record { next = n'; points = z; curves = c; relations = r }) b
    ∙ ap (λ z. record { next = n'; points = p'; curves = z; relations = r }) d ∙ ap (λ z. record { next = n'; points = p'; curves = c'; relations = z }) e

-- what a valid drawing gives for a curve in it and an id that is not in use
pub record Given (d : Drawing) (c : Curve) (g : ℕ) : Type 0 where
  pub rise : Rising d.next 0 (curve_ids d.curves)
  pub found : curve_in d.curves c.id ≡ some c
  pub new : occurrences g (curve_ids d.curves) ≡ 0
  pub names : Every (unnamed g) d.relations

-- a relation that stays where the curve g goes and the points os do
abbrev pub stays : ℕ → List ℕ → Relation → Bool
stays g os r = unnamed g r && every (staying os) (points_of r)

module _ (d : Drawing) (c : Curve) (g : ℕ) (z : Given d c g) (ps : List Point) (rs : List Relation) (n : ℕ) where
  -- the target has the kind k, then come the piece g of the kind q, and ys
  abbrev pub with_pieces : CurveKind → CurveKind → Drawing
  with_pieces k q = record { next = n; points = ps; curves = map (rekind c.id k) d.curves ++ (new_curve g q c.construction ∷ []); relations = freed c d.relations ++ rs }

  new_set : (k : CurveKind) → occurrences g (curve_ids (map (rekind c.id k) d.curves)) ≡ 0
  new_set k = ap (occurrences g) (ids_set c.id k d.curves) ∙ z.new

  look_gone : (k q : CurveKind) (ys : List Curve) → curve_in (map (rekind c.id k) d.curves ++ (new_curve g q c.construction ∷ ys)) g ≡ some (new_curve g q c.construction)
  unfolding curve_in
  look_gone k q ys = look_right (map (rekind c.id k) d.curves) (new_curve g q c.construction ∷ ys) g (new_set k) ∙ rw (eq-eqb g g refl)

  -- the swap
  pub swapped : (k q : CurveKind) → swap c.id g (with_pieces k q) ≡ with_pieces q k
  unfolding swap_kinds
  swapped k q =
      let t = c.id in
      let r : Curve = rekind t k c in
      let e1 : curve_in (with_pieces k q).curves t ≡ some r = look_front (map (rekind t k) d.curves) (new_curve g q c.construction ∷ []) t r (look_set t k d.curves t c z.found) in
      let e3 : r.kind ≡ k = rekind_same t k c refl in
      rw (e1, look_gone k q [], e3)
      (ap (λ l. record { next = n; points = ps; curves = l; relations = freed c d.relations ++ rs })
      (ap (map (rekind g k)) (map_append (rekind t q) (map (rekind t k) d.curves) (new_curve g q c.construction ∷ []))
      ∙ map_append (rekind g k) (map (rekind t q) (map (rekind t k) d.curves)) (map (rekind t q) (new_curve g q c.construction ∷ []))
      ∙ ap (λ l. map (rekind g k) l ++ map (rekind g k) (map (rekind t q) (new_curve g q c.construction ∷ []))) (rekind_twice t k q d.curves)
      ∙ ap (λ l. l ++ map (rekind g k) (map (rekind t q) (new_curve g q c.construction ∷ []))) (rekind_none g k (map (rekind t q) d.curves) (new_set q))
      ∙ rw (eq-eqb g g refl)))

  module _ (k q : CurveKind) (ys : List Curve) (ny : occurrences g (curve_ids ys) ≡ 0) where
    abbrev cs : List Curve
    cs = map (rekind c.id k) d.curves ++ ys

    abbrev os : List ℕ
    os = unused_by cs (uses_of q no_slots)

    relations_left_lem : Every (stays g os) rs → keep (stays g os) (freed c d.relations ++ rs) ≡ concat_map (λ v. keep (λ r. every (staying os) (points_of r)) (release_relation c.id (line_ends c.kind) v)) d.relations ++ rs
    relations_left_lem st =
        keep_append (stays g os) (freed c d.relations) rs
        ∙ ap (λ l. keep (stays g os) (freed c d.relations) ++ l) (keep_every (stays g os) rs st)
        ∙ ap (λ l. l ++ rs)
        (keep_unnamed g (λ r. every (staying os) (points_of r)) (freed c d.relations) (freed_unnamed g c.id (line_ends c.kind) d.relations z.names)
        ∙ keep_concat_map (λ r. every (staying os) (points_of r)) (release_relation c.id (line_ends c.kind)) d.relations)

    -- the piece g goes again
    pub removal_is :
        Every (stays g os) rs
        → removal g (record { next = n; points = ps; curves = map (rekind c.id k) d.curves ++ (new_curve g q c.construction ∷ ys); relations = freed c d.relations ++ rs })
        ≡ accepted
        (record {
          next = n;
          points = keep (λ p. staying os p.id) ps;
          curves = cs;
          relations = concat_map (λ v. keep (λ r. every (staying os) (points_of r)) (release_relation c.id (line_ends c.kind) v)) d.relations ++ rs;
        })
        (reported g (ends_of q))
    unfolding ends_at
    removal_is st =
        let l : Drawing = record { next = n; points = ps; curves = map (rekind c.id k) d.curves ++ (new_curve g q c.construction ∷ ys); relations = freed c d.relations ++ rs } in
        let r : Drawing = record { next = n; points = keep (λ p. staying os p.id) ps; curves = cs; relations = concat_map (λ v. keep (λ r. every (staying os) (points_of r)) (release_relation c.id (line_ends c.kind) v)) d.relations ++ rs } in
        let e : remove g l ≡ r = remove_added g q c.construction (map (rekind c.id k) d.curves) ys (new_set k) ny n ps (freed c d.relations ++ rs)
        ∙ same n n _ _ cs cs _ _ refl refl refl (relations_left_lem st) in
        ap (λ x. accepted x (reported g (ends_at (curve_in l.curves g)))) e ∙ ap (λ x. accepted r (reported g (ends_at x))) (look_gone k q ys)

    -- ---- what is in use then

    pub used_is : (p : ℕ) → among p (uses cs) ≡ (among p (uses_of k c.slots) || among p (uses (others c.id d.curves))) || among p (uses ys)
    used_is p =
        ap (among p) (uses_append (map (rekind c.id k) d.curves) ys) ∙ among_append p (uses (map (rekind c.id k) d.curves)) (uses ys)
        ∙ ap (λ b. b || among p (uses ys)) (uses_rekind c.id c k d.next 0 p d.curves z.rise z.found)

    pub kept_used : (p : ℕ) → among p (uses_of k c.slots) ≡ true → among p (uses cs) ≡ true
    kept_used p h = used_is p ∙ rw h

    pub others_used : (p : ℕ) → among p (uses (others c.id d.curves)) ≡ true → among p (uses cs) ≡ true
    others_used p h = used_is p ∙ rw h (go (among p (uses_of k c.slots)))
      where
        go : (b : Bool) → ((b || true) || among p (uses ys)) ≡ true
        go true = refl
        go false = refl

    pub added_used : (p : ℕ) → among p (uses ys) ≡ true → among p (uses cs) ≡ true
    added_used p h = used_is p ∙ rw h (go (among p (uses_of k c.slots) || among p (uses (others c.id d.curves))))
      where
        go : (b : Bool) → (b || true) ≡ true
        go true = refl
        go false = refl

    -- ---- what stays

    pub point_stays : (p : ℕ) → among p (uses cs) ≡ true → staying os p ≡ true
    point_stays p h = in_use_stays cs (uses_of q no_slots) p h

    pub tie_stays : (b : Bool) (h : ℕ) → (g ≡ c.id → ⊥) → (g ≡ h → ⊥) → stays g os (tie_relation b c.id h) ≡ true
    unfolding curves_of points_of
    tie_stays true h n m = rw (ne_eqb g c.id n, ne_eqb g h m)
    tie_stays false h n m = rw (ne_eqb g c.id n, ne_eqb g h m)

    pub pin_stays : (w : Pin) (p : ℕ) → PinHolds d c.id w → (among-old : (i : ℕ) → among i (curve_ids d.curves) ≡ true → g ≡ i → ⊥) → among p (uses cs) ≡ true → stays g os (pin_relation w p) ≡ true
    unfolding pin_relation curves_of points_of
    pin_stays (On i) p h old u = rw (ne_eqb g i (old i h.1), point_stays p u)
    pin_stays (At e) p h old u = rw (point_stays p u, point_stays e (others_used e h))

    pub none_go : Every (λ p. among p (uses cs)) (uses_of q no_slots) → os ≡ []
    none_go h = go (uses_of q no_slots) h
      where
        go : (l : List ℕ) → Every (λ p. among p (uses cs)) l → unused_by cs l ≡ []
        go [] h = refl
        go (p ∷ l) h = rw h.0 (go l h.1)

-- ---- which points pieces use

pub end_used : (b : Bool) (k : CurveKind) (x m y : ℕ) (s : List ℕ) → (is_open k || is_circle k) ≡ true → among m (uses_of (kept_piece k b x m y) s) ≡ true
unfolding uses_of piece_of is_open is_circle
end_used true (Line a z) x m y s h = rw (eq-eqb m m refl)
end_used true (Arc o a z) x m y s h = rw (eq-eqb m m refl) (or_true (eqb m o))
end_used true (Circle o r) x m y s h = rw (eq-eqb m m refl) (or_true (eqb m o))
end_used false (Line a z) x m y s h = rw (eq-eqb m m refl) (or_true (eqb m x))
end_used false (Arc o a z) x m y s h = rw (eq-eqb m m refl) (or_two (eqb m o) (eqb m x))
end_used false (Circle o r) x m y s h = rw (eq-eqb m m refl) (or_two (eqb m o) (eqb m x))
end_used b (Bezier n) x m y s h = never h
end_used b (Conic u q v rho) x m y s h = never h

pub report_is : (b : Bool) (k : CurveKind) (g x m y : ℕ) → (is_open k || is_circle k) ≡ true → reported g (ends_of (gone_piece k b x m y)) ≡ gone_as g b x m y
unfolding reported ends_of piece_of is_open is_circle
report_is true (Line a z) g x m y h = refl
report_is true (Arc o a z) g x m y h = refl
report_is true (Circle o r) g x m y h = refl
report_is false (Line a z) g x m y h = refl
report_is false (Arc o a z) g x m y h = refl
report_is false (Circle o r) g x m y h = refl
report_is b (Bezier n) g x m y h = never h
report_is b (Conic u q v rho) g x m y h = never h

-- the far end alone may be removed with a piece of a line or an arc: u says what is used then, v what other curves use
pub far_alone :
    (b : Bool) (k : CurveKind) (i : ℕ) (s : List ℕ) (u v : ℕ → Bool) → is_open k ≡ true → distinct k ≡ true → (start_of k ≡ i → ⊥) → (end_of k ≡ i → ⊥)
    → ((p : ℕ) → u p ≡ (among p (uses_of (kept_piece k b (start_of k) i (end_of k)) s) || v p))
    → keep (λ p. not (u p)) (uses_of (gone_piece k b (start_of k) i (end_of k)) no_slots) ≡ keep (λ p. not (v p)) (ite b (start_of k) (end_of k) ∷ [])
unfolding uses_of piece_of start_of end_of distinct is_open
far_alone true (Line x y) i s u v o t n m f =
    let ui : u i ≡ true = f i ∙ rw (eq-eqb i i refl) in
    let ux : u x ≡ v x = f x ∙ rw (ne_eqb x i n, ne_eqb x y (differ_is x y t)) in
    rw (ui, ux)
far_alone false (Line x y) i s u v o t n m f =
    let ui : u i ≡ true = f i ∙ rw (eq-eqb i i refl, or_true (eqb i x)) in
    let uy : u y ≡ v y = f y ∙ rw (ne_eqb y x (λ e. differ_is x y t (sym e)), ne_eqb y i m) in
    rw (ui, uy)
far_alone true (Arc w x y) i s u v o t n m f =
    let wx = differ_is w x (and_left (differ w x) (differ w y) (and_left (differ w x && differ w y) (differ x y) t)) in
    let xy = differ_is x y (and_right (differ w x && differ w y) (differ x y) t) in
    let uw : u w ≡ true = f w ∙ rw (eq-eqb w w refl) in
    let ui : u i ≡ true = f i ∙ rw (eq-eqb i i refl, or_true (eqb i w)) in
    let ux : u x ≡ v x = f x ∙ rw (ne_eqb x w (λ e. wx (sym e)), ne_eqb x i n, ne_eqb x y xy) in
    rw (uw, ui, ux)
far_alone false (Arc w x y) i s u v o t n m f =
    let wy = differ_is w y (and_right (differ w x) (differ w y) (and_left (differ w x && differ w y) (differ x y) t)) in
    let xy = differ_is x y (and_right (differ w x && differ w y) (differ x y) t) in
    let uw : u w ≡ true = f w ∙ rw (eq-eqb w w refl) in
    let ui : u i ≡ true = f i ∙ rw (eq-eqb i i refl, or_two (eqb i w) (eqb i x)) in
    let uy : u y ≡ v y = f y ∙ rw (ne_eqb y w (λ e. wy (sym e)), ne_eqb y x (λ e. xy (sym e)), ne_eqb y i m) in
    rw (uw, ui, uy)
far_alone b (Circle w r) i s u v o t n m f = never o
far_alone b (Bezier x) i s u v o t n m f = never o
far_alone b (Conic x p y rho) i s u v o t n m f = never o

-- a circle's halves use the same points
pub halves_alike :
    (b : Bool) (k : CurveKind) (i j : ℕ) (s : List ℕ) (u : ℕ → Bool) → is_circle k ≡ true
    → ((p : ℕ) → among p (uses_of (kept_piece k b i j i) s) ≡ true → u p ≡ true) → Every u (uses_of (gone_piece k b i j i) no_slots)
unfolding uses_of piece_of is_circle
halves_alike b (Line x y) i j s u o f = never o
halves_alike b (Arc w x y) i j s u o f = never o
halves_alike true (Circle w r) i j s u o f = (f w (rw (eq-eqb w w refl)), (f i (rw (eq-eqb i i refl) (or_two (eqb i w) (eqb i j))), (f j (rw (eq-eqb j j refl) (or_true (eqb j w))), tt)))
halves_alike false (Circle w r) i j s u o f = (f w (rw (eq-eqb w w refl)), (f j (rw (eq-eqb j j refl) (or_two (eqb j w) (eqb j i))), (f i (rw (eq-eqb i i refl) (or_true (eqb i w))), tt)))
halves_alike b (Bezier n) i j s u o f = never o
halves_alike b (Conic x p y rho) i j s u o f = never o

-- what a middle piece uses, the first or the last does
pub middle_used :
    (k : CurveKind) (x i j y : ℕ) (s : List ℕ) (u : ℕ → Bool) → is_open k ≡ true
    → ((p : ℕ) → among p (uses_of (piece_of k x i) s) ≡ true → u p ≡ true) → ((p : ℕ) → among p (uses_of (piece_of k j y) no_slots) ≡ true → u p ≡ true) → Every u (uses_of (piece_of k i j) no_slots)
unfolding uses_of piece_of is_open
middle_used (Line a b) x i j y s u o f l = (f i (rw (eq-eqb i i refl) (or_true (eqb i x))), (l j (rw (eq-eqb j j refl)), tt))
middle_used (Arc w a b) x i j y s u o f l = (f w (rw (eq-eqb w w refl)), (f i (rw (eq-eqb i i refl) (or_two (eqb i w) (eqb i x))), (l j (rw (eq-eqb j j refl) (or_true (eqb j w))), tt)))
middle_used (Circle w r) x i j y s u o f l = never o
middle_used (Bezier n) x i j y s u o f l = never o
middle_used (Conic a p b rho) x i j y s u o f l = never o
