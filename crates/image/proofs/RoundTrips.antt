-- Images there and back: what is written is read as what it was written from, and what is read is written as it was.
use mathlib.Core.Path.{◌≡◌, refl, sym, ap, ◌∙◌}
use mathlib.Core.Bool.{Bool, true, false, ◌&&◌}
use mathlib.Core.List.{List, [], ◌∷◌, ◌++◌, map, append_assoc, append-nil}
use Prim.Native.Nat.{ℕ, zero, suc, ◌+◌, ◌*◌, ◌-◌}
use native.Mathlib.Omega.{arith}
use lib.ListN.{length, length-append, length-map}
use lib.Seq.{take_all}
use lib.Dec.{leb}
use borrow.Author.Tests.{le-leb, eq-eqb}
use Rattle.big_endian.specs.Fields.{part}
use Rattle.big_endian.specs.Laws.{Bytes, field_lt, part_join}
use Rattle.sketch.specs.Lists.{every, concat_map, guard_number}
use Rattle.sketch.specs.Drawing.{Drawing, limits}
use Rattle.sketch.specs.Valid.{ok_point, ok_curve, ok_relation, sound_curve, sound_relation, has_point, sort_in, table_fault, list_fault, fault_of}
use Rattle.sketch.specs.Lookup.{Ascends}
use Rattle.sketch.proofs.Facts.{table_facts, list_facts, rising_ascends}
use Rattle.sketch.proofs.Bools.{and_both}
use Rattle.image.specs.Records.{point_form, point_of, curve_form, curve_of, relation_form, relation_of, curve_size, point_size, relation_size}
use Rattle.image.specs.Image.{next_at, point_count, curve_count, relation_count, size_of, curves_from, relations_from, head_fault, point_rows, curve_rows, relation_rows, drawing_of, row_id, records_fault, image_fault, refused, accepted, result_of, parse, header_size}
use Rattle.image.specs.Encode.{encode_point, encode_curve, encode_relation, header, drawing_size, encode}
use Rattle.image.specs.Stored.{Each, Stored, Id}
use Rattle.image.proofs.Tables.{length_rows, rows_join, rows_proper, concat_map_back, Sized, sized_all, length_concat_map, rows_concat_map, of_rows, table_there, list_there, every_true, table_whole, list_whole}
use Rattle.image.proofs.Points.{length_point, point_there, point_back}
use Rattle.image.proofs.Curves.{length_curve, curve_there, curve_back}
use Rattle.image.proofs.Relations.{length_relation, relation_there, relation_back}
use Rattle.image.proofs.Headers.{Head, head_kept, length_header, Fields, header_there, header_back}

-- ---- reader and test agree: an image whose records all spell something is refused just as the drawing that they spell

formed : (form : List ℕ → Bool) (r : List ℕ) → form r ≡ true → form r ≡ true
formed form r e = e

unformed : {A : Type 0} (form : List ℕ → Bool) (ok : A → Bool) (of : List ℕ → A) (r : List ℕ) → form r ≡ false → (form r && ok (of r)) ≡ false
unformed form ok of r e = rw e

pub records_agree : (s : List ℕ) → every point_form (point_rows s) ≡ true → every curve_form (curve_rows s) ≡ true → every relation_form (relation_rows s) ≡ true → Bytes s → Head s
    → records_fault s ≡ fault_of limits (drawing_of s)
unfolding guard_number
records_agree s p c r b h =
    let d = drawing_of s in
    let np : length d.points ≡ point_count s = length-map (point_rows s) point_of ∙ length_rows point_size (point_count s) s header_size in
    let nc : length d.curves ≡ curve_count s = length-map (curve_rows s) curve_of ∙ length_rows curve_size (curve_count s) s (curves_from (point_count s)) in
    let nr : length d.relations ≡ relation_count s = length-map (relation_rows s) relation_of ∙ length_rows relation_size (relation_count s) s (relations_from (point_count s) (curve_count s)) in
    let nx : Id (next_at s) = field_lt s 5 4 b in
    let low = h.next_low in
    let t1 = table_whole point_of point_form point_form (λ p. p.id) ok_point (λ p. true) (formed point_form) (unformed point_form ok_point point_of) (λ r. refl) d.next 0
    (table_fault row_id (λ r. curve_form r && ok_curve (curve_of r)) (λ r. sound_curve (has_point d.points) (curve_of r)) d.next 0 (curve_rows s)
    (list_fault (λ r. relation_form r && ok_relation (relation_of r)) (λ r. sound_relation (has_point d.points) (sort_in d.curves) (relation_of r)) (relation_rows s))) (point_rows s) p in
    let t2 = table_whole curve_of curve_form curve_form (λ c. c.id) ok_curve (sound_curve (has_point d.points)) (formed curve_form) (unformed curve_form ok_curve curve_of) (λ r. refl) d.next 0
    (list_fault (λ r. relation_form r && ok_relation (relation_of r)) (λ r. sound_relation (has_point d.points) (sort_in d.curves) (relation_of r)) (relation_rows s)) (curve_rows s) c in
    let t3 = list_whole relation_of relation_form relation_form (λ r. 0) ok_relation (sound_relation (has_point d.points) (sort_in d.curves)) (formed relation_form) (unformed relation_form ok_relation relation_of) (relation_rows s) r in
    rw (
      t1,
      t2,
      t3,
      np,
      nc,
      nr,
      le-leb (point_count s) 512 h.few_points,
      le-leb (curve_count s) 128 h.few_curves,
      le-leb (relation_count s) 256 h.few_relations,
      le-leb 1 (next_at s) low,
      le-leb (next_at s) limits.ids (omega arith),
    )

-- ---- there

each_map : {A : Type 0} {P Q : A → Type 0} → ((a : A) → P a → Q a) → (l : List A) → Each P l → Each Q l
each_map f [] w = tt
each_map f (a ∷ l) w = (f a w.0, each_map f l w.1)

and_true : (x : Bool) → (x && true) ≡ x
and_true true = refl
and_true false = refl

module _ (s : List ℕ) (d : Drawing) (w : Stored d)
    (e : s ≡ header d.next (length d.points) (length d.curves) (length d.relations) ++ (concat_map encode_point d.points ++ (concat_map encode_curve d.curves ++ concat_map encode_relation d.relations))) where
  written_points : Sized encode_point point_size d.points
  written_points = sized_all encode_point point_size length_point d.points

  written_curves : Sized encode_curve curve_size d.curves
  written_curves = each_map (λ c v. length_curve c v.eight) d.curves w.curves_fit

  written_relations : Sized encode_relation relation_size d.relations
  written_relations = sized_all encode_relation relation_size length_relation d.relations

  fields : Fields s d.next (length d.points) (length d.curves) (length d.relations)
  fields =
      header_there s (concat_map encode_point d.points ++ (concat_map encode_curve d.curves ++ concat_map encode_relation d.relations)) d.next (length d.points) (length d.curves) (length d.relations) e
      w.next_fits w.points_count w.curves_count w.relations_count

  length_image : length s ≡ size_of (length d.points) (length d.curves) (length d.relations)
  length_image =
      ap length e
      ∙ simp (length-append, length_header)
      (rw (length_concat_map encode_point point_size d.points written_points, length_concat_map encode_curve curve_size d.curves written_curves, length_concat_map encode_relation relation_size d.relations written_relations) (omega arith))

  point_rows_lem : point_rows s ≡ map encode_point d.points
  point_rows_lem =
      rw fields.points_are
      (rows_concat_map encode_point point_size d.points written_points s (header d.next (length d.points) (length d.curves) (length d.relations))
      (concat_map encode_curve d.curves ++ concat_map encode_relation d.relations) header_size e (length_header _ _ _ _))

  curve_rows_lem : curve_rows s ≡ map encode_curve d.curves
  curve_rows_lem =
      rw (fields.points_are, fields.curves_are)
      (rows_concat_map encode_curve curve_size d.curves written_curves s (header d.next (length d.points) (length d.curves) (length d.relations) ++ concat_map encode_point d.points)
      (concat_map encode_relation d.relations) (curves_from (length d.points)) (e ∙ simp append_assoc)
      (simp (length-append, length_header) (rw (length_concat_map encode_point point_size d.points written_points))))

  relation_rows_lem : relation_rows s ≡ map encode_relation d.relations
  relation_rows_lem =
      rw (fields.points_are, fields.curves_are, fields.relations_are)
      (rows_concat_map encode_relation relation_size d.relations written_relations s
      (header d.next (length d.points) (length d.curves) (length d.relations) ++ (concat_map encode_point d.points ++ concat_map encode_curve d.curves))
      [] (relations_from (length d.points) (length d.curves)) (e ∙ simp (append_assoc, append-nil))
      (simp (length-append, length_header) (rw (length_concat_map encode_point point_size d.points written_points, length_concat_map encode_curve curve_size d.curves written_curves) (omega arith))))

  points_again : map point_of (point_rows s) ≡ d.points
  points_again = rw point_rows_lem (of_rows encode_point point_of point_form ok_point (λ p. true) d.points (each_map point_there d.points w.points_fit))

  curves_again : map curve_of (curve_rows s) ≡ d.curves
  curves_again = rw curve_rows_lem (of_rows encode_curve curve_of curve_form ok_curve (λ p. true) d.curves (each_map curve_there d.curves w.curves_fit))

  relations_again : map relation_of (relation_rows s) ≡ d.relations
  relations_again = rw relation_rows_lem (of_rows encode_relation relation_of relation_form ok_relation (λ p. true) d.relations (each_map relation_there d.relations w.relations_fit))

  drawing_again : drawing_of s ≡ d
  drawing_again = rw (fields.next_is, points_again, curves_again, relations_again)

  abbrev inner : Drawing → ℕ
  inner d =
      table_fault (λ p. p.id) ok_point (λ p. true) d.next 0 d.points
      (table_fault (λ c. c.id) ok_curve (sound_curve (has_point d.points)) d.next 0 d.curves
      (list_fault ok_relation (sound_relation (has_point d.points) (sort_in d.curves)) d.relations))

  records_again : records_fault s ≡ inner d
  records_again =
      rw (
        points_again,
        curves_again,
        fields.next_is,
        point_rows_lem,
        curve_rows_lem,
        relation_rows_lem,
        table_there encode_point point_of point_form ok_point (λ p. true) (λ p. p.id) (λ r. refl) d.next 0
            (table_fault row_id (λ r. curve_form r && ok_curve (curve_of r)) (λ r. sound_curve (has_point d.points) (curve_of r)) d.next 0 (map encode_curve d.curves)
            (list_fault (λ r. relation_form r && ok_relation (relation_of r)) (λ r. sound_relation (has_point d.points) (sort_in d.curves) (relation_of r)) (map encode_relation d.relations)))
            d.points (each_map point_there d.points w.points_fit),
        table_there encode_curve curve_of curve_form ok_curve (sound_curve (has_point d.points)) (λ c. c.id) (λ r. refl) d.next 0
            (list_fault (λ r. relation_form r && ok_relation (relation_of r)) (λ r. sound_relation (has_point d.points) (sort_in d.curves) (relation_of r)) (map encode_relation d.relations))
            d.curves (each_map curve_there d.curves w.curves_fit),
        list_there encode_relation relation_of relation_form ok_relation (sound_relation (has_point d.points) (sort_in d.curves)) d.relations (each_map relation_there d.relations w.relations_fit),
      )

  image_fault_lem : image_fault s ≡ fault_of limits d
  unfolding head_fault guard_number
  image_fault_lem =
      let size = size_of (length d.points) (length d.curves) (length d.relations) in
      rw (
        records_again,
        length_image,
        le-leb 5 size (omega arith),
        fields.version_is,
        le-leb header_size size (omega arith),
        fields.length_field_is,
        eq-eqb (size - 4 + 4) size (omega arith),
        fields.points_are,
        fields.curves_are,
        fields.relations_are,
        eq-eqb size size refl,
        fields.next_is,
        le-leb d.next limits.ids (omega (arith, w.next_fits)),
        and_true (leb (length d.points) 512 && leb (length d.curves) 128 && leb (length d.relations) 256),
        and_true (leb 1 d.next),
      )

pub length_encode : (d : Drawing) → Stored d → length (encode d) ≡ drawing_size d
unfolding encode
length_encode d w = length_image (encode d) d w refl

-- the image of a drawing is refused as the drawing is, and gives that drawing where it is not
pub parse_encode : (d : Drawing) → Stored d → parse (encode d) ≡ result_of (fault_of limits d) d
unfolding encode
parse_encode d w = rw (image_fault_lem (encode d) d w refl, drawing_again (encode d) d w refl)

-- ---- back

pub result_refused : (n : ℕ) (d : Drawing) → (n ≡ 0 → ⊥) → result_of n d ≡ refused n
unfolding result_of
result_refused zero d h = absurd (h refl)
result_refused (suc n) d h = refl

pub result_accepted : (n : ℕ) (d₀ d : Drawing) → result_of n d₀ ≡ accepted d → (n ≡ 0) × (d₀ ≡ d)
unfolding result_of
result_accepted zero d₀ d e = (refl, cc)
result_accepted (suc n) d₀ d e = let z : ◌≡◌ {A = ℕ} 0 1 = cc in absurd (omega arith)

pub result_none : (n : ℕ) (d : Drawing) → n ≡ 0 → result_of n d ≡ accepted d
unfolding result_of
result_none zero d h = refl
result_none (suc n) d h = absurd (omega arith)

pub result_number : (m n : ℕ) (d e : Drawing) → result_of m d ≡ result_of n e → m ≡ n
unfolding result_of
result_number zero zero d e h = refl
result_number zero (suc n) d e h = let z : ◌≡◌ {A = ℕ} 0 1 = cc in absurd (omega arith)
result_number (suc m) zero d e h = let z : ◌≡◌ {A = ℕ} 0 1 = cc in absurd (omega arith)
result_number (suc m) (suc n) d e h = cc

pub result_drawing : (m n : ℕ) (d e : Drawing) → result_of m d ≡ result_of n e → m ≡ 0 → d ≡ e
unfolding result_of
result_drawing zero zero d e h z = cc
result_drawing zero (suc n) d e h z = let y : ◌≡◌ {A = ℕ} 0 1 = cc in absurd (omega arith)
result_drawing (suc m) n d e h z = absurd (omega arith)

-- an image without a fault, as facts
pub record Sound (s : List ℕ) : Type 0 where
  pub head : Head s
  pub points_pass : every (λ r. point_form r && ok_point (point_of r)) (point_rows s) ≡ true
  pub curves_pass : every (λ r. curve_form r && ok_curve (curve_of r)) (curve_rows s) ≡ true
  pub relations_pass : every (λ r. relation_form r && ok_relation (relation_of r)) (relation_rows s) ≡ true
  pub points_rise : Ascends (map row_id (point_rows s))
  pub curves_rise : Ascends (map row_id (curve_rows s))
  pub records_pass : records_fault s ≡ 0

pub image_kept : (s : List ℕ) → image_fault s ≡ 0 → Sound s
image_kept s e =
    let d = drawing_of s in
    let h = head_kept s (records_fault s) e in
    let l = list_fault (λ r. relation_form r && ok_relation (relation_of r)) (λ r. sound_relation (has_point d.points) (sort_in d.curves) (relation_of r)) (relation_rows s) in
    let c = table_fault row_id (λ r. curve_form r && ok_curve (curve_of r)) (λ r. sound_curve (has_point d.points) (curve_of r)) d.next 0 (curve_rows s) l in
    let t1 = table_facts row_id (λ r. point_form r && ok_point (point_of r)) (λ r. true) d.next 0 (point_rows s) c h.1 in
    let t2 = table_facts row_id (λ r. curve_form r && ok_curve (curve_of r)) (λ r. sound_curve (has_point d.points) (curve_of r)) d.next 0 (curve_rows s) l t1.1 in
    let t3 = list_facts (λ r. relation_form r && ok_relation (relation_of r)) (λ r. sound_relation (has_point d.points) (sort_in d.curves) (relation_of r)) (relation_rows s) t2.1 in
    record {
      head = h.0;
      points_pass = every_true (λ r. point_form r && ok_point (point_of r)) (point_rows s) t1.0.oks;
      curves_pass = every_true (λ r. curve_form r && ok_curve (curve_of r)) (curve_rows s) t2.0.oks;
      relations_pass = every_true (λ r. relation_form r && ok_relation (relation_of r)) (relation_rows s) t3.0;
      points_rise = rising_ascends d.next 0 (map row_id (point_rows s)) t1.0.rise;
      curves_rise = rising_ascends d.next 0 (map row_id (curve_rows s)) t2.0.rise;
      records_pass = h.1;
    }

pub encode_back : (s : List ℕ) → Bytes s → Sound s → encode (drawing_of s) ≡ s
unfolding encode
encode_back s b w =
    let h = w.head in
    let np = point_count s in
    let nc = curve_count s in
    let nr = relation_count s in
    let size = h.size in
    let lp : length (map point_of (point_rows s)) ≡ np = length-map (point_rows s) point_of ∙ length_rows point_size np s header_size in
    let lc : length (map curve_of (curve_rows s)) ≡ nc = length-map (curve_rows s) curve_of ∙ length_rows curve_size nc s (curves_from np) in
    let lr : length (map relation_of (relation_rows s)) ≡ nr = length-map (relation_rows s) relation_of ∙ length_rows relation_size nr s (relations_from np nc) in
    let p : concat_map encode_point (map point_of (point_rows s)) ≡ part s header_size (np * point_size) =
    concat_map_back encode_point point_of point_form ok_point point_size point_back (point_rows s) (rows_proper point_size np s header_size b (omega arith)) w.points_pass ∙ rows_join point_size np s header_size in
    let c : concat_map encode_curve (map curve_of (curve_rows s)) ≡ part s (curves_from np) (nc * curve_size) =
    concat_map_back encode_curve curve_of curve_form ok_curve curve_size curve_back (curve_rows s) (rows_proper curve_size nc s (curves_from np) b (omega arith)) w.curves_pass ∙ rows_join curve_size nc s (curves_from np) in
    let r : concat_map encode_relation (map relation_of (relation_rows s)) ≡ part s (relations_from np nc) (nr * relation_size) =
    concat_map_back encode_relation relation_of relation_form ok_relation relation_size relation_back (relation_rows s) (rows_proper relation_size nr s (relations_from np nc) b (omega arith)) w.relations_pass
    ∙ rows_join relation_size nr s (relations_from np nc) in
    rw (
      lp,
      lc,
      lr,
      header_back s b h,
      p,
      c,
      r,
      part_join s (curves_from np) (nc * curve_size) (nr * relation_size),
      part_join s 15 (np * point_size) (nc * curve_size + nr * relation_size),
      part_join s 0 15 (np * point_size + (nc * curve_size + nr * relation_size)),
    )
    (take_all (header_size + (np * point_size + (nc * curve_size + nr * relation_size))) s (omega arith))

-- a drawing's image is as long as the bytes that it was read from
pub size_back : (s : List ℕ) → Sound s → drawing_size (drawing_of s) ≡ length s
size_back s w =
    let lp = length-map (point_rows s) point_of ∙ length_rows point_size (point_count s) s header_size in
    let lc = length-map (curve_rows s) curve_of ∙ length_rows curve_size (curve_count s) s (curves_from (point_count s)) in
    let lr = length-map (relation_rows s) relation_of ∙ length_rows relation_size (relation_count s) s (relations_from (point_count s) (curve_count s)) in
    rw (lp, lc, lr) w.head.size

-- an accepted image, written again, is the same bytes
pub encode_parse : (s : List ℕ) (d : Drawing) → Bytes s → parse s ≡ accepted d → encode d ≡ s
encode_parse s d b e =
    let v = result_accepted (image_fault s) (drawing_of s) d e in
    rw (← v.1) (encode_back s b (image_kept s v.0))

every_first : (f g : List ℕ → Bool) (l : List (List ℕ)) → every (λ r. f r && g r) l ≡ true → every f l ≡ true
every_first f g [] h = refl
every_first f g (r ∷ l) h =
    let k = and_both (f r && g r) _ h in
    rw ((and_both (f r) (g r) k.0).0, every_first f g l k.1)

-- what an accepted image gives passes the test
pub valid : (s : List ℕ) (d : Drawing) → Bytes s → parse s ≡ accepted d → fault_of limits d ≡ 0
valid s d b e =
    let v = result_accepted (image_fault s) (drawing_of s) d e in
    let w = image_kept s v.0 in
    let a = records_agree s (every_first point_form (λ r. ok_point (point_of r)) (point_rows s) w.points_pass) (every_first curve_form (λ r. ok_curve (curve_of r)) (curve_rows s) w.curves_pass)
    (every_first relation_form (λ r. ok_relation (relation_of r)) (relation_rows s) w.relations_pass) b w.head in
    rw (← v.1) (sym a ∙ w.records_pass)
