-- What the writer needs of a sketch, and what it leaves in the buffer.
use mathlib.Core.Path.{◌≡◌, refl, sym, ◌∙◌}
use mathlib.Core.Bool.{Bool, true, false, ◌&&◌}
use mathlib.Core.List.{List, [], ◌∷◌, ◌++◌, map, append_assoc}
use Prim.Native.Nat.{ℕ, zero, suc, ◌+◌, ◌*◌, ◌≤◌, ◌<◌}
use native.Mathlib.Nat.{zero-add}
use native.Mathlib.Omega.{arith}
use lib.ListN.{length, take, get_or, length-map}
use lib.Seq.{length-take-le}
use lib.Dec.{leb, eqb}
use borrow.Author.Tests.{le-leb, lt-leb, ne_eqb, eq-eqb, eqb-true}
use Rattle.big_endian.specs.Fields.{over, over_if_fits}
use Rattle.big_endian.specs.Laws.{Run, run_over, over_fits}
use Rattle.image.proofs.Tables.{Sized, sized_all, length_concat_map}
use Rattle.image.proofs.Points.{length_point}
use Rattle.image.proofs.Curves.{length_curve}
use Rattle.image.proofs.Relations.{length_relation}
use Rattle.image.proofs.Headers.{length_header}
use Rattle.image.proofs.Sizes.{image_size}
use Rattle.sketch.specs.Lists.{ite, guard_number, concat_map}
use Rattle.sketch.specs.Drawing.{view, limits}
use Rattle.sketch.specs.Valid.{sketch_fault}
use Rattle.sketch.specs.declared.Curve.{Curve}
use Rattle.sketch.specs.declared.Sketch.{Sketch}
use Rattle.sketch.proofs.Sketches.{sketch_valid}
use Rattle.image.specs.Stored.{Each}
use Rattle.image.specs.Image.{size_of, header_size, max_image_size}
use Rattle.image.specs.Encode.{encode_point, encode_curve, encode_relation, header, encode, drawing_size}
use Rattle.sketch_image.specs.SketchImage.{write_fault, ImageWritten}
use Rattle.image.specs.Records.{curve_size, point_size, relation_size}

-- ---- records

-- what is written where it fits is written
pub over_where_fits : (l : List ℕ) (at : ℕ) (b : List ℕ) {m : List ℕ} {size : ℕ} → length b ≡ size → at + size ≤ length l → m ≡ over_if_fits l at b → m ≡ over l at b
over_where_fits l at b e h w = w ∙ over_fits l at b (rw e h)

-- a curve of eight slots is written in a record's size
pub each_at : {A : Type 0} (P : A → Type 0) (l : List A) (i : ℕ) (none : A) → Each P l → i < length l → P (get_or l i none)
each_at P [] i none w q = absurd (omega arith)
each_at P (a ∷ l) zero none w q = w.0
each_at P (a ∷ l) (suc i) none w q = each_at P l i none w.1 (omega arith)

each_sized : (cs : List Curve) → Each (λ (c : Curve). length c.slots ≡ 8) cs → Sized encode_curve curve_size cs
each_sized [] w = tt
each_sized (c ∷ cs) w = (length_curve c w.0, each_sized cs w.1)

-- ---- a sketch

-- a sketch without a fault: its counts
pub record Ready (sk : Sketch) : Type 0 where
  pub few_points : sk.npoints ≤ 512
  pub few_curves : sk.ncurves ≤ 128
  pub few_relations : sk.nrelations ≤ 256

pub ready : (sk : Sketch) {r : ℕ} → r ≡ sketch_fault sk → r ≡ 0 → Ready sk
ready sk e z =
    let w = sketch_valid sk (sym e ∙ z) in
    record {
      few_points = w.0.points;
      few_curves = w.0.curves;
      few_relations = w.0.relations;
    }

-- what is answered for its image's size
abbrev pub SizeIs : Sketch → ℕ → Type 0
SizeIs sk n = n ≡ ite (leb sk.npoints limits.points && leb sk.ncurves limits.curves && leb sk.nrelations limits.relations) (size_of sk.npoints sk.ncurves sk.nrelations) 0

pub ready_size : (sk : Sketch) {n : ℕ} → Ready sk → SizeIs sk n → n ≡ size_of sk.npoints sk.ncurves sk.nrelations
ready_size sk w h = h ∙ rw (le-leb sk.npoints 512 w.few_points, le-leb sk.ncurves 128 w.few_curves, le-leb sk.nrelations 256 w.few_relations)

module _ (sk : Sketch) (before : List ℕ) {r : ℕ} (e : r ≡ sketch_fault sk) where
  -- a sketch that no image gives
  pub unfit : (r ≡ 0 → ⊥) → ImageWritten sk before before r
  unfolding guard_number
  unfit n =
      let t : eqb (sketch_fault sk) 0 ≡ false = ne_eqb (sketch_fault sk) 0 (λ z. n (e ∙ z)) in
      record { number = rw t e; buffer = rw (t, t) }

  module _ (z : r ≡ 0) (p : length sk.points ≡ 512) (c : length sk.curves ≡ 128) (l : length sk.relations ≡ 256) where
    size : drawing_size (view sk) ≡ size_of sk.npoints sk.ncurves sk.nrelations
    size =
        let w = ready sk e z in
        let lp = length-take-le sk.npoints sk.points (omega (arith, w.few_points)) in
        let lc = length-take-le sk.ncurves sk.curves (omega (arith, w.few_curves)) in
        let lr = length-take-le sk.nrelations sk.relations (omega (arith, w.few_relations)) in
        rw (lp, lc, length-map, lr)

    -- a buffer that is too short
    pub short : {n : ℕ} → SizeIs sk n → length before < n → ImageWritten sk before before 25
    unfolding guard_number
    short is h =
        let s = ready_size sk (ready sk e z) is in
        let t : eqb (sketch_fault sk) 0 ≡ true = eq-eqb (sketch_fault sk) 0 (sym e ∙ z) in
        let u : leb (drawing_size (view sk)) (length before) ≡ false = lt-leb (drawing_size (view sk)) (length before) (omega (arith, size, s)) in
        record { number = rw (t, u); buffer = rw (t, u) }

    -- the image, part by part
    pub wrote : {b1 b2 b3 b4 : List ℕ} {n : ℕ} → SizeIs sk n → n ≤ length before
        → b1 ≡ ite (leb sk.npoints limits.points && leb sk.ncurves limits.curves && leb sk.nrelations limits.relations) (over_if_fits before 0 (header sk.next sk.npoints sk.ncurves sk.nrelations)) before
        → b2 ≡ over b1 header_size (concat_map encode_point (take sk.npoints sk.points))
        → b3 ≡ over b2 (header_size + sk.npoints * point_size) (concat_map encode_curve (take sk.ncurves sk.curves))
        → Each (λ c. length c.slots ≡ 8) (take sk.ncurves sk.curves)
        → b4 ≡ over b3 (header_size + sk.npoints * point_size + sk.ncurves * curve_size) (concat_map encode_relation (map (λ r. r.relation) (take sk.nrelations sk.relations)))
        → ImageWritten sk before b4 0
    unfolding guard_number encode
    wrote {b1} {b2} {b3} {b4} is below e1 e2 e3 s3 e4 =
        let w = ready sk e z in
        let h : size_of sk.npoints sk.ncurves sk.nrelations ≤ length before = omega (arith, ready_size sk w is) in
        let np = sk.npoints in
        let nc = sk.ncurves in
        let nr = sk.nrelations in
        let ps = take np sk.points in
        let rs = map (λ r. r.relation) (take nr sk.relations) in
        let lp : length ps ≡ np = length-take-le np sk.points (omega (arith, w.few_points)) in
        let lc : length (take nc sk.curves) ≡ nc = length-take-le nc sk.curves (omega (arith, w.few_curves)) in
        let lr : length rs ≡ nr = length-map (take nr sk.relations) (λ r. r.relation) ∙ length-take-le nr sk.relations (omega (arith, w.few_relations)) in
        let n2 : length (concat_map encode_point ps) ≡ np * point_size = length_concat_map encode_point point_size ps (sized_all encode_point point_size length_point ps) ∙ rw lp in
        let n3 : length (concat_map encode_curve (take nc sk.curves)) ≡ nc * curve_size = length_concat_map encode_curve curve_size (take nc sk.curves) (each_sized (take nc sk.curves) s3) ∙ rw lc in
        let n4 : length (concat_map encode_relation rs) ≡ nr * relation_size = length_concat_map encode_relation relation_size rs (sized_all encode_relation relation_size length_relation rs) ∙ rw lr in
        let lh : length (header sk.next np nc nr) ≡ header_size = length_header sk.next np nc nr in
        let f1 : b1 ≡ over before 0 (header sk.next np nc nr) =
        e1 ∙ rw (le-leb np 512 w.few_points, le-leb nc 128 w.few_curves, le-leb nr 256 w.few_relations) (over_fits before 0 (header sk.next np nc nr) (omega arith)) in
        let r1 : Run before 0 header_size (header sk.next np nc nr) b1 = record { is = f1; long = lh } in
        let r2 = run_over before 0 header_size (np * point_size) (header sk.next np nc nr) (concat_map encode_point ps) b1 b2 (omega arith) n2 r1 e2 in
        let r3 = run_over before 0 (header_size + np * point_size) (nc * curve_size) (header sk.next np nc nr ++ concat_map encode_point ps) (concat_map encode_curve (take nc sk.curves)) b2 b3 (omega arith) n3 r2 (rw zero-add e3) in
        let r4 = run_over before 0 (header_size + np * point_size + nc * curve_size) (nr * relation_size) ((header sk.next np nc nr ++ concat_map encode_point ps) ++ concat_map encode_curve (take nc sk.curves)) (concat_map encode_relation rs) b3 b4 (omega arith) n4 r3 (rw zero-add e4) in
        let t : eqb (sketch_fault sk) 0 ≡ true = eq-eqb (sketch_fault sk) 0 (sym e ∙ z) in
        let u : leb (drawing_size (view sk)) (length before) ≡ true = le-leb (drawing_size (view sk)) (length before) (rw size h) in
        record { number = rw (t, u); buffer = rw (t, u) (r4.is ∙ rw (lp, lc, lr) (simp append_assoc)) }

-- a buffer for the largest image is too short for none
pub write_fault_lem : (s : Sketch) (room : ℕ) → room ≡ max_image_size → write_fault s room ≡ sketch_fault s
unfolding guard_number
write_fault_lem s room e = go (eqb (sketch_fault s) 0) refl
  where
    go : (b : Bool) → eqb (sketch_fault s) 0 ≡ b → guard_number b (sketch_fault s) (guard_number (leb (drawing_size (view s)) room) 25 0) ≡ sketch_fault s
    go true h =
        let z = eqb-true (sketch_fault s) 0 h in
        let fits = le-leb (drawing_size (view s)) room (omega (arith, image_size (view s) (sketch_valid s z).1)) in
        rw fits (sym z)
    go false h = refl
