-- A good image: its records are numbers, and its drawing breaks no rule.
use mathlib.Core.Path.{◌≡◌, refl, sym, ◌∙◌}
use mathlib.Core.Bool.{Bool, true, false}
use mathlib.Core.List.{List, [], ◌∷◌, map}
use Prim.Native.Nat.{ℕ}
use Rattle.big_endian.specs.Laws.{Bytes}
use Rattle.sketch.specs.Lists.{every}
use Rattle.sketch.specs.Drawing.{limits}
use Rattle.sketch.specs.Valid.{ok_point, ok_curve, ok_relation, fault_of}
use Rattle.sketch.proofs.Bools.{and_both}
use Rattle.image.specs.Records.{point_form, point_of, curve_form, curve_of, relation_form, relation_of}
use Rattle.image.specs.Image.{point_rows, curve_rows, relation_rows, drawing_of, image_fault, good_point, good_curve, good_relation}
use Rattle.image.specs.Decode.{read_point, read_curve, read_relation, plain_point, plain_curve, plain_relation}
use Rattle.image.proofs.Plain.{point_lost, curve_lost, relation_lost, read_point_is, read_curve_is, read_relation_is}
use Rattle.image.proofs.RoundTrips.{image_kept, records_agree}

-- what every good record is
every_so : (f g : List ℕ → Bool) → ((r : List ℕ) → f r ≡ true → g r ≡ true) → (rows : List (List ℕ)) → every f rows ≡ true → every g rows ≡ true
every_so f g so [] h = refl
every_so f g so (r ∷ rows) h =
    let k = and_both (f r) _ h in
    rw (so r k.0, every_so f g so rows k.1)

not_lost : (good plain : List ℕ → Bool) → ((r : List ℕ) → plain r ≡ false → good r ≡ false) → (r : List ℕ) → good r ≡ true → plain r ≡ true
not_lost good plain lost r h = go (plain r) refl
  where
    go : (t : Bool) → plain r ≡ t → t ≡ true
    go true e = refl
    go false e = sym (lost r e) ∙ h

map_so : {A : Type 0} (f g : List ℕ → A) (plain : List ℕ → Bool) → ((r : List ℕ) → plain r ≡ true → f r ≡ g r) → (rows : List (List ℕ)) → every plain rows ≡ true → map f rows ≡ map g rows
map_so f g plain so [] h = refl
map_so f g plain so (r ∷ rows) h =
    let k = and_both (plain r) _ h in
    rw (so r k.0, map_so f g plain so rows k.1)

module _ (s : List ℕ) (e : image_fault s ≡ 0) where
  pub plain_points : every plain_point (point_rows s) ≡ true
  plain_points = every_so good_point plain_point (not_lost good_point plain_point point_lost) (point_rows s) (image_kept s e).points_pass

  pub plain_curves : every plain_curve (curve_rows s) ≡ true
  plain_curves = every_so good_curve plain_curve (not_lost good_curve plain_curve curve_lost) (curve_rows s) (image_kept s e).curves_pass

  pub plain_relations : every plain_relation (relation_rows s) ≡ true
  plain_relations = every_so good_relation plain_relation (not_lost good_relation plain_relation relation_lost) (relation_rows s) (image_kept s e).relations_pass

  pub drawing_good : Bytes s → fault_of limits (drawing_of s) ≡ 0
  drawing_good b =
      let k = image_kept s e in
      sym (records_agree s
      (every_so good_point point_form (λ r h. (and_both (point_form r) (ok_point (point_of r)) h).0) (point_rows s) k.points_pass)
      (every_so good_curve curve_form (λ r h. (and_both (curve_form r) (ok_curve (curve_of r)) h).0) (curve_rows s) k.curves_pass)
      (every_so good_relation relation_form (λ r h. (and_both (relation_form r) (ok_relation (relation_of r)) h).0) (relation_rows s) k.relations_pass)
      b k.head)
      ∙ k.records_pass

  -- so that the values that are read are those of the drawing
  pub points_read : map read_point (point_rows s) ≡ (drawing_of s).points
  points_read = map_so read_point point_of plain_point read_point_is (point_rows s) plain_points

  pub curves_read : map read_curve (curve_rows s) ≡ (drawing_of s).curves
  curves_read = map_so read_curve curve_of plain_curve read_curve_is (curve_rows s) plain_curves

  pub relations_read : map read_relation (relation_rows s) ≡ (drawing_of s).relations
  relations_read = map_so read_relation relation_of plain_relation read_relation_is (relation_rows s) plain_relations
