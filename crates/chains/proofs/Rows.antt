-- A curve laid out as a row of pieces: the first keeps its id, the others come after, end to start. Assumes nothing.
use mathlib.Core.Path.{◌≡◌, refl, sym, ap, ◌∙◌, subst}
use mathlib.Core.Bool.{Bool}
use mathlib.Core.List.{List, [], ◌∷◌, ◌++◌, map, append_assoc}
use mathlib.Core.Option.{some}
use Prim.Native.Nat.{ℕ, ◌<◌}
use native.Mathlib.Omega.{arith}
use lib.ListN.{length}
use Rattle.sketch.specs.declared.Curve.{Curve}
use Rattle.sketch.specs.declared.CurveKind.{CurveKind}
use Rattle.sketch.specs.Drawing.{Drawing, Limits, curve_ids, curve_in}
use Rattle.edit_plan.specs.Tables.{add_curve, rekind, set_kind}
use Rattle.edit_plan.specs.Steps.{ends_of, ends_at, links, add_curves, add_pieces}
use Rattle.edit_plan.proofs.Tables.{Holds, holds_then, holds_guard, look_some, ids_set, rekind_same, look_set, look_set_other}
use Rattle.agreement.specs.Families.{centre_of, centre_at}
use Rattle.chains.proofs.AddedPieces.{Piece, names, link, PiecesAdded, Low, pieces_added_grow, pieces_added_one, pieces_added_more}
use Rattle.chains.proofs.Close.{Linked}
use Rattle.chains.proofs.Same.{Same}

-- t from a, then pieces with the ids is, to b
pub record Parted (d : Drawing) (t : ℕ) (d' : Drawing) (is : List ℕ) (a b : ℕ) : Type 0 where
  pub mid : ℕ
  pub rest : List Piece
  pub pieces_added : PiecesAdded d.next d.curves t d'.next d'.curves (link t a mid ∷ rest)
  pub named : names rest ≡ is
  pub linked : Linked mid rest b

pub pieces_added_same : {n : ℕ} {cs : List Curve} {t : ℕ} {d' d'' : Drawing} {ps : List Piece} → Same d' d'' → PiecesAdded n cs t d'.next d'.curves ps → PiecesAdded n cs t d''.next d''.curves ps
pieces_added_same {n} {cs} {t} {d'} {d''} {ps} s l = rw s.curves (pieces_added_grow d''.next s.grows l)

module _ (d : Drawing) (t : ℕ) (f : ℕ → ℕ → CurveKind) (fe : (x y : ℕ) → ends_of (f x y) ≡ some (x, y)) (fo : (x y : ℕ) → centre_of (f x y) ≡ centre_at (curve_in d.curves t)) (u : Bool) (m : Limits) where
  -- curves added after the pieces ps, from a to b
  record Row (ps : List Piece) (d' : Drawing) (is : List ℕ) (a b : ℕ) : Type 0 where
    rest : List Piece
    pieces_added : PiecesAdded d.next d.curves t d'.next d'.curves (ps ++ rest)
    named : names rest ≡ is
    linked : Linked a rest b
    more : 0 < length is

  add_link : (d' : Drawing) (ps : List Piece) (a b : ℕ) → PiecesAdded d.next d.curves t d'.next d'.curves ps → Holds (λ d'' i. (i ≡ d'.next) × PiecesAdded d.next d.curves t d''.next d''.curves (ps ++ (link d'.next a b ∷ []))) (add_curve m d' (f a b) u)
  add_link d' ps a b l =
      holds_guard (λ d'' i. (i ≡ d'.next) × PiecesAdded d.next d.curves t d''.next d''.curves (ps ++ (link d'.next a b ∷ []))) _ 23 _ λ x.
      holds_guard (λ d'' i. (i ≡ d'.next) × PiecesAdded d.next d.curves t d''.next d''.curves (ps ++ (link d'.next a b ∷ []))) _ 22 _ λ y.
      (refl, pieces_added_more l (f a b) u a b (fe a b) (fo a b))

  row : (d' : Drawing) (ps : List Piece) (a : ℕ) (qs : List ℕ) (b : ℕ) → PiecesAdded d.next d.curves t d'.next d'.curves ps → Holds (λ d'' is. Row ps d'' is a b) (add_curves m d' (links f a qs b) u)
  row d' ps a [] b l =
      holds_then (λ d'' i. (i ≡ d'.next) × PiecesAdded d.next d.curves t d''.next d''.curves (ps ++ (link d'.next a b ∷ []))) (λ d'' is. Row ps d'' is a b)
      (add_curve m d' (f a b) u) _ (add_link d' ps a b l) λ d'' i h.
      record { rest = link d'.next a b ∷ []; pieces_added = h.1; named = ap (λ (j : ℕ). j ∷ []) (sym h.0); linked = (refl, refl); more = omega arith }
  row d' ps a (q ∷ qs) b l =
      holds_then (λ d'' i. (i ≡ d'.next) × PiecesAdded d.next d.curves t d''.next d''.curves (ps ++ (link d'.next a q ∷ []))) (λ d'' is. Row ps d'' is a b)
      (add_curve m d' (f a q) u) _ (add_link d' ps a q l) λ d'' i h.
      holds_then (λ d''' is. Row (ps ++ (link d'.next a q ∷ [])) d''' is q b) (λ d''' is. Row ps d''' is a b)
      (add_curves m d'' (links f q qs b) u) _ (row d'' (ps ++ (link d'.next a q ∷ [])) q qs b h.1) λ d''' is k.
      record {
        rest = link d'.next a q ∷ k.rest;
        pieces_added = subst (PiecesAdded d.next d.curves t d'''.next d'''.curves) (append_assoc ps (link d'.next a q ∷ []) k.rest) k.pieces_added;
        named = ap (λ (j : ℕ). j ∷ names k.rest) (sym h.0) ∙ ap (λ (js : List ℕ). i ∷ js) k.named;
        linked = (refl, k.linked);
        more = omega arith;
      }

  module _ (w : Low d.next d.curves) (c : Curve) (at : curve_in d.curves t ≡ some c) where
    -- the first piece, which keeps the curve's id
    set_first : (d' : Drawing) → Same d d' → (a b : ℕ) → PiecesAdded d.next d.curves t d'.next (map (rekind t (f a b)) d'.curves) (link t a b ∷ [])
    unfolding ends_at
    set_first d' s a b =
        pieces_added_one d.next d.curves t d'.next (map (rekind t (f a b)) d'.curves) a b w s.grows
        (ids_set t (f a b) d'.curves ∙ ap curve_ids s.curves)
        (λ i ne. look_set_other t (f a b) d'.curves i ne ∙ ap (λ (l : List Curve). curve_in l i) s.curves)
        (ap ends_at looked ∙ ap ends_of kind_is ∙ fe a b) (ap centre_at looked ∙ ap centre_of kind_is ∙ fo a b)
      where
        looked : curve_in (map (rekind t (f a b)) d'.curves) t ≡ some (rekind t (f a b) c)
        looked = look_set t (f a b) d'.curves t c (ap (λ (l : List Curve). curve_in l t) s.curves ∙ at)

        kind_is : (rekind t (f a b) c).kind ≡ f a b
        kind_is = rekind_same t (f a b) c (look_some d.curves t c at).1

    -- further pieces where there is a point between
    pub add_pieces_linked : (d' : Drawing) → Same d d' → (ps : List ℕ) (a : ℕ) (qs : List ℕ) (b : ℕ) → Holds (λ d'' q. Parted d t d'' q.pieces a b × (0 < length qs → 0 < length q.pieces)) (add_pieces m d' t u ps (links f a qs b))
    unfolding add_pieces
    add_pieces_linked d' s ps a [] b =
        (record { mid = b; rest = []; pieces_added = set_first d' s a b; named = refl; linked = refl }, λ z. absurd (omega arith))
    add_pieces_linked d' s ps a (q ∷ qs) b =
        holds_then (λ d'' is. Row (link t a q ∷ []) d'' is q b) (λ d'' r. Parted d t d'' r.pieces a b × (0 < length (q ∷ qs) → 0 < length r.pieces))
        (add_curves m (set_kind t (f a q) d') (links f q qs b) u) _ (row (set_kind t (f a q) d') (link t a q ∷ []) q qs b (set_first d' s a q)) λ d'' is k.
        (record { mid = q; rest = k.rest; pieces_added = k.pieces_added; named = k.named; linked = k.linked }, λ z. k.more)
