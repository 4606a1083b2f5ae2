-- The outcome of a delivery, by cases: refused, old, or an edit applied. Assumes nothing.
use mathlib.Core.Path.{◌≡◌, refl, sym, ap, subst}
use mathlib.Core.Bool.{Bool, true, false}
use Prim.Native.Nat.{ℕ, ◌+◌}
use lib.Dec.{leb, eqb}
use borrow.Author.Tests.{eqb-true}
use Rattle.sketch.specs.Lists.{ite}
use Rattle.sketch.specs.Drawing.{Drawing, limits}
use Rattle.sketch.specs.Facts.{Valid}
use Rattle.edit_plan.specs.declared.Removed.{Removed}
use Rattle.edit_plan.specs.Outcome as O
use Rattle.modify.proofs.Planned.{edit_valid}
use Rattle.relations.specs.Met.{all_met}
use Rattle.agreement.specs.Machines as M
use Rattle.agreement.specs.Machines.{State, Decoded, invalid, message, wall_transition}
use Rattle.replication.specs.Protocol.{Edit, edit, place, protocol}
use Rattle.replication.proofs.Decoding.{literal}

pub edit_keeps_valid : (d : Drawing) (e : Edit) (d' : Drawing) (r : Removed) → Valid limits d → edit d e ≡ O.accepted d' r → Valid limits d'
edit_keeps_valid d e d' r v q = edit_valid all_met e.operation limits d e.curve e.at d' r v (literal d e d' r q)

pub data WallCase (s : State Drawing) (x : State Drawing × M.WallReply Removed) : Type 0 where
  is_refused : (k place : ℕ) → x ≡ (s, M.wall_refused k place) → WallCase s x
  is_old : x ≡ (s, M.wall_old) → WallCase s x
  is_applied : (e : Edit) (d : Drawing) (q : Removed) → edit s.drawing e ≡ O.accepted d q → x ≡ (record { drawing = d; count = s.count + 1 }, M.wall_applied q) → WallCase s x

pub wall_case : (mark : ℕ) (s : State Drawing) (r : Decoded Edit) → WallCase s (wall_transition (protocol mark) s r)
wall_case mark s (invalid k) = is_refused k 0 refl
wall_case mark s (message n e) = go (leb n s.count) (eqb n (s.count + 1)) refl (edit s.drawing e) refl
  where
    go :
        (a b : Bool) → eqb n (s.count + 1) ≡ b → (o : O.Outcome Drawing Removed) → edit s.drawing e ≡ o
        → WallCase s (ite a (s, M.wall_old) (ite b (M.wall_apply (protocol mark) s n e o) (s, M.wall_refused 7 0)))
    go true b f o g = is_old refl
    go false false f o g = is_refused 7 0 refl
    go false true f (O.refused k) g = is_refused k (place s.drawing e k) refl
    go false true f (O.accepted d q) g = is_applied e d q g (ap (λ (n : ℕ). (record { drawing = d; count = n }, M.wall_applied q)) (eqb-true n (s.count + 1) f))

-- so a delivery keeps a drawing valid
pub delivery_valid : (s : State Drawing) (x : State Drawing × M.WallReply Removed) → WallCase s x → Valid limits s.drawing → Valid limits x.0.drawing
delivery_valid s x (is_refused k place e) v = subst (λ (y : State Drawing × M.WallReply Removed). Valid limits y.0.drawing) (sym e) v
delivery_valid s x (is_old e) v = subst (λ (y : State Drawing × M.WallReply Removed). Valid limits y.0.drawing) (sym e) v
delivery_valid s x (is_applied e d q g f) v = subst (λ (y : State Drawing × M.WallReply Removed). Valid limits y.0.drawing) (sym f) (edit_keeps_valid s.drawing e d q v g)
