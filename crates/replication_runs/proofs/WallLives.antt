-- A wall's life that goes on: what holds of some events, and of those after them, holds of all. Assumes nothing.
use mathlib.Core.Path.{◌≡◌, refl, sym, ap, ◌∙◌, subst}
use mathlib.Core.List.Memᴰ
use mathlib.Core.List.{List, [], ◌∷◌, ◌++◌, append_assoc, Memᴰ}
use mathlib.Core.Logic.{◌⊎◌, inl, inr, ⊎_elim}
use Rattle.agreement.specs.Machines.{State, Protocol, DeskStep, messages, DeskHad, WallEvent, started, delivered, WallLife, FromDesk, Session, session_after, session_state}
use Rattle.agreement.proofs.Runs.{wall_after_join, messages_join}

pub session_join : {D R : Type 0} (g : Session D R) (es fs : List (WallEvent D R)) → session_after g (es ++ fs) ≡ session_after (session_after g es) fs
session_join g [] fs = refl
session_join g (started t ∷ es) fs = session_join (record { start = t; deliveries = [] }) es fs
session_join g (delivered x ∷ es) fs = session_join (record { start = g.start; deliveries = g.deliveries ++ (x ∷ []) }) es fs

module _ {D E R : Type 0} (p : Protocol D E R) where
  pub life_join :
      (g : Session D R) (es fs : List (WallEvent D R)) → WallLife p (session_state g) es → WallLife p (session_state (session_after g es)) fs
      → WallLife p (session_state g) (es ++ fs)
  life_join g [] fs h k = k
  life_join g (started t ∷ es) fs h k = life_join (record { start = t; deliveries = [] }) es fs h k
  life_join g (delivered x ∷ es) fs h k =
      let next : Session D R = record { start = g.start; deliveries = g.deliveries ++ (x ∷ []) } in
      let same : session_state next ≡ x.state = wall_after_join g.start g.deliveries (x ∷ []) in
      (h.0, subst (λ (t : State D). WallLife p t (es ++ fs)) same (life_join next es fs (subst (λ (t : State D). WallLife p t es) (sym same) h.1) k))

  pub from_desk_join :
      (s : State D) (desk : List (DeskStep D E R)) (es fs : List (WallEvent D R)) → FromDesk p s desk es → FromDesk p s desk fs → FromDesk p s desk (es ++ fs)
  from_desk_join s desk [] fs h k = k
  from_desk_join s desk (started t ∷ es) fs h k = (h.0, from_desk_join s desk es fs h.1 k)
  from_desk_join s desk (delivered x ∷ es) fs h k = (h.0, from_desk_join s desk es fs h.1 k)

  -- what came from a desk came from it after later steps too
  had_later : (s : State D) (desk later : List (DeskStep D E R)) (t : State D) → DeskHad s desk t → DeskHad s (desk ++ later) t
  had_later s desk later t (front, between, q, e) = (front, between ++ later, ap (λ (l : List (DeskStep D E R)). l ++ later) q ∙ append_assoc front between later, e)

  pub from_desk_later :
      (s : State D) (desk later : List (DeskStep D E R)) (es : List (WallEvent D R)) → FromDesk p s desk es → FromDesk p s (desk ++ later) es
  from_desk_later s desk later [] h = tt
  from_desk_later s desk later (started t ∷ es) h = (had_later s desk later t h.0, from_desk_later s desk later es h.1)
  from_desk_later s desk later (delivered x ∷ es) h =
      (⊎_elim (λ m. inl (subst (Memᴰ x.bytes) (sym (messages_join desk later)) (Memᴰ.append_left (messages later) m))) (λ u. inr u) h.0, from_desk_later s desk later es h.1)
