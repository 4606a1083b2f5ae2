-- `probe::mulkefi_relations_test` meets its contract.
use Rattle.std.proofs.Common.{◌≡◌, ℕ, List, refl, ◌∙◌, subst, rules}
use Rattle.std.specs.Prelude.{Option, Ok}
use Rattle.refusal.specs.Refusals.{number}
use Rattle.sketch.specs.declared.Sketch.{Sketch}
use Rattle.probe.specs.Probe.{AlteredRead}
use Rattle.probe.specs.Relations.{Verdict, Refused, Met, Unmet, UnmetAnswer, verdict_of, numbered, unread, tested, RelationsTested}
use Rattle.probe.proofs.UnmetAnswers.{place_below}
use Rattle.probe.proofs.verdicts.mulkefi_relations_test.Goals as goal

-- a verdict on the altered sketch, as a number
judged :
    (bytes : List ℕ) (next points curves relations : ℕ) (sk : Sketch) → AlteredRead bytes next points curves relations (Ok sk) → (v : Verdict) → UnmetAnswer sk v → {r : ℕ} → r ≡ numbered v
    → RelationsTested bytes next points curves relations r
judged bytes next points curves relations sk (s, i, w, e) v u q = tested s v i w (subst (λ (x : Sketch). UnmetAnswer x v) e u) q

pub returns-in-Err : goal.returns-in-Err
returns-in-Err c =
    let (n, e) = c.in-Err.ensures in
    unread n (c.from.ensures ∙ c.number.ensures ∙ e)

pub returns-in-Ok-None : goal.returns-in-Ok-None
unfolding numbered
returns-in-Ok-None c =
    let u = subst (λ (o : Option ℕ). UnmetAnswer c.in-Ok.sk (verdict_of (Ok o))) c.in-Ok-None.field-0-is c.in-Ok-None.ensures in
    judged c.args.bytes.now _ _ _ _ c.in-Ok.sk c.in-Ok.ensures Met u refl

pub overflow_cast-result : goal.overflow_cast-result
overflow_cast-result c =
    let q = place_below c.in-Ok.sk _ (subst (λ (o : Option ℕ). UnmetAnswer c.in-Ok.sk (verdict_of (Ok o))) c.in-Ok-Some.field-0-is c.in-Ok-Some.ensures) in
    search rules

pub overflow_add-result : goal.overflow_add-result
overflow_add-result c =
    let q = place_below c.in-Ok.sk _ (subst (λ (o : Option ℕ). UnmetAnswer c.in-Ok.sk (verdict_of (Ok o))) c.in-Ok-Some.field-0-is c.in-Ok-Some.ensures) in
    search rules

pub returns-in-Ok-Some : goal.returns-in-Ok-Some
unfolding numbered
returns-in-Ok-Some c =
    let u = subst (λ (o : Option ℕ). UnmetAnswer c.in-Ok.sk (verdict_of (Ok o))) c.in-Ok-Some.field-0-is c.in-Ok-Some.ensures in
    judged c.args.bytes.now _ _ _ _ c.in-Ok.sk c.in-Ok.ensures (Unmet c.in-Ok-Some.place) u refl

pub returns-in-Err-unmet : goal.returns-in-Err-unmet
unfolding numbered
returns-in-Err-unmet c = judged c.args.bytes.now _ _ _ _ c.in-Ok.sk c.in-Ok.ensures (Refused (number c.in-Err-unmet.refusal)) c.in-Err-unmet.ensures (c.from-in-Err-unmet.ensures ∙ c.number-in-Err-unmet.ensures)
