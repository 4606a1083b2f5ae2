-- The desk's reply: refused by a number, with the place of a relation where 13 or 19 come with one, else 0; or accepted with the report.
use Rattle.std.specs.Prelude.{ℕ, Result, Ok, Err}
use Rattle.refusal.specs.declared.Refusal.{Refusal}
use Rattle.refusal.specs.Refusals.{number, place}
use Rattle.edit_plan.specs.declared.Removed.{Removed}

pub data DeskReply : Type 0 where
  Refused : ℕ → ℕ → DeskReply
  Accepted : Removed → DeskReply

-- a result as a reply
abbrev pub desk_reply_of : Result Removed Refusal → DeskReply
desk_reply_of (Ok r) = Accepted r
desk_reply_of (Err e) = Refused (number e) (place e)
