-- The wall's reply: refused as at the desk, old (the glossary's term: a number at or below the count), or applied with the report.
use Rattle.std.specs.Prelude.{ℕ, Result, Ok, Err}
use Rattle.refusal.specs.declared.Refusal.{Refusal}
use Rattle.refusal.specs.Refusals.{number, place}
use Rattle.edit_plan.specs.declared.Removed.{Removed}
use Rattle.replication.specs.declared.Delivered.{Delivered}
use Rattle.replication.specs.declared.Delivered.TheVariants as D

pub data WallReply : Type 0 where
  Refused : ℕ → ℕ → WallReply
  Old : WallReply
  Applied : Removed → WallReply

-- a result as a reply
abbrev pub wall_reply_of : Result Delivered Refusal → WallReply
wall_reply_of (Ok D.Old) = Old
wall_reply_of (Ok (D.Applied r)) = Applied r
wall_reply_of (Err e) = Refused (number e) (place e)
