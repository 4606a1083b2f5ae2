-- What the machines are given for real drawings, at a start's mark: the edit with the place of a refusal, a message's bytes, and how they are read. Definitions only.
use Rattle.std.specs.Prelude.{ℕ, Bool, ◌&&◌}
use Rattle.std.specs.Float.Ieee.{of_bits, to_bits, fits}
use Rattle.std.specs.Float.{binary64}
use Rattle.refusal.specs.Refusals.{Numbered, Accepted, Refused}
use Rattle.geom.specs.declared.Vec2.{Vec2}
use Rattle.sketch.specs.Drawing.{Drawing, limits}
use Rattle.message.specs.declared.Operation.{Operation}
use Rattle.message.specs.declared.Message.{Message}
use Rattle.message.specs.Message.{message_size, parse, encode}
use Rattle.edit_plan.specs.declared.Removed.{Removed}
use Rattle.edit_plan.specs.Outcome.{Outcome, guard}
use Rattle.modify.specs.Edits.{edit_of, edit_place}
use Rattle.agreement.specs.Machines.{Decoded, invalid, message, Protocol}

-- an operation on a curve, picked at a place
pub record Edit : Type 0 where
  pub operation : Operation
  pub curve : ℕ
  pub at : Vec2

-- a pick's coordinates are of binary64
abbrev pub is_pick : Vec2 → Bool
is_pick p = fits binary64 p.x && fits binary64 p.y

-- the outcome of an edit; what binary64 doesn't hold is no pick (9)
abbrev pub edit : Drawing → Edit → Outcome Drawing Removed
edit d e = guard (is_pick e.at) 9 (edit_of e.operation limits d e.curve e.at)

-- the place that comes with an edit's refusal by a number
abbrev pub place : Drawing → Edit → ℕ → ℕ
place d e k = edit_place e.operation d e.curve e.at k

-- the message of an edit and its number, and the edit that a message means: a pick is sent by its bits
abbrev pub message_for : ℕ → Edit → Message
message_for n e = record { number = n; operation = e.operation; curve = e.curve; x = to_bits binary64 e.at.x; y = to_bits binary64 e.at.y }

abbrev pub edit_in : Message → Edit
edit_in m = record { operation = m.operation; curve = m.curve; at = record { x = of_bits binary64 m.x; y = of_bits binary64 m.y } }

unfoldable pub decoded_of : Numbered Message → Decoded Edit
decoded_of (Accepted m) = message m.number (edit_in m)
decoded_of (Refused k) = invalid k

-- of starts with a mark: it stands in each message, and a message with another is invalid
abbrev pub protocol : ℕ → Protocol Drawing Edit Removed
protocol mark = record { edit = edit; place = place; message_size = message_size; encode = λ n e. encode mark (message_for n e); decode = λ s. decoded_of (parse mark s) }

-- the curve that an edit is made on
abbrev pub target : Edit → ℕ
target e = e.curve
