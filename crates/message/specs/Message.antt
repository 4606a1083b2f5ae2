-- Edit messages: length of all that follows 4, version, mark 8, edit number, operation, curve id, pick x and y 8 each.
use Rattle.std.specs.Prelude.{ℕ, zero, suc, ◌+◌, ◌-◌, ◌≡◌, Bool, ◌&&◌, List, ◌++◌, length, leb, eqb, Result, Ok, Err}
use Rattle.big_endian.specs.Fields.{field, bytes, over}
use Rattle.sketch.specs.Lists.{ite, guard_number}
use Rattle.sketch.specs.Drawing.{id_size}
use Rattle.message.specs.declared.Operation.{Operation}
use Rattle.message.specs.declared.Operation.TheVariants.{Trim, Split, Extend}
use Rattle.message.specs.declared.Message.{Message}
use Rattle.refusal.specs.Refusals.{Numbered, Accepted, Refused}
use Rattle.refusal.specs.declared.Refusal.{Refusal}
use Rattle.refusal.specs.declared.Refusal.TheVariants.{BadOperation}

abbrev pub version : ℕ
version = 2

-- how many bytes the length has, a mark (the glossary's term for the bytes by which a host tells one start of a desk from all others) and an edit number
abbrev pub length_size : ℕ
length_size = 4

abbrev pub mark_size : ℕ
mark_size = 8

abbrev pub edit_number_size : ℕ
edit_number_size = 4

-- where its fields stand, and how many bytes a message has
abbrev pub version_at : ℕ
version_at = length_size

abbrev pub mark_at : ℕ
mark_at = version_at + 1

abbrev pub edit_number_at : ℕ
edit_number_at = mark_at + mark_size

abbrev pub operation_at : ℕ
operation_at = edit_number_at + edit_number_size

abbrev pub curve_at : ℕ
curve_at = operation_at + 1

abbrev pub x_at : ℕ
x_at = curve_at + id_size

abbrev pub y_at : ℕ
y_at = x_at + 8

abbrev pub message_size : ℕ
message_size = y_at + 8

-- what a message's length field holds: the bytes behind it
abbrev pub message_length : ℕ
message_length = message_size - length_size

-- the mark that a message bears
abbrev pub mark_of : List ℕ → ℕ
mark_of s = field s mark_at mark_size

-- trim, split and extend have the numbers 1 to 3
abbrev pub is_operation : ℕ → Bool
is_operation n = leb 1 n && leb n 3

-- at a start with a mark: too short for a version, the version, the rest of the length, a foreign mark, then an edit number from 1 and a known operation
unfoldable pub message_fault : ℕ → List ℕ → ℕ
message_fault mark s =
    guard_number (leb (version_at + 1) (length s)) 1
    (guard_number (eqb (field s version_at 1) version) 2
    (guard_number (eqb (length s) message_size && eqb (field s 0 length_size) message_length) 1
    (guard_number (eqb (mark_of s) mark) 28
    (guard_number (leb 1 (field s edit_number_at edit_number_size) && is_operation (field s operation_at 1)) 6 0))))

-- the operation by its number
unfoldable pub operation_of : ℕ → Operation
operation_of b = ite (eqb b 1) Trim (ite (eqb b 2) Split Extend)

-- the operation that a number means, or the refusal of one that means none
abbrev pub operation_numbered : ℕ → Result Operation Refusal
operation_numbered n = ite (is_operation n) (Ok (operation_of n)) (Err BadOperation)

unfoldable pub operation_byte : Operation → ℕ
operation_byte Trim = 1
operation_byte Split = 2
operation_byte Extend = 3

-- the pick (the glossary's term for the point that a person touches) stays bits, a NaN's too
abbrev pub message_of : List ℕ → Message
message_of s = record { number = field s edit_number_at edit_number_size; operation = operation_of (field s operation_at 1); curve = field s curve_at id_size; x = field s x_at 8; y = field s y_at 8 }

-- what reading bytes answers: the message, or a refusal's number
abbrev pub MessageRead : Type 0
MessageRead = Numbered Message

unfoldable pub result_of : ℕ → Message → MessageRead
result_of zero m = Accepted m
result_of (suc n) m = Refused (suc n)

-- a message that came to a start with a mark
abbrev pub parse : ℕ → List ℕ → MessageRead
parse mark s = result_of (message_fault mark s) (message_of s)

-- a message of a start with a mark
unfoldable pub encode : ℕ → Message → List ℕ
encode mark m =
    bytes length_size message_length ++ (bytes 1 version ++ (bytes mark_size mark ++ (bytes edit_number_size m.number ++ (bytes 1 (operation_byte m.operation)
    ++ (bytes id_size m.curve ++ (bytes 8 m.x ++ bytes 8 m.y))))))

-- a write: a message that no bytes give, its number being 0, is refused as its bytes would be, then a buffer that is too short by 25
abbrev pub write_fault : Message → ℕ → ℕ
write_fault m room = guard_number (leb 1 m.number) 6 (guard_number (leb message_size room) 25 0)

pub record MessageWritten (mark : ℕ) (m : Message) (before later : List ℕ) (r : ℕ) : Type 0 where
  pub number : r ≡ write_fault m (length before)
  pub buffer : later ≡ ite (eqb (write_fault m (length before)) 0) (over before 0 (encode mark m)) before
