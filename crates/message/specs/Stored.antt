-- Values that the types of a message and of a mark can hold: an edit number, an id, patterns of 64 bits; eight bytes.
use Rattle.std.specs.Prelude.{ℕ, ◌^◌, ◌<◌}
use Rattle.sketch.specs.Drawing.{id_size}
use Rattle.message.specs.declared.Message.{Message}
use Rattle.message.specs.Message.{mark_size, edit_number_size}

pub record StoredMessage (m : Message) : Type 0 where
  pub number_fits : m.number < 256 ^ edit_number_size
  pub curve_fits_lem : m.curve < 256 ^ id_size
  pub x_fits : m.x < 2 ^ 64
  pub y_fits : m.y < 2 ^ 64

abbrev pub Mark : ℕ → Type 0
Mark mark = mark < 256 ^ mark_size
