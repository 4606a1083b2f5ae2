-- How the root of a binary64 is found, for the contracts of functions that nothing outside calls. Definitions only.
use Rattle.std.specs.Prelude.{◌≡◌, ℕ, ◌+◌, ◌*◌, ◌/◌, ◌%◌, ◌^◌, ◌<◌}
use Rattle.std.specs.Float.{binary64}
use Rattle.std.specs.Float.Ieee.{of_bits}
use Rattle.float.specs.Root.{closest_root}
use Rattle.float.specs.Numbers.{√}

-- The root of m, doubled where g is odd, gives the pattern r of the root of the value whose pattern is b.
abbrev pub Rooted : ℕ → ℕ → ℕ → Type 0
Rooted b m g = (r : ℕ) → r ≡ g / 2 * 2 ^ 52 + closest_root (m * 2 ^ (g % 2) * 2 ^ 52) → (r < 0x7ff0_0000_0000_0000) × (of_bits binary64 r ≡ √ (of_bits binary64 b))
