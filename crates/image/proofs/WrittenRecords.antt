-- A record of any kind that is written where it fits.
use mathlib.Core.Path.{◌≡◌, sym, ◌∙◌}
use mathlib.Core.List.{List}
use Prim.Native.Nat.{ℕ, ◌+◌, ◌≤◌, ◌<◌}
use lib.ListN.{length}
use Rattle.big_endian.specs.Fields.{over_if_fits}
use Rattle.big_endian.specs.Laws.{Run, over_fits, over_not}

-- too short: nothing is written
pub record_skipped : (l : List ℕ) (at n : ℕ) (e : List ℕ) → length e ≡ n → length l < at + n → l ≡ over_if_fits l at e
record_skipped l at n e k h = sym (over_not l at e (rw k h))

-- a run of n bytes that are the encoding
pub record_written : (l : List ℕ) (at n : ℕ) (b e now : List ℕ) → at + n ≤ length l → Run l at n b now → b ≡ e → now ≡ over_if_fits l at e
record_written l at n b e now h w s = w.is ∙ rw (← s) (sym (over_fits l at b (rw w.long h)))
