-- `little_endian::write` meets its contract: the first i bytes are written, and what is left of the number makes the others. Assumes nothing.
use mathlib.Core.Path.{◌≡◌}
use Prim.Native.Nat.{◌/◌, ◌^◌}
use lib.ListN.{length}
use Rattle.slices.specs.Text.{written}
use Rattle.little_endian.specs.Bytes.{le_bytes}
use Rattle.little_endian.proofs.write.Given as goal

abbrev pub invariant-loop-i : goal.invariant-loop-i
invariant-loop-i g l =
    (length l.s ≡ length l.initial.s) × ((l.left ≡ l.x / 256 ^ l.i) × (l.s ≡ written l.initial.s l.at (le_bytes l.i l.x)))
