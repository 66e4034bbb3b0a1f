-- `little_endian::read` meets its contract: the first bytes make the number so far, and the next is worth 256 to the power of its place.
use mathlib.Core.Path.{◌≡◌}
use Prim.Native.Nat.{◌^◌, ◌<◌}
use Rattle.little_endian.specs.Bytes.{le_at}
use Rattle.little_endian.proofs.read.Given as goal

abbrev pub invariant-loop-i : goal.invariant-loop-i
invariant-loop-i g l = (l.x ≡ le_at l.s l.at l.i) × (l.x < 256 ^ l.i) × (l.i < 8 → l.worth ≡ 256 ^ l.i)
