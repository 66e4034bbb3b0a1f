-- `decimal::count::parse_count` meets its contract: the bytes left, read after the number so far, write the count. Assumes nothing.
use mathlib.Core.Path.{◌≡◌}
use Prim.Native.Nat.{◌^◌, ◌<◌}
use lib.ListN.{drop}
use Rattle.decimal.specs.Count.{count_from, count_of}
use Rattle.decimal.proofs.count.parse_count.Given as goal

abbrev pub invariant-loop-b : goal.invariant-loop-b
invariant-loop-b l = (l.value < 2 ^ 64) × (count_from l.value (drop l.b-index l.b-items) ≡ count_of l.word)
