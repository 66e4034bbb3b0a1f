-- `slices::largest_from` meets its contract: the largest byte so far, or the largest of those left. Assumes nothing.
use mathlib.Core.Path.{◌≡◌}
use Prim.Native.Nat.{max}
use lib.ListN.{drop}
use Rattle.slices.specs.Inner.Search.{largest}
use Rattle.slices.proofs.largest_from.Given as goal

abbrev pub invariant-loop-b : goal.invariant-loop-b
invariant-loop-b l = max l.most (largest (drop l.b-index l.b-items)) ≡ largest (drop l.at l.s)
