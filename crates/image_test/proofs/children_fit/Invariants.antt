-- `image_test::children_fit` meets its contract: the walk back takes one rule with each turn, from the last on. Assumes nothing.
use Prim.Native.Nat.{◌≤◌}
use Rattle.image.specs.Decode.{cell_at}
use Rattle.image.proofs.Laws.FitLaws.{Left}
use Rattle.image_test.proofs.children_fit.Given as goal

abbrev pub invariant-loop-at : goal.invariant-loop-at
invariant-loop-at l = (l.from ≤ l.at) × (l.at ≤ l.end) × Left (cell_at l.nodes.bytes.now l.nodes.count) l.from l.end l.at

abbrev pub decreases-loop-at : goal.decreases-loop-at
decreases-loop-at l = l.at
