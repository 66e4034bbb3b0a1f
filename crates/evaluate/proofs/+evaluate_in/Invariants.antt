-- `evaluate::evaluate_in` meets its contract: the walk over the children keeps how many were asked and how many said evict, each child
-- has fewer nodes than its parent, and a child of one node is a leaf. Assumes nothing.
use mathlib.Core.Path.{◌≡◌}
use Prim.Native.Nat.{◌+◌, ◌≤◌}
use Rattle.image.specs.Decode.{cell_at}
use Rattle.evaluate.specs.Inner.By.{says_at}
use Rattle.evaluate.proofs.Laws.SubtreeLaws.{CountWalks}
use Rattle.evaluate.proofs.+evaluate_in.Given as goal

abbrev pub decreases-evaluate_in : goal.decreases-evaluate_in
decreases-evaluate_in l = l.size

abbrev pub invariant-loop-child : goal.invariant-loop-child
invariant-loop-child l =
    let i = l.child-iterator in
    (i.nodes.bytes.now ≡ l.bytes) × (i.nodes.count ≡ l.count) × (i.from ≡ l.from)
    × (l.total + i.end ≤ l.at) × (l.yes ≤ l.total) × CountWalks (cell_at l.bytes l.count) (says_at l.says l.least) l.from l.size i.end l.yes l.total
