-- `image_test::children_fit` meets its contract: the walk back takes one rule with each turn, from the last on. Assumes nothing.
use Prim.Native.Nat.{◌≤◌, ◌<◌}
use native.Mathlib.Omega.{arith}
use Rattle.image.proofs.Laws.FitLaws.{cell_size, left_all, left_back, left_no, left_on, left_done}
use Rattle.image_test.proofs.children_fit.Goals as goal
use Rattle.image_test.proofs.children_fit.Goals.{After-node-child}

pub loop-at-init : goal.loop-at-init
loop-at-init c = (omega arith, omega arith, left_all _ _ _ c.requires.0.ready)

pub node-child-requires : goal.node-child-requires
node-child-requires c = omega (arith, c.requires.0.within)

pub returns-then-past : goal.returns-then-past
returns-then-past c =
    left_no _ _ _ _ _ (cell_size _ _ _ c.node-child.ensures) (omega arith) c.loop-at.invariant.2 (omega arith)

-- the size that the child says is that of a rule before it
the_back : (c : After-node-child) → (0 < c.node-child.result.size) × (c.node-child.result.size ≤ c.loop-at.at)
the_back c = left_back _ _ _ _ _ (cell_size _ _ _ c.node-child.ensures) (omega arith) c.loop-at.invariant.2

pub overflow_sub-at-in-loop-at : goal.overflow_sub-at-in-loop-at
overflow_sub-at-in-loop-at c = (the_back (goal.at.overflow_sub-at-in-loop-at c).After-node-child).1

pub loop-at-smaller : goal.loop-at-smaller
loop-at-smaller c = omega (arith, the_back (goal.at.loop-at-smaller c).After-node-child)

pub loop-at-preserved : goal.loop-at-preserved
loop-at-preserved c = (
  omega arith,
  omega arith,
  left_on _ _ _ _ _ (cell_size _ _ _ c.node-child.ensures) (omega arith) c.loop-at.invariant.2 (omega arith),
)

pub returns : goal.returns
returns c = left_done _ _ _ _ (omega arith) c.loop-at.invariant.2
