-- The next child's node is the last one, and its size leads back to where the child begins. Assumes nothing.
use native.Mathlib.Omega.{arith}
use Rattle.std.proofs.Common.{refl, ◌≡◌, ◌+◌, ◌-◌, ◌≤◌, ◌<◌}
use Rattle.image.proofs.Laws.FitLaws.{cell_size}
use Rattle.image.proofs.Laws.SiblingLaws.{back_some, back_fits, back_left}
use Rattle.image.proofs.children.ChildrenIterator.next.Goals as goal

pub overflow_sub-start : goal.overflow_sub-start
overflow_sub-start c = omega (arith, back_fits c.if-self.false (cell_size _ _ _ c.node-node.ensures) c.args.self.now.siblings)

pub invariant_of-self-clause-siblings : goal.invariant_of-self-clause-siblings
invariant_of-self-clause-siblings c = back_left c.if-self.false (cell_size _ _ _ c.node-node.ensures) c.args.self.now.siblings

pub returns-clause-steps : goal.returns-clause-steps
returns-clause-steps c =
    let fits = back_fits c.if-self.false (cell_size _ _ _ c.node-node.ensures) c.args.self.now.siblings in
    (refl, refl, refl, (c.if-self.false, c.node-node.ensures, omega arith, refl, refl))

pub returns-clause-goes : goal.returns-clause-goes
returns-clause-goes c =
    let z = cell_size _ _ _ c.node-node.ensures in
    let some = back_some c.if-self.false z c.args.self.now.siblings in
    let fits = back_fits c.if-self.false z c.args.self.now.siblings in
    record { on = λ _. (tt, tt, omega arith); keeps = tt; rests = λ _. tt }
