-- `evaluate::leaves::Environment::say_leaves` meets its contract: of the nodes before i each leaf has its number. Assumes nothing.
use mathlib.Core.Path.{sym, ◌∙◌}
use Prim.Native.Nat.{◌<◌}
use native.Mathlib.Omega.{arith}
use lib.ListN.{length}
use Rattle.image.proofs.Laws.KindLaws.{no_leaf}
use Rattle.image.proofs.Laws.CellLaws.{cell_what}
use Rattle.image.proofs.Laws.WholeLaws.{its_name}
use Rattle.evaluate.proofs.Laws.SaidLaws.{flag_says, said_skip, said_write}
use Rattle.evaluate.proofs.leaves.Environment.say_leaves.Goals as goal
use Rattle.evaluate.proofs.leaves.Environment.say_leaves.Goals.{then-is_leaf, else-is_leaf}

pub leaf_says-requires : goal.leaf_says-requires
leaf_says-requires c = its_name c.args.image _ c.node-node.ensures c.loop-i-test.true

pub loop-i-preserved : goal.loop-i-preserved
loop-i-preserved c =
    let k = c.loop-i in
    let room : k.i < length k.says = omega (arith, c.requires, c.loop-i-test.true) in
    let what = cell_what _ _ _ c.node-node.ensures in
    elim c.if-is_leaf.branch [
      | then-is_leaf w ↦ rw w.says-is (said_write _ _ k.says 1 _ k.invariant w.from.result room (λ l e. rw w.from.ensures (flag_says _ ∙ w.leaf_says.ensures l (what ∙ e))))
      | else-is_leaf w ↦
          rw w.says-is (said_skip _ _ k.says 1 _ k.invariant (λ l e. no_leaf _ _ _ _ (sym c.is_leaf.ensures ∙ w.if-is_leaf.false) l (what ∙ e)))
    ]
