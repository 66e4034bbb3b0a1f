-- `print::put::put_rule_in` meets its contract: the walk over the children keeps what is written, and each child has fewer nodes than its
-- parent.
use Rattle.std.proofs.Common.{◌≡◌, ◌-◌, ◌+◌, ◌≤◌}
use Rattle.slices.specs.Text.{WrittenAt}
use Rattle.print_text.proofs.Laws.ChildrenLaws.{TextWalks}
use Rattle.print.proofs.put.+put_rule_in.Given as goal

abbrev pub decreases-put_rule_in : goal.decreases-put_rule_in
decreases-put_rule_in l = l.size

abbrev pub invariant-loop-child : goal.invariant-loop-child
invariant-loop-child l =
    let i = l.child-iterator in
    (i.nodes.bytes.now ≡ l.bytes) × (i.nodes.count ≡ l.count) × (i.from ≡ l.from) × (i.end ≤ l.from + l.size - 1)
    × TextWalks l.bytes l.count l.root.kind l.root.arg l.from l.size i.end (λ t. WrittenAt l.fn.text l.text l.to l.end t)
