-- `print_text::size::text_size_in` meets its contract: the walk over the children keeps the bytes of the text that was passed, and each child
-- has fewer nodes than its parent.
use Rattle.std.proofs.Common.{◌-◌, ◌≡◌, ◌+◌, ◌≤◌, length}
use Rattle.print_text.specs.Inner.Pieces.{opening_of}
use Rattle.print_text.proofs.Laws.ChildrenLaws.{TextWalks}
use Rattle.print_text.proofs.size.+text_size_in.Given as goal

abbrev pub decreases-text_size_in : goal.decreases-text_size_in
decreases-text_size_in l = l.size

abbrev pub invariant-loop-child : goal.invariant-loop-child
invariant-loop-child l =
    let i = l.child-iterator in
    (i.nodes.bytes.now ≡ l.bytes) × (i.nodes.count ≡ l.count) × (i.from ≡ l.from) × (i.end ≤ l.from + l.size - 1)
    × TextWalks l.bytes l.count l.root.kind l.root.arg l.from l.size i.end (λ t. l.total ≡ length (opening_of l.root.kind l.root.arg) + length t)
