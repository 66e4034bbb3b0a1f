-- Each piece is written before the one written last. Assumes nothing.
use Rattle.image.specs.Decode.{meaning}
use Rattle.print_text.specs.Print.{leaf_text}
use Rattle.print_text.specs.Inner.Pieces.{leaf_text_of}
use Rattle.slices.proofs.Laws.WrittenLaws.{written_at_before}
use Rattle.print_pieces.proofs.prepend_leaf.Goals as goal

pub returns-in-1 : goal.returns-in-1
unfolding leaf_text_of leaf_text meaning
returns-in-1 c =
    let l = c.requires.2 in
    rw c.in-1.is (written_at_before l (written_at_before l c.prepend-closed.ensures c.format_duration-at.ensures) c.prepend-in-1.ensures)

pub returns-in-2 : goal.returns-in-2
unfolding leaf_text_of leaf_text meaning
returns-in-2 c =
    let l = c.requires.2 in
    rw c.in-2.is (written_at_before l (written_at_before l c.prepend-closed-in-2.ensures c.prepend_digits-at.ensures) c.prepend-in-2.ensures)
