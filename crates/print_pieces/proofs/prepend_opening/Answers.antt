-- Three pieces, each written before the one written last. Assumes nothing.
use Rattle.print_text.specs.Print.{opening}
use Rattle.print_text.specs.Inner.Pieces.{opening_of}
use Rattle.slices.proofs.Laws.WrittenLaws.{written_at_before}
use Rattle.print_pieces.proofs.prepend_opening.Goals as goal

pub returns-in-3 : goal.returns-in-3
unfolding opening_of opening
returns-in-3 c =
    let l = c.requires.1 in
    rw c.in-3.is (written_at_before l (written_at_before l c.prepend-comma.ensures c.prepend_digits-at.ensures) c.prepend.ensures)
