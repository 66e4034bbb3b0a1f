-- The bracket comes before what is written first. Assumes nothing.
use mathlib.Core.Path.{sym, ◌∙◌}
use Rattle.print_text.specs.Print.{bracket}
use Rattle.print_text.specs.Inner.Pieces.{back_of}
use Rattle.slices.proofs.Laws.WrittenLaws.{written_at_before}
use Rattle.print_pieces.proofs.prepend_back.Goals as goal

pub returns-then-is_bracketed : goal.returns-then-is_bracketed
unfolding back_of bracket
returns-then-is_bracketed c =
    rw (sym c.is_bracketed.ensures ∙ c.if-is_bracketed.true) (written_at_before c.requires.1 c.prepend_after-at.ensures c.prepend.ensures)
