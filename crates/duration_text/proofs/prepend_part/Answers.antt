-- The unit is written, and the digits before it. Assumes nothing.
use Rattle.slices.proofs.Laws.WrittenLaws.{written_at_before}
use Rattle.duration_text.proofs.Laws.DurationTextLaws.{part_nonzero}
use Rattle.duration_text.proofs.prepend_part.Goals as goal

pub returns : goal.returns
returns c = rw (part_nonzero _ _ c.if-k-eq0.false) (written_at_before c.requires.1 c.prepend-at.ensures c.prepend_digits.ensures)
