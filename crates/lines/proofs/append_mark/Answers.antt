-- The blanks are written, and then the mark.
use Rattle.std.proofs.Common.{arith}
use Rattle.slices.proofs.Laws.WrittenLaws.{written_at_after}
use Rattle.lines.proofs.Laws.LinesLaws.{blanks_over}
use Rattle.lines.proofs.append_mark.Goals as goal

pub returns : goal.returns
returns c = written_at_after (omega arith) (blanks_over _ _ _ _ (omega arith) (c.fill.ensures.after (λ y h. h))) c.append.ensures
