-- The parts, written from the last to the first, are the text. Assumes nothing.
use Rattle.slices.proofs.Laws.WrittenLaws.{written_at_before}
use Rattle.duration_text.proofs.Laws.DurationTextLaws.{duration_parts}
use Rattle.duration_text.proofs.format_duration.Goals as goal

pub returns : goal.returns
returns c =
    let h = c.requires.1 in
    let seconds = written_at_before h c.prepend_part-millis.ensures c.prepend_part-seconds.ensures in
    let minutes = written_at_before h seconds c.prepend_part-minutes.ensures in
    let hours = written_at_before h minutes c.prepend_part-hours.ensures in
    rw (duration_parts _ c.if-ms-eq0.false) (written_at_before h hours c.prepend_part.ensures)
