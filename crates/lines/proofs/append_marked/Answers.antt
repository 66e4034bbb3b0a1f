-- `lines::append_marked` meets its contract: the line of the place, and below it the line of the mark. Assumes nothing.
use Rattle.std.proofs.Common.{arith}
use Rattle.slices.specs.Text.{part}
use Rattle.slices.proofs.Laws.WrittenLaws.{written_at_after}
use Rattle.lines.specs.Lines.{marked_line}
use Rattle.lines.proofs.Laws.LinesLaws.{LineOf, line_of}
use Rattle.lines.proofs.append_marked.Goals as goal
use Rattle.lines.proofs.append_marked.Goals.{After-mark_at-stop}

the_line : (c : After-mark_at-stop) → LineOf c.args.rule.now c.args.place c.end_of_last-start.result c.mark_at-stop.result
the_line c = line_of c.requires.0 c.end_of_last-start.ensures c.mark_at-stop.ensures

pub slice_bounds-append_shown-count : goal.slice_bounds-append_shown-count
slice_bounds-append_shown-count c = omega (arith, the_line (goal.at.slice_bounds-append_shown-count c).After-mark_at-stop)

pub slice_bounds-append_shown-start : goal.slice_bounds-append_shown-start
slice_bounds-append_shown-start c = omega (arith, the_line (goal.at.slice_bounds-append_shown-start c).After-mark_at-stop)

pub slice_bounds-append_shown-end : goal.slice_bounds-append_shown-end
slice_bounds-append_shown-end c = omega (arith, the_line (goal.at.slice_bounds-append_shown-end c).After-mark_at-stop)

pub append_shown-shown_end-requires : goal.append_shown-shown_end-requires
append_shown-shown_end-requires c = omega (arith, the_line (goal.at.append_shown-shown_end-requires c).After-mark_at-stop)

pub append-line_end-requires : goal.append-line_end-requires
append-line_end-requires c = omega (arith, the_line (goal.at.append-line_end-requires c).After-mark_at-stop)

pub overflow_sub-place : goal.overflow_sub-place
overflow_sub-place c = (the_line (goal.at.overflow_sub-place c).After-mark_at-stop).from

pub append_mark-requires : goal.append_mark-requires
append_mark-requires c = omega (arith, the_line (goal.at.append_mark-requires c).After-mark_at-stop)

pub returns : goal.returns
unfolding part marked_line
returns c =
    let l = the_line (goal.at.returns c).After-mark_at-stop in
    rw (← c.end_of_last-start.ensures, ← c.mark_at-stop.ensures)
    (written_at_after (omega arith) c.append_shown-shown_end.ensures
    (written_at_after (omega (arith, l)) c.append-line_end.ensures c.append_mark.ensures))
