-- `page::report` meets its contract: the page is short, there are too many arguments, one is wrong, or the text is judged for the stores that
-- they give. Assumes nothing.
use mathlib.Core.Path.{sym, ◌∙◌}
use native.Mathlib.Omega.{arith}
use lib.Seq.{length-take-le}
use Rattle.slices.proofs.Laws.WrittenLaws.{written_at_none}
use Rattle.page_text.proofs.Laws.RefusalBoundsLaws.{judged_bounds}
use Rattle.page_text.proofs.Laws.PageLaws.{Given, given, page_short, page_many, page_wrong, page_judged}
use Rattle.page.proofs.report.Goals as goal
use Rattle.page.proofs.report.Goals.{In-Ok}

pub returns-then-page-lt-PAGE_BYTES : goal.returns-then-page-lt-PAGE_BYTES
returns-then-page-lt-PAGE_BYTES c = rw (← page_short _ _ _ c.if-page-lt-PAGE_BYTES.true) (written_at_none _ 0)

pub returns-then-many : goal.returns-then-many
returns-then-many c =
    let s = c.args in
    rw (← page_many s.text.now s.args.now s.page.now (omega arith) (omega (arith, c.count_args-many.ensures))) c.append.ensures

-- the table that the arguments make
the_table : (c : In-Ok) →
    Given c.args.args.now c.table_of.new.table c.in-Ok.size
the_table c =
    given (omega (arith, c.count_args-many.ensures)) c.in-Ok.ensures

pub slice_bounds-table-end : goal.slice_bounds-table-end
slice_bounds-table-end c = (the_table (goal.at.slice_bounds-table-end c).In-Ok).within

pub slice_bounds-stores-end : goal.slice_bounds-stores-end
slice_bounds-stores-end c = sym (length-take-le _ _ (the_table (goal.at.slice_bounds-stores-end c).In-Ok).within)

pub invariant_of-stores : goal.invariant_of-stores
invariant_of-stores c =
    let g = the_table (goal.at.invariant_of-stores c).In-Ok in
    record { in_bounds = g.in_bounds; are_bytes = g.are_bytes }

pub append_judged-requires : goal.append_judged-requires
append_judged-requires c =
    let g = the_table (goal.at.append_judged-requires c).In-Ok in
    record { small = g.small; room = omega (arith, c.if-page-lt-PAGE_BYTES.false); due = λ f e. judged_bounds _ _ f (sym c.judge.ensures.0 ∙ e) }

pub returns-in-Ok : goal.returns-in-Ok
returns-in-Ok c =
    let s = c.args in
    rw
    (← page_judged s.text.now s.args.now s.page.now (omega (arith, c.if-page-lt-PAGE_BYTES.false))
    (omega (arith, c.count_args-many.ensures)) (the_table (goal.at.returns-in-Ok c).In-Ok) c.judge.ensures.0)
    c.append_judged.ensures

pub returns-in-Err : goal.returns-in-Err
returns-in-Err c =
    let s = c.args in
    rw
    (← page_wrong s.text.now s.args.now s.page.now (omega (arith, c.if-page-lt-PAGE_BYTES.false))
    (omega (arith, c.count_args-many.ensures))
    (c.in-Err.ensures))
    c.append_argument.ensures
