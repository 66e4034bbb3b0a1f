-- `details::append_write_only` meets its contract: the lines of the write-only stores that the walk has passed are written. Assumes nothing.
use mathlib.Core.Path.{◌≡◌}
use Rattle.page_text.proofs.Laws.ReportLaws.{Named}
use Rattle.details.proofs.append_write_only.Given as goal

abbrev pub invariant-loop-place : goal.invariant-loop-place
invariant-loop-place l =
    let i = l.place-iterator in
    (i.table.bytes.now ≡ l.stores.bytes.now) × Named l.stores.bytes.now l.initial.page l.page l.at i.index l.end
