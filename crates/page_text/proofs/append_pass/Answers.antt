-- `page_text::append_pass` meets its contract: there are as many stores as the table counts. Assumes nothing.
use native.Mathlib.Omega.{arith}
use Rattle.store_table.specs.Stores.{entries_in}
use Rattle.store_table.proofs.Laws.WalkLaws.{length_entries}
use Rattle.page_text.proofs.Laws.PassLaws.{pass_none, pass_some}
use Rattle.page_text.proofs.append_pass.Goals as goal

pub returns-then-count-eq0 : goal.returns-then-count-eq0
returns-then-count-eq0 c =
    rw (← pass_none (entries_in c.args.stores.bytes.now) (omega (arith, length_entries c.args.stores.bytes.now c.args.stores.in_bounds, c.count.ensures)))
    c.append.ensures

pub returns : goal.returns
returns c =
    rw (← pass_some (entries_in c.args.stores.bytes.now) (omega (arith, length_entries c.args.stores.bytes.now c.args.stores.in_bounds, c.count.ensures)))
    c.append-2.ensures
