-- `confirmed::mark_confirmed` meets its contract: the marks are those of the names that the walk has passed. Assumes nothing.
use mathlib.Core.Path.{◌≡◌}
use lib.ListN.{take}
use Rattle.store_table.specs.Stores.{entries_in, all_names}
use Rattle.store_table.specs.Inner.Index.{Marked}
use Rattle.confirmed.proofs.mark_confirmed.Given as goal

abbrev pub invariant-loop-place : goal.invariant-loop-place
invariant-loop-place l =
    let i = l.place-iterator in
    let s = l.list.bytes.now in
    (i.table.bytes.now ≡ s) × Marked (entries_in l.stores.table.bytes.now) (all_names (take i.index (entries_in s))) l.marks
