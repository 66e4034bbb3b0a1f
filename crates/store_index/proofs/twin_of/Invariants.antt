-- `store_index::twin_of` meets its contract: none of the stores that were entered has a twin before it, and they are indexed. Assumes nothing.
use mathlib.Core.Path.{◌≡◌}
use Rattle.store_table.specs.Stores.{entries_in}
use Rattle.store_table.proofs.Laws.EntriesLaws.{Seen}
use Rattle.store_table.specs.Inner.Index.{Indexed}
use Rattle.store_index.proofs.twin_of.Given as goal

abbrev pub invariant-loop-place : goal.invariant-loop-place
invariant-loop-place l =
    let i = l.place-iterator in
    let s = l.table.bytes.now in
    (i.table.bytes.now ≡ s) × Seen (entries_in s) i.index × Indexed s i.index l.index.starts l.index.slots
