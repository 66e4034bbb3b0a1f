-- `lookup::position` meets its contract: none of the first k entries has the name. Assumes nothing.
use mathlib.Core.Path.{◌≡◌}
use mathlib.Core.Bool.{false}
use lib.ListN.{take}
use Rattle.store_table.specs.Names.{has}
use Rattle.store_table.specs.Stores.{count_in, entries_in, all_names}
use Rattle.store_table.specs.Inner.Index.{EntryWalk}
use Rattle.lookup.proofs.position.Given as goal

abbrev pub invariant-loop-k : goal.invariant-loop-k
invariant-loop-k l =
    let s = l.table.bytes.now in
    EntryWalk s (count_in s) l.k l.start × (has l.name (all_names (take l.k (entries_in s))) ≡ false)
