-- `confirmed::ready_count` meets its contract: the first k stores that are ready are counted. Assumes nothing.
use Rattle.store_table.specs.Stores.{entries_in}
use Rattle.store_table.proofs.Laws.EntriesLaws.{ReadySoFar}
use Rattle.confirmed.proofs.ready_count.Given as goal

abbrev pub invariant-loop-k : goal.invariant-loop-k
invariant-loop-k l = ReadySoFar (entries_in l.stores.bytes.now) l.marks l.k l.ready
