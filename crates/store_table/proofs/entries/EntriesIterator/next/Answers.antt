-- `store_table::entries::Entries::next` meets its contract: the next name begins where this one ends. Assumes nothing.
use Prim.Native.Nat.{◌<◌}
use native.Mathlib.Omega.{arith}
use Rattle.store_table.specs.Stores.{count_in}
use Rattle.store_table.proofs.Laws.WalkLaws.{walk_at, name_start_next}
use Rattle.store_table.proofs.entries.EntriesIterator.next.Goals as goal

pub name-name-requires : goal.name-name-requires
name-name-requires c =
    let i = c.args.self.now in
    (omega (arith, i.within, c.if-self-count.false, c.count.ensures.0), walk_at _ _ i.table.in_bounds i.begins)

pub invariant_of-self : goal.invariant_of-self
invariant_of-self c =
    let i = c.args.self.now in
    let lt : i.index < count_in i.table.bytes.now = omega (arith, i.within, c.if-self-count.false, c.count.ensures.0) in
    record {
      within = omega arith;
      begins = omega (arith, i.begins, c.name-name.ensures.long, name_start_next i.table.bytes.now i.index i.table.in_bounds lt);
    }
