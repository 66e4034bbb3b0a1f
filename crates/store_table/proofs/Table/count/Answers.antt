-- `store_table::Table::count` meets its contract: the first two bytes are the count. Assumes nothing.
use Rattle.store_table.specs.Stores.{count_in}
use borrow.Author.Rules.{rules}
use Rattle.store_table.proofs.Table.count.Goals as goal

pub returns : goal.returns
unfolding count_in
returns c = let h = c.args.self.in_bounds in search rules
