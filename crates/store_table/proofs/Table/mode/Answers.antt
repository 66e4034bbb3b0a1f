-- `store_table::Table::mode` meets its contract: the modes are in the order of the entries. Assumes nothing.
use Rattle.store_table.proofs.Laws.WalkLaws.{mode_of}
use Rattle.store_table.proofs.Table.mode.Goals as goal

pub returns : goal.returns
returns c x e = mode_of _ _ c.args.self.in_bounds c.requires e
