-- The table is that of the stores.
use Rattle.args_table.proofs.Laws.FillLaws.{made_room, table_at}
use Rattle.args_table.proofs.table_of.Goals as goal

pub write-requires : goal.write-requires
write-requires c = let r = made_room c.args.args.now c.in_ok-stores_of.ensures c.requires.0 in (r.0, (r.1, c.requires.1))

pub returns : goal.returns
returns c = table_at c.args.args.now c.in_ok-stores_of.ensures c.write.ensures
