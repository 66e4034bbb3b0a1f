-- The five parts of the table are written one after another.
use Rattle.std.proofs.Common.{rules}
use Rattle.args_table.proofs.Laws.FillLaws.{written_parts}
use Rattle.args_table.proofs.Stores.write.Goals as goal

pub returns : goal.returns
returns c = written_parts _ c.args.table.now c.write.ensures c.write-2.ensures
    c.append-modes_end.ensures c.append-lengths_end.ensures c.append.ensures (search rules)
