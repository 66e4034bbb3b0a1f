-- The store is after those that were there.
use Rattle.std.proofs.Common.{arith}
use Rattle.args_table.proofs.Laws.FillLaws.{hold_on}
use Rattle.store_args.specs.Inner.Filling.{entry}
use Rattle.args_table.proofs.Stores.push.Goals as goal

pub returns : goal.returns
returns c = hold_on {s = c.args.self.now} (entry c.args.store) (omega arith) (omega arith) (omega arith) c.append-self.ensures
