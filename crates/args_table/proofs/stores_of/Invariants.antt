-- The stores are those of the arguments read so far.
use Rattle.store_args.specs.Arguments.{arguments_in}
use Rattle.args_table.proofs.Laws.FillLaws.{Filling}
use Rattle.args_table.proofs.stores_of.Given as goal

abbrev pub invariant-loop-arg : goal.invariant-loop-arg
invariant-loop-arg l = Filling l.args (arguments_in l.arg-iterator.0.now) l.stores
