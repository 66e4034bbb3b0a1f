-- The stores are those of the arguments read so far.
use Rattle.std.proofs.Common.{sym}
use Rattle.args_table.proofs.Laws.FillLaws.{fill_start, fill_end, fill_room, fill_bad, fill_on}
use Rattle.args_table.proofs.stores_of.Goals as goal

pub loop-arg-init : goal.loop-arg-init
loop-arg-init c = rw c.into_iter-arg-iterator.ensures.into_iter_gives (fill_start c.args.args.now c.requires.1)

pub returns-in-Err : goal.returns-in-Err
returns-in-Err c = fill_bad c.loop-arg.invariant c.in-Some.ensures.steps (sym c.in-Err.ensures)

pub push-requires : goal.push-requires
push-requires c = fill_room c.loop-arg.invariant c.in-Some.ensures.steps c.in-Ok.store (sym c.in-Ok.ensures) c.requires.0

pub loop-arg-preserved : goal.loop-arg-preserved
loop-arg-preserved c = fill_on c.loop-arg.invariant c.in-Some.ensures.steps c.in-Ok.store (sym c.in-Ok.ensures) c.push.ensures

pub returns : goal.returns
returns c = fill_end c.loop-arg.invariant c.in-None.ensures.steps.0
