-- There are no stores.
use Rattle.std.proofs.Common.{refl}
use Rattle.args_table.proofs.Laws.FillLaws.{hold_none}
use Rattle.args_table.proofs.Stores.new.Goals as goal

pub returns : goal.returns
returns c = hold_none _ refl refl
