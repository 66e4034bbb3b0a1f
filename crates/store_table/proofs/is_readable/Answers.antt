-- `store_table::is_readable` meets its contract: its test is the definition's. Assumes nothing.
use mathlib.Core.Path.{refl}
use Rattle.store_table.specs.Stores.{is_readable}
use Rattle.store_table.proofs.is_readable.Goals as goal

pub returns : goal.returns
unfolding is_readable
returns c = refl
