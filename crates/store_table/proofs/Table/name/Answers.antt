-- `store_table::Table::name` meets its contract: the name of an entry lies within the bytes, from where it begins. Assumes nothing.
use native.Mathlib.Omega.{arith}
use Rattle.store_table.proofs.Laws.WalkLaws.{name_within, name_here}
use Rattle.store_table.proofs.Table.name.Goals as goal

pub overflow_add-end : goal.overflow_add-end
overflow_add-end c = omega (arith, name_within c.requires.1 c.requires.0)

pub slice_bounds-result-end : goal.slice_bounds-result-end
slice_bounds-result-end c = omega (arith, name_within c.requires.1 c.requires.0)

pub returns : goal.returns
returns c = name_here c.requires.1 c.requires.0 c.name_length.ensures.0 c.name_length.ensures.1
