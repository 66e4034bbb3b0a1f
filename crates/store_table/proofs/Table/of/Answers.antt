-- `store_table::Table::of` meets its contract: what is well made has its names within it. Assumes nothing.
use mathlib.Core.Path.{sym, ◌∙◌}
use native.Mathlib.Omega.{arith}
use Rattle.store_table.proofs.Laws.StoresLaws.{well_made_in_bounds}
use Rattle.store_table.proofs.Table.of.Goals as goal

pub invariant_of-result : goal.invariant_of-result
invariant_of-result c = record { in_bounds = well_made_in_bounds _ _ (sym c.well_made.ensures ∙ c.if-well_made.true); are_bytes = λ j. omega (arith, c.type_inv.bytes j) }
