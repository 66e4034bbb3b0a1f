-- `store_table::same_from` meets its contract: what is left of both names compares as all from the position on. Assumes nothing.
use mathlib.Core.Path.{◌≡◌}
use lib.ListN.{drop}
use Rattle.store_table.specs.Names.{same_name}
use Rattle.store_table.proofs.same_from.Given as goal

abbrev pub invariant-loop-i : goal.invariant-loop-i
invariant-loop-i l = same_name (drop l.i l.a) (drop l.i l.b) ≡ same_name (drop l.at l.a) (drop l.at l.b)
