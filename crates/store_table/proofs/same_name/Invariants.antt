-- `store_table::same_name` meets its contract: what is left of both names compares as the whole. Assumes nothing.
use mathlib.Core.Path.{◌≡◌}
use Prim.Native.Nat.{◌*◌}
use lib.ListN.{drop}
use Rattle.store_table.specs.Names.{same_name}
use Rattle.store_table.proofs.same_name.Given as goal

abbrev pub invariant-loop-k : goal.invariant-loop-k
invariant-loop-k l = same_name (drop (8 * l.k) l.a) (drop (8 * l.k) l.b) ≡ same_name l.a l.b
