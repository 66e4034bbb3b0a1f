-- `verdict::grades::grade_leaves` meets its contract: each of the first i nodes that is a name is a store's, and each that is a leaf has its grade. Assumes nothing.
use mathlib.Core.Path.{◌≡◌}
use Rattle.image.specs.Decode.{cell_at}
use Rattle.store_table.specs.Stores.{entries_in}
use Rattle.verdict.specs.Inner.Grades.{GradedUpTo}
use Rattle.verdict.proofs.Laws.UnknownLaws.{unknown_up_to}
use Rattle.std.specs.Prelude.{None}
use Rattle.verdict.proofs.grades.grade_leaves.Given as goal

abbrev pub invariant-loop-i : goal.invariant-loop-i
invariant-loop-i l =
    (unknown_up_to (entries_in l.stores.table.bytes.now) (cell_at l.image.bytes.now l.image.nodes) l.i ≡ None)
    × GradedUpTo l.image.bytes.now l.image.nodes l.i l.grades (entries_in l.stores.table.bytes.now)
