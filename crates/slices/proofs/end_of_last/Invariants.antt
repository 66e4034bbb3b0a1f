-- `slices::end_of_last` meets its contract: the bytes passed fail the test. Assumes nothing.
use mathlib.Core.Path.{◌≡◌}
use Rattle.ascii.specs.Letters.{within}
use Rattle.slices.specs.Text.{end_of_last}
use Rattle.slices.proofs.end_of_last.Given as goal

abbrev pub invariant-loop-i : goal.invariant-loop-i
invariant-loop-i l = end_of_last (within l.lo l.hi) l.s l.i ≡ end_of_last (within l.lo l.hi) l.s l.at
