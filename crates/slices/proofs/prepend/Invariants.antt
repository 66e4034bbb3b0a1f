-- `slices::prepend` meets its contract: after i turns the first i bytes are written. Assumes nothing.
use mathlib.Core.Path.{◌≡◌}
use lib.ListN.{take}
use Rattle.slices.specs.Text.{written}
use Rattle.slices.proofs.prepend.Given as goal

abbrev pub invariant-loop-i : goal.invariant-loop-i
invariant-loop-i l = l.text ≡ written l.initial.text l.start (take l.i l.piece)
