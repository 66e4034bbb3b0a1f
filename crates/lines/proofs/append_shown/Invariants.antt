-- `lines::append_shown` meets its contract: after i turns the first i bytes are written, each as it is shown. Assumes nothing.
use mathlib.Core.Path.{◌≡◌}
use Prim.Native.Nat.{◌≤◌}
use lib.ListN.{length, take}
use Rattle.slices.specs.Text.{written}
use Rattle.lines.specs.Lines.{shown_all}
use Rattle.lines.proofs.append_shown.Given as goal

abbrev pub invariant-loop-i : goal.invariant-loop-i
invariant-loop-i l = (l.i ≤ length l.piece) × (length l.text ≡ length l.initial.text) × (l.text ≡ written l.initial.text l.at (take l.i (shown_all l.piece)))
