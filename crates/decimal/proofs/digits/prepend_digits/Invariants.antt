-- `decimal::digits::prepend_digits` meets its contract: the digits already written come after those of what is left. Assumes nothing.
use mathlib.Core.Path.{◌≡◌}
use Prim.Native.Nat.{◌≤◌}
use lib.ListN.{length}
use Rattle.decimal.proofs.Laws.DigitsLaws.{PutBehind}
use Rattle.decimal.proofs.digits.prepend_digits.Given as goal

abbrev pub invariant-loop-left : goal.invariant-loop-left
invariant-loop-left l = (l.left ≤ l.n) × (length l.text ≡ length l.initial.text) × PutBehind l.n l.left l.initial.text l.text l.at l.end

abbrev pub decreases-loop-left : goal.decreases-loop-left
decreases-loop-left l = l.left
