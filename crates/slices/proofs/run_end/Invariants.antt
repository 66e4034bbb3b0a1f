-- `slices::run_end` meets its contract: while the bytes pass the test, the run ends where it did. Assumes nothing.
use mathlib.Core.Path.{◌≡◌}
use mathlib.Core.Bool.{Bool}
use Prim.Native.Nat.{ℕ, ◌<◌}
use Rattle.slices.specs.Text.{run_end}
use Rattle.slices.proofs.run_end.Given as goal

abbrev pub invariant-loop-i : goal.invariant-loop-i
invariant-loop-i g l = (p : ℕ → Bool) → ((b : ℕ) (r : Bool) → b < 256 → goal.F-post g l.passes b r → r ≡ p b) → run_end p l.text l.i ≡ run_end p l.text l.at
