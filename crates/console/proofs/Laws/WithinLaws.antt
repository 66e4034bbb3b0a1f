-- What is written at the front of a buffer ends within it. Assumes nothing.
use mathlib.Core.Path.{◌≡◌, sym, ap, ◌∙◌}
use mathlib.Core.List.{List}
use Prim.Native.Nat.{ℕ, ◌≤◌}
use native.Mathlib.Omega.{arith}
use lib.ListN.{length, take, length-append}
use lib.Seq.{length-take-le}
use Rattle.slices.specs.Text.{WrittenAt}
use Rattle.slices.proofs.Laws.WrittenLaws.{written_front}

module _ {a b : List ℕ} {e : ℕ} {v : List ℕ} (x : WrittenAt a b 0 e v) where
  pub put_within : e ≤ length b
  put_within = omega (arith, simp length-append at (ap length (x.text ∙ written_front a v)))

  pub put_counts : e ≡ length (take e b)
  put_counts = sym (length-take-le e b put_within)
