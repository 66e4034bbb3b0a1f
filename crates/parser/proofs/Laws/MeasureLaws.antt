-- The measure of the parser's cycle: tokens left, paired with the level of the function, as one number. Assumes nothing.
use mathlib.Core.Path.{◌≡◌}
use Prim.Native.Nat.{ℕ, ◌+◌, ◌*◌, ◌≤◌, ◌<◌}
use native.Mathlib.Omega.{arith}

abbrev pub paired : ℕ → ℕ → ℕ
paired left level = 3 * left + level

-- for levels 1 to 3 it orders as pairs do: fewer tokens left, or as many and a lower level
module _ (l m i j : ℕ) (i-least : 1 ≤ i) (i-most : i ≤ 3) (j-least : 1 ≤ j) (j-most : j ≤ 3) where
  pub paired_left : l < m → paired l i < paired m j
  paired_left h = omega arith

  pub paired_level : l ≡ m → i < j → paired l i < paired m j
  paired_level e h = omega arith

  pub paired_order : paired l i < paired m j → m ≤ l → (l ≡ m) × (i < j)
  paired_order h k = (omega arith, omega arith)
