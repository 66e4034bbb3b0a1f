-- An array of zeros is blank, and one of false has no mark. Assumes nothing.
use mathlib.Core.Path.{refl}
use mathlib.Core.Bool.{false}
use Prim.Native.Nat.{ℕ, zero, suc}
use lib.ListN.{replicate}
use Rattle.store_table.specs.Inner.Index.{Blank, Unmarked}

pub zeros_blank : (n : ℕ) → Blank (replicate n 0)
zeros_blank zero i = refl
zeros_blank (suc n) zero = refl
zeros_blank (suc n) (suc i) = zeros_blank n i

pub flags_unmarked : (n : ℕ) → Unmarked (replicate n false)
flags_unmarked zero i = refl
flags_unmarked (suc n) zero = refl
flags_unmarked (suc n) (suc i) = flags_unmarked n i
