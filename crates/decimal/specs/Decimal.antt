-- The number that decimal digits write. Assumes nothing.
use Rattle.std.specs.Prelude.{ℕ, ◌+◌, ◌-◌, ◌*◌, List, [], ◌∷◌}
use Prim.Native.Char.{code}

-- the number that a digit writes
abbrev pub digit_value : ℕ → ℕ
digit_value b = b - code "0"

-- the number that digits write after those of n
unfoldable pub decimal_from : ℕ → List ℕ → ℕ
decimal_from n [] = n
decimal_from n (b ∷ bs) = decimal_from (n * 10 + digit_value b) bs

abbrev pub decimal : List ℕ → ℕ
decimal = decimal_from 0
