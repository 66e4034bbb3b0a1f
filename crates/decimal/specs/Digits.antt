-- The decimal digits of a number, the first one first. Assumes nothing.
use Rattle.std.specs.Prelude.{ℕ, zero, suc, ◌+◌, ◌/◌, ◌%◌, cond, List, [], ◌∷◌, ◌++◌, ltb}
use Prim.Native.Char.{code}

-- the byte of a digit
abbrev pub digit : ℕ → ℕ
digit d = code "0" + d

-- of a number with at most f digits
unfoldable pub digits_in : ℕ → ℕ → List ℕ
digits_in zero n = []
digits_in (suc f) n = let front = digits_in f (n / 10) in cond (ltb n 10) (digit n ∷ []) (front ++ (digit (n % 10) ∷ []))

-- of a number below 2^64, which has at most 20
unfoldable pub digits_of : ℕ → List ℕ
unfolding digits_in
digits_of n = digits_in 20 n
