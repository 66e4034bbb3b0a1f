-- "Numbers little-endian". Assumes nothing.
use Rattle.std.specs.Prelude.{ℕ, zero, suc, ◌+◌, ◌*◌, ◌/◌, ◌%◌, List, [], ◌∷◌, ◌++◌, take, drop}

-- a number in k bytes, the lowest first
unfoldable pub le_bytes : ℕ → ℕ → List ℕ
le_bytes zero x = []
le_bytes (suc k) x = x % 256 ∷ le_bytes k (x / 256)

-- numbers in k bytes each, one after the other
unfoldable pub packed : ℕ → List ℕ → List ℕ
unfolding le_bytes
packed k [] = []
packed k (x ∷ xs) = le_bytes k x ++ packed k xs

-- the number that bytes make
unfoldable pub le_number : List ℕ → ℕ
le_number [] = 0
le_number (b ∷ bs) = b + 256 * le_number bs

-- the number that the k bytes from a position make
unfoldable pub le_at : List ℕ → ℕ → ℕ → ℕ
unfolding le_number
le_at s at k = le_number (take k (drop at s))
