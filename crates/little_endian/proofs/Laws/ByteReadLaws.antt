-- Laws of numbers in bytes: j + k bytes are j bytes and then k bytes, as they are written and as they are read.
-- Assumes nothing.
use mathlib.Core.Path.{◌≡◌, ◌∙◌}
use mathlib.Core.List.{List, [], ◌∷◌, ◌++◌, append-nil}
use Prim.Native.Nat.{ℕ, zero, suc, ◌+◌, ◌*◌, ◌/◌, ◌^◌, ◌<◌}
use native.Mathlib.Nat.{zero-add, suc-add, mul-zero, one-mul, mul_assoc, pow-succ', div-one, div-div-eq-div-mul}
use native.Mathlib.Omega.{arith}
use lib.ListN.{length, take, drop, get_or}
use lib.Seq.{take-nil, drop-drop, drop-cons}
use Rattle.little_endian.specs.Bytes.{le_bytes, packed, le_number, le_at}
use Rattle.little_endian.proofs.Laws.BytesLaws.{packed_append}

pub bytes_join : (j k x : ℕ) → le_bytes (j + k) x ≡ le_bytes j x ++ le_bytes k (x / 256 ^ j)
unfolding le_bytes
bytes_join zero k x = rw (zero-add, div-one)
bytes_join (suc j) k x = rw (suc-add, pow-succ', ← div-div-eq-div-mul, bytes_join j k (x / 256))

-- one number more after others
pub packed_more : (k : ℕ) (xs : List ℕ) (x : ℕ) → packed k (xs ++ (x ∷ [])) ≡ packed k xs ++ le_bytes k x
unfolding packed
packed_more k xs x = packed_append k xs (x ∷ []) ∙ rw append-nil

number_join : (j k : ℕ) (s : List ℕ) → le_number (take (j + k) s) ≡ le_number (take j s) + 256 ^ j * le_number (take k (drop j s))
unfolding le_number
number_join zero k s = simp (zero-add, one-mul)
number_join (suc j) k [] = simp (take-nil, mul-zero)
number_join (suc j) k (b ∷ s) = rw (suc-add, pow-succ', number_join j k s, mul_assoc) (omega arith)

pub at_join : (s : List ℕ) (at j k : ℕ) → le_at s at (j + k) ≡ le_at s at j + 256 ^ j * le_at s (at + j) k
unfolding le_at
at_join s at j k = rw (← drop-drop) (number_join j k (drop at s))

pub at_one : (s : List ℕ) (at : ℕ) → at < length s → le_at s at 1 ≡ get_or s at 0
unfolding le_at
at_one s at h = rw (drop-cons s at 0 h) (omega arith)
