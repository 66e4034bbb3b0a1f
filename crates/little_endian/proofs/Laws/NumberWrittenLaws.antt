-- Laws of writing numbers over a list. Assumes nothing.
use mathlib.Core.Path.{◌≡◌}
use mathlib.Core.List.{List}
use Prim.Native.Nat.{ℕ, ◌+◌, ◌*◌, ◌/◌, ◌^◌, ◌≤◌, ◌<◌}
use native.Mathlib.Numerals.{add-one}
use lib.ListN.{length, get_or, take}
use lib.Seq.{take-suc}
use Rattle.slices.specs.Text.{written}
use Rattle.slices.proofs.Laws.WrittenLaws.{written_then, front_length}
use Rattle.little_endian.specs.Bytes.{le_bytes, packed}
use Rattle.little_endian.proofs.Laws.BytesLaws.{length_le_bytes, length_packed}
use Rattle.little_endian.proofs.Laws.ByteReadLaws.{bytes_join, packed_more}

module _ (s : List ℕ) (at : ℕ) (h : at ≤ length s) {s' s'' : List ℕ} where
  -- a number in two parts
  pub bytes_then : (j k x : ℕ) → s' ≡ written s at (le_bytes j x) → s'' ≡ written s' (at + j) (le_bytes k (x / 256 ^ j)) → s'' ≡ written s at (le_bytes (j + k) x)
  bytes_then j k x e f = rw (bytes_join j k x) (written_then s at h (le_bytes j x) (le_bytes k (x / 256 ^ j)) (at + j) (rw length_le_bytes) e f)

  -- a turn of a loop over a list that writes its numbers, each in k bytes
  pub packed_on : (xs : List ℕ) (i : ℕ) → i < length xs → (k : ℕ) → s' ≡ written s at (packed k (take i xs)) →
      s'' ≡ written s' (at + k * i) (le_bytes k (get_or xs i 0)) → s'' ≡ written s at (packed k (take (i + 1) xs))
  packed_on xs i l k e f =
      rw (add-one, take-suc xs i 0 l, packed_more)
      (written_then s at h (packed k (take i xs)) (le_bytes k (get_or xs i 0)) (at + k * i) (rw (length_packed, front_length s at h xs i l)) e f)
