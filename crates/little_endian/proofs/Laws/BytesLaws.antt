-- Numbers in bytes, there and back, and the parts of a list that lie at a position. Assumes nothing.
use mathlib.Core.Path.{◌≡◌, refl, sym, ap, ap₂, ◌∙◌}
use mathlib.Core.List.{List, [], ◌∷◌, ◌++◌, append_assoc, append_cancel_left}
use Prim.Native.Nat.{ℕ, zero, suc, ◌+◌, ◌*◌, ◌/◌, ◌%◌, ◌^◌, ◌≤◌, ◌<◌}
use native.Mathlib.Nat.{mul-suc, mul-zero, add_comm, pow-succ'}
use native.Mathlib.Omega.{arith}
use lib.ListN.{length, take, drop, length-append, length-drop}
use lib.Seq.{length-take-le, take_all, take-append_seam, take-take, drop-drop, take-add, get_or-drop}
use Rattle.slices.specs.Text.{AllBytes}
use Rattle.little_endian.specs.Bytes.{le_bytes, packed, le_number, le_at}

pub length_le_bytes : (k x : ℕ) → length (le_bytes k x) ≡ k
unfolding le_bytes
length_le_bytes zero x = refl
length_le_bytes (suc k) x = ap suc (length_le_bytes k (x / 256))

pub length_packed : (k : ℕ) (xs : List ℕ) → length (packed k xs) ≡ k * length xs
unfolding packed
length_packed k [] = sym (mul-zero k)
length_packed k (x ∷ xs) = rw (length-append, length_le_bytes k x, length_packed k xs, mul-suc) (add_comm k (k * length xs))

pub packed_append : (k : ℕ) (xs ys : List ℕ) → packed k (xs ++ ys) ≡ packed k xs ++ packed k ys
unfolding packed
packed_append k [] ys = refl
packed_append k (x ∷ xs) ys = rw (packed_append k xs ys, append_assoc)

pub le_number_le_bytes : (k x : ℕ) → x < 256 ^ k → le_number (le_bytes k x) ≡ x
unfolding le_bytes le_number
le_number_le_bytes zero x h = omega arith
le_number_le_bytes (suc k) x h =
    let h₁ = rw pow-succ' at h in
    let e = le_number_le_bytes k (x / 256) (omega arith) in
    omega arith

pub le_number_below : (bs : List ℕ) → AllBytes bs → le_number bs < 256 ^ length bs
unfolding le_number
le_number_below [] h = omega arith
le_number_below (b ∷ bs) h =
    let e = le_number_below bs (λ i. h (suc i)) in
    let l = h 0 in
    rw pow-succ' (omega arith)

pub le_bytes_le_number : (bs : List ℕ) → AllBytes bs → le_bytes (length bs) (le_number bs) ≡ bs
unfolding le_bytes le_number
le_bytes_le_number [] h = refl
le_bytes_le_number (b ∷ bs) h =
    let l = h 0 in
    let p : (b + 256 * le_number bs) % 256 ≡ b = omega arith in
    let q : (b + 256 * le_number bs) / 256 ≡ le_number bs = omega arith in
    rw (p, q, le_bytes_le_number bs (λ i. h (suc i)))

-- the list s has the list l at a position
unfoldable pub Has : List ℕ → ℕ → List ℕ → Type 0
Has s at l = take (length l) (drop at s) ≡ l

pub has_front : (s a b : List ℕ) (at : ℕ) → Has s at (a ++ b) → Has s at a
unfolding Has
has_front s a b at h =
    let l = length-append a b in
    let p = take-take (length a) (length (a ++ b)) (drop at s) (omega arith) in
    sym p ∙ rw h (take-append_seam a b)

module _ (s a b : List ℕ) (at to : ℕ) (e : at + length a ≡ to) where
  pub has_append : Has s at a → Has s to b → Has s at (a ++ b)
  unfolding Has
  has_append h k = rw (length-append a b, take-add (length a) (length b) (drop at s), drop-drop, e) (ap₂ ◌++◌ h k)

  pub has_back : Has s at (a ++ b) → Has s to b
  unfolding Has
  has_back h = append_cancel_left a _ b (rw (length-append a b, take-add (length a) (length b) (drop at s), drop-drop, e, has_front s a b at h) at h)

-- and nothing after it, if s ends there
pub has_rest : (s l : List ℕ) (at : ℕ) → length s ≡ at + length l → Has s at l → drop at s ≡ l
unfolding Has
has_rest s l at e h = sym (take_all (length l) (drop at s) (rw length-drop (omega arith))) ∙ h

-- numbers in bytes are read back
pub number_at : (s : List ℕ) (at k x : ℕ) → x < 256 ^ k → Has s at (le_bytes k x) → le_at s at k ≡ x
unfolding Has le_at
number_at s at k x lt h = ap le_number (rw (length_le_bytes k x) at h) ∙ le_number_le_bytes k x lt

pub bytes_append : (s t : List ℕ) → AllBytes s → AllBytes t → AllBytes (s ++ t)
bytes_append [] t p q i = q i
bytes_append (b ∷ s) t p q zero = p 0
bytes_append (b ∷ s) t p q (suc i) = bytes_append s t (λ j. p (suc j)) q i

pub bytes_number : (k x : ℕ) → AllBytes (le_bytes k x)
unfolding le_bytes
bytes_number zero x i = omega arith
bytes_number (suc k) x zero = omega arith
bytes_number (suc k) x (suc i) = bytes_number k (x / 256) i

pub bytes_packed : (k : ℕ) (xs : List ℕ) → AllBytes (packed k xs)
unfolding packed
bytes_packed k [] i = omega arith
bytes_packed k (x ∷ xs) i = bytes_append (le_bytes k x) (packed k xs) (bytes_number k x) (bytes_packed k xs) i

bytes_take : (k : ℕ) (s : List ℕ) → AllBytes s → AllBytes (take k s)
bytes_take zero s h i = omega arith
bytes_take (suc k) [] h i = omega arith
bytes_take (suc k) (b ∷ bs) h zero = h 0
bytes_take (suc k) (b ∷ bs) h (suc i) = bytes_take k bs (λ j. h (suc j)) i

pub bytes_at : (s : List ℕ) (at k : ℕ) → AllBytes s → AllBytes (take k (drop at s))
bytes_at s at k h = bytes_take k (drop at s) (λ i. rw get_or-drop (h (at + i)))

pub at_number : (s : List ℕ) (at k : ℕ) → AllBytes s → at + k ≤ length s → Has s at (le_bytes k (le_at s at k))
unfolding Has le_at
at_number s at k h fits =
    let l = length-take-le k (drop at s) (rw length-drop (omega arith)) in
    rw (length_le_bytes k (le_number (take k (drop at s)))) (sym (rw l at (le_bytes_le_number (take k (drop at s)) (bytes_at s at k h))))

pub number_below : (s : List ℕ) (at k : ℕ) → AllBytes s → at + k ≤ length s → le_at s at k < 256 ^ k
unfolding le_at
number_below s at k h fits =
    let l = length-take-le k (drop at s) (rw length-drop (omega arith)) in
    rw l at (le_number_below (take k (drop at s)) (bytes_at s at k h))
