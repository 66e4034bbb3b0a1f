-- Laws of a number's decimal digits: how many there are, the last one, the number that they write, and digits written into a text one by one. Assumes nothing.
use mathlib.Core.Path.{◌≡◌, refl, sym, ap, ◌∙◌}
use mathlib.Core.Bool.{Bool, true, false}
use mathlib.Core.List.{List, [], ◌∷◌, ◌++◌, append-nil}
use Prim.Native.Nat.{ℕ, zero, suc, ◌+◌, ◌-◌, ◌*◌, ◌/◌, ◌%◌, ◌^◌, ◌≤◌, ◌<◌, max}
use native.Mathlib.Nat.{pow-suc, one-le-pow}
use native.Mathlib.Omega.{arith}
use borrow.Author.Tests.{ltb-true, ltb-false, lt-ltb, le-ltb}
use lib.Dec.{ltb}
use lib.ListN.{length, set, length-append}
use lib.Seq.{append_snoc}
use Rattle.slices.specs.Text.{WrittenAt}
use Rattle.slices.proofs.Laws.WrittenLaws.{written_at_none, written_at_byte, written_at_before, written_at_length}
use Rattle.decimal.specs.Decimal.{digit_value, decimal_from, decimal}
use Rattle.decimal.specs.Digits.{digit, digits_in, digits_of}

-- ---- by the number of digits that there is room for: none
in_none : (n : ℕ) → digits_in 0 n ≡ []
unfolding digits_in
in_none n = refl

-- one digit
in_one : (f n : ℕ) → n < 10 → digits_in (suc f) n ≡ digit n ∷ []
unfolding digits_in
in_one f n h = rw (lt-ltb n 10 h)

-- more than one
in_last : (f n : ℕ) → 10 ≤ n → digits_in (suc f) n ≡ digits_in f (n / 10) ++ (digit (n % 10) ∷ [])
unfolding digits_in
in_last f n h = rw (le-ltb n 10 h)

-- what holds of numbers of one digit, and of those of more
by_ten : {P : Type 0} (n : ℕ) → (n < 10 → P) → (10 ≤ n → P) → P
by_ten {P} n one more = go (ltb n 10) refl
  where
    go : (v : Bool) → ltb n 10 ≡ v → P
    go true e = one (ltb-true n 10 e)
    go false e = more (ltb-false n 10 e)

-- room for one more changes nothing
front_small : (f n : ℕ) → n < 10 ^ suc f → n / 10 < 10 ^ f
front_small f n h = omega (arith, pow-suc 10 f)

in_more : (f n : ℕ) → n < 10 ^ suc f → digits_in (suc (suc f)) n ≡ digits_in (suc f) n
in_more zero n h = in_one 1 n h ∙ sym (in_one 0 n h)
in_more (suc f) n h =
    by_ten n
    (λ l. in_one (suc (suc f)) n l ∙ sym (in_one (suc f) n l))
    (λ l. rw (in_last (suc (suc f)) n l, in_last (suc f) n l, in_more f (n / 10) (front_small (suc f) n h)))

-- how many there are
in_short : (f n : ℕ) → length (digits_in f n) ≤ f
in_short zero n = rw in_none (omega arith)
in_short (suc f) n =
    by_ten n
    (λ l. rw (in_one f n l) (omega arith))
    (λ l. rw (in_last f n l, length-append) (omega (arith, in_short f (n / 10))))

in_below : (f k n : ℕ) → n < 10 ^ suc k → length (digits_in f n) ≤ suc k
in_below zero k n h = rw in_none (omega arith)
in_below (suc f) zero n h = rw (in_one f n h) (omega arith)
in_below (suc f) (suc k) n h =
    by_ten n
    (λ l. rw (in_one f n l) (omega arith))
    (λ l. rw (in_last f n l, length-append) (omega (arith, in_below f k (n / 10) (front_small (suc k) n h))))

in_some : (f n : ℕ) → 1 ≤ length (digits_in (suc f) n)
in_some f n =
    by_ten n
    (λ l. rw (in_one f n l) (omega arith))
    (λ l. rw (in_last f n l, length-append) (omega arith))

-- the number that digits with one more after them write
decimal_last : (n : ℕ) (ds : List ℕ) (b : ℕ) → decimal_from n (ds ++ (b ∷ [])) ≡ decimal_from n ds * 10 + digit_value b
unfolding decimal_from
decimal_last n [] b = refl
decimal_last n (d ∷ ds) b = decimal_last (n * 10 + digit_value d) ds b

-- the number that they write
in_read : (f n : ℕ) → n < 10 ^ f → decimal (digits_in f n) ≡ n
unfolding decimal_from
in_read zero n h = rw in_none (omega arith)
in_read (suc f) n h =
    by_ten n
    (λ l. rw (in_one f n l) (omega arith))
    (λ l. rw (in_last f n l, decimal_last, in_read f (n / 10) (front_small f n h)) (omega arith))

-- ---- of a number below 2^64: at most 20
pub digits_short : (n : ℕ) → length (digits_of n) ≤ 20
unfolding digits_of
digits_short = in_short 20

-- and at most k, if it is below 10^k
pub digits_below : (k n : ℕ) → n < 10 ^ suc k → length (digits_of n) ≤ suc k
unfolding digits_of
digits_below = in_below 20

-- at least one
pub digits_some : (n : ℕ) → 1 ≤ length (digits_of n)
unfolding digits_of
digits_some = in_some 19

-- one, of a number below ten
pub digits_one : (n : ℕ) → n < 10 → digits_of n ≡ digit n ∷ []
unfolding digits_of
digits_one = in_one 19

-- the last one, after those of a tenth of the number
pub digits_last : (n : ℕ) → 10 ≤ n → n < 2 ^ 64 → digits_of n ≡ digits_of (n / 10) ++ (digit (n % 10) ∷ [])
unfolding digits_of
digits_last n l h = rw (in_last 19 n l, in_more 18 (n / 10) (front_small 19 n (omega arith)))

-- read back they give the number: a law of the definitions alone, which no contract needs
pub digits_read : (n : ℕ) → n < 2 ^ 64 → decimal (digits_of n) ≡ n
unfolding digits_of
digits_read n h = in_read 20 n (omega arith)

-- one more than a tenth of the number has
pub digits_more : (n : ℕ) → 10 ≤ n → n < 2 ^ 64 → length (digits_of n) ≡ length (digits_of (n / 10)) + 1
digits_more n l h = rw (digits_last n l h) (length-append (digits_of (n / 10)) (digit (n % 10) ∷ []))

-- one more than the whole logarithm of the number has
pub digits_log : (k n : ℕ) → 10 ^ k ≤ n → n < 10 * 10 ^ k → n < 2 ^ 64 → length (digits_of n) ≡ k + 1
digits_log zero n l h m = rw (digits_one n (omega arith)) (omega arith)
digits_log (suc k) n l h m =
    let p = pow-suc 10 k in
    let q : 1 ≤ 10 ^ k = one-le-pow k 10 (omega arith) in
    omega (arith, digits_more n (omega arith) m, digits_log k (n / 10) (omega arith) (omega arith) (omega arith))

-- and 0 has as many as 1
pub digits_max : (n : ℕ) → length (digits_of n) ≡ length (digits_of (max n 1))
digits_max zero = rw (digits_one 0 (omega arith), digits_one 1 (omega arith))
digits_max (suc n) = let e : max (suc n) 1 ≡ suc n = omega arith in rw e

-- ---- the digits of n written into a text up to `end`, the last one first: those of `left` are still to be written, and the
-- others are in the text from `at` on
pub record PutBehind (n left : ℕ) (before after : List ℕ) (at end : ℕ) : Type 0 where
  pub digits : List ℕ
  pub put : WrittenAt before after at end digits
  pub whole : digits_of left ++ digits ≡ digits_of n

-- before the first turn
pub behind_none : (n : ℕ) (s : List ℕ) (end : ℕ) → PutBehind n n s s end end
behind_none n s end = record { digits = []; put = written_at_none s end; whole = append-nil (digits_of n) }

module _ (n left : ℕ) {before after : List ℕ} {at end : ℕ} (b : PutBehind n left before after at end) where
  -- there is room for those of `left`
  pub behind_room : length (digits_of n) ≤ end → (1 ≤ at) × (at ≤ end)
  behind_room h = let e = simp length-append at (ap length b.whole) in (omega (arith, digits_some left), omega arith)

  module _ (h : length (digits_of n) ≤ end) (k : end ≤ length before) where
    byte_put : (d : ℕ) → WrittenAt before (set after (at - 1) d) (at - 1) end (d ∷ b.digits)
    byte_put d = let r = behind_room h in written_at_before k b.put (written_at_byte after at d r.0 (omega (arith, written_at_length k b.put)))

    -- a turn
    pub behind_on : 10 ≤ left → left < 2 ^ 64 → PutBehind n (left / 10) before (set after (at - 1) (digit (left % 10))) (at - 1) end
    behind_on l m =
        record {
          digits = digit (left % 10) ∷ b.digits;
          put = byte_put (digit (left % 10));
          whole = sym (append_snoc (digits_of (left / 10)) (digit (left % 10)) b.digits) ∙ rw (digits_last left l m) at b.whole;
        }

    -- and the first digit
    pub behind_first : left < 10 → WrittenAt before (set after (at - 1) (digit left)) (at - 1) end (digits_of n)
    behind_first l = rw (← b.whole, digits_one left l) (byte_put (digit left))
