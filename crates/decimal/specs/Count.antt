-- "A count is an optional `+`, then one or more digits, at most 2^64 - 1." Assumes nothing.
use Rattle.std.specs.Prelude.{ℕ, ◌^◌, Bool, true, cond, ◌&&◌, List, [], ◌∷◌, eqb, ltb, length, drop, Option, Some, None}
use Prim.Native.Char.{code}
use Rattle.ascii.specs.Letters.{is_digit}
use Rattle.decimal.specs.Decimal.{decimal_from}

unfoldable pub all_digits : List ℕ → Bool
unfolding is_digit
all_digits [] = true
all_digits (b ∷ bs) = is_digit b && all_digits bs

-- digits after those of n, that write at most 2^64 - 1
unfoldable pub count_from : ℕ → List ℕ → Option ℕ
unfolding all_digits decimal_from
count_from n ds = cond (all_digits ds && ltb (decimal_from n ds) (2 ^ 64)) (Some (decimal_from n ds)) None

-- "an optional `+`": where the digits begin
unfoldable pub sign_end : List ℕ → ℕ
sign_end [] = 0
sign_end (b ∷ bs) = cond (eqb b (code "+")) 1 0

-- "one or more digits"
unfoldable pub count_of : List ℕ → Option ℕ
unfolding count_from sign_end
count_of w = cond (ltb (sign_end w) (length w)) (count_from 0 (drop (sign_end w) w)) None
