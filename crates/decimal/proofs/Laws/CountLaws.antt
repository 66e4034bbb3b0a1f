-- Laws of counts: where the sign ends, and what the digits from a position on add to those before it. Assumes nothing.
use Rattle.std.specs.Prelude.{Some, None}
use mathlib.Core.Path.{◌≡◌, refl, sym, ◌∙◌}
use mathlib.Core.Bool.{Bool, true, false, cond, ◌&&◌, and-false}
use mathlib.Core.List.{List, [], ◌∷◌}
use Prim.Native.Nat.{ℕ, ◌+◌, ◌-◌, ◌*◌, ◌^◌, ◌≤◌, ◌<◌}
use Prim.Native.Char.{code}
use native.Mathlib.Numerals.{add-one}
use native.Mathlib.Omega.{arith}
use borrow.Author.Tests.{lt-ltb, le-ltb, eq-eqb, ne_eqb, eqb-true}
use lib.Dec.{eqb}
use lib.Pointwise.{pointwise}
use lib.ListN.{length, take, drop, get_or, drop_of_length-le, length-drop}
use lib.Seq.{take_all}
use lib.Seq.{drop-cons}
use Rattle.ascii.specs.Letters.{is_digit}
use Rattle.decimal.specs.Decimal.{digit_value, decimal_from}
use Rattle.decimal.proofs.Laws.DecimalLaws.{decimal_ge}
use Rattle.decimal.specs.Count.{all_digits, count_from, sign_end, count_of}

-- ---- the sign: one where a word begins with a `+`
pub sign_same : (w : List ℕ) → ◌≡◌ {A = ℕ} (cond (pointwise eqb (code "+" ∷ []) (take 1 w)) 1 0) (sign_end w)
unfolding sign_end
sign_same [] = refl
sign_same (b ∷ w) = go (eqb b (code "+")) refl
  where
    go : (v : Bool) → eqb b (code "+") ≡ v → ◌≡◌ {A = ℕ} (cond (eqb (code "+") b && true) 1 0) (cond (eqb b (code "+")) 1 0)
    go true e = rw (e, eq-eqb (code "+") b (sym (eqb-true b (code "+") e)))
    go false e = rw (e, ne_eqb (code "+") b (λ q. cc (rw (eq-eqb b (code "+") (sym q)) at e)))

-- ---- "one or more digits" after the sign
module _ (w : List ℕ) {start : ℕ} (e : start ≡ sign_end w) where
  pub count_none : length w ≤ start → count_of w ≡ None
  unfolding count_of
  count_none h = rw (le-ltb (sign_end w) (length w) (omega arith))

  pub count_start_lem : start < length w → count_from 0 (take (length w - start) (drop start w)) ≡ count_of w
  unfolding count_of
  count_start_lem h = rw (take_all (length w - start) (drop start w) (rw length-drop (omega arith)), e, lt-ltb (sign_end w) (length w) (omega arith))

-- ---- the digits after those of n: where n is too large already
pub count_over : (n : ℕ) (ds : List ℕ) → 2 ^ 64 ≤ n → count_from n ds ≡ None
unfolding count_from
count_over n ds h = rw (le-ltb (decimal_from n ds) (2 ^ 64) (omega (arith, decimal_ge n ds)), and-false (all_digits ds))

module _ (n : ℕ) (w : List ℕ) (i : ℕ) where
  -- past the last
  pub count_end : length w ≤ i → n < 2 ^ 64 → count_from n (drop i w) ≡ Some n
  unfolding count_from
  count_end h k = rw (drop_of_length-le w h, lt-ltb n (2 ^ 64) k)

  module _ (h : i < length w) where
    -- at a digit
    pub count_on : is_digit (get_or w i 0) ≡ true → count_from n (drop i w) ≡ count_from (n * 10 + digit_value (get_or w i 0)) (drop (i + 1) w)
    unfolding count_from
    count_on e = rw (drop-cons w i 0 h, e, add-one i)

    -- at one that makes the number too large
    pub count_large : is_digit (get_or w i 0) ≡ true → 2 ^ 64 ≤ n * 10 + digit_value (get_or w i 0) → count_from n (drop i w) ≡ None
    count_large e k = count_on e ∙ count_over (n * 10 + digit_value (get_or w i 0)) (drop (i + 1) w) k

    -- at another byte
    pub count_off : is_digit (get_or w i 0) ≡ false → count_from n (drop i w) ≡ None
    unfolding count_from
    count_off e = rw (drop-cons w i 0 h, e)
