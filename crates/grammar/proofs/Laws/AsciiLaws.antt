-- A text with no foreign byte is ASCII, and so are its parts. Assumes nothing.
use mathlib.Core.Path.{◌≡◌, refl}
use mathlib.Core.Bool.{Bool, true, false, cond, ◌&&◌, and-false}
use mathlib.Core.List.{List, [], ◌∷◌}
use Prim.Native.Nat.{ℕ, suc, ◌-◌, ◌≤◌}
use native.Mathlib.Omega.{arith}
use borrow.Author.Tests.{ltb-false, le-leb, lt-leb, ne_eqb}
use lib.Dec.{T, ltb, leb, eqb, ltb→lt}
use lib.ListN.{length, drop}
use Rattle.slices.specs.Text.{part, run, run_end, all_ascii}
use Rattle.ascii.specs.Letters.{is_digit, is_letter}
use Rattle.classes.specs.Class.{class_of, foreign}
use Rattle.tokens.specs.Token.{ascii}
use Rattle.slices.proofs.Laws.AsciiLaws.{take_ascii, drop_ascii}

-- "foreign (128 up)"
module _ (b : ℕ) (h : 128 ≤ b) where
  above : (k : ℕ) → T (ltb k 128) → leb b k ≡ false
  above k l = lt-leb b k (omega (arith, ltb→lt k 128 l))

  unlike : (k : ℕ) → T (ltb k 128) → eqb b k ≡ false
  unlike k l = ne_eqb b k (λ e. omega (arith, ltb→lt k 128 l))

  class_foreign : class_of b ≡ foreign
  unfolding class_of is_letter is_digit
  class_foreign = simp (and-false, le-leb 128 b h, above, unlike, tt {0})

ascii_below : (b : ℕ) → ascii b ≡ true → ltb b 128 ≡ true
unfolding ascii
ascii_below b e = go (ltb b 128) refl
  where
    go : (v : Bool) → ltb b 128 ≡ v → v ≡ true
    go true q = refl
    go false q = rw (class_foreign b (ltb-false b 128 q)) at e

-- a text that is one run of ASCII bytes up to its end
run_ascii : (s : List ℕ) → length s ≤ run ascii s → all_ascii s ≡ true
unfolding run all_ascii
run_ascii [] h = refl
run_ascii (b ∷ s) h = go (ascii b) refl (run_ascii s) h
  where
    go : (v : Bool) → ascii b ≡ v → (length s ≤ run ascii s → all_ascii s ≡ true) → suc (length s) ≤ cond v (suc (run ascii s)) 0 →
        (ltb b 128 && all_ascii s) ≡ true
    go true e f l = rw (ascii_below b e) (f (omega arith))
    go false e f l = absurd (omega arith)

pub text_ascii : (s : List ℕ) → length s ≤ run_end ascii s 0 → all_ascii s ≡ true
unfolding run_end
text_ascii s h = run_ascii s (omega arith)

-- so are its parts
pub part_ascii : (s : List ℕ) (a b : ℕ) → all_ascii s ≡ true → all_ascii (part s a b) ≡ true
unfolding part
part_ascii s a b h = take_ascii (b - a) (drop a s) (drop_ascii a s h)
