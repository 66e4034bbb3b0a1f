-- Lines that a program prints for a person. Not of document 01. Assumes nothing.
use Rattle.std.specs.Prelude.{ℕ, ◌-◌, cond, List, [], ◌∷◌, ◌++◌, eqb, length, replicate}
use Rattle.slices.specs.Text.{bytes, part, run_end, other, end_of_last}
use Rattle.ascii.specs.Letters.{within}
use Rattle.refusals.specs.Refusals.{word, meaning}
use Rattle.refusals.specs.declared.Cause.{Cause}
use Rattle.decimal.specs.Digits.{digits_of}

abbrev pub line_end : List ℕ
line_end = 10 ∷ []

-- a word, two numbers with a blank between them, and a line end
abbrev pub numbers_line : List ℕ → ℕ → ℕ → List ℕ
numbers_line w a b = w ++ (digits_of a ++ (bytes " " ++ (digits_of b ++ line_end)))

-- where the last byte above 32 of a text ends
abbrev pub text_end : List ℕ → ℕ
text_end s = end_of_last (within 33 255) s (length s)

-- a refusal's word, and what it means
abbrev pub meaning_line : Cause → List ℕ
meaning_line c = word c ++ (bytes ": " ++ (meaning c ++ line_end))

-- ---- a place in a text

-- a byte as it is shown: a tab as a blank, any other byte that does not print as a question mark
unfoldable pub shown : ℕ → ℕ
shown b = cond (within 32 126 b) b (cond (eqb b 9) 32 63)

unfoldable pub shown_all : List ℕ → List ℕ
unfolding shown
shown_all [] = []
shown_all (b ∷ s) = shown b ∷ shown_all s

-- the line of a position begins after the last line end before it, and ends before the next one
abbrev pub line_start : List ℕ → ℕ → ℕ
line_start s p = end_of_last (within 10 10) s p

abbrev pub line_stop : List ℕ → ℕ → ℕ
line_stop s p = run_end (other 10) s p

-- that line, and a mark under the position
unfoldable pub marked_line : List ℕ → ℕ → List ℕ
unfolding shown_all
marked_line s p =
    let a = line_start s p in
    shown_all (part s a (line_stop s p)) ++ (line_end ++ (replicate (p - a) 32 ++ (bytes "^" ++ line_end)))
