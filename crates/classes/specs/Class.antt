-- The class of a byte. Assumes nothing.
use Rattle.std.specs.Prelude.{ℕ, Bool, cond, ◌||◌, eqb, leb}
use Prim.Native.Char.{code}
use Rattle.ascii.specs.Letters.{within, is_digit, is_letter}

-- the classes' numbers, in the order of the rule
abbrev pub blank : ℕ
blank = 0

abbrev pub open_bracket : ℕ
open_bracket = 1

abbrev pub close_bracket : ℕ
close_bracket = 2

abbrev pub comma : ℕ
comma = 3

abbrev pub ampersand : ℕ
ampersand = 4

abbrev pub bar : ℕ
bar = 5

abbrev pub quote : ℕ
quote = 6

abbrev pub word : ℕ
word = 7

abbrev pub foreign : ℕ
foreign = 8

abbrev pub stray : ℕ
stray = 9

-- "blank (9 to 13, 32)"
unfoldable pub is_blank : ℕ → Bool
is_blank b = within 9 13 b || eqb b 32

-- "quote (`"` or `'`)"
unfoldable pub is_quote : ℕ → Bool
is_quote b = eqb b (code "\"") || eqb b (code "'")

-- "word (letters, digits, `_`, `-`, `.`)"
unfoldable pub is_word : ℕ → Bool
unfolding is_letter is_digit
is_word b = is_letter b || is_digit b || eqb b (code "_") || eqb b (code "-") || eqb b (code ".")

-- "blank; `(`; `)`; comma; `&`; `|`; quote; word; foreign (128 up); stray (the rest)"
unfoldable pub class_of : ℕ → ℕ
unfolding is_blank is_quote is_word
class_of b =
    cond (is_blank b) blank
    (cond (eqb b (code "(")) open_bracket
    (cond (eqb b (code ")")) close_bracket
    (cond (eqb b (code ",")) comma
    (cond (eqb b (code "&")) ampersand
    (cond (eqb b (code "|")) bar
    (cond (is_quote b) quote
    (cond (is_word b) word
    (cond (leb 128 b) foreign stray))))))))

-- the byte is of this class
unfoldable pub of_class : ℕ → ℕ → Bool
unfolding class_of
of_class k b = eqb (class_of b) k
