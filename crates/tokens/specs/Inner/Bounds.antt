-- What the functions that read tokens promise each other: where the text continues after a sign, and the bounds of a token's numbers. Assumes nothing.
use Rattle.refusals.specs.declared.Refusal.{Refusal}
use Rattle.refusals.specs.Refusals.{number}
use Rattle.std.specs.Prelude.{ℕ, ◌+◌, ◌≤◌, ◌<◌, ◌≡◌, cond, eqb, Option, None, Some, Result, Ok, ⊤}
use Rattle.classes.specs.Class.{open_bracket, close_bracket, comma, ampersand, bar}
use Rattle.tokens.specs.declared.Token.{Token}
use Rattle.tokens.specs.declared.Token.TheVariants.{End, Open, Close, Comma, And, Or, Word, Fault}
use Rattle.tokens.specs.Token.{unless}

-- where the text continues after a token, if it begins with a byte of this class and is no word: a bracket, a comma or a sign
unfoldable pub next_of_class : ℕ → Token → Option ℕ
next_of_class k (End p) = None
next_of_class k (Open p n) = cond (eqb k open_bracket) (Some n) None
next_of_class k (Close p n) = cond (eqb k close_bracket) (Some n) None
next_of_class k (Comma p n) = cond (eqb k comma) (Some n) None
next_of_class k (And p n) = cond (eqb k ampersand) (Some n) None
next_of_class k (Or p n) = cond (eqb k bar) (Some n) None
next_of_class k (Word w) = None
next_of_class k (Fault f) = None

-- what the last token of a text says of it
abbrev pub last_of : Token → Result ⊤ Refusal
last_of t = unless t (Ok tt)

-- the bounds of the numbers of a token at or after `at`, in a text of `len` bytes; a fault is one of 4 to 6
abbrev pub Lexed : ℕ → ℕ → Token → Type 0
Lexed len at (End p) = p ≡ len
Lexed len at (Open p n) = (at ≤ p) × (n ≡ p + 1) × (n ≤ len)
Lexed len at (Close p n) = (at ≤ p) × (n ≡ p + 1) × (n ≤ len)
Lexed len at (Comma p n) = (at ≤ p) × (n ≡ p + 1) × (n ≤ len)
Lexed len at (And p n) = (at ≤ p) × (p < n) × (n ≤ len)
Lexed len at (Or p n) = (at ≤ p) × (p < n) × (n ≤ len)
Lexed len at (Word w) = (at ≤ w.place) × (w.place ≤ w.start) × (w.start ≤ w.end) × (w.end ≤ w.next) × (w.place < w.next) × (w.next ≤ len)
Lexed len at (Fault f) = (at ≤ f.place) × (f.place < len) × (4 ≤ number f.cause) × (number f.cause ≤ 6)
