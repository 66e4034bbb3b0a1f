-- The token at a position of a text, and the tokens from there on, as document 01's 'Bytes and words' has them.
-- Assumes nothing.
use Rattle.refusals.specs.declared.Refusal.{Refusal}
use Rattle.std.specs.Prelude.{ℕ, zero, suc, ◌+◌, ◌-◌, Bool, true, false, not, cond, ◌&&◌, List, [], ◌∷◌, ltb, eqb, length, get_or, Option, None, Some, Result, Ok, Err, ⊤}
use Rattle.slices.specs.Text.{bytes, part, run_end, other}
use Rattle.ascii.specs.Letters.{equal_ignoring_case}
use Rattle.classes.specs.Class.{class_of, of_class, blank, open_bracket, close_bracket, comma, ampersand, bar, quote, word, foreign}
use Rattle.refusals.specs.Refusals.{refusal}
use Rattle.refusals.specs.declared.Cause.TheVariants.{HalfSign, OpenQuote, StrayCharacter}
use Rattle.tokens.specs.declared.Token.{Token}
use Rattle.tokens.specs.declared.Token.TheVariants.{End, Open, Close, Comma, And, Or, Word, Fault}

-- the byte is not foreign
unfoldable pub ascii : ℕ → Bool
ascii b = not (eqb (class_of b) foreign)

-- the byte at p is followed by the same byte
unfoldable pub doubled : List ℕ → ℕ → Bool
doubled s p = ltb (p + 1) (length s) && eqb (get_or s (p + 1) 0) (get_or s p 0)

-- 4, "`&` or `|` not followed by its like"
abbrev pub sign_at : List ℕ → ℕ → Token → Token
sign_at s p sign = cond (doubled s p) sign (Fault (refusal HalfSign p))

-- 5, "no closing mark of the same sort"; the closing mark is at e
unfoldable pub quoted_to : List ℕ → ℕ → ℕ → Token
quoted_to s p e = cond (ltb e (length s)) (Word (record { place = p; start = p + 1; end = e; quoted = true; next = e + 1 })) (Fault (refusal OpenQuote p))

-- "A quoted word runs to the next mark of the same sort, without escapes, and may be empty."
unfoldable pub quoted_at : List ℕ → ℕ → ℕ → Token
quoted_at s p mark = quoted_to s p (run_end (other mark) s (p + 1))

-- "Unquoted `and` and `or`, in any case of letters, are the signs"; the word ends at e
unfoldable pub unquoted_to : List ℕ → ℕ → ℕ → Token
unquoted_to s p e =
    cond (equal_ignoring_case (part s p e) (bytes "and")) (And p e)
    (cond (equal_ignoring_case (part s p e) (bytes "or")) (Or p e) (Word (record { place = p; start = p; end = e; quoted = false; next = e })))

unfoldable pub unquoted_at : List ℕ → ℕ → Token
unquoted_at s p = unquoted_to s p (run_end (of_class word) s p)

-- the token whose first byte is b, of class k, at p
unfoldable pub token_of : List ℕ → ℕ → ℕ → ℕ → Token
token_of s p b k =
    cond (eqb k open_bracket) (Open p (p + 1))
    (cond (eqb k close_bracket) (Close p (p + 1))
    (cond (eqb k comma) (Comma p (p + 1))
    (cond (eqb k ampersand) (sign_at s p (And p (p + 2)))
    (cond (eqb k bar) (sign_at s p (Or p (p + 2)))
    (cond (eqb k quote) (quoted_at s p b)
    (cond (eqb k word) (unquoted_at s p)
    (Fault (refusal StrayCharacter p))))))))

-- the token that begins at p, where there is no blank
unfoldable pub start_at : List ℕ → ℕ → Token
start_at s p = cond (ltb p (length s)) (token_of s p (get_or s p 0) (class_of (get_or s p 0))) (End (length s))

-- the first token from a position on
unfoldable pub token_at : List ℕ → ℕ → Token
token_at s at = start_at s (run_end (of_class blank) s at)

-- where the next token is looked for; after the end and after a fault there is none
unfoldable pub next_of : Token → Option ℕ
next_of (End p) = None
next_of (Open p n) = Some n
next_of (Close p n) = Some n
next_of (Comma p n) = Some n
next_of (And p n) = Some n
next_of (Or p n) = Some n
next_of (Word w) = Some w.next
next_of (Fault f) = None

-- "the first byte of the token found, or the text length if none"; "a quoted word begins at its mark"
unfoldable pub place_of : Token → ℕ
place_of (End p) = p
place_of (Open p n) = p
place_of (Close p n) = p
place_of (Comma p n) = p
place_of (And p n) = p
place_of (Or p n) = p
place_of (Word w) = w.place
place_of (Fault f) = f.place

-- a token, and those that `more` gives from there on
abbrev pub onward : Token → Option ℕ → (ℕ → List Token) → List Token
onward t None more = t ∷ []
onward t (Some n) more = t ∷ more n

-- the tokens from a position on; the first number bounds how many there can be
unfoldable pub tokens_by : ℕ → List ℕ → ℕ → List Token
tokens_by zero s at = []
tokens_by (suc f) s at = onward (token_at s at) (next_of (token_at s at)) (tokens_by f s)

-- the tokens from a position on, each with its place; the last is the end or a fault
unfoldable pub tokens_from : List ℕ → ℕ → List Token
tokens_from s at = tokens_by (length s - at + 1) s at

-- what a token says of the whole text, that it is clean or a refusal, where `rest` is what those after it say
abbrev pub unless : Token → Result ⊤ Refusal → Result ⊤ Refusal
unless (Fault f) rest = Err f
unless (End p) rest = rest
unless (Open p n) rest = rest
unless (Close p n) rest = rest
unless (Comma p n) rest = rest
unless (And p n) rest = rest
unless (Or p n) rest = rest
unless (Word w) rest = rest

-- "the whole text for 4 to 6 (leftmost wins)": the first fault among tokens, or none
unfoldable pub scan_of : List Token → Result ⊤ Refusal
scan_of [] = Ok tt
scan_of (t ∷ ts) = unless t (scan_of ts)
