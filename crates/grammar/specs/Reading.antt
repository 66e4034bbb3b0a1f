-- What a text reads as: "Reading tests 1, 2, 3, then the whole text for 4 to 6 (leftmost wins), then parses, first refusal wins."
-- Assumes nothing.
use Rattle.std.specs.Prelude.{ℕ, ◌+◌, ◌*◌, Bool, false, cond, List, [], ◌∷◌, ltb, eqb, length, Result, Ok, Err, ⊤}
use Rattle.slices.specs.Text.{run_end}
use Rattle.refusals.specs.declared.Refusal.{Refusal}
use Rattle.refusals.specs.Refusals.{refusal}
use Rattle.refusals.specs.declared.Cause.TheVariants.{LongText, ForeignByte, TrailingToken}
use Rattle.tokens.specs.declared.Token.{Token}
use Rattle.tokens.specs.Token.{ascii, tokens_from, scan_of}
use Rattle.rules.specs.Rule.{Rule}
use Rattle.grammar.specs.Grammar.{token_kind, first_place, ParseResult, got, bad, or_in}

-- a rule, or a refusal
pub data Read : Type 0 where
  rule : Rule → Read
  refused : Refusal → Read

-- the last of a text's tokens is left
abbrev pub at_end : List Token → Bool
at_end [] = false
at_end (t ∷ ts) = eqb (token_kind t) 0

-- 9, "tokens left after the rule"
abbrev pub ended : ParseResult → Read
ended (got r ts) = cond (at_end ts) (rule r) (refused (refusal TrailingToken (first_place ts)))
ended (bad f) = refused f

-- an expression with no bracket open; each token is read at most three calls deep
unfoldable pub parse_of : List ℕ → Read
parse_of s = ended (or_in (3 * length (tokens_from s 0) + 3) s 0 (tokens_from s 0))

-- "then the whole text for 4 to 6 (leftmost wins), then parses"
abbrev pub scanned_of : Result ⊤ Refusal → List ℕ → Read
scanned_of (Ok u) s = parse_of s
scanned_of (Err f) s = refused f

-- 2, "over 2,048 bytes"; 3, "a byte of 128 or more in the text"
unfoldable pub read_of : List ℕ → Read
read_of s =
    cond (ltb 2048 (length s)) (refused (refusal LongText 0))
    (cond (ltb (run_end ascii s 0) (length s)) (refused (refusal ForeignByte (run_end ascii s 0)))
    (scanned_of (scan_of (tokens_from s 0)) s))
