-- What a call expects at a position, a word, and of the word, a count: it is there, or what is there is refused. Assumes nothing.
use Rattle.std.specs.Prelude.{ℕ, ◌≤◌, ◌≡◌, List, length, Some, None, Result, Ok, Err}
use Rattle.slices.specs.Text.{part}
use Rattle.refusals.specs.declared.Refusal.{Refusal}
use Rattle.refusals.specs.declared.Cause.TheVariants.{MissingArgument, BadCount}
use Rattle.refusals.specs.Refusals.{refusal}
use Rattle.tokens.specs.declared.Word.{Word}
use Rattle.tokens.specs.Token.{tokens_from}
use Rattle.decimal.specs.Count.{count_of}
use Rattle.grammar.specs.Grammar.{expected, other_token, expected_word}
use Rattle.grammar.specs.Inner.Starts.{Ahead}

-- a word is expected at a position
abbrev pub WordExpected : List ℕ → ℕ → Result Word Refusal → Type 0
WordExpected s at (Ok w) =
    (expected_word s (tokens_from s at) ≡ expected w.place (part s w.start w.end) (tokens_from s w.next)) ×
    (w.place ≤ w.start) × (w.start ≤ w.end) × (w.end ≤ length s) × Ahead s at w.next
WordExpected s at (Err f) = (expected_word s (tokens_from s at) ≡ other_token f.place) × (f ≡ refusal MissingArgument f.place)

-- the word w must be a count
abbrev pub CountExpected : List ℕ → Word → Result ℕ Refusal → Type 0
CountExpected s w (Ok n) = count_of (part s w.start w.end) ≡ Some n
CountExpected s w (Err f) = (count_of (part s w.start w.end) ≡ None) × (f ≡ refusal BadCount w.place)
