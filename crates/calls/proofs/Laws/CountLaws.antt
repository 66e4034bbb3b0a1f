-- A call that expects a word, which must be a count, and then a bracket or a comma of class j: how it is refused, and what it reads.
-- Assumes nothing.
use Prim.Native.Nat.{ℕ, ◌≤◌}
use mathlib.Core.Path.{◌≡◌}
use mathlib.Core.List.{List}
use Rattle.std.specs.Prelude.{Result, Ok, Err}
use Rattle.classes.specs.Class.{open_bracket, bar}
use Rattle.refusals.specs.declared.Refusal.{Refusal}
use Rattle.refusals.specs.declared.Cause.{Cause}
use Rattle.refusals.specs.declared.Cause.TheVariants.{BadCount}
use Rattle.tokens.specs.declared.Token.{Token}
use Rattle.tokens.specs.declared.Word.{Word}
use Rattle.tokens.specs.Token.{token_at}
use Rattle.decimal.specs.Count.{count_of}
use Rattle.signs.specs.Inner.Expected.{expected}
use Rattle.grammar.specs.Grammar as grammar
use Rattle.grammar.specs.Grammar.{require_word, valued, expecting, expected_word, after, first_place}
use Rattle.grammar.specs.declared.PrimaryStart.{PrimaryStart}
use Rattle.grammar.specs.Inner.Starts.{BeginsAt}
use Rattle.grammar.proofs.Laws.StartLaws.{begins_refused}
use Rattle.calls.specs.Inner.Expected.{WordExpected, CountExpected}
use Rattle.calls.proofs.Laws.BracketLaws.{bracket_expected}

-- there is no word
pub word_missing : (s : List ℕ) (at : ℕ) {f : Refusal} {h : Result PrimaryStart Refusal} (then : ℕ → List ℕ → List Token → grammar.PrimaryStart) →
    h ≡ Err f → WordExpected s at (Err f) → BeginsAt s at h (λ ts. require_word (expected_word s ts) then)
word_missing s at then e w = begins_refused e w.1 (rw w.0)

-- a count, then class j, or this refusal; the call goes on by `then`
abbrev pub count_call : List ℕ → ℕ → Cause → (ℕ → List Token → grammar.PrimaryStart) → List Token → grammar.PrimaryStart
count_call s j cause then ts =
    require_word (expected_word s ts) (λ p w us.
    valued (count_of w) BadCount p (λ k.
    expecting cause (after j us) (first_place us) (λ vs. then k vs)))

module _ (s : List ℕ) (at j : ℕ) (cause : Cause) (then : ℕ → List Token → grammar.PrimaryStart) (w : Word) (word : WordExpected s at (Ok w)) {f : Refusal} {h : Result PrimaryStart Refusal} (e : h ≡ Err f) where
  -- the word is no count
  pub count_bad : CountExpected s w (Err f) → BeginsAt s at h (count_call s j cause then)
  count_bad n = begins_refused e n.1 (rw (word.0, n.0))

  -- another token is there
  pub sign_missing : {k : ℕ} {r : Result ℕ Refusal} → CountExpected s w (Ok k) → r ≡ expected j cause (token_at s w.next) → r ≡ Err f →
      (open_bracket ≤ j) × (j ≤ bar) → BeginsAt s at h (count_call s j cause then)
  sign_missing n is was lies = let b = bracket_expected s w.next j cause is was lies in begins_refused e b.1 (rw (word.0, n, b.0))
