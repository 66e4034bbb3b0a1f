-- What a bracket or a comma that is expected says of the tokens from a position on. Assumes nothing.
use Prim.Native.Nat.{ℕ, ◌≤◌}
use mathlib.Core.Path.{◌≡◌, refl, sym, ap, ◌∙◌}
use mathlib.Core.List.{List}
use Rattle.std.specs.Prelude.{Option, Some, None, Result, Ok, Err}
use Rattle.classes.specs.Class.{open_bracket, bar}
use Rattle.refusals.specs.declared.Refusal.{Refusal}
use Rattle.refusals.specs.declared.Cause.{Cause}
use Rattle.refusals.specs.Refusals.{refusal}
use Rattle.tokens.specs.Token.{place_of, token_at, tokens_from}
use Rattle.tokens.specs.Inner.Bounds.{next_of_class}
use Rattle.signs.specs.Inner.Expected.{expected_by, expected}
use Rattle.grammar.specs.Grammar.{rest, missing, after, first_place}
use Rattle.grammar.specs.Inner.Starts.{Ahead}
use Rattle.grammar.proofs.Laws.TokenListLaws.{first_place_lem}
use Rattle.grammar.proofs.Laws.SignTestLaws.{test_on, test_off}

-- a bracket or a comma, of class k, is there, or another token is refused for this cause
abbrev pub BracketExpected : List ℕ → ℕ → ℕ → Cause → Result ℕ Refusal → Type 0
BracketExpected s at k c (Ok n) = (after k (tokens_from s at) ≡ rest (tokens_from s n)) × Ahead s at n
BracketExpected s at k c (Err f) = (after k (tokens_from s at) ≡ missing) × (f ≡ refusal c (first_place (tokens_from s at)))

pub bracket_expected : (s : List ℕ) (at k : ℕ) (c : Cause) {r q : Result ℕ Refusal} → r ≡ expected k c (token_at s at) → r ≡ q →
    (open_bracket ≤ k) × (k ≤ bar) → BracketExpected s at k c q
bracket_expected s at k c e is lies = rw (sym is ∙ e) (go (next_of_class k (token_at s at)) refl)
  where
    go : (v : Option ℕ) → v ≡ next_of_class k (token_at s at) → BracketExpected s at k c (expected_by v c (place_of (token_at s at)))
    go (Some n) p = let t = test_on s at k p refl in (t.sign, t.bounds)
    go None p = (test_off s at k p lies.0 lies.1 refl, ap (refusal c) (sym (first_place_lem s at refl)))
