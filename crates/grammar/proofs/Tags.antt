-- What a token's variant says of it, where the program takes one out and has another before it. Assumes nothing.
use Prim.Native.Nat.{ℕ}
use mathlib.Core.Path.{◌≡◌, refl, sym}
use mathlib.Core.List.{List}
use native.Mathlib.Omega.{arith}
use Rattle.refusals.specs.declared.Cause.TheVariants.{NoExpression}
use Rattle.tokens.specs.Token.{place_of, token_at, tokens_from}
use Rattle.tokens.specs.declared.Token.{Token}
use Rattle.tokens.specs.declared.Token.TheVariants.{End, Open, Close, Comma, And, Or, Word, Fault}
use Rattle.grammar.specs.Grammar.{token_kind, other_token, expected_word, refuse, primary_start}
use Rattle.classes.specs.Class.{open_bracket}
use Rattle.grammar.proofs.Laws.TokenListLaws.{word_missing}
use Rattle.grammar.proofs.Laws.StartLaws.{head_none}

-- a token that is no word, or no opening bracket, is of another kind
no_word_kind : (t : Token) → ((w : _) → t ≡ Word w → ⊥) → token_kind t ≡ 6 → ⊥
no_word_kind (End p) h k = omega arith
no_word_kind (Open p n) h k = omega arith
no_word_kind (Close p n) h k = omega arith
no_word_kind (Comma p n) h k = omega arith
no_word_kind (And p n) h k = omega arith
no_word_kind (Or p n) h k = omega arith
no_word_kind (Word w) h k = h w refl
no_word_kind (Fault f) h k = omega arith

no_open_kind : (t : Token) → ((p n : ℕ) → t ≡ Open p n → ⊥) → token_kind t ≡ open_bracket → ⊥
no_open_kind (End p) h k = omega arith
no_open_kind (Open p n) h k = h p n refl
no_open_kind (Close p n) h k = omega arith
no_open_kind (Comma p n) h k = omega arith
no_open_kind (And p n) h k = omega arith
no_open_kind (Or p n) h k = omega arith
no_open_kind (Word w) h k = omega arith
no_open_kind (Fault f) h k = omega arith

-- the token at a position is no word, or begins no primary
module _ (s : List ℕ) (at : ℕ) {t : Token} (e : t ≡ token_at s at) (w : (x : _) → t ≡ Word x → ⊥) where
  pub no_word : expected_word s (tokens_from s at) ≡ other_token (place_of t)
  no_word = word_missing s at (sym e) (no_word_kind t w)

  pub no_primary : (d : ℕ) → ((p n : ℕ) → t ≡ Open p n → ⊥) → primary_start s d (tokens_from s at) ≡ refuse NoExpression (place_of t)
  no_primary d o = head_none s d at (sym e) (no_open_kind t o) (no_word_kind t w)
