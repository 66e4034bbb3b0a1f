-- What the token at a position says of the list of tokens from there on. Assumes nothing.
use Prim.Native.Nat.{ℕ, ◌≤◌, ◌<◌}
use mathlib.Core.Path.{◌≡◌, refl, ap, subst, ◌∙◌}
use mathlib.Core.List.{List, [], ◌∷◌}
use native.Mathlib.Omega.{arith}
use borrow.Author.Tests.{eq-eqb, ne_eqb}
use lib.ListN.{length}
use Rattle.std.specs.Prelude.{Option, None, Some}
use Rattle.slices.specs.Text.{part}
use Rattle.tokens.specs.declared.Token.{Token}
use Rattle.tokens.specs.declared.Token.TheVariants.{End, Open, Close, Comma, And, Or, Word, Fault}
use Rattle.tokens.specs.Token.{place_of, next_of, token_at, onward, tokens_from}
use Rattle.tokens.specs.Inner.Bounds.{Lexed}
use Rattle.tokens.proofs.Laws.TokenLaws.{tokens_are, goes_on, left_on, lexed}
use Rattle.grammar.specs.Grammar.{token_kind, rest, missing, after, first_place, expected, other_token, expected_by, expected_word}
use Rattle.grammar.specs.Inner.Starts.{left}

-- the rest of the tokens, where the text continues after the first
after_onward : (k : ℕ) (t : Token) (n : Option ℕ) (more : ℕ → List Token) → (token_kind t ≡ k → ⊥) → after k (onward t n more) ≡ missing
unfolding after
after_onward k t None more h = rw (ne_eqb (token_kind t) k h)
after_onward k t (Some n) more h = rw (ne_eqb (token_kind t) k h)

place_onward : (t : Token) (n : Option ℕ) (more : ℕ → List Token) → first_place (onward t n more) ≡ place_of t
unfolding first_place
place_onward t None more = refl
place_onward t (Some n) more = refl

-- a word is expected, and another token is there
other_by : (s : List ℕ) (t : Token) (ts : List Token) → (token_kind t ≡ 6 → ⊥) → expected_by s t ts ≡ other_token (place_of t)
unfolding place_of
other_by s (End p) ts h = refl
other_by s (Open p n) ts h = refl
other_by s (Close p n) ts h = refl
other_by s (Comma p n) ts h = refl
other_by s (And p n) ts h = refl
other_by s (Or p n) ts h = refl
other_by s (Word w) ts h = absurd (h refl)
other_by s (Fault f) ts h = refl

other_onward : (s : List ℕ) (t : Token) (n : Option ℕ) (more : ℕ → List Token) → (token_kind t ≡ 6 → ⊥) → expected_word s (onward t n more) ≡ other_token (place_of t)
unfolding expected_word
other_onward s t None more h = other_by s t [] h
other_onward s t (Some n) more h = other_by s t (more n) h

module _ (s : List ℕ) (at : ℕ) {t : Token} (e : token_at s at ≡ t) where
  pub first_place_lem : first_place (tokens_from s at) ≡ place_of t
  first_place_lem = ap first_place (tokens_are s at e) ∙ place_onward t (next_of t) (tokens_from s)

  pub after_off : (k : ℕ) → (token_kind t ≡ k → ⊥) → after k (tokens_from s at) ≡ missing
  after_off k h = ap (after k) (tokens_are s at e) ∙ after_onward k t (next_of t) (tokens_from s) h

  pub word_missing : (token_kind t ≡ 6 → ⊥) → expected_word s (tokens_from s at) ≡ other_token (place_of t)
  word_missing h = ap (expected_word s) (tokens_are s at e) ∙ other_onward s t (next_of t) (tokens_from s) h

  -- the text continues after it
  module _ {n : ℕ} (h : next_of t ≡ Some n) where
    pub tokens_next : tokens_from s at ≡ t ∷ tokens_from s n
    tokens_next = tokens_are s at e ∙ ap (λ (x : Option ℕ). onward t x (tokens_from s)) h

    pub after_on : (k : ℕ) → token_kind t ≡ k → after k (tokens_from s at) ≡ rest (tokens_from s n)
    unfolding after
    after_on k q = ap (after k) tokens_next ∙ rw (eq-eqb (token_kind t) k q)

    pub steps : (at < n) × (n ≤ length s) × (left s n < left s at)
    steps = let g = goes_on s at (ap next_of e ∙ h) in let l = left_on s at (ap next_of e ∙ h) in omega arith

module _ (s : List ℕ) (at : ℕ) where
  pub word_expected : {w : _} → token_at s at ≡ Word w → expected_word s (tokens_from s at) ≡ expected w.place (part s w.start w.end) (tokens_from s w.next)
  unfolding expected_word next_of
  word_expected e = ap (expected_word s) (tokens_next s at e refl)

  -- where a word and its part of the text lie
  pub word_part : {w : _} → token_at s at ≡ Word w → (at ≤ w.place) × (w.place ≤ w.start) × (w.start ≤ w.end) × (w.end ≤ w.next) × (w.next ≤ length s)
  word_part e = let l = subst (Lexed (length s) at) e (lexed s at) in omega arith

-- a sign is there, and the text continues at n
pub record Signed (s : List ℕ) (at k n : ℕ) : Type 0 where
  pub sign : after k (tokens_from s at) ≡ rest (tokens_from s n)
  pub bounds : (at < n) × (n ≤ length s) × (left s n < left s at)

module _ (s : List ℕ) (at : ℕ) where
  pub signed : {t : Token} {n : ℕ} → token_at s at ≡ t → next_of t ≡ Some n → Signed s at (token_kind t) n
  signed {t} e h = record { sign = after_on s at e h (token_kind t) refl; bounds = steps s at e h }
