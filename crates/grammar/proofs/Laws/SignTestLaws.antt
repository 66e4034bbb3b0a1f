-- What the test for one bracket, comma or sign says of the tokens from a position on. Assumes nothing.
use Prim.Native.Nat.{ℕ, ◌+◌, ◌-◌, ◌≤◌}
use mathlib.Core.Path.{◌≡◌, refl, sym, ap, subst, ◌∙◌}
use mathlib.Core.Bool.{Bool, true, false, cond}
use mathlib.Core.List.{List}
use native.Mathlib.Omega.{arith}
use borrow.Author.Tests.{eqb-true}
use lib.Dec.{eqb}
use lib.ListN.{length}
use Rattle.std.specs.Prelude.{Option, None, Some, IfSome}
use Rattle.classes.specs.Class.{open_bracket, close_bracket, comma, ampersand, bar}
use Rattle.tokens.specs.declared.Token.{Token}
use Rattle.tokens.specs.declared.Token.TheVariants.{End, Open, Close, Comma, And, Or, Word, Fault}
use Rattle.tokens.specs.Token.{place_of, next_of, token_at, tokens_from}
use Rattle.tokens.specs.Inner.Bounds.{next_of_class, Lexed}
use Rattle.tokens.proofs.Laws.TokenLaws.{lexed}
use Rattle.grammar.specs.Grammar.{token_kind, missing, after, first_place}
use Rattle.grammar.specs.Inner.Starts.{Ahead}
use Rattle.grammar.proofs.Laws.TokenListLaws.{Signed, signed, first_place_lem, after_off}

-- the test for a class that says yes
tested : (k i : ℕ) {n e : ℕ} → cond (eqb k i) (Some n) None ≡ Some e → (k ≡ i) × (n ≡ e)
tested k i {n} {e} h = go (eqb k i) refl h
  where
    go : (v : Bool) → eqb k i ≡ v → cond v (Some n) None ≡ Some e → (k ≡ i) × (n ≡ e)
    go true q g = (eqb-true k i q, cc)
    go false q g = let z : ◌≡◌ {A = ℕ} 0 1 = cc in absurd (omega arith)

-- the token is of this kind, and where it is no sign it has one byte
abbrev Found : ℕ → ℕ → Token → Type 0
Found k e t = (token_kind t ≡ k) × (next_of t ≡ Some e) × (k ≤ comma → e ≡ place_of t + 1)

found : (len at k : ℕ) (t : Token) {e : ℕ} → Lexed len at t → next_of_class k t ≡ Some e → Found k e t
unfolding next_of_class next_of place_of
found len at k (End p) l h = let z : ◌≡◌ {A = ℕ} 0 1 = cc in absurd (omega arith)
found len at k (Open p n) l h = let q = tested k open_bracket h in (sym q.0, ap Some q.1, λ _. omega (arith, q.1))
found len at k (Close p n) l h = let q = tested k close_bracket h in (sym q.0, ap Some q.1, λ _. omega (arith, q.1))
found len at k (Comma p n) l h = let q = tested k comma h in (sym q.0, ap Some q.1, λ _. omega (arith, q.1))
found len at k (And p n) l h = let q = tested k ampersand h in (sym q.0, ap Some q.1, λ few. omega (arith, q.0))
found len at k (Or p n) l h = let q = tested k bar h in (sym q.0, ap Some q.1, λ few. omega (arith, q.0))
found len at k (Word w) l h = let z : ◌≡◌ {A = ℕ} 0 1 = cc in absurd (omega arith)
found len at k (Fault f) l h = let z : ◌≡◌ {A = ℕ} 0 1 = cc in absurd (omega arith)

-- it is of another
not_found : (k : ℕ) (t : Token) → open_bracket ≤ k → k ≤ bar → next_of_class k t ≡ None → token_kind t ≡ k → ⊥
unfolding next_of_class
not_found k (End p) a b h q = omega arith
not_found k (Open p n) a b h q = let z : ◌≡◌ {A = ℕ} 0 1 = cc in omega arith
not_found k (Close p n) a b h q = let z : ◌≡◌ {A = ℕ} 0 1 = cc in omega arith
not_found k (Comma p n) a b h q = let z : ◌≡◌ {A = ℕ} 0 1 = cc in omega arith
not_found k (And p n) a b h q = let z : ◌≡◌ {A = ℕ} 0 1 = cc in omega arith
not_found k (Or p n) a b h q = let z : ◌≡◌ {A = ℕ} 0 1 = cc in omega arith
not_found k (Word w) a b h q = omega arith
not_found k (Fault f) a b h q = omega arith

-- what the test said at a position
module _ (s : List ℕ) (at k : ℕ) {r : Option ℕ} (e : r ≡ next_of_class k (token_at s at)) where
  pub test_off : open_bracket ≤ k → k ≤ bar → r ≡ None → after k (tokens_from s at) ≡ missing
  test_off a b h = after_off s at refl k (not_found k (token_at s at) a b (sym e ∙ h))

  module _ {n : ℕ} (h : r ≡ Some n) where
    is_found : Found k n (token_at s at)
    is_found = found (length s) at k (token_at s at) (lexed s at) (sym e ∙ h)

    pub test_on : Signed s at k n
    test_on = subst (λ (i : ℕ). Signed s at i n) is_found.0 (signed s at refl is_found.1)

    -- the place of a bracket or a comma
    pub test_place : k ≤ comma → first_place (tokens_from s at) ≡ n - 1
    test_place few = first_place_lem s at refl ∙ omega (arith, is_found.2 few)

  -- where it said yes, the text continues later
  pub test_ahead : IfSome r (Ahead s at)
  test_ahead = go r refl
    where
      go : (v : Option ℕ) → r ≡ v → IfSome v (Ahead s at)
      go (Some n) h = (test_on h).bounds
      go None h = tt
