-- Laws of where the text continues after a bracket, a comma or a sign, by the class of the next token's first byte.
-- Assumes nothing.
use mathlib.Core.Path.{◌≡◌, refl, sym, ap, ◌∙◌}
use mathlib.Core.Bool.{Bool, true, false, cond}
use mathlib.Core.List.{List}
use mathlib.Core.Logic.{⊎_elim}
use Prim.Native.Nat.{ℕ, zero, suc, ◌+◌, ◌≤◌, ◌<◌}
use native.Mathlib.Nat.{eq-or-lt_of_le}
use native.Mathlib.Omega.{arith}
use borrow.Author.Tests.{eqb-true, ne_eqb}
use lib.Dec.{ltb, eqb}
use lib.ListN.{length, get_or}
use Rattle.std.specs.Prelude.{None, Some}
use Rattle.slices.specs.Text.{bytes, part, run_end, other}
use Rattle.ascii.specs.Letters.{equal_ignoring_case}
use Rattle.classes.specs.Class.{class_of, of_class, blank, open_bracket, close_bracket, comma, ampersand, bar, quote, word}
use Rattle.refusals.specs.Refusals.{refusal}
use Rattle.refusals.specs.declared.Cause.TheVariants.{HalfSign}
use Rattle.tokens.specs.declared.Token.{Token}
use Rattle.tokens.specs.declared.Token.TheVariants.{Fault}
use Rattle.tokens.specs.Token.{doubled, quoted_to, quoted_at, unquoted_to, unquoted_at, token_of, token_at}
use Rattle.tokens.specs.Inner.Bounds.{next_of_class}
use Rattle.tokens.proofs.Laws.TokenLaws.{by_cond, at_end_lem, at_token}

-- the token is not the one asked for
abbrev Out : ℕ → Token → Type 0
Out k t = next_of_class k t ≡ None

-- another class than the one asked for
apart : (k j n : ℕ) → (j ≡ k → ⊥) → cond (eqb k j) (Some n) None ≡ None
apart k j n h = rw (ne_eqb k j (λ e. h (sym e)))

either_way : (k : ℕ) (v : Bool) (t u : Token) → next_of_class k (cond v t u) ≡ cond v (next_of_class k t) (next_of_class k u)
either_way k true t u = refl
either_way k false t u = refl

module _ (s : List ℕ) (p b : ℕ) where
  -- the first byte is of the class asked for
  bracket_here : (k : ℕ) → open_bracket ≤ k → k ≤ comma → next_of_class k (token_of s p b k) ≡ Some (p + 1)
  unfolding next_of_class token_of
  bracket_here zero l h = absurd (omega arith)
  bracket_here (suc zero) l h = refl
  bracket_here (suc (suc zero)) l h = refl
  bracket_here (suc (suc (suc zero))) l h = refl
  bracket_here (suc (suc (suc (suc k)))) l h = absurd (omega arith)

  sign_here : (k : ℕ) → ampersand ≤ k → k ≤ bar → next_of_class k (token_of s p b k) ≡ cond (doubled s p) (Some (p + 2)) None
  unfolding next_of_class token_of
  sign_here k l h =
      ⊎_elim
      (λ (i : k ≡ bar). rw i (either_way bar (doubled s p) _ _))
      (λ (i : k < bar). let j : k ≡ ampersand = omega arith in rw j (either_way ampersand (doubled s p) _ _))
      (eq-or-lt_of_le h)

  -- an unquoted word is no bracket and no comma
  unquoted_off : (k : ℕ) → k ≤ comma → Out k (unquoted_at s p)
  unfolding next_of_class unquoted_at unquoted_to
  unquoted_off k h =
      let w = part s p (run_end (of_class word) s p) in
      by_cond (Out k) (equal_ignoring_case w (bytes "and")) (λ _. apart k ampersand _ (λ e. omega arith))
      (λ _. by_cond (Out k) (equal_ignoring_case w (bytes "or")) (λ _. apart k bar _ (λ e. omega arith)) (λ _. refl))

  quoted_off : (k : ℕ) → Out k (quoted_at s p b)
  unfolding next_of_class quoted_at quoted_to
  quoted_off k = by_cond (Out k) (ltb (run_end (other b) s (p + 1)) (length s)) (λ _. refl) (λ _. refl)

  sign_off : (k : ℕ) (t : Token) → Out k t → Out k (cond (doubled s p) t (Fault (refusal HalfSign p)))
  unfolding next_of_class
  sign_off k t h = by_cond (Out k) (doubled s p) (λ _. h) (λ _. refl)

  -- the first byte is of another class, and if it begins a word, that is no sign
  off_here : (k f : ℕ) → (f ≡ k → ⊥) → (f ≡ word → Out k (unquoted_at s p)) → Out k (token_of s p b f)
  unfolding next_of_class token_of
  off_here k f h w =
      let no : (j : ℕ) → eqb f j ≡ true → j ≡ k → ⊥ = λ j q e. h (eqb-true f j q ∙ e) in
      by_cond (Out k) (eqb f open_bracket) (λ q. apart k open_bracket _ (no open_bracket q))
      (λ _. by_cond (Out k) (eqb f close_bracket) (λ q. apart k close_bracket _ (no close_bracket q))
      (λ _. by_cond (Out k) (eqb f comma) (λ q. apart k comma _ (no comma q))
      (λ _. by_cond (Out k) (eqb f ampersand) (λ q. sign_off k _ (apart k ampersand _ (no ampersand q)))
      (λ _. by_cond (Out k) (eqb f bar) (λ q. sign_off k _ (apart k bar _ (no bar q)))
      (λ _. by_cond (Out k) (eqb f quote) (λ _. quoted_off k)
      (λ _. by_cond (Out k) (eqb f word) (λ q. w (eqb-true f word q))
      (λ _. refl)))))))

-- ---- after the next token, where the blanks before it end at p
module _ (s : List ℕ) (at : ℕ) {p : ℕ} (e : p ≡ run_end (of_class blank) s at) (k : ℕ) where
  pub behind_end : length s ≤ p → next_of_class k (token_at s at) ≡ None
  unfolding next_of_class
  behind_end h = ap (next_of_class k) (at_end_lem s at e h)

  -- its first byte is of class f
  module _ (h : p < length s) {f : ℕ} (q : f ≡ class_of (get_or s p 0)) where
    token_here : next_of_class k (token_at s at) ≡ next_of_class k (token_of s p (get_or s p 0) f)
    token_here = ap (next_of_class k) (at_token s at e h (sym q))

    pub behind_bracket : open_bracket ≤ k → k ≤ comma → f ≡ k → next_of_class k (token_at s at) ≡ Some (p + 1)
    behind_bracket l m i = token_here ∙ rw i (bracket_here s p (get_or s p 0) k l m)

    pub behind_other : k ≤ comma → (f ≡ k → ⊥) → next_of_class k (token_at s at) ≡ None
    behind_other m i = token_here ∙ off_here s p (get_or s p 0) k f i (λ _. unquoted_off s p (get_or s p 0) k m)

    pub behind_sign : ampersand ≤ k → k ≤ bar → f ≡ k → next_of_class k (token_at s at) ≡ cond (doubled s p) (Some (p + 2)) None
    behind_sign l m i = token_here ∙ rw i (sign_here s p (get_or s p 0) k l m)

    pub behind_word : f ≡ word → next_of_class k (token_at s at) ≡ next_of_class k (unquoted_at s p)
    unfolding token_of
    behind_word i = token_here ∙ rw i

    pub behind_none : (f ≡ k → ⊥) → (f ≡ word → ⊥) → next_of_class k (token_at s at) ≡ None
    behind_none i w = token_here ∙ off_here s p (get_or s p 0) k f i (λ j. absurd (w j))
