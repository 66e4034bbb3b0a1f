-- Laws of tokens: the token at a position by the class of its first byte, the bounds of its numbers, and the list of tokens.
-- Assumes nothing.
use mathlib.Core.Path.{◌≡◌, refl, sym, ap, ◌∙◌}
use mathlib.Core.Bool.{Bool, true, false, cond, and-eq-true_iff}
use mathlib.Core.List.{List, [], ◌∷◌}
use Prim.Native.Nat.{ℕ, zero, suc, ◌+◌, ◌-◌, ◌≤◌, ◌<◌}
use native.Mathlib.Numerals.{add-one}
use native.Mathlib.Omega.{arith}
use borrow.Author.Tests.{lt-ltb, le-ltb, ltb-true, eqb-true}
use lib.Dec.{ltb, eqb}
use lib.ListN.{length, get_or}
use Rattle.std.specs.Prelude.{Option, None, Some, Result, ⊤}
use Rattle.refusals.specs.declared.Refusal.{Refusal}
use Rattle.slices.specs.Text.{bytes, part, run_end, other}
use Rattle.slices.proofs.Laws.TextLaws.{end_ge, end_le, end_on}
use Rattle.ascii.specs.Letters.{equal_ignoring_case}
use Rattle.classes.specs.Class.{class_of, of_class, blank, open_bracket, close_bracket, comma, ampersand, bar, quote, word}
use Rattle.classes.proofs.Laws.ClassLaws.{of_class_lem}
use Rattle.refusals.specs.Refusals.{refusal}
use Rattle.refusals.specs.declared.Cause.TheVariants.{HalfSign}
use Rattle.tokens.specs.declared.Token.{Token}
use Rattle.tokens.specs.declared.Token.TheVariants.{End, Open, Close, Comma, And, Or, Word, Fault}
use Rattle.tokens.specs.Token.{doubled, quoted_to, quoted_at, unquoted_to, unquoted_at, token_of, start_at, token_at, next_of, onward, tokens_by, tokens_from, unless, scan_of}
use Rattle.tokens.specs.Inner.Bounds.{Lexed, last_of}

-- ---- the token at a position, where the blanks before it end at p
module _ (s : List ℕ) (at : ℕ) {p : ℕ} (e : p ≡ run_end (of_class blank) s at) where
  pub at_end_lem : length s ≤ p → token_at s at ≡ End (length s)
  unfolding token_at start_at
  at_end_lem h = rw (← e, le-ltb p (length s) h)

  pub at_token : {k : ℕ} → p < length s → class_of (get_or s p 0) ≡ k → token_at s at ≡ token_of s p (get_or s p 0) k
  unfolding token_at start_at
  at_token h q = rw (← e, lt-ltb p (length s) h, q)

-- ---- the bounds of a token's numbers
-- either way of a test
pub by_cond : {A : Type 0} (P : A → Type 0) (v : Bool) {a b : A} → (v ≡ true → P a) → (v ≡ false → P b) → P (cond v a b)
by_cond P true f g = f refl
by_cond P false f g = g refl

module _ (s : List ℕ) (at p : ℕ) (from : at ≤ p) (in-text : p < length s) where
  sign : (t : Token) → (p + 2 ≤ length s → Lexed (length s) at t) → Lexed (length s) at (cond (doubled s p) t (Fault (refusal HalfSign p)))
  unfolding doubled
  sign t f =
      by_cond (Lexed (length s) at) (doubled s p)
      (λ q. f (omega (arith, ltb-true (p + 1) (length s) ((and-eq-true_iff (ltb (p + 1) (length s)) (eqb (get_or s (p + 1) 0) (get_or s p 0))).0 q).0)))
      (λ _. omega arith)

  quoted : (m : ℕ) → Lexed (length s) at (quoted_at s p m)
  unfolding quoted_at quoted_to
  quoted m =
      by_cond (Lexed (length s) at) (ltb (run_end (other m) s (p + 1)) (length s))
      (λ q. omega (arith, ltb-true (run_end (other m) s (p + 1)) (length s) q, end_ge (other m) s (p + 1)))
      (λ _. omega arith)

  unquoted : class_of (get_or s p 0) ≡ word → Lexed (length s) at (unquoted_at s p)
  unfolding unquoted_at unquoted_to
  unquoted q =
      let on = end_on (of_class word) s p in-text (of_class_lem (get_or s p 0) (sym q) refl) in
      let ge = end_ge (of_class word) s (p + 1) in
      let le = end_le (of_class word) s p (omega arith) in
      let w = part s p (run_end (of_class word) s p) in
      by_cond (Lexed (length s) at) (equal_ignoring_case w (bytes "and")) (λ _. omega arith)
      (λ _. by_cond (Lexed (length s) at) (equal_ignoring_case w (bytes "or")) (λ _. omega arith) (λ _. omega arith))

  token : Lexed (length s) at (token_of s p (get_or s p 0) (class_of (get_or s p 0)))
  unfolding token_of
  token =
      let k = class_of (get_or s p 0) in
      by_cond (Lexed (length s) at) (eqb k open_bracket) (λ _. omega arith)
      (λ _. by_cond (Lexed (length s) at) (eqb k close_bracket) (λ _. omega arith)
      (λ _. by_cond (Lexed (length s) at) (eqb k comma) (λ _. omega arith)
      (λ _. by_cond (Lexed (length s) at) (eqb k ampersand) (λ _. sign (And p (p + 2)) (λ l. omega arith))
      (λ _. by_cond (Lexed (length s) at) (eqb k bar) (λ _. sign (Or p (p + 2)) (λ l. omega arith))
      (λ _. by_cond (Lexed (length s) at) (eqb k quote) (λ _. quoted (get_or s p 0))
      (λ _. by_cond (Lexed (length s) at) (eqb k word) (λ q. unquoted (eqb-true _ _ q))
      (λ _. omega arith)))))))

pub lexed : (s : List ℕ) (at : ℕ) → Lexed (length s) at (token_at s at)
unfolding token_at start_at
lexed s at =
    let p = run_end (of_class blank) s at in
    by_cond (Lexed (length s) at) (ltb p (length s))
    (λ q. token s at p (end_ge (of_class blank) s at) (ltb-true _ _ q))
    (λ _. refl)

-- where the text continues lies further on, and in the text
next_on : (t : Token) {len at e : ℕ} → Lexed len at t → next_of t ≡ Some e → (at < e) × (e ≤ len)
unfolding next_of
next_on (End p) {len} {at} {e} l h = let z : ◌≡◌ {A = ℕ} 0 1 = cc in absurd (omega arith)
next_on (Open p n) {len} {at} {e} l h = let q : n ≡ e = cc in omega arith
next_on (Close p n) {len} {at} {e} l h = let q : n ≡ e = cc in omega arith
next_on (Comma p n) {len} {at} {e} l h = let q : n ≡ e = cc in omega arith
next_on (And p n) {len} {at} {e} l h = let q : n ≡ e = cc in omega arith
next_on (Or p n) {len} {at} {e} l h = let q : n ≡ e = cc in omega arith
next_on (Word w) {len} {at} {e} l h = let q : w.next ≡ e = cc in omega arith
next_on (Fault f) {len} {at} {e} l h = let z : ◌≡◌ {A = ℕ} 0 1 = cc in absurd (omega arith)

pub goes_on : (s : List ℕ) (at : ℕ) {e : ℕ} → next_of (token_at s at) ≡ Some e → (at < e) × (e ≤ length s)
goes_on s at h = next_on (token_at s at) (lexed s at) h

-- ---- the list of tokens
onward_same : (t : Token) (n : Option ℕ) (k l : ℕ → List Token) → ((e : ℕ) → n ≡ Some e → k e ≡ l e) → onward t n k ≡ onward t n l
onward_same t None k l h = refl
onward_same t (Some e) k l h = ap (λ (ts : List Token). t ∷ ts) (h e refl)

onward_some : (t : Token) (n : Option ℕ) (k : ℕ → List Token) → 0 < length (onward t n k)
onward_some t None k = omega arith
onward_some t (Some e) k = omega arith

-- with enough fuel the list does not depend on it
fuel : (f g : ℕ) (s : List ℕ) (at : ℕ) → length s - at < f → length s - at < g → tokens_by f s at ≡ tokens_by g s at
unfolding tokens_by
fuel zero g s at a b = absurd (omega arith)
fuel (suc f) zero s at a b = absurd (omega arith)
fuel (suc f) (suc g) s at a b =
    onward_same (token_at s at) (next_of (token_at s at)) (tokens_by f s) (tokens_by g s)
    (λ e h. let l = goes_on s at h in fuel f g s e (omega arith) (omega arith))

-- the tokens from a position on are the token there and those from where the text continues
pub tokens_at : (s : List ℕ) (at : ℕ) → tokens_from s at ≡ onward (token_at s at) (next_of (token_at s at)) (tokens_from s)
unfolding tokens_from tokens_by
tokens_at s at =
    rw (add-one (length s - at))
    (onward_same (token_at s at) (next_of (token_at s at)) (tokens_by (length s - at) s) (tokens_from s)
    (λ e h. let l = goes_on s at h in fuel (length s - at) (length s - e + 1) s e (omega arith) (omega arith)))

-- the same of a token that is known
pub tokens_are : (s : List ℕ) (at : ℕ) {t : Token} → token_at s at ≡ t → tokens_from s at ≡ onward t (next_of t) (tokens_from s)
tokens_are s at h = tokens_at s at ∙ ap (λ (t : Token). onward t (next_of t) (tokens_from s)) h

-- of a token after which the text continues
pub tokens_on : (s : List ℕ) (at : ℕ) {e : ℕ} → next_of (token_at s at) ≡ Some e → tokens_from s at ≡ token_at s at ∷ tokens_from s e
tokens_on s at h = tokens_at s at ∙ ap (λ (n : Option ℕ). onward (token_at s at) n (tokens_from s)) h

-- of one after which it does not
pub tokens_end : (s : List ℕ) (at : ℕ) → next_of (token_at s at) ≡ None → tokens_from s at ≡ token_at s at ∷ []
tokens_end s at h = tokens_at s at ∙ ap (λ (n : Option ℕ). onward (token_at s at) n (tokens_from s)) h

-- the tokens left fall by one with each token after which the text continues
pub left_on : (s : List ℕ) (at : ℕ) {e : ℕ} → next_of (token_at s at) ≡ Some e → length (tokens_from s at) ≡ length (tokens_from s e) + 1
left_on s at {e} h = ap length (tokens_on s at h) ∙ sym (add-one (length (tokens_from s e)))

pub left_some : (s : List ℕ) (at : ℕ) → 0 < length (tokens_from s at)
left_some s at = rw (tokens_at s at) (onward_some (token_at s at) (next_of (token_at s at)) (tokens_from s))

-- ---- the first fault
unless_on : (t : Token) (r : Result ⊤ Refusal) {e : ℕ} → next_of t ≡ Some e → unless t r ≡ r
unfolding next_of
unless_on (End p) r {e} h = refl
unless_on (Open p n) r {e} h = refl
unless_on (Close p n) r {e} h = refl
unless_on (Comma p n) r {e} h = refl
unless_on (And p n) r {e} h = refl
unless_on (Or p n) r {e} h = refl
unless_on (Word w) r {e} h = refl
unless_on (Fault f) r {e} h = let z : ◌≡◌ {A = ℕ} 0 1 = cc in absurd (omega arith)

pub scan_on : (s : List ℕ) (at : ℕ) {e : ℕ} → next_of (token_at s at) ≡ Some e → scan_of (tokens_from s at) ≡ scan_of (tokens_from s e)
unfolding scan_of
scan_on s at {e} h = ap scan_of (tokens_on s at h) ∙ unless_on (token_at s at) (scan_of (tokens_from s e)) h

pub scan_end : (s : List ℕ) (at : ℕ) → next_of (token_at s at) ≡ None → scan_of (tokens_from s at) ≡ last_of (token_at s at)
unfolding scan_of
scan_end s at h = ap scan_of (tokens_end s at h)
