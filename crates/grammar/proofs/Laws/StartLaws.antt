-- Laws of how a primary begins: the bounds of the program's answer, the answer by the token that is there, the test of
-- the depth, and the function that a word names. Assumes nothing.
use Prim.Native.Nat.{ℕ, ◌+◌, ◌-◌, ◌≤◌, ◌<◌}
use Prim.Native.String.{String}
use mathlib.Core.Path.{◌≡◌, refl, sym, ap, ◌∙◌}
use mathlib.Core.Bool.{Bool, true, false, cond}
use mathlib.Core.List.{List, [], ◌∷◌}
use native.Mathlib.Numerals.{add-one}
use native.Mathlib.Omega.{arith}
use borrow.Author.Tests.{lt-ltb, le-ltb}
use lib.Dec.{ltb}
use lib.ListN.{length, drop, get_or, drop_of_length-le}
use lib.Seq.{drop-cons}
use Rattle.std.specs.Prelude.{Option, None, Some, Result, Ok, Err}
use Rattle.slices.specs.Text.{bytes, part}
use Rattle.ascii.specs.Letters.{equal_ignoring_case}
use Rattle.refusals.specs.Refusals.{refusal}
use Rattle.refusals.specs.declared.Refusal.{Refusal}
use Rattle.refusals.specs.declared.Cause.{Cause}
use Rattle.refusals.specs.declared.Cause.TheVariants.{NoExpression}
use Rattle.tokens.specs.declared.Token.{Token}
use Rattle.tokens.specs.declared.Token.TheVariants.{End, Open, Close, Comma, And, Or, Word, Fault}
use Rattle.tokens.specs.Token.{place_of, next_of, token_at, onward, tokens_from}
use Rattle.tokens.proofs.Laws.TokenLaws.{tokens_are, left_some}
use Rattle.rules.specs.Rule.{named}
use Rattle.grammar.specs.Grammar as grammar
use Rattle.grammar.specs.Grammar.{token_kind, a_leaf, a_group, a_list, refuse, start_by, primary_start, function_of}
use Rattle.classes.specs.Class.{open_bracket}
use Rattle.grammar.specs.Inner.Starts.{leaf_of, join_of, start_of, start_next, left, Begins}
use Rattle.grammar.proofs.Laws.TokenListLaws.{tokens_next}
use Rattle.grammar.specs.declared.Test.{Test}
use Rattle.grammar.specs.declared.Combinator.{Combinator}
use Rattle.grammar.specs.declared.Call.{Call}
use Rattle.grammar.specs.declared.Function.{Function}
use Rattle.grammar.specs.declared.Function.TheVariants.{OlderThan, Readable, Any, All, AtLeast}
use Rattle.grammar.specs.declared.PrimaryStart.{PrimaryStart}
use Rattle.grammar.specs.declared.PrimaryStart.TheVariants.{Name, Leaf, Group, List as Listed}

-- ---- the bounds of an answer, by its variant
-- the text continues at n, which is `lo` or later, with at most `most` tokens left
abbrev pub Goes : List ℕ → ℕ → ℕ → ℕ → Type 0
Goes s lo most n = (lo ≤ n) × (n ≤ length s) × (left s n ≤ most)

module _ {s : List ℕ} {low lo most : ℕ} {g : grammar.PrimaryStart} where
  goes_to : {h : Result PrimaryStart Refusal} {n : ℕ} → start_next h ≡ Some n → g ≡ start_of s h → Goes s lo most n →
      ((a b m : ℕ) → h ≡ Ok (Name a b m) → (low ≤ a) × (a ≤ b) × (b ≤ m)) → Begins s low lo most h g
  goes_to {h} {n} to e within names =
      record { says = sym e; on = λ m q. let same : n ≡ m = cc in rw (← same) within; name = names }

  pub begins_name : {a b n : ℕ} → g ≡ a_leaf (named (part s a b)) (tokens_from s n) → Goes s lo most n →
      (low ≤ a) × (a ≤ b) × (b ≤ n) → Begins s low lo most (Ok (Name a b n)) g
  begins_name {a} {b} {n} e within lies =
      goes_to refl e within
      (λ a' b' m q. let x : a ≡ a' = cc in let y : b ≡ b' = cc in let z : n ≡ m = cc in rw (← x, ← y, ← z) lies)

  pub begins_leaf : {t : Test} {n : ℕ} → g ≡ a_leaf (leaf_of t) (tokens_from s n) → Goes s lo most n →
      Begins s low lo most (Ok (Leaf t n)) g
  begins_leaf e within = goes_to refl e within (λ a b m q. let z : ◌≡◌ {A = ℕ} 0 1 = cc in absurd (omega arith))

  pub begins_group : {n : ℕ} → g ≡ a_group (tokens_from s n) → Goes s lo most n →
      Begins s low lo most (Ok (Group n)) g
  begins_group e within = goes_to refl e within (λ a b m q. let z : ◌≡◌ {A = ℕ} 0 1 = cc in absurd (omega arith))

  pub begins_list : {c : Combinator} {p n : ℕ} → g ≡ a_list (join_of c) p (tokens_from s n) → Goes s lo most n →
      Begins s low lo most (Ok (Listed c p n)) g
  begins_list e within = goes_to refl e within (λ a b m q. let z : ◌≡◌ {A = ℕ} 0 1 = cc in absurd (omega arith))

  -- a refusal, which is the grammar's
  pub begins_err : {h : Result PrimaryStart Refusal} {f : Refusal} → h ≡ Err f → g ≡ grammar.refused f → Begins s low lo most h g
  begins_err e r =
      record {
        says = ap (start_of s) e ∙ sym r;
        on = λ m to. let z : ◌≡◌ {A = ℕ} 0 1 = cc (ap start_next e) in absurd (omega arith);
        name = λ a b m is. let z : ◌≡◌ {A = ℕ} 0 1 = cc in absurd (omega arith);
      }

  pub begins_refused : {h : Result PrimaryStart Refusal} {f : Refusal} {n : Cause} {p : ℕ} → h ≡ Err f → f ≡ refusal n p → g ≡ refuse n p → Begins s low lo most h g
  begins_refused e same r = begins_err e (r ∙ ap grammar.refused (sym same))

  -- wider bounds
  pub begins_within : {h : Result PrimaryStart Refusal} {low' lo' most' : ℕ} → Begins s low lo most h g → low' ≤ low → lo' ≤ lo → most ≤ most' → Begins s low' lo' most' h g
  begins_within b x y z =
      record {
        says = b.says;
        on = λ n q. let w = b.on n q in omega arith;
        name = λ a e n q. let w = b.name a e n q in omega arith;
      }

-- ---- how a primary begins, by the token that is there
-- neither a bracket nor a word
none_by : (s : List ℕ) (d : ℕ) (t : Token) (ts : List Token) → (token_kind t ≡ open_bracket → ⊥) → (token_kind t ≡ 6 → ⊥) →
    start_by s d t ts ≡ refuse NoExpression (place_of t)
unfolding place_of
none_by s d (End p) ts o w = refl
none_by s d (Open p n) ts o w = absurd (o refl)
none_by s d (Close p n) ts o w = refl
none_by s d (Comma p n) ts o w = refl
none_by s d (And p n) ts o w = refl
none_by s d (Or p n) ts o w = refl
none_by s d (Word x) ts o w = absurd (w refl)
none_by s d (Fault f) ts o w = refl

none_onward : (s : List ℕ) (d : ℕ) (t : Token) (n : Option ℕ) (more : ℕ → List Token) → (token_kind t ≡ open_bracket → ⊥) → (token_kind t ≡ 6 → ⊥) →
    primary_start s d (onward t n more) ≡ refuse NoExpression (place_of t)
unfolding primary_start
none_onward s d t None more o w = none_by s d t [] o w
none_onward s d t (Some n) more o w = none_by s d t (more n) o w

module _ (s : List ℕ) (d at : ℕ) {t : Token} (e : token_at s at ≡ t) where
  pub head_none : (token_kind t ≡ open_bracket → ⊥) → (token_kind t ≡ 6 → ⊥) → primary_start s d (tokens_from s at) ≡ refuse NoExpression (place_of t)
  head_none o w = ap (primary_start s d) (tokens_are s at e) ∙ none_onward s d t (next_of t) (tokens_from s) o w

  pub head_next : {n : ℕ} → next_of t ≡ Some n → primary_start s d (tokens_from s at) ≡ start_by s d t (tokens_from s n)
  unfolding primary_start
  head_next h = ap (primary_start s d) (tokens_next s at e h)

-- ---- the test whether 64 brackets are open: of d against a bound k
module _ {d k : ℕ} where
  pub too_deep_lem : k ≤ d → 64 ≤ k → ltb d 64 ≡ false
  too_deep_lem many bound = le-ltb d 64 (omega arith)

  pub not_deep : d < k → k ≤ 64 → ltb d 64 ≡ true
  not_deep few bound = lt-ltb d 64 (omega arith)

-- ---- what a test or a reading of another value says of this one
pub told : {A B : Type 0} (f : A → B) {a b : A} {r q : B} → a ≡ b → r ≡ f a → r ≡ q → f b ≡ q
told f e x y = ap f (sym e) ∙ sym x ∙ y

-- ---- the function that a word names: the first of these whose name it is
pub record Called : Type 0 where
  pub name : List ℕ
  pub function : Function

abbrev call : String → Function → Called
call n f = record { name = bytes n; function = f }

abbrev pub calls : List Called
calls =
    call "older_than" OlderThan ∷
    call "readable" Readable ∷
    call "oneof" Any ∷
    call "any" Any ∷
    call "allof" All ∷
    call "all" All ∷
    call "at_least" AtLeast ∷
    []

abbrev pub among : List Called → List ℕ → Option Function
among [] w = None
among (n ∷ ns) w = cond (equal_ignoring_case w n.name) (Some n.function) (among ns w)

pub among_calls : (w : List ℕ) → among calls w ≡ function_of w
unfolding function_of
among_calls w = refl

-- the program's table of them
abbrev pub called : List Call → List Called
called [] = []
called (c ∷ cs) = record { name = c.name.now; function = c.function } ∷ called cs

-- among those from i on: whether the name at i is the word's, or none is left
module _ (cs : List Call) (i : ℕ) (w : List ℕ) where
  module _ (c : Call) (h : i < length cs) {r : Bool} (e : r ≡ equal_ignoring_case w (get_or cs i c).name.now) where
    among_at : {v : Bool} → r ≡ v → among (called (drop i cs)) w ≡ cond v (Some (get_or cs i c).function) (among (called (drop (i + 1) cs)) w)
    among_at g = rw (add-one, drop-cons cs i c h, ← e, g)

    pub found : r ≡ true → Some (get_or cs i c).function ≡ among (called (drop i cs)) w
    found g = sym (among_at g)

    pub later : r ≡ false → among (called (drop (i + 1) cs)) w ≡ among (called (drop i cs)) w
    later g = sym (among_at g)

  pub none_left : length cs ≤ i → None ≡ among (called (drop i cs)) w
  none_left h = rw (drop_of_length-le cs h)

-- ---- what the parser takes from an answer
module _ {s : List ℕ} (at : ℕ) {low : ℕ} {h : Result PrimaryStart Refusal} {g : grammar.PrimaryStart} (b : Begins s low (at + 1) (left s at - 1) h g) where
  -- what the grammar has
  pub head_is : {h' : Result PrimaryStart Refusal} → h ≡ h' → g ≡ start_of s h'
  head_is e = sym b.says ∙ ap (start_of s) e

  -- where the text continues
  pub head_ahead : {n : ℕ} → start_next h ≡ Some n → (at < n) × (n ≤ length s) × (left s n < left s at)
  head_ahead {n} e = let l = b.on n e in omega (arith, left_some s at)
