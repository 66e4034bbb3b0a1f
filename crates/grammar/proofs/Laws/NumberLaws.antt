-- A text that does not read as a rule is refused with a number among 2 to 15. Assumes nothing.
use mathlib.Core.Path.{◌≡◌}
use mathlib.Core.List.{List}
use Prim.Native.Nat.{ℕ, zero, suc, ◌+◌, ◌-◌, ◌*◌, ◌≤◌, ◌<◌}
use native.Mathlib.Omega.{arith}
use lib.Dec.{ltb}
use lib.ListN.{length}
use Rattle.std.specs.Prelude.{Result, Ok, Err, ⊤}
use Rattle.refusals.specs.Refusals.{number}
use Rattle.slices.specs.Text.{run_end}
use Rattle.refusals.specs.declared.Refusal.{Refusal}
use Rattle.tokens.specs.declared.Token.{Token}
use Rattle.tokens.specs.declared.Token.TheVariants.{End, Open, Close, Comma, And, Or, Word, Fault}
use Rattle.tokens.specs.Token.{ascii, token_at, next_of, onward, tokens_by, tokens_from, scan_of}
use Rattle.tokens.specs.Inner.Bounds.{Lexed}
use Rattle.tokens.proofs.Laws.TokenLaws.{by_cond, lexed}
use Rattle.rules.specs.Rule.{Join, all, any, Rule, Rules, nil, more}
use Rattle.grammar.specs.Grammar as grammar
use Rattle.grammar.specs.Grammar.{after, PrimaryStart, a_leaf, a_group, a_list, primary_start, ParseResult, got, bad, onto, on_rest, close_after, by_start, or_in, or_more, and_in, and_more, primary_in, list_more}
use Rattle.classes.specs.Class.{close_bracket, comma, ampersand, bar}
use Rattle.grammar.specs.Reading.{Read, rule, refused, at_end, ended, parse_of, scanned_of, read_of}
use Rattle.grammar.specs.Inner.Rules.{left_of}
use Rattle.grammar.proofs.Laws.TakenLaws.{Sign, Numbered, Begun, head_begun, MadeRule, Holds, on_rest_lem, or_made, and_made, primary_made}
use Rattle.grammar.proofs.Laws.GrammarLaws.{made_left, onto_left}

-- ---- an expression
-- it is read, or refused with such a number
abbrev GotOr : ParseResult → Type 0
GotOr (got r us) = Unit {0}
GotOr (bad f) = Numbered f

-- joined to the left side of a chain
onto_number : (j : Join) (l : Rule) (g : ParseResult) → GotOr g → GotOr (onto j l g)
onto_number j l (got r us) n = tt
onto_number j l (bad f) n = n

-- a bracket that closes
closed_number : (g : ParseResult) → GotOr g → GotOr (close_after g)
closed_number (got r us) n = on_rest_lem GotOr close_bracket us (λ vs. got r vs) _ (omega arith) (λ vs t. tt) (omega arith)
closed_number (bad f) n = n

module _ (s : List ℕ) where
  -- a primary, by how it begins
  head_number : (ts : List Token) (h : PrimaryStart) (inner : List Token → ParseResult) (list : Join → List Token → ParseResult) →
      Begun s ts h → ((us : List Token) → length us < length ts → GotOr (inner us)) →
      ((j : Join) (us : List Token) → length us < length ts → GotOr (list j us)) → GotOr (by_start h inner list)
  head_number ts (a_leaf l us) inner list b i e = tt
  head_number ts (a_group us) inner list b i e = closed_number (inner us) (i us b.fewer)
  head_number ts (a_list j p us) inner list b i e = on_rest_lem GotOr close_bracket us _ (list j us) (omega arith) (λ vs t. omega arith) (e j us b.0.fewer)
  head_number ts (grammar.refused f) inner list b i e = b

  -- a chain's turn
  turn_number : (k : ℕ) (j : Join) (x : List Token → ParseResult) (a : ParseResult → ParseResult) → Sign k →
      ((vs : List Token) → Holds (MadeRule s vs) (x vs)) → (l : Rule) (us : List Token) →
      ((vs : List Token) → length vs < length us → GotOr (x vs)) →
      ((g : ParseResult) → left_of g < length us → GotOr g → GotOr (a g)) → GotOr (on_rest (after k us) (λ vs. a (onto j l (x vs))) (got l us))
  turn_number k j x a p m l us e q =
      on_rest_lem GotOr k us _ (got l us) p
      (λ vs t. q (onto j l (x vs)) (omega (arith, onto_left j l (x vs), made_left s vs (x vs) (m vs))) (onto_number j l (x vs) (e vs t.fewer)))
      tt

  -- given enough calls, so that none ends for lack of them
  mutual
    unfolding or_in

    or_number : (f d : ℕ) (ts : List Token) → 3 * length ts + 3 ≤ f → GotOr (or_in f s d ts)
    or_number zero d ts h = absurd (omega arith)
    or_number (suc f) d ts h =
        or_more_number f d (and_in f s d ts) (omega (arith, made_left s ts (and_in f s d ts) (and_made s f d ts))) (and_number f d ts (omega arith))

    or_more_number : (f d : ℕ) (g : ParseResult) → 3 * left_of g + 1 ≤ f → GotOr g → GotOr (or_more f s d g)
    or_more_number zero d g h n = absurd (omega arith)
    or_more_number (suc f) d (bad r) h n = n
    or_more_number (suc f) d (got l us) h n =
        turn_number bar any (and_in f s d) (or_more f s d) (omega arith) (and_made s f d) l us
        (λ vs t. and_number f d vs (omega arith)) (λ g t n. or_more_number f d g (omega arith) n)

    and_number : (f d : ℕ) (ts : List Token) → 3 * length ts + 2 ≤ f → GotOr (and_in f s d ts)
    and_number zero d ts h = absurd (omega arith)
    and_number (suc f) d ts h =
        and_more_number f d (primary_in f s d ts) (omega (arith, made_left s ts (primary_in f s d ts) (primary_made s f d ts)))
        (primary_number f d ts (omega arith))

    and_more_number : (f d : ℕ) (g : ParseResult) → 3 * left_of g + 1 ≤ f → GotOr g → GotOr (and_more f s d g)
    and_more_number zero d g h n = absurd (omega arith)
    and_more_number (suc f) d (bad r) h n = n
    and_more_number (suc f) d (got l us) h n =
        turn_number ampersand all (primary_in f s d) (and_more f s d) (omega arith) (primary_made s f d) l us
        (λ vs t. primary_number f d vs (omega arith)) (λ g t n. and_more_number f d g (omega arith) n)

    primary_number : (f d : ℕ) (ts : List Token) → 3 * length ts + 1 ≤ f → GotOr (primary_in f s d ts)
    primary_number zero d ts h = absurd (omega arith)
    primary_number (suc f) d ts h =
        head_number ts (primary_start s d ts) _ _ (head_begun s d ts)
        (λ us t. or_number f (d + 1) us (omega arith))
        (λ j us t. list_more_number f d j nil (or_in f s (d + 1) us)
        (omega (arith, made_left s us (or_in f s (d + 1) us) (or_made s f (d + 1) us))) (or_number f (d + 1) us (omega arith)))

    list_more_number : (f d : ℕ) (j : Join) (rs : Rules) (g : ParseResult) → 3 * left_of g + 1 ≤ f → GotOr g → GotOr (list_more f s d j rs g)
    list_more_number zero d j rs g h n = absurd (omega arith)
    list_more_number (suc f) d j rs (bad r) h n = n
    list_more_number (suc f) d j rs (got r us) h n =
        on_rest_lem GotOr comma us _ _ (omega arith)
        (λ vs t. list_more_number f d j (more rs r) (or_in f s (d + 1) vs)
        (omega (arith, made_left s vs (or_in f s (d + 1) vs) (or_made s f (d + 1) vs))) (or_number f (d + 1) vs (omega arith)))
        (on_rest_lem GotOr close_bracket us _ _ (omega arith) (λ vs t. tt) (omega arith))

-- ---- the tokens of a text
-- they are clean, or refused with such a number
abbrev CleanOr : Result ⊤ Refusal → Type 0
CleanOr (Ok u) = Unit {0}
CleanOr (Err f) = Numbered f

-- a fault has a number among 4 to 6
onward_number : (len at : ℕ) (t : Token) (later : ℕ → List Token) → Lexed len at t → ((n : ℕ) → CleanOr (scan_of (later n))) →
    CleanOr (scan_of (onward t (next_of t) later))
unfolding next_of scan_of
onward_number len at (End p) later l h = tt
onward_number len at (Open p n) later l h = h n
onward_number len at (Close p n) later l h = h n
onward_number len at (Comma p n) later l h = h n
onward_number len at (And p n) later l h = h n
onward_number len at (Or p n) later l h = h n
onward_number len at (Word w) later l h = h w.next
onward_number len at (Fault f) later l h = omega arith

tokens_number : (f : ℕ) (s : List ℕ) (at : ℕ) → CleanOr (scan_of (tokens_by f s at))
unfolding tokens_by scan_of
tokens_number zero s at = tt
tokens_number (suc f) s at = onward_number (length s) at (token_at s at) (tokens_by f s) (lexed s at) (tokens_number f s)

-- ---- a text
-- it reads as a rule, or is refused with such a number
abbrev RuleOr : Read → Type 0
RuleOr (rule r) = Unit {0}
RuleOr (refused f) = Numbered f

ended_number : (g : ParseResult) → GotOr g → RuleOr (ended g)
ended_number (got r us) n = by_cond RuleOr (at_end us) (λ _. tt) (λ _. omega arith)
ended_number (bad f) n = n

scanned_number : (x : Result ⊤ Refusal) (s : List ℕ) → CleanOr x → RuleOr (scanned_of x s)
unfolding parse_of
scanned_number (Ok u) s n = let ts = tokens_from s 0 in let f = 3 * length ts + 3 in ended_number (or_in f s 0 ts) (or_number s f 0 ts (omega arith))
scanned_number (Err f) s n = n

numbered : (s : List ℕ) → RuleOr (read_of s)
unfolding read_of tokens_from
numbered s =
    by_cond RuleOr (ltb 2048 (length s)) (λ _. omega arith)
    (λ _. by_cond RuleOr (ltb (run_end ascii s 0) (length s)) (λ _. omega arith)
    (λ _. scanned_number (scan_of (tokens_from s 0)) s (tokens_number (length s - 0 + 1) s 0)))

-- so every refusal of a text has one
pub read_number : (s : List ℕ) (f : Refusal) → read_of s ≡ refused f → (2 ≤ number f.cause) × (number f.cause ≤ 15)
read_number s f e = rw e at (numbered s)
