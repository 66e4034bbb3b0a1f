-- How the program's answer to how a primary begins is read, and the bounds of its numbers. Assumes nothing.
use Rattle.std.specs.Prelude.{ℕ, ◌≤◌, ◌<◌, ◌≡◌, List, length, Option, None, Some, Result, Ok, Err}
use Rattle.slices.specs.Text.{part}
use Rattle.refusals.specs.declared.Refusal.{Refusal}
use Rattle.tokens.specs.declared.Token.{Token}
use Rattle.tokens.specs.Token.{tokens_from}
use Rattle.rules.specs.Rule.{Leaf, named, older_than, readable, Join, at_least, all, any}
use Rattle.grammar.specs.Grammar as grammar
use Rattle.grammar.specs.declared.Test.{Test}
use Rattle.grammar.specs.declared.Test.TheVariants.{OlderThan, Readable}
use Rattle.grammar.specs.declared.Combinator.{Combinator}
use Rattle.grammar.specs.declared.Combinator.TheVariants.{AtLeast, All, Any}
use Rattle.grammar.specs.declared.PrimaryStart.{PrimaryStart}
use Rattle.grammar.specs.declared.PrimaryStart.TheVariants.{Name, Leaf as Tested, Group, List as Listed}

abbrev pub leaf_of : Test → Leaf
leaf_of (OlderThan ms) = older_than ms
leaf_of (Readable k) = readable k

abbrev pub join_of : Combinator → Join
join_of (AtLeast k) = at_least k
join_of All = all
join_of Any = any

-- the answer as the grammar has it: a position represents the tokens from there on
abbrev pub start_of : List ℕ → Result PrimaryStart Refusal → grammar.PrimaryStart
start_of s (Ok (Name a b n)) = grammar.a_leaf (named (part s a b)) (tokens_from s n)
start_of s (Ok (Tested t n)) = grammar.a_leaf (leaf_of t) (tokens_from s n)
start_of s (Ok (Group n)) = grammar.a_group (tokens_from s n)
start_of s (Ok (Listed c p n)) = grammar.a_list (join_of c) p (tokens_from s n)
start_of s (Err f) = grammar.refused f

-- where the text continues
abbrev pub start_next : Result PrimaryStart Refusal → Option ℕ
start_next (Ok (Name a b n)) = Some n
start_next (Ok (Tested t n)) = Some n
start_next (Ok (Group n)) = Some n
start_next (Ok (Listed c p n)) = Some n
start_next (Err f) = None

-- how many tokens are left from a position on
abbrev pub left : List ℕ → ℕ → ℕ
left s at = length (tokens_from s at)

-- the text continues at n, which is later, with fewer tokens left
abbrev pub Ahead : List ℕ → ℕ → ℕ → Type 0
Ahead s at n = (at < n) × (n ≤ length s) × (left s n < left s at)

-- The answer says what the grammar has. The text continues at `lo` or later, with at most `most` tokens left; a name begins
-- at `low` or later.
pub record Begins (s : List ℕ) (low lo most : ℕ) (h : Result PrimaryStart Refusal) (g : grammar.PrimaryStart) : Type 0 where
  pub says : start_of s h ≡ g
  pub on : (n : ℕ) → start_next h ≡ Some n → (lo ≤ n) × (n ≤ length s) × (left s n ≤ most)
  pub name : (a b n : ℕ) → h ≡ Ok (Name a b n) → (low ≤ a) × (a ≤ b) × (b ≤ n)

-- in a call, whose arguments are read from a position on by one of the grammar's functions
abbrev pub BeginsAt : List ℕ → ℕ → Result PrimaryStart Refusal → (List Token → grammar.PrimaryStart) → Type 0
BeginsAt s at h start = Begins s at at (left s at) h (start (tokens_from s at))
