-- The grammar of rules with no bound on its calls: each function gets as many as the tokens can need, which is three for each
-- token and its level. Assumes nothing.
use Rattle.std.specs.Prelude.{ℕ, ◌+◌, ◌*◌, List, length}
use Rattle.tokens.specs.declared.Token.{Token}
use Rattle.rules.specs.Rule.{Join, Rules}
use Rattle.grammar.specs.Grammar.{Rest, rest, missing, PrimaryStart, a_leaf, a_group, a_list, refused, ParseResult, got, bad, or_in, or_more, and_in, and_more, primary_in, list_more}

-- the tokens that a primary's beginning leaves
abbrev pub start_rest : PrimaryStart → Rest
start_rest (a_leaf l ts) = rest ts
start_rest (a_group ts) = rest ts
start_rest (a_list j place ts) = rest ts
start_rest (refused f) = missing

-- how many are left after a rule
abbrev pub left_of : ParseResult → ℕ
left_of (got r ts) = length ts
left_of (bad f) = 0

unfoldable pub or_of : List ℕ → ℕ → List Token → ParseResult
or_of s d ts = or_in (3 * length ts + 3) s d ts

unfoldable pub and_of : List ℕ → ℕ → List Token → ParseResult
and_of s d ts = and_in (3 * length ts + 2) s d ts

unfoldable pub primary_of : List ℕ → ℕ → List Token → ParseResult
primary_of s d ts = primary_in (3 * length ts + 1) s d ts

-- what follows a rule: a chain of or, a chain of and, the arguments of a list
unfoldable pub or_rest : List ℕ → ℕ → ParseResult → ParseResult
or_rest s d g = or_more (3 * left_of g + 1) s d g

unfoldable pub and_rest : List ℕ → ℕ → ParseResult → ParseResult
and_rest s d g = and_more (3 * left_of g + 1) s d g

unfoldable pub list_rest : List ℕ → ℕ → Join → Rules → ParseResult → ParseResult
list_rest s d j rs g = list_more (3 * left_of g + 1) s d j rs g
