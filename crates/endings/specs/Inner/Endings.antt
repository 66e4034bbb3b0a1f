-- What follows an expression that was read, by the token at the position where it ends. Assumes nothing.
use Rattle.std.specs.Prelude.{ℕ, List, Option, Some, None, Result, Ok, Err, IfOk}
use Rattle.classes.specs.Class.{close_bracket}
use Rattle.refusals.specs.declared.Refusal.{Refusal}
use Rattle.refusals.specs.Refusals.{refusal}
use Rattle.refusals.specs.declared.Cause.TheVariants.{BracketExpected, EmptyList}
use Rattle.tokens.specs.Token.{place_of, token_at}
use Rattle.tokens.specs.Inner.Bounds.{next_of_class}
use Rattle.rules.specs.Rule.{Join}
use Rattle.signs.specs.Inner.Expected.{expected_by}
use Rattle.nodes.specs.declared.Nodes.{Nodes}
use Rattle.nodes.specs.Inner.Parses.{JoinRoom, joined, without_root}

-- the nodes of a chain's left side: the chain continues them where its sign follows
abbrev pub continued : {N : ℕ} → Option ℕ → ℕ → Nodes N → Nodes N
continued (Some next) kind b = without_root kind b
continued None kind b = b

-- the end of a group, by what follows a closing bracket; where there is none, another token is at p
abbrev pub closed_by : Option ℕ → ℕ → Result ℕ Refusal
closed_by next p = expected_by next BracketExpected p

abbrev pub group_end : List ℕ → ℕ → Result ℕ Refusal
group_end s at = closed_by (next_of_class close_bracket (token_at s at)) (place_of (token_at s at))

-- a list's first argument, by what follows a closing bracket
abbrev pub first_by : Option ℕ → ℕ → ℕ → Result ℕ Refusal
first_by (Some y) place next = Err (refusal EmptyList place)
first_by None place next = Ok next

abbrev pub first_argument : List ℕ → ℕ → ℕ → Result ℕ Refusal
first_argument s place next = first_by (next_of_class close_bracket (token_at s next)) place next

-- room for a list's node where the list is closed
abbrev pub ListRoom : {N : ℕ} → List ℕ → ℕ → ℕ → Nodes N → Type 0
ListRoom s at first b = IfOk (group_end s at) (λ next. JoinRoom first b)

-- the nodes at a list's end: its own is appended where it is closed
abbrev pub list_nodes : {N : ℕ} → Option ℕ → Join → ℕ → Nodes N → Nodes N
list_nodes (Some next) j first b = joined j first b
list_nodes None j first b = b
