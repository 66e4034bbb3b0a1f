-- The kinds of nodes, as document 01's 'Rule image' numbers them. Assumes nothing.
use Rattle.std.specs.Prelude.{ℕ}

-- "Kinds: 0 named, 1 older_than, 2 readable"
abbrev pub named_kind : ℕ
named_kind = 0

abbrev pub older_than_kind : ℕ
older_than_kind = 1

abbrev pub readable_kind : ℕ
readable_kind = 2

-- "3 at_least, 4 all, 5 any"
abbrev pub at_least_kind : ℕ
at_least_kind = 3

abbrev pub all_kind : ℕ
all_kind = 4

abbrev pub any_kind : ℕ
any_kind = 5
