-- Where the first two numbers of a table or a list lie, and what the functions that walk it ask of it. Assumes nothing.
use Rattle.std.specs.Prelude.{ℕ, ◌+◌, ◌≤◌, List, length}
use Rattle.store_table.specs.Stores.{names_start, count_in, lengths_in, sum}

-- "count (2 bytes, at most 64), total (2 bytes)": where they lie
abbrev pub count_start : ℕ
count_start = 0

abbrev pub total_start : ℕ
total_start = 2

-- a table or a list whose names lie within it
pub record TableInBounds (s : List ℕ) : Type 0 where
  pub arrays : names_start (count_in s) ≤ length s
  pub names : names_start (count_in s) + sum (lengths_in s) ≤ length s
  pub few : count_in s ≤ 64
