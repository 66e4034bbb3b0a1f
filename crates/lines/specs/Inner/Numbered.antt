-- The line of a refusal's number. Assumes nothing.
use Rattle.std.specs.Prelude.{ℕ, List, ◌++◌}
use Rattle.slices.specs.Text.{bytes}
use Rattle.refusals.specs.Inner.Rows.{row_of}
use Rattle.lines.specs.Lines.{line_end}

-- the word of its row, and what it means; where no refusal has the number, both are empty
abbrev pub meaning_line_of : ℕ → List ℕ
meaning_line_of n = (row_of n).word ++ (bytes ": " ++ ((row_of n).meaning ++ line_end))
