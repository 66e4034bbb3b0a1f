-- "Program `ruleread` reads a text on standard input and prints one line: `ok n m` or `no number place`." Assumes nothing.
use Rattle.std.specs.Prelude.{ℕ, List, length}
use Rattle.slices.specs.Text.{bytes}
use Rattle.refusals.specs.declared.Refusal.{Refusal}
use Rattle.refusals.specs.Refusals.{number}
use Rattle.rules.specs.Rule.{size}
use Rattle.image.specs.Encode.{names}
use Rattle.grammar.specs.Reading.{Read, rule, refused}
use Rattle.lines.specs.Lines.{numbers_line}

-- a refusal's number and place
abbrev pub refusal_line : Refusal → List ℕ
refusal_line f = numbers_line (bytes "no ") (number f.cause) f.place

-- the numbers of nodes and of name bytes, or the refusal
abbrev pub read_line : Read → List ℕ
read_line (rule r) = numbers_line (bytes "ok ") (size r) (length (names r))
read_line (refused f) = refusal_line f
