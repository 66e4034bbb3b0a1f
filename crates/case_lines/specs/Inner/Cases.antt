-- What a call of a case is lent. Assumes nothing.
use Rattle.std.specs.Prelude.{◌≤◌, ⊤}
use Rattle.case_lines.specs.declared.case.Case.{Case}
use Rattle.case_lines.specs.declared.case.Case.TheVariants.{Read, Print}
use Rattle.case_lines.specs.declared.case.LentCase.{LentCase}
use Rattle.case_lines.specs.declared.case.LentCase.TheVariants as lent

-- the buffer has at most 131,072 bytes
abbrev pub Lendable : Case → Type 0
Lendable (Read text room) = room ≤ 131_072
Lendable (Print image room) = room ≤ 131_072
Lendable _ = ⊤

-- the same of a case whose bytes are in a lent space
abbrev pub LentLendable : LentCase → Type 0
LentLendable (lent.Read text room) = room ≤ 131_072
LentLendable (lent.Print image room) = room ≤ 131_072
LentLendable _ = ⊤
