-- What the fields of a line mean. Assumes nothing.
use Rattle.std.specs.Prelude.{ℕ, cond, List, Result, Ok, Err, ltb, ok_or}
use Rattle.decimal.specs.Count.{count_of}
use Rattle.case_lines.specs.declared.fault.Fault.{Fault}
use Rattle.case_lines.specs.declared.fault.Fault.TheVariants.{Format}

-- a number in decimal
abbrev pub number_of : List ℕ → Result ℕ Fault
number_of w = ok_or (count_of w) Format

-- the length of a lent buffer, at most 131,072
abbrev pub within_room : Result ℕ Fault → Result ℕ Fault
within_room (Ok n) = cond (ltb 131_072 n) (Err Format) (Ok n)
within_room (Err f) = Err f

abbrev pub room_of : List ℕ → Result ℕ Fault
room_of w = within_room (number_of w)
