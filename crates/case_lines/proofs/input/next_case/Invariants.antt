-- A line is kept as far as there is room.
use Rattle.std.proofs.Common.{◌≤◌, length}
use Rattle.case_lines.proofs.input.next_case.Given as goal

abbrev pub invariant-loop : goal.invariant-loop
invariant-loop g l = l.size ≤ length l.line
