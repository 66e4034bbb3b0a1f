-- No more fields are taken than a case has.
use Rattle.std.proofs.Common.{◌≤◌}
use Rattle.case_lines.proofs.case.case_in.Given as goal

abbrev pub invariant-loop-field : goal.invariant-loop-field
invariant-loop-field l = l.size ≤ 5
