-- The tokens passed so far have no fault: what the rest says of the text is what the whole says.
use Rattle.std.proofs.Common.{length, ◌-◌, ◌≡◌}
use Rattle.tokens.specs.Token.{tokens_from, scan_of}
use Rattle.token_reader.proofs.scan.scan.Given as goal

abbrev pub invariant-loop-next : goal.invariant-loop-next
invariant-loop-next l = scan_of (tokens_from l.text l.at) ≡ scan_of (tokens_from l.text 0)

abbrev pub decreases-loop-next : goal.decreases-loop-next
decreases-loop-next l = length l.text - l.at
