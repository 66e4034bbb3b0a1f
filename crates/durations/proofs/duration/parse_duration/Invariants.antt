-- `durations::duration::parse_duration` meets its contract: the parts so far and those of the later units make up the duration. Assumes nothing.
use mathlib.Core.Path.{◌≡◌}
use Prim.Native.Nat.{◌*◌, ◌≤◌}
use lib.ListN.{length, drop}
use Rattle.durations.specs.Duration.{units, plus, parts_from, duration_of}
use Rattle.durations.proofs.Laws.DurationLaws.{part_most}
use Rattle.durations.proofs.duration.parse_duration.Given as goal

abbrev pub invariant-loop-unit : goal.invariant-loop-unit
invariant-loop-unit l =
    (l.at ≤ length l.word) × ((l.total ≤ l.unit-index * part_most) × (plus l.total (parts_from (drop l.unit-index units) l.word l.at) ≡ duration_of l.word))
