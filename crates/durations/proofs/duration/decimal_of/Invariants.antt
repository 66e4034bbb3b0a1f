-- `durations::duration::decimal_of` meets its contract: the digits left, read after the number so far, write the number. Assumes nothing.
use mathlib.Core.Path.{◌≡◌}
use mathlib.Core.Bool.{true}
use Prim.Native.Nat.{◌^◌, ◌<◌}
use lib.ListN.{drop}
use Rattle.decimal.specs.Count.{all_digits}
use Rattle.decimal.specs.Decimal.{decimal_from, decimal}
use Rattle.durations.proofs.duration.decimal_of.Given as goal

abbrev pub invariant-loop-b : goal.invariant-loop-b
invariant-loop-b l =
    (l.value < 10 ^ l.b-index) × (all_digits (drop l.b-index l.digits) ≡ true) × (decimal_from l.value (drop l.b-index l.digits) ≡ decimal l.digits)
