-- `image::write_numbers` meets its contract: after i turns the first i numbers are written.
use Rattle.std.proofs.Common.{◌≡◌, ℕ, map, take}
use Rattle.slices.specs.Text.{written}
use Rattle.little_endian.specs.Bytes.{packed}
use Rattle.image.proofs.write_numbers.Given as goal

abbrev pub invariant-loop-i : goal.invariant-loop-i
invariant-loop-i g l =
    (value : g.row.N.Denot → ℕ) → ((x : g.row.N.Denot) (y : ℕ) → g.N.Into.converts x y → y ≡ value x) →
    l.s ≡ written l.initial.s l.at (packed g.row.K (take l.i (map value l.numbers)))
