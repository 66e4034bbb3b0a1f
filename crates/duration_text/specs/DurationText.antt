-- Durations as they are printed. Assumes nothing.
use Rattle.std.specs.Prelude.{ℕ, zero, suc, ◌/◌, ◌%◌, List, [], ◌++◌}
use Rattle.slices.specs.Text.{bytes}
use Rattle.decimal.specs.Digits.{digits_of}

-- "nonzero parts"
unfoldable pub part_text : ℕ → List ℕ → List ℕ
unfolding digits_of
part_text zero unit = []
part_text (suc k) unit = digits_of (suc k) ++ unit

-- "Printed: nonzero parts in that order without blanks, hours below 24, minutes and seconds below 60, ms below 1,000; zero is `0s`."
unfoldable pub duration_text : ℕ → List ℕ
unfolding part_text
duration_text zero = bytes "0s"
duration_text (suc k) =
    let ms = suc k in
    part_text (ms / 86_400_000) (bytes "d")
    ++ (part_text (ms / 3_600_000 % 24) (bytes "h")
    ++ (part_text (ms / 60_000 % 60) (bytes "m")
    ++ (part_text (ms / 1_000 % 60) (bytes "s")
    ++ part_text (ms % 1_000) (bytes "ms"))))
