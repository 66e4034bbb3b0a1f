-- Laws of printed durations: a part that is zero and one that is not, the parts in a row, whole days, and how long
-- they are at most. Assumes nothing.
use mathlib.Core.Path.{◌≡◌, refl, ◌∙◌}
use mathlib.Core.List.{List, [], ◌++◌, append-nil}
use mathlib.Core.Logic.{◌≢◌}
use Prim.Native.Nat.{ℕ, zero, suc, ◌+◌, ◌≤◌, ◌/◌, ◌%◌}
use native.Mathlib.Omega.{arith}
use lib.ListN.{length, length-append}
use Rattle.slices.specs.Text.{bytes}
use Rattle.decimal.specs.Digits.{digits_of}
use Rattle.duration_text.specs.DurationText.{part_text, duration_text}
use Rattle.decimal.proofs.Laws.DigitsLaws.{digits_short, digits_below}

-- ---- a part
module _ (unit : List ℕ) where
  -- one that is zero is not printed
  pub part_zero : (k : ℕ) → k ≡ 0 → part_text k unit ≡ []
  unfolding part_text
  part_zero zero e = refl
  part_zero (suc k) e = absurd (omega arith)

  -- any other is its digits and its unit
  pub part_nonzero : (k : ℕ) → k ≢ 0 → part_text k unit ≡ digits_of k ++ unit
  unfolding part_text
  part_nonzero zero e = absurd (e refl)
  part_nonzero (suc k) e = refl

  pub part_length : (k : ℕ) → k ≢ 0 → length (part_text k unit) ≡ length (digits_of k) + length unit
  part_length k e = rw (part_nonzero k e, length-append)

  -- so it is at most as long as these
  part_at_most : (k : ℕ) → length (part_text k unit) ≤ length (digits_of k) + length unit
  unfolding part_text
  part_at_most zero = omega arith
  part_at_most (suc k) = rw length-append (omega arith)

-- ---- a duration: its parts, the first one first
module _ (ms : ℕ) where
  abbrev pub days_text : List ℕ
  days_text = part_text (ms / 86_400_000) (bytes "d")

  abbrev pub hours_text : List ℕ
  hours_text = part_text (ms / 3_600_000 % 24) (bytes "h")

  abbrev pub minutes_text : List ℕ
  minutes_text = part_text (ms / 60_000 % 60) (bytes "m")

  abbrev pub seconds_text : List ℕ
  seconds_text = part_text (ms / 1_000 % 60) (bytes "s")

  abbrev pub millis_text : List ℕ
  millis_text = part_text (ms % 1_000) (bytes "ms")

-- zero has none of them
pub duration_zero : (ms : ℕ) → ms ≡ 0 → duration_text ms ≡ bytes "0s"
unfolding duration_text
duration_zero zero e = refl
duration_zero (suc k) e = absurd (omega arith)

-- any other is its parts in a row
pub duration_parts : (ms : ℕ) → ms ≢ 0 → duration_text ms ≡ days_text ms ++ (hours_text ms ++ (minutes_text ms ++ (seconds_text ms ++ millis_text ms)))
unfolding duration_text
duration_parts zero e = absurd (e refl)
duration_parts (suc k) e = refl

-- and as long as they are
pub duration_length : (ms : ℕ) → ms ≢ 0 →
    length (duration_text ms) ≡ length (days_text ms) + length (hours_text ms) + length (minutes_text ms) + length (seconds_text ms) + length (millis_text ms)
duration_length ms e = rw (duration_parts ms e) (simp length-append (omega arith))

-- one of whole days has no part but days
pub duration_days : (ms : ℕ) → ms ≢ 0 → ms % 86_400_000 ≡ 0 → duration_text ms ≡ days_text ms
duration_days ms e whole =
    let hours = part_zero (bytes "h") (ms / 3_600_000 % 24) (omega arith) in
    let minutes = part_zero (bytes "m") (ms / 60_000 % 60) (omega arith) in
    let seconds = part_zero (bytes "s") (ms / 1_000 % 60) (omega arith) in
    let millis = part_zero (bytes "ms") (ms % 1_000) (omega arith) in
    duration_parts ms e ∙ rw (hours, minutes, seconds, millis, append-nil)

-- at most 15 bytes besides the digits of its days: two digits of hours, minutes and seconds, three of milliseconds, and the units
pub duration_most : (ms : ℕ) → length (duration_text ms) ≤ length (digits_of (ms / 86_400_000)) + 15
unfolding duration_text
duration_most zero = omega arith
duration_most (suc k) =
    let ms = suc k in
    omega (
      arith,
      duration_length ms (λ e. omega arith),
      part_at_most (bytes "d") (ms / 86_400_000),
      part_at_most (bytes "h") (ms / 3_600_000 % 24),
      part_at_most (bytes "m") (ms / 60_000 % 60),
      part_at_most (bytes "s") (ms / 1_000 % 60),
      part_at_most (bytes "ms") (ms % 1_000),
      digits_below 1 (ms / 3_600_000 % 24) (omega arith),
      digits_below 1 (ms / 60_000 % 60) (omega arith),
      digits_below 1 (ms / 1_000 % 60) (omega arith),
      digits_below 2 (ms % 1_000) (omega arith),
    )

-- the days have at most 20
pub duration_short : (ms : ℕ) → length (duration_text ms) ≤ 110
duration_short ms = omega (arith, duration_most ms, digits_short (ms / 86_400_000))
