-- The program's form of a unit. Assumes nothing.
use Rattle.std.specs.Prelude.{ℕ, ◌≡◌, get_or}
use Rattle.durations.specs.Duration.{NamedUnit, unit, units}
use Rattle.durations.specs.declared.unit.TimeUnit.{TimeUnit}

-- the unit of a rank, counted from 0
abbrev pub unit_at : ℕ → NamedUnit
unit_at rank = get_or units rank (unit "" 0)

-- the unit that the program's form is one of
abbrev pub unit_of : TimeUnit → NamedUnit
unit_of t = record { name = t.name.now; milliseconds = t.milliseconds }

-- the unit's name and its milliseconds
pub record IsUnit (u : NamedUnit) (t : TimeUnit) : Type 0 where
  pub name : t.name.now ≡ u.name
  pub milliseconds : t.milliseconds ≡ u.milliseconds
