-- Durations, as document 01's paragraph and document 02's Job 1 lay them down. Assumes nothing.
use Rattle.std.specs.Prelude.{ℕ, ◌+◌, ◌*◌, Bool, cond, not, ◌&&◌, ◌||◌, List, [], ◌∷◌, leb, ltb, length, Option, Some, None}
use Prim.Native.String.{String}
use Rattle.slices.specs.Text.{bytes, part, run_end}
use Rattle.ascii.specs.Letters.{is_digit, equal, equal_by}
use Rattle.classes.specs.Class.{of_class, blank}
use Rattle.decimal.specs.Decimal.{decimal, decimal_from}
use Rattle.durations.specs.declared.duration.Part.{Part}

-- a unit's name and its milliseconds
pub record NamedUnit : Type 0 where
  pub name : List ℕ
  pub milliseconds : ℕ

abbrev pub unit : String → ℕ → NamedUnit
unit name ms = record { name = bytes name; milliseconds = ms }

-- "its unit d, h, m, s or ms (86,400,000, 3,600,000, 60,000, 1,000, 1 milliseconds)", and Job 1: "Add the unit w, 604,800,000
-- milliseconds, before d."
abbrev pub units : List NamedUnit
units = unit "w" 604_800_000 ∷ unit "d" 86_400_000 ∷ unit "h" 3_600_000 ∷ unit "m" 60_000 ∷ unit "s" 1_000 ∷ unit "ms" 1 ∷ []

-- a byte of a unit's name: no digit, with which the next part begins, and no blank
unfoldable pub is_unit_byte : ℕ → Bool
unfolding is_digit of_class
is_unit_byte b = not (is_digit b || of_class blank b)

-- of the part at a position of the word w: where its digits end
unfoldable pub digits_end : List ℕ → ℕ → ℕ
unfolding is_digit run_end
digits_end w at = run_end is_digit w at

-- where its unit's name begins: Job 1, "Allow blanks between the digits and the unit"
unfoldable pub unit_start : List ℕ → ℕ → ℕ
unfolding digits_end of_class
unit_start w at = run_end (of_class blank) w (digits_end w at)

-- and where that ends: "no blank inside"
unfoldable pub unit_end : List ℕ → ℕ → ℕ
unfolding unit_start is_unit_byte
unit_end w at = run_end is_unit_byte w (unit_start w at)

-- "A part is 1 to 9 digits and its unit .., lower case", with those blanks
unfoldable pub is_part : NamedUnit → List ℕ → ℕ → Bool
unfolding unit_end part equal_by
is_part u w at =
    ltb at (digits_end w at) && leb (digits_end w at) (at + 9) &&
    equal (part w (unit_start w at) (unit_end w at)) u.name

-- its milliseconds
unfoldable pub amount_of : NamedUnit → List ℕ → ℕ → ℕ
unfolding digits_end part decimal_from
amount_of u w at = decimal (part w at (digits_end w at)) * u.milliseconds

-- "optional blanks between them": where the next part begins
unfoldable pub next_part : List ℕ → ℕ → ℕ
unfolding unit_end of_class
next_part w at = run_end (of_class blank) w (unit_end w at)

-- a part of this unit at a position: its milliseconds, and where the next part begins
unfoldable pub part_at : NamedUnit → List ℕ → ℕ → Option Part
unfolding is_part amount_of next_part
part_at u w at = cond (is_part u w at) (Some (record { amount = amount_of u w at; next = next_part w at })) None

abbrev pub plus : ℕ → Option ℕ → Option ℕ
plus n (Some m) = Some (n + m)
plus n None = None

-- a part, and those after it unless the word ends there; where there is none, the later units' parts from the same position
abbrev pub part_then : Option Part → ℕ → ℕ → (ℕ → Option ℕ) → Option ℕ
part_then (Some p) len at later = cond (ltb p.next len) (plus p.amount (later p.next)) (Some p.amount)
part_then None len at later = later at

-- "Units fall in that order, each at most once": one or more parts, of these units
unfoldable pub parts_from : List NamedUnit → List ℕ → ℕ → Option ℕ
unfolding part_at
parts_from [] w at = None
parts_from (u ∷ us) w at = part_then (part_at u w at) (length w) at (parts_from us w)

-- "After trimming blanks: one or more parts"
unfoldable pub duration_of : List ℕ → Option ℕ
unfolding parts_from
duration_of w = parts_from units w (run_end (of_class blank) w 0)
