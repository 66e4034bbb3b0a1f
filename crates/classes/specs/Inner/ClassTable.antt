-- A table of 256 classes, tested entry by entry against the class rule. Assumes nothing.
use Rattle.std.specs.Prelude.{ℕ, zero, suc, ◌≡◌, cond, List, eqb, get_or}
use Rattle.classes.specs.Class.{class_of}
use Rattle.classes.specs.Inner.ClassNumber.{class_number}
use Rattle.classes.specs.declared.Class.{Class}
use Rattle.classes.specs.declared.Class.TheVariants.{Blank}

-- how many of a table's first n entries are not the class of their index
unfoldable pub faults_to : ℕ → List Class → ℕ
unfolding class_of
faults_to zero l = 0
faults_to (suc k) l = let n = faults_to k l in cond (eqb (class_number (get_or l k Blank)) (class_of k)) n (suc n)

-- how many of its 256 entries
unfoldable pub faults : List Class → ℕ
unfolding faults_to
faults l = faults_to 256 l

-- "The class of a byte comes from a constant table of 256 entries": no entry differs from the rule
abbrev pub IsClassTable : List Class → Type 0
IsClassTable l = faults l ≡ 0
