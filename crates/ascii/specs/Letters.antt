-- Letters and digits of ASCII, and two byte strings compared.
-- Assumes nothing.
use Rattle.std.specs.Prelude.{ℕ, ◌+◌, Bool, true, false, cond, ◌&&◌, ◌||◌, List, [], ◌∷◌, leb, eqb}
use Prim.Native.Char.{code}

-- from one number up to another, both counted
abbrev pub within : ℕ → ℕ → ℕ → Bool
within lo hi b = leb lo b && leb b hi

unfoldable pub is_digit : ℕ → Bool
is_digit b = within (code "0") (code "9") b

unfoldable pub is_letter : ℕ → Bool
is_letter b = within (code "a") (code "z") b || within (code "A") (code "Z") b

-- a letter in lower case; any other byte as it is
unfoldable pub lower : ℕ → ℕ
lower b = cond (within (code "A") (code "Z") b) (b + 32) b

-- a byte as it is compared: in lower case where case is ignored
abbrev pub folded_if : Bool → ℕ → ℕ
folded_if true b = lower b
folded_if false b = b

-- two byte strings have the same length and, byte for byte, the same image under f
unfoldable pub equal_by : (ℕ → ℕ) → List ℕ → List ℕ → Bool
equal_by f [] [] = true
equal_by f [] (y ∷ ys) = false
equal_by f (x ∷ xs) [] = false
equal_by f (x ∷ xs) (y ∷ ys) = eqb (f x) (f y) && equal_by f xs ys

-- the same bytes
abbrev pub equal : List ℕ → List ℕ → Bool
equal = equal_by (folded_if false)

-- "in any case of letters"
abbrev pub equal_ignoring_case : List ℕ → List ℕ → Bool
equal_ignoring_case = equal_by (folded_if true)
