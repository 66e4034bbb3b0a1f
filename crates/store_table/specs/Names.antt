-- Names, and how two of them compare. Assumes nothing.
use Rattle.std.specs.Prelude.{ℕ, Bool, false, ◌||◌, List, [], ◌∷◌}
use Rattle.ascii.specs.Letters.{equal, equal_by}

-- two names are the same: byte for byte
unfoldable pub same_name : List ℕ → List ℕ → Bool
unfolding equal_by
same_name a b = equal a b

-- a name is one of these
unfoldable pub has : List ℕ → List (List ℕ) → Bool
unfolding same_name
has w [] = false
has w (n ∷ ns) = same_name w n || has w ns
