-- What the leaves of an image have said. Assumes nothing.
use Rattle.std.specs.Prelude.{ℕ, ◌<◌, ◌≡◌, List, leb, get_or}
use Rattle.rules.specs.Rule.{Leaf}
use Rattle.image.specs.Decode.{leaf_meaning, cell_at}
use Rattle.store_table.specs.Stores.{entries_in, all_names}
use Rattle.evaluate.specs.Evict.{Env, leaf_says}

-- the environment that a list, an age and a count of readable stores make
abbrev pub env_in : List ℕ → ℕ → ℕ → Env
env_in list age ready = record { age = age; ready = ready; names = all_names (entries_in list) }

-- of an image of n nodes, each leaf among the first i says evict in an environment exactly where its number is at least `least`
abbrev pub SaidTo : List ℕ → ℕ → List ℕ → ℕ → Env → ℕ → Type 0
SaidTo s n says least w i = (j : ℕ) → j < i → (l : Leaf) → (cell_at s n j).what ≡ leaf_meaning l → leb least (get_or says j 0) ≡ leaf_says l w

-- each leaf does
abbrev pub Said : List ℕ → ℕ → List ℕ → ℕ → Env → Type 0
Said s n says least w = SaidTo s n says least w n
