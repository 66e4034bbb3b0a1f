-- Grades of leaves: what 21 and 22 ask of each, in one number. What checking answers depends on none of this. Assumes nothing.
use Rattle.std.specs.Prelude.{ℕ, ◌<◌, ◌≡◌, true, cond, List, [], eqb, leb, get_or, None}
use Rattle.rules.specs.Rule.{Leaf}
use Rattle.image.specs.Decode.{leaf_meaning, cell_at}
use Rattle.store_table.specs.Stores.{Entry, write_only, is_table, count_in, entries_in, write_only_names, twin_of}
use Rattle.evaluate.specs.Evict.{env_of, leaf_says}
use Rattle.verdict.specs.Check.{oldest}

-- the grade of a store's name, by the store's mode
abbrev pub name_grade : ℕ → ℕ
name_grade mode = cond (eqb mode write_only) 1 0

-- a leaf of grade g says evict at the largest age: with nothing confirmed where g is 2, and with just the write-only stores
-- confirmed where g is 1 or 2
pub record Graded (l : Leaf) (es : List Entry) (g : ℕ) : Type 0 where
  pub unconfirmed : leb 2 g ≡ leaf_says l (env_of es oldest [])
  pub archived : leb 1 g ≡ leaf_says l (env_of es oldest (write_only_names es))

-- each leaf among the first i of an image's n nodes has its grade
abbrev pub GradedUpTo : List ℕ → ℕ → ℕ → List ℕ → List Entry → Type 0
GradedUpTo s n i grades es = (j : ℕ) → j < i → (l : Leaf) → (cell_at s n j).what ≡ leaf_meaning l → Graded l es (get_or grades j 0)

-- each leaf has
abbrev pub GradedAll : List ℕ → ℕ → List ℕ → List Entry → Type 0
GradedAll s n grades es = GradedUpTo s n n grades es

-- a table with at least one store and no name twice
pub record WithStores (s : List ℕ) : Type 0 where
  pub table : is_table s ≡ true
  pub no_twin : twin_of (entries_in s) ≡ None
  pub stored : count_in s ≡ 0 → ⊥
