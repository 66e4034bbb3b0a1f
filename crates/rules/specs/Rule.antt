-- Rules as trees: leaves, and combinators over children in text order. Assumes nothing.
use Rattle.std.specs.Prelude.{ℕ, suc, ◌+◌, List, [], ◌∷◌, ◌++◌}

-- the leaf kinds: a store's name, a duration in milliseconds, a count
pub data Leaf : Type 0 where
  named : List ℕ → Leaf
  older_than : ℕ → Leaf
  readable : ℕ → Leaf

-- the combinators: a count, and two without
pub data Join : Type 0 where
  at_least : ℕ → Join
  all : Join
  any : Join

-- a combinator's children are earlier ones, perhaps none, and a last one, so that there is always a child
mutual
  pub data Rule : Type 0 where
    leaf : Leaf → Rule
    node : Join → Rules → Rule → Rule

  pub data Rules : Type 0 where
    nil : Rules
    more : Rules → Rule → Rules

-- "size counting the node and all below"
unfoldable mutual
  pub size : Rule → ℕ
  size (leaf l) = 1
  size (node j rs r) = suc (sizes rs + size r)

  pub sizes : Rules → ℕ
  sizes nil = 0
  sizes (more rs r) = sizes rs + size r

-- the names of stores that a rule has
abbrev pub leaf_names : Leaf → List (List ℕ)
leaf_names (named w) = w ∷ []
leaf_names (older_than d) = []
leaf_names (readable k) = []

unfoldable mutual
  pub names_in : Rule → List (List ℕ)
  names_in (leaf l) = leaf_names l
  names_in (node j rs r) = names_in_all rs ++ names_in r

  pub names_in_all : Rules → List (List ℕ)
  names_in_all nil = []
  names_in_all (more rs r) = names_in_all rs ++ names_in r
