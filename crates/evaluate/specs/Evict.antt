-- What a rule says, as document 01's 'Deciding and checking' lays it down: evict (true) or keep (false). Assumes nothing.
use Rattle.std.specs.Prelude.{ℕ, suc, Bool, true, false, ◌&&◌, ◌||◌, List, [], ◌∷◌, leb}
use Rattle.rules.specs.Rule.{Leaf, named, older_than, readable, Join, at_least, all, any, Rule, leaf, node, Rules, nil, more}
use Rattle.store_table.specs.Names.{has}
use Rattle.store_table.specs.Stores.{Entry, ready_count}

-- what a decision looks at: the age, how many configured readable stores are confirmed, and the names that are
pub record Env : Type 0 where
  pub age : ℕ
  pub ready : ℕ
  pub names : List (List ℕ)

abbrev pub env_of : List Entry → ℕ → List (List ℕ) → Env
env_of stores age names = record { age = age; ready = ready_count stores names; names = names }

-- "name confirmed; age at least the duration; at least k configured readable stores confirmed"
unfoldable pub leaf_says : Leaf → Env → Bool
unfolding has
leaf_says (named w) v = has w v.names
leaf_says (older_than d) v = leb d v.age
leaf_says (readable k) v = leb k v.ready

-- how many say evict; whether all do; whether any does
unfoldable pub count_true : List Bool → ℕ
count_true [] = 0
count_true (true ∷ bs) = suc (count_true bs)
count_true (false ∷ bs) = count_true bs

unfoldable pub all_say : List Bool → Bool
all_say [] = true
all_say (b ∷ bs) = b && all_say bs

unfoldable pub any_says : List Bool → Bool
any_says [] = false
any_says (b ∷ bs) = b || any_says bs

-- "at least k children say evict; all do; any does"
unfoldable pub join_says : Join → List Bool → Bool
unfolding count_true all_say any_says
join_says (at_least k) bs = leb k (count_true bs)
join_says all bs = all_say bs
join_says any bs = any_says bs

-- "A combinator is decided from its children, each decided the same way."
unfoldable mutual
  unfolding leaf_says join_says

  pub evict : Rule → Env → Bool
  evict (leaf l) v = leaf_says l v
  evict (node j rs r) v = join_says j (evict r v ∷ answers rs v)

  pub answers : Rules → Env → List Bool
  answers nil v = []
  answers (more rs r) v = evict r v ∷ answers rs v
