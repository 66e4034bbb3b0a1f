-- What a rule says where the answer of each leaf is known by its node's index. Assumes nothing.
use Rattle.std.specs.Prelude.{ℕ, ◌+◌, Bool, List, [], ◌∷◌, leb, get_or}
use Rattle.rules.specs.Rule.{Rule, leaf, node, Rules, nil, more, sizes}
use Rattle.evaluate.specs.Evict.{join_says}

unfoldable mutual
  unfolding join_says sizes

  pub evict_by : (ℕ → Bool) → Rule → ℕ → Bool
  evict_by g (leaf l) i = g i
  evict_by g (node j rs r) i = join_says j (evict_by g r (i + sizes rs) ∷ answers_by g rs i)

  pub answers_by : (ℕ → Bool) → Rules → ℕ → List Bool
  answers_by g nil i = []
  answers_by g (more rs r) i = evict_by g r (i + sizes rs) ∷ answers_by g rs i

-- a leaf's answer by its number: evict where it is at least `least`
abbrev pub says_at : List ℕ → ℕ → ℕ → Bool
says_at says least i = leb least (get_or says i 0)
