-- A rule in a row of nodes. Assumes nothing.
use Rattle.std.specs.Prelude.{ℕ, suc, ◌+◌, ◌≡◌}
use Rattle.rules.specs.Rule.{Rule, leaf, node, Rules, nil, more, size, sizes}
use Rattle.image.specs.Decode.{leaf_meaning, join_meaning, Cell}

-- the rule's cells are those from a place on
unfoldable mutual
  pub EncodedAt : Rule → (ℕ → Cell) → ℕ → Type 0
  EncodedAt (leaf l) f s = ((f s).what ≡ leaf_meaning l) × ((f s).size ≡ 1)
  EncodedAt (node j rs r) f s =
      EncodedAllAt rs f s
      × EncodedAt r f (s + sizes rs)
      × ((f (s + sizes rs + size r)).what ≡ join_meaning j)
      × ((f (s + sizes rs + size r)).size ≡ suc (sizes rs + size r))

  pub EncodedAllAt : Rules → (ℕ → Cell) → ℕ → Type 0
  EncodedAllAt nil f s = Unit {0}
  EncodedAllAt (more rs r) f s = EncodedAllAt rs f s × EncodedAt r f (s + sizes rs)
