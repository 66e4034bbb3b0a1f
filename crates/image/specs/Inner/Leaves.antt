-- Which kinds are leaves. Assumes nothing.
use Rattle.std.specs.Prelude.{ℕ, Bool, leb}
use Rattle.image.specs.Kinds.{readable_kind}

-- whether a node of this kind is a leaf
unfoldable pub is_leaf : ℕ → Bool
is_leaf kind = leb kind readable_kind
