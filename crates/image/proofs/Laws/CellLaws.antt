-- What a node that was read says of its cell. Assumes nothing.
use mathlib.Core.Path.{◌≡◌, sym, ap, subst}
use mathlib.Core.List.{List}
use Prim.Native.Nat.{ℕ, ◌<◌}
use Rattle.image.specs.Kinds.{named_kind}
use Rattle.image.specs.Decode.{Node, node_at, meaning, cell_at}
use Rattle.image.specs.Inner.Subtree.{NameInside, NamesInside}

module _ (s : List ℕ) (n i : ℕ) {d : Node} (e : d ≡ node_at s n i) where
  pub cell_what : meaning s n d.kind d.arg ≡ (cell_at s n i).what
  unfolding cell_at
  cell_what = ap (λ (x : Node). meaning s n x.kind x.arg) e

  pub name_inside : NamesInside s n → i < n → d.kind ≡ named_kind → NameInside s n d.arg
  unfolding NamesInside
  name_inside names lt = subst (λ (x : Node). x.kind ≡ named_kind → NameInside s n x.arg) (sym e) (names i lt)
