-- An image as the program holds it: all its nodes are a rule's, and its names lie inside. Assumes nothing.
use mathlib.Core.Path.{◌≡◌}
use mathlib.Core.Bool.{true, Bool-set}
use Rattle.std.proofs.Math.Logic.{∥∥₁_elim}
use native.Mathlib.Bridge.{le_prop}
use native.Mathlib.Omega.{arith}
use Prim.Native.Nat.{ℕ, ◌≤◌, ◌<◌}
use Rattle.image.specs.declared.Image.{Image}
use Rattle.image.specs.Kinds.{named_kind}
use Rattle.image.specs.Layout.{names_start}
use Rattle.image.specs.Decode.{Node, node_at}
use Rattle.image.specs.Inner.Subtree.{NameInside, NamesInside, NodeRow, ValidSubtree, row_of}
use Rattle.image.proofs.Laws.RowLaws.{is_row, row}
use Rattle.image.proofs.Laws.CellLaws.{name_inside}

module _ (i : Image) where
  pub whole : ValidSubtree i.bytes.now i.nodes 0 i.nodes
  unfolding NamesInside
  whole =
      record {
        long = ∥∥₁_elim i.valid le_prop (λ v. v.long);
        names = λ k lt h. ∥∥₁_elim i.valid le_prop (λ v. v.names k lt h);
        within = omega arith;
        here = row _ (∥∥₁_elim i.valid (Bool-set _ _) (λ v. is_row _ v.here));
      }

  -- of a node that was read
  pub its_name : (k : ℕ) {d : Node} → d ≡ node_at i.bytes.now i.nodes k → k < i.nodes → d.kind ≡ named_kind → NameInside i.bytes.now i.nodes d.arg
  its_name k e lt = name_inside _ _ k e whole.names lt

  pub all_nodes : NodeRow i.bytes.now i.nodes 0 i.nodes
  all_nodes = row_of whole
