-- What the test of an image asks and promises. Assumes nothing.
use Rattle.std.specs.Prelude.{ℕ, ◌≤◌, ◌≡◌, Bool, true, false, List}
use Rattle.std.proofs.Math.Option.{Option, none, some}
use Rattle.image.specs.Decode as decoding
use Rattle.image.specs.Decode.{build, cell_at}
use Rattle.image.specs.declared.Node.{Node}

-- whether there is a value
abbrev pub is_some {ℓ} : {A : Type ℓ} → Option A → Bool
is_some none = false
is_some (some a) = true

-- the program's form of a node
abbrev pub node_of : Node → decoding.Node
node_of d = record { kind = d.kind; size = d.size; arg = d.arg }

-- an image of n nodes, of which the first i make rules, in order
pub record BuiltUpTo (s : List ℕ) (n i : ℕ) : Type 0 where
  pub within : i ≤ n
  pub ready : is_some (build (cell_at s n) i) ≡ true
