-- An image has its four first bytes, and its nodes are a rule's. Assumes nothing.
use mathlib.Core.Path.{refl}
use native.Mathlib.Omega.{arith}
use Rattle.image.proofs.Laws.InsideLaws.{image_inside}
use Rattle.image.proofs.Image.of.Goals as goal

pub node_count-nodes-requires : goal.node_count-nodes-requires
node_count-nodes-requires c = omega (arith, (image_inside _ c.requires refl).long)

pub invariant_of-result : goal.invariant_of-result
invariant_of-result c = record { valid = ∣ image_inside _ c.requires c.node_count-nodes.ensures.0 ∣₁ }
