-- The nodes of an image are within it. Assumes nothing.
use native.Mathlib.Omega.{arith}
use Rattle.image.proofs.Laws.WholeLaws.{whole}
use Rattle.image.proofs.Image.node.Goals as goal

pub node_at-requires : goal.node_at-requires
node_at-requires c = ((whole c.args.self).long, omega arith)
