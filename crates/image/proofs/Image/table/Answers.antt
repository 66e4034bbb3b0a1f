-- The nodes of an image are within it. Assumes nothing.
use native.Mathlib.Omega.{arith}
use Rattle.image.proofs.Laws.WholeLaws.{whole}
use Rattle.image.proofs.Image.table.Goals as goal

pub invariant_of-result : goal.invariant_of-result
invariant_of-result c = omega (arith, (whole c.args.self).long)
