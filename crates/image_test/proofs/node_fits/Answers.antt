-- `image_test::node_fits` meets its contract: by its kind and argument a node is a leaf, a combinator or nothing, and it fits if its size allows it.
use mathlib.Core.Path.{sym, ◌∙◌}
use native.Mathlib.Omega.{arith}
use Rattle.image.specs.Inner.Valid.{node_of}
use Rattle.image.proofs.Laws.FitLaws.{Joins, fits_leaf, fits_unknown, fits_bad_size, fits_join}
use Rattle.image_test.proofs.node_fits.Goals as goal
use Rattle.image_test.proofs.node_fits.Goals.{Joined-kind-gt-AT_LEAST, else-kind-gt-AT_LEAST, then-kind-gt-AT_LEAST+else-arg-gt0}

pub returns-then-is_leaf : goal.returns-then-is_leaf
returns-then-is_leaf c =
    fits_leaf _ _ _ c.node-node.ensures c.requires.0.ready (sym c.is_leaf.ensures ∙ c.if-is_leaf.true)

pub returns-then-arg-gt0 : goal.returns-then-arg-gt0
returns-then-arg-gt0 c =
    fits_unknown _ _ _ c.node-node.ensures c.requires.0.ready
    (sym c.is_leaf.ensures ∙ c.if-is_leaf.false) (λ p. omega arith) (λ lo hi. omega arith)

-- past the first tests the kind and the argument are a combinator's
the_join : (c : Joined-kind-gt-AT_LEAST) →
    Joins (node_of c.node-node.result)
the_join c =
    record { low = omega arith; high = omega arith; plain = elim c.if-kind-gt-AT_LEAST.branch [ then-kind-gt-AT_LEAST+else-arg-gt0 w ↦ omega arith | else-kind-gt-AT_LEAST w ↦ omega arith ] }

pub returns-then-small : goal.returns-then-small
returns-then-small c =
    fits_bad_size _ _ _ c.node-node.ensures c.requires.0.ready (the_join (goal.at.returns-then-small c).Joined-kind-gt-AT_LEAST) (omega arith)

pub returns-then-i-size : goal.returns-then-i-size
returns-then-i-size c =
    fits_bad_size _ _ _ c.node-node.ensures c.requires.0.ready (the_join (goal.at.returns-then-i-size c).Joined-kind-gt-AT_LEAST) (omega arith)

pub returns-else-i-size : goal.returns-else-i-size
returns-else-i-size c =
    fits_join _ _ _ c.node-node.ensures c.requires.0.ready
    (the_join (goal.at.returns-else-i-size c).Joined-kind-gt-AT_LEAST) (omega arith) (omega arith) _ c.children_fit.ensures

pub returns-in_default : goal.returns-in_default
returns-in_default c =
    fits_unknown _ _ _ c.node-node.ensures c.requires.0.ready
    (sym c.is_leaf.ensures ∙ c.if-is_leaf.false) (λ p. omega arith) (λ lo hi. omega arith)

pub returns-in_default-2 : goal.returns-in_default-2
returns-in_default-2 c =
    fits_unknown _ _ _ c.node-node.ensures c.requires.0.ready
    (sym c.is_leaf.ensures ∙ c.if-is_leaf.false) (λ p. omega arith) (λ lo hi. omega arith)
