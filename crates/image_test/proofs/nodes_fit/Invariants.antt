-- `image_test::nodes_fit` meets its contract: after i turns the first i nodes make rules, and one rule alone has a root of size n.
use mathlib.Core.Path.{◌≡◌}
use mathlib.Core.Bool.{true}
use Rattle.image.specs.Decode.{cell_at, build}
use Rattle.image.specs.Inner.Valid.{is_some}
use Rattle.image_test.proofs.nodes_fit.Given as goal

abbrev pub invariant-loop-i : goal.invariant-loop-i
invariant-loop-i l = is_some (build (cell_at l.nodes.bytes.now l.nodes.count) l.i) ≡ true
