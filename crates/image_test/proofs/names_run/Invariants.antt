-- `image_test::names_run` meets its contract: after i turns, `end` is where the names of the first i nodes end, each at most 65,535 long.
use mathlib.Core.Path.{◌≡◌}
use mathlib.Core.Option.{some}
use Prim.Native.Nat.{◌*◌, ◌≤◌}
use Rattle.image.specs.Decode.{node_at, name_end}
use Rattle.image_test.proofs.names_run.Given as goal

abbrev pub invariant-loop-i : goal.invariant-loop-i
invariant-loop-i l = (l.end ≤ 65535 * l.i) × (name_end (node_at l.nodes.bytes.now l.nodes.count) l.i ≡ some l.end)
