-- `image_test::names_run` meets its contract: after i turns, `end` is where the names of the first i nodes end, each at most 65,535 long.
use mathlib.Core.Path.{◌≡◌, refl}
use native.Mathlib.Numerals.{add-one}
use native.Mathlib.Omega.{arith}
use Rattle.image.specs.Decode.{name_end}
use Rattle.image.proofs.Laws.NameRunLaws.{name_next, name_other, name_stop}
use Rattle.image_test.proofs.names_run.Goals as goal
use Rattle.image_test.proofs.names_run.Goals.{then-kind-eq-NAMED+else-name_start-end, else-kind-eq-NAMED}

pub loop-i-init : goal.loop-i-init
unfolding name_end
loop-i-init c = (omega arith, refl)

pub returns-then-name_start-end : goal.returns-then-name_start-end
returns-then-name_start-end c =
    name_stop _ _ _ c.node-node.ensures c.loop-i.invariant.1 (omega arith) (omega (arith, c.name_start.ensures)) _ _ (omega arith)

pub loop-i-preserved : goal.loop-i-preserved
loop-i-preserved c =
    let l = c.loop-i in
    let d = c.node-node in (
      elim c.if-kind-eq-NAMED.branch [ then-kind-eq-NAMED+else-name_start-end w ↦ omega arith | else-kind-eq-NAMED w ↦ omega arith ],
      rw add-one
          (elim c.if-kind-eq-NAMED.branch [
            | then-kind-eq-NAMED+else-name_start-end w ↦ rw (w.end-is, w.name_length-end.ensures)
                (name_next _ _ _ d.ensures l.invariant.1 (omega arith) (omega (arith, w.name_start.ensures)))
            | else-kind-eq-NAMED w ↦ rw w.end-is (name_other _ _ _ d.ensures l.invariant.1 (omega arith))
          ]),
    )

pub returns : goal.returns
returns c =
    let l = c.loop-i in
    let q : l.i ≡ c.args.nodes.count = omega arith in
    rw (rw q at l.invariant.1)

pub overflow_add-end : goal.overflow_add-end
overflow_add-end c = omega (arith, c.name_length-end.ensures)
