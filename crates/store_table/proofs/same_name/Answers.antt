-- `store_table::same_name` meets its contract: what is left of both names compares as the whole. Assumes nothing.
use mathlib.Core.Path.{◌≡◌, refl, sym, ◌∙◌}
use Prim.Native.Nat.{◌+◌, ◌*◌, ◌/◌}
use native.Mathlib.Omega.{arith}
use lib.ListN.{length}
use Rattle.little_endian.specs.Bytes.{le_at}
use Rattle.store_table.proofs.Laws.SameLaws.{same_not, same_number}
use Rattle.store_table.proofs.same_name.Goals as goal

pub returns-then-a-b : goal.returns-then-a-b
returns-then-a-b c = sym (same_not length c.if-a-b.true)

pub loop-k-init : goal.loop-k-init
loop-k-init c = refl

pub returns-then-read : goal.returns-then-read
returns-then-read c =
    let l = c.loop-k in
    sym (same_not (λ s. le_at s (8 * l.k) 8) (λ e. c.if-read.true (c.read.ensures.0 ∙ e ∙ sym c.read-in-loop-k.ensures.0)))

pub loop-k-preserved : goal.loop-k-preserved
loop-k-preserved c =
    let l = c.loop-k in
    let e = sym c.read.ensures.0 ∙ c.if-read.false ∙ c.read-in-loop-k.ensures.0 in
    let z : 8 * (l.k + 1) ≡ 8 * l.k + 8 = omega arith in
    rw z
    (sym (same_number (8 * l.k) 8 _ _ (λ j. omega (arith, c.type_inv.a j)) (λ j. omega (arith, c.type_inv.b j)) (omega arith) (omega arith) e)
    ∙ l.invariant)

pub returns : goal.returns
returns c =
    let l = c.loop-k in
    let z : length c.args.a.now / 8 ≡ l.k = omega arith in
    rw z at c.same_from.ensures ∙ l.invariant
