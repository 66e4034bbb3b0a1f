-- `lookup::position` meets its contract: none of the first k entries has the name. Assumes nothing.
use mathlib.Core.Path.{◌≡◌, refl, ◌∙◌}
use native.Mathlib.Omega.{arith}
use Rattle.store_table.specs.Names.{has}
use Rattle.store_table.specs.Stores.{all_names}
use Rattle.store_table.proofs.Laws.IndexLaws.{has_named, finds_none}
use Rattle.store_table.proofs.Laws.WalkLaws.{standing_start, standing_next}
use Rattle.lookup.proofs.position.Goals as goal

pub loop-k-init : goal.loop-k-init
unfolding has all_names
loop-k-init c = (rw c.names_start-start.ensures.0 (standing_start _ _ c.args.table.in_bounds refl), refl)

pub name-found-requires : goal.name-found-requires
name-found-requires c = (omega arith, c.loop-k.invariant.0)

pub loop-k-preserved : goal.loop-k-preserved
loop-k-preserved c =
    let found = c.name-found.ensures in (
      standing_next c.loop-k.invariant.0 (omega arith) found.long,
      has_named found _ ∙ rw (← c.same_name.ensures, c.if-same_name.false) c.loop-k.invariant.1,
    )

pub returns : goal.returns
returns c =
    let e : c.loop-k.k ≡ c.args.first = omega arith in
    finds_none (rw e at c.loop-k.invariant.1)
