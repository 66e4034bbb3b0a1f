-- `image_test::nodes_fit` meets its contract: after i turns the first i nodes make rules, and one rule alone has a root of size n.
use mathlib.Core.Path.{◌≡◌, refl, sym, ◌∙◌}
use native.Mathlib.Numerals.{add-one}
use native.Mathlib.Omega.{arith}
use Rattle.image.specs.Decode.{cell_at, build}
use Rattle.image.proofs.Laws.FitLaws.{cell_size, fits_stop, fits_root}
use Rattle.image_test.proofs.nodes_fit.Goals as goal

pub loop-i-init : goal.loop-i-init
unfolding build
loop-i-init c = refl

pub node_fits-requires : goal.node_fits-requires
node_fits-requires c = (record { within = omega arith; ready = c.loop-i.invariant }, omega arith)

pub returns-then-not-node_fits : goal.returns-then-not-node_fits
returns-then-not-node_fits c = fits_stop _ _ _ (omega arith) (sym c.node_fits.ensures ∙ c.if-not-node_fits.true)

pub loop-i-preserved : goal.loop-i-preserved
loop-i-preserved c = rw add-one (sym c.node_fits.ensures ∙ c.if-not-node_fits.false)

pub returns : goal.returns
returns c =
    let a = c.args.nodes in
    let l = c.loop-i in
    let q : l.i ≡ a.count = omega arith in
    fits_root (cell_at a.bytes.now a.count) a.count c.node-root.result.size (cell_size _ _ _ c.node-root.ensures) (omega arith) (rw q at l.invariant)
