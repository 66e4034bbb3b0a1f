-- `image_test::checked` meets its contract: the tests are all that an image has to pass. Assumes nothing.
use mathlib.Core.Path.{◌≡◌, refl, sym, ◌∙◌}
use native.Mathlib.Omega.{arith}
use mathlib.Core.Bool.{true}
use lib.ListN.{drop}
use Rattle.slices.specs.Text.{all_ascii}
use Rattle.image.specs.Layout.{names_start}
use Rattle.image.specs.Decode.{decode}
use Rattle.image.specs.Inner.Valid.{is_some}
use Rattle.image.proofs.Laws.InsideLaws.{image_inside}
use Rattle.image.proofs.Laws.TestLaws.{true_sized, not_sized, Headed, not_ascii, not_named, all_tests}
use Rattle.image_test.proofs.checked.Goals as goal
use Rattle.image_test.proofs.checked.Goals.{After-ascii_from, Else-bytes-start, After-nodes_fit}

pub returns-then-bytes-lt4 : goal.returns-then-bytes-lt4
returns-then-bytes-lt4 c = sym (not_sized _ _ _ refl refl (omega arith))

pub returns-then-n-eq0 : goal.returns-then-n-eq0
returns-then-n-eq0 c = sym (not_sized _ _ _ c.node_count-n.ensures.0 c.name_byte_count-m.ensures.0 (omega arith))

pub returns-then-n-gt2048 : goal.returns-then-n-gt2048
returns-then-n-gt2048 c = sym (not_sized _ _ _ c.node_count-n.ensures.0 c.name_byte_count-m.ensures.0 (omega arith))

pub returns-then-m-gt2048 : goal.returns-then-m-gt2048
returns-then-m-gt2048 c = sym (not_sized _ _ _ c.node_count-n.ensures.0 c.name_byte_count-m.ensures.0 (omega arith))

pub returns-then-bytes-start : goal.returns-then-bytes-start
returns-then-bytes-start c = sym (not_sized _ _ _ c.node_count-n.ensures.0 c.name_byte_count-m.ensures.0 (omega arith))

-- past the first tests the lengths are an image's
the_head : (c : Else-bytes-start) →
    Headed c.args.bytes.now c.node_count-n.result c.name_byte_count-m.result
the_head c =
    record {
      nodes = c.node_count-n.ensures.0;
      bytes = c.name_byte_count-m.ensures.0;
      lengths = true_sized _ _ _ (omega arith) (omega arith) (omega arith) (omega arith);
    }

-- the answer is that of the bytes from where the names begin
the_ascii : (c : After-ascii_from) →
    all_ascii (drop (names_start c.node_count-n.result) c.args.bytes.now) ≡ c.ascii_from.result
the_ascii c = rw (← c.names_start-start.ensures) (sym c.ascii_from.ensures)

pub returns-then-not-ascii_from : goal.returns-then-not-ascii_from
returns-then-not-ascii_from c =
    let at = goal.at.returns-then-not-ascii_from c in
    sym (not_ascii (the_head at.Else-bytes-start) (the_ascii at.After-ascii_from ∙ c.if-not-ascii_from.true))

pub returns-then-not-names_run : goal.returns-then-not-names_run
returns-then-not-names_run c =
    let at = goal.at.returns-then-not-names_run c in
    sym (not_named (the_head at.Else-bytes-start) (the_ascii at.After-ascii_from ∙ c.if-not-ascii_from.false) (sym c.names_run.ensures ∙ c.if-not-names_run.true))

-- past those tests the answer is that of the last one
the_nodes : (c : After-nodes_fit) → Headed c.args.bytes.now c.node_count-n.result c.name_byte_count-m.result →
    all_ascii (drop (names_start c.node_count-n.result) c.args.bytes.now) ≡ true → c.nodes_fit.result ≡ is_some (decode c.args.bytes.now)
the_nodes c head ascii = c.nodes_fit.ensures ∙ all_tests head ascii (sym c.names_run.ensures ∙ c.if-not-names_run.false)

pub returns-then-not-nodes_fit : goal.returns-then-not-nodes_fit
returns-then-not-nodes_fit c =
    let at = goal.at.returns-then-not-nodes_fit c in
    sym (the_nodes at.After-nodes_fit (the_head at.Else-bytes-start) (the_ascii at.After-ascii_from ∙ c.if-not-ascii_from.false)) ∙ c.if-not-nodes_fit.true

pub invariant_of-result : goal.invariant_of-result
invariant_of-result c =
    let at = goal.at.invariant_of-result c in
    let image = sym (the_nodes at.After-nodes_fit (the_head at.Else-bytes-start) (the_ascii at.After-ascii_from ∙ c.if-not-ascii_from.false)) ∙ c.if-not-nodes_fit.false in
    record { valid = ∣ image_inside _ image c.node_count-n.ensures.0 ∣₁ }

pub returns : goal.returns
returns c =
    let at = goal.at.returns c in
    let image = sym (the_nodes at.After-nodes_fit (the_head at.Else-bytes-start) (the_ascii at.After-ascii_from ∙ c.if-not-ascii_from.false)) ∙ c.if-not-nodes_fit.false in
    (image, (refl, c.node_count-n.ensures.0))
