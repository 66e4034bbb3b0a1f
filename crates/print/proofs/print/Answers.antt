-- `print::print` meets its contract: 16, then 1, and only then is the text written into the buffer. Assumes nothing.
use mathlib.Core.Path.{◌≡◌, ◌∙◌}
use mathlib.Core.Bool.{true}
use borrow.Author.Rules.{rules}
use Rattle.std.specs.Prelude.{Err}
use Prim.Native.Nat.{◌≤◌}
use native.Mathlib.Omega.{arith}
use Rattle.image.specs.Layout.{node_count_in}
use Rattle.image.specs.Decode.{decode}
use Rattle.image.specs.Inner.Valid.{is_some}
use Rattle.image.specs.Inner.Subtree.{ValidSubtree}
use Rattle.image.proofs.Laws.InsideLaws.{image_inside, image_few}
use Rattle.print.specs.Printed.{Printing}
use Rattle.print.proofs.Laws.PrintedLaws.{refused_none, refused_16, refused_1, printed}
use Rattle.print.proofs.print.Goals as goal
use Rattle.print.proofs.print.Goals.{After-table-nodes}

pub returns-in_err-rule : goal.returns-in_err-rule
returns-in_err-rule c =
    let e : ◌≡◌ {A = Printing} c.from_residual.result (Err c.in_err-rule.field-0.0) = search rules in
    let none = c.in_err-rule.ensures.ok_part in
    rw (e ∙ refused_none c.in_err-rule.ensures.value none c.at.ensures) (refused_16 _ _ (rw none at c.checked.ensures))

-- the bytes are an image
the_image : (c : After-table-nodes) →
    let i = c.in_ok-rule.rule in
    (is_some (decode c.args.image.now) ≡ true) × ((i.bytes.now ≡ c.args.image.now) × (i.nodes ≡ node_count_in c.args.image.now))
the_image c = rw c.in_ok-rule.ensures.ok_part at c.checked.ensures

-- the table has the bytes that are tested, and as many nodes as they say
the_bytes : (c : After-table-nodes) → c.table-nodes.result.bytes.now ≡ c.args.image.now
the_bytes c = c.table-nodes.ensures.0 ∙ (the_image c).1.0

the_count : (c : After-table-nodes) → c.table-nodes.result.count ≡ node_count_in c.args.image.now
the_count c = c.table-nodes.ensures.1 ∙ (the_image c).1.1

the_nodes : (c : After-table-nodes) →
    let t = c.table-nodes.result in
    ValidSubtree t.bytes.now t.count 0 t.count × (t.count ≤ 2048)
the_nodes c =
    let is = (the_image c).0 in
    (rw (the_bytes c) (image_inside _ is (the_count c)), image_few _ is (the_count c))

pub text_size-size-requires : goal.text_size-size-requires
text_size-size-requires c = the_nodes (goal.at.text_size-size-requires c).After-table-nodes

pub returns-then-text-size : goal.returns-then-text-size
returns-then-text-size c =
    let at = (goal.at.returns-then-text-size c).After-table-nodes in
    rw c.at-then-text-size.ensures (refused_1 _ _ (the_image at).0 (the_count at) (rw (the_bytes at) at c.text_size-size.ensures) c.if-text-size.true)

pub put_rule-requires : goal.put_rule-requires
put_rule-requires c =
    ((the_nodes (goal.at.put_rule-requires c).After-table-nodes).0, λ r z st. omega (arith, c.text_size-size.ensures r z st), c.if-text-size.false)

pub returns : goal.returns
returns c =
    let at = (goal.at.returns c).After-table-nodes in
    printed _ _ (the_image at).0 (the_count at) (rw (the_bytes at) at c.text_size-size.ensures) c.if-text-size.false
    (rw (the_bytes at) at c.put_rule.ensures)
