-- `details::append_node` meets its contract: the text is read into a buffer, and the node's name is in the image there.
use mathlib.Core.Path.{◌≡◌, refl, sym}
use native.Mathlib.Omega.{arith}
use Prim.Native.Nat.{◌≤◌}
use lib.ListN.{length, take, length-take}
use lib.Seq.{length-take-le}
use Rattle.slices.proofs.Laws.WrittenLaws.{written_at_none}
use Rattle.lines.specs.Lines.{shown_all}
use Rattle.grammar.proofs.Laws.FitsLaws.{read_decodes}
use Rattle.read.proofs.Laws.FoundLaws.{Found, read_refused, read_rule}
use Rattle.page_text.proofs.Laws.NodeNameLaws.{taken_short, name_past, name_here, name_not}
use borrow.Author.Rules.{rules}
use Rattle.details.proofs.append_node.Goals as goal
use Rattle.details.proofs.append_node.Goals.{After-of-rule, In-Ok}
use Rattle.image.specs.Layout.{node_count_in}
use Rattle.image.proofs.Laws.WholeLaws.{its_name}

-- the rule that the text reads as, in the buffer
the_rule : (c : In-Ok) →
    Found c.args.text.now c.in-Ok.size c.read.new.image
the_rule c = read_rule _ _ (search rules) c.read.ensures c.in-Ok.is

pub returns-in_default : goal.returns-in_default
unfolding shown_all
returns-in_default c = rw (read_refused _ _ (search rules) c.read.ensures c.in_default.is) (written_at_none _ _)

pub slice_bounds-image-end : goal.slice_bounds-image-end
slice_bounds-image-end c = (the_rule (goal.at.slice_bounds-image-end c).In-Ok).within

pub slice_bounds-of-end : goal.slice_bounds-of-end
slice_bounds-of-end c = sym (length-take-le _ _ (the_rule (goal.at.slice_bounds-of-end c).In-Ok).within)

pub of-rule-requires : goal.of-rule-requires
of-rule-requires c =
    let g = the_rule (goal.at.of-rule-requires c).In-Ok in
    rw (g.taken, read_decodes c.args.text.now g.read g.says) refl

-- how many nodes it has
counted : (c : After-of-rule) → c.of-rule.result.nodes ≡ node_count_in (take c.in-Ok.size c.read.new.image)
counted c = c.of-rule.ensures.1

pub returns-then-rule-index : goal.returns-then-rule-index
unfolding shown_all
returns-then-rule-index c =
    rw (name_past (the_rule (goal.at.returns-then-rule-index c).In-Ok) (counted (goal.at.returns-then-rule-index c).After-of-rule) c.if-rule-index.true) (written_at_none _ _)

pub name-requires : goal.name-requires
name-requires c = its_name c.of-rule.result _ c.node-node.ensures c.if-rule-index.false c.if-named.true

pub append_shown-requires : goal.append_shown-requires
append_shown-requires c =
    let within = its_name c.of-rule.result _ c.node-node.ensures c.if-rule-index.false c.if-named.true in
    let short : length c.of-rule.result.bytes.now ≤ 26_628 = rw c.of-rule.ensures.0 (taken_short (the_rule (goal.at.append_shown-requires c).In-Ok)) in
    rw c.name.ensures (simp length-take (omega (arith, short, within)))

pub returns-then-named : goal.returns-then-named
returns-then-named c =
    rw (name_here (the_rule (goal.at.returns-then-named c).In-Ok) (counted (goal.at.returns-then-named c).After-of-rule)
    (rw c.of-rule.ensures.0 at c.node-node.ensures) c.if-rule-index.false c.if-named.true (rw c.of-rule.ensures.0 at c.name.ensures))
    c.append_shown.ensures

pub returns : goal.returns
unfolding shown_all
returns c =
    rw (name_not (the_rule (goal.at.returns c).In-Ok) (counted (goal.at.returns c).After-of-rule)
    (rw c.of-rule.ensures.0 at c.node-node.ensures) c.if-rule-index.false c.if-named.false) (written_at_none _ _)
