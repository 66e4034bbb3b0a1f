-- The cycle of calls parse_or, parse_and, parse_primary meets its contracts. Assumes nothing.
use Rattle.std.specs.Prelude.{Ok}
use mathlib.Core.Path.{ap, ◌∙◌}
use native.Mathlib.Omega.{arith}
use Rattle.classes.specs.Class.{ampersand, bar, comma}
use Rattle.grammar.specs.Inner.Starts.{start_next}
use Rattle.grammar.proofs.Laws.StartLaws.{head_is, head_ahead}
use Rattle.nodes.proofs.Laws.ParseLaws.{passed_on, and_level, or_level, first_refused, begin, stop, right_refused, turn, item_refused, item_read, list_turn}
use Rattle.parser.proofs.Laws.OperandLaws.{found, not_found, root_dropped, root_stays}
use Rattle.parser.proofs.Laws.PrimaryLaws.{primary_refused, name_read, test_read, group_refused, group_read}
use Rattle.parser.proofs.Laws.ArgumentLaws.{first_missing, first_listing, list_room, list_end}
use Rattle.parser.proofs.+expression.Goals as goal

-- ---- parse_and
pub parse_and-returns-in_err-end : goal.parse_and-returns-in_err-end
parse_and-returns-in_err-end g t c =
    passed_on _ _ _ _ c.from_residual.result c.from_residual.ensures.1 (first_refused (and_level _ _ _) (omega arith) c.in_err-end.ensures)

pub parse_and-loop-next-init : goal.parse_and-loop-next-init
parse_and-loop-next-init g t c = begin (and_level _ _ _) (omega arith) c.in_ok-end.ensures

pub parse_and-returns-in_err-end-2 : goal.parse_and-returns-in_err-end-2
parse_and-returns-in_err-end-2 g t c =
    let i = found _ _ ampersand c.next_operand.ensures.next c.in-Some.is in
    passed_on _ _ _ _ c.from_residual-in_err-end-2.result c.from_residual-in_err-end-2.ensures.1
    (right_refused (and_level _ _ _) i.sign i.bounds.2 c.loop-next.invariant (omega arith) c.in_err-end-2.ensures)

pub parse_and-loop-next-preserved : goal.parse_and-loop-next-preserved
parse_and-loop-next-preserved g t c =
    let next = c.next_operand.ensures in
    let i = found _ _ ampersand next.next c.in-Some.is in
    turn (and_level _ _ _) i.sign i.bounds.2 i.bounds.0 c.loop-next.invariant (root_dropped _ _ ampersand next.next _ _ next.nodes c.in-Some.is)
    (omega arith) c.in_ok-end-2.ensures (omega (arith, c.in_ok-end-2.ensures)) c.in-Some.ensures.long c.push_combinator.ensures.long c.push_combinator.ensures.nodes

pub parse_and-returns : goal.parse_and-returns
parse_and-returns g t c =
    let next = c.next_operand.ensures in
    stop (and_level _ _ _) (not_found _ _ ampersand next.next (omega arith) c.in_default.is) (rw (root_stays _ _ ampersand next.next _ _ next.nodes c.in_default.is) c.loop-next.invariant)

-- ---- parse_or
pub parse_or-returns-in_err-end : goal.parse_or-returns-in_err-end
parse_or-returns-in_err-end g t c =
    passed_on _ _ _ _ c.from_residual.result c.from_residual.ensures.1 (first_refused (or_level _ _ _) (omega arith) c.in_err-end.ensures)

pub parse_or-loop-next-init : goal.parse_or-loop-next-init
parse_or-loop-next-init g t c = begin (or_level _ _ _) (omega arith) c.in_ok-end.ensures

pub parse_or-returns-in_err-end-2 : goal.parse_or-returns-in_err-end-2
parse_or-returns-in_err-end-2 g t c =
    let i = found _ _ bar c.next_operand.ensures.next c.in-Some.is in
    passed_on _ _ _ _ c.from_residual-in_err-end-2.result c.from_residual-in_err-end-2.ensures.1
    (right_refused (or_level _ _ _) i.sign i.bounds.2 c.loop-next.invariant (omega arith) c.in_err-end-2.ensures)

pub parse_or-loop-next-preserved : goal.parse_or-loop-next-preserved
parse_or-loop-next-preserved g t c =
    let next = c.next_operand.ensures in
    let i = found _ _ bar next.next c.in-Some.is in
    turn (or_level _ _ _) i.sign i.bounds.2 i.bounds.0 c.loop-next.invariant (root_dropped _ _ bar next.next _ _ next.nodes c.in-Some.is)
    (omega arith) c.in_ok-end-2.ensures (omega (arith, c.in_ok-end-2.ensures)) c.in-Some.ensures.long c.push_combinator.ensures.long c.push_combinator.ensures.nodes

pub parse_or-returns : goal.parse_or-returns
parse_or-returns g t c =
    let next = c.next_operand.ensures in
    stop (or_level _ _ _) (not_found _ _ bar next.next (omega arith) c.in_default.is) (rw (root_stays _ _ bar next.next _ _ next.nodes c.in_default.is) c.loop-next.invariant)

-- ---- parse_primary
pub parse_primary-returns-in_err-start : goal.parse_primary-returns-in_err-start
parse_primary-returns-in_err-start g t c =
    passed_on _ _ _ _ c.from_residual.result c.from_residual.ensures.1 (primary_refused _ _ _ c.start_at.ensures.begins c.in_err-start.was)

pub parse_primary-returns-in-Name : goal.parse_primary-returns-in-Name
parse_primary-returns-in-Name g t c = name_read _ _ _ c.start_at.ensures.begins (c.in_ok-start.was ∙ ap Ok c.in-Name.is) c.push_name.ensures.holds

pub parse_primary-returns-in-Leaf : goal.parse_primary-returns-in-Leaf
parse_primary-returns-in-Leaf g t c = test_read _ _ _ c.start_at.ensures.begins (c.in_ok-start.was ∙ ap Ok c.in-Leaf.is) c.push_test.ensures.written.holds

pub parse_primary-returns-in_err-inner-in-Group : goal.parse_primary-returns-in_err-inner-in-Group
parse_primary-returns-in_err-inner-in-Group g t c =
    passed_on _ _ _ _ c.from_residual-in_err-inner-in-Group.result c.from_residual-in_err-inner-in-Group.ensures.1 (group_refused _ _ _ c.start_at.ensures.begins (c.in_ok-start.was ∙ ap Ok c.in-Group.is) c.in_err-inner-in-Group.ensures)

pub parse_primary-returns-in_ok-inner-in-Group : goal.parse_primary-returns-in_ok-inner-in-Group
parse_primary-returns-in_ok-inner-in-Group g t c =
    group_read _ _ _ c.start_at.ensures.begins (c.in_ok-start.was ∙ ap Ok c.in-Group.is) c.in_ok-inner-in-Group.ensures c.close_group.ensures.next

pub parse_primary-returns-in_err-start-in-List : goal.parse_primary-returns-in_err-start-in-List
parse_primary-returns-in_err-start-in-List g t c =
    let begins = c.start_at.ensures.begins in
    passed_on _ _ _ _ c.from_residual-in_err-start-in-List.result c.from_residual-in_err-start-in-List.ensures.1
    (first_missing _ _ _ _ (head_is _ begins (c.in_ok-start.was ∙ ap Ok c.in-List.is)) (head_ahead _ begins (ap start_next (c.in_ok-start.was ∙ ap Ok c.in-List.is))) c.first_argument.ensures.next c.in_err-start-in-List.was)

pub parse_primary-returns-in_err-end-in-List : goal.parse_primary-returns-in_err-end-in-List
parse_primary-returns-in_err-end-in-List g t c =
    let begins = c.start_at.ensures.begins in
    passed_on _ _ _ _ c.from_residual-in_err-end-in-List.result c.from_residual-in_err-end-in-List.ensures.1
    (item_refused _ _ _ _
    (first_listing _ _ _ _ (head_is _ begins (c.in_ok-start.was ∙ ap Ok c.in-List.is)) (head_ahead _ begins (ap start_next (c.in_ok-start.was ∙ ap Ok c.in-List.is))) c.first_argument.ensures.next c.args.nodes.now c.in_ok-start-in-List.was)
    c.in_err-end-in-List.ensures)

pub parse_primary-loop-argument-init : goal.parse_primary-loop-argument-init
parse_primary-loop-argument-init g t c =
    let begins = c.start_at.ensures.begins in
    item_read _ _ _ _
    (first_listing _ _ _ _ (head_is _ begins (c.in_ok-start.was ∙ ap Ok c.in-List.is)) (head_ahead _ begins (ap start_next (c.in_ok-start.was ∙ ap Ok c.in-List.is))) c.first_argument.ensures.next c.args.nodes.now c.in_ok-start-in-List.was)
    c.in_ok-end-in-List.ensures

pub parse_primary-returns-in_err-end-in-List-2 : goal.parse_primary-returns-in_err-end-in-List-2
parse_primary-returns-in_err-end-in-List-2 g t c =
    let i = found _ _ comma c.next_argument.ensures.next c.in-Some.is in
    passed_on _ _ _ _ c.from_residual-in_err-end-in-List-2.result c.from_residual-in_err-end-in-List-2.ensures.1
    (item_refused _ _ _ _ (list_turn _ _ _ _ c.loop-argument.invariant i.sign i.bounds) c.in_err-end-in-List-2.ensures)

pub parse_primary-loop-argument-preserved : goal.parse_primary-loop-argument-preserved
parse_primary-loop-argument-preserved g t c =
    let i = found _ _ comma c.next_argument.ensures.next c.in-Some.is in
    item_read _ _ _ _ (list_turn _ _ _ _ c.loop-argument.invariant i.sign i.bounds) c.in_ok-end-in-List-2.ensures

pub parse_primary-close_list-requires : goal.parse_primary-close_list-requires
parse_primary-close_list-requires g t c = (omega arith, list_room _ _ _ _ c.loop-argument.invariant (omega arith))

pub parse_primary-returns-in_default : goal.parse_primary-returns-in_default
parse_primary-returns-in_default g t c =
    list_end _ _ _ _ c.loop-argument.invariant (omega arith) c.close_list.ensures.long
    (not_found _ _ comma c.next_argument.ensures.next (omega arith) c.in_default.is) c.close_list.ensures.next c.close_list.ensures.nodes
