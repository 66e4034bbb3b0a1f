-- `decide::decide` meets its contract: the tests are 16 to 19 in their order, and what is left is the rule's own answer. Assumes nothing.
use mathlib.Core.Path.{◌≡◌, sym, ap, ◌∙◌}
use borrow.Author.Rules.{rules}
use Rattle.std.specs.Prelude.{Err}
use Rattle.image.proofs.Laws.InsideLaws.{image_few}
use Rattle.store_table.proofs.Laws.BlankLaws.{flags_unmarked}
use Rattle.decide.specs.Decide.{Answer, decision_of, decide_of}
use Rattle.decide.proofs.Laws.TestsLaws.{tested_table, tested_twin}
use Rattle.decide.proofs.Laws.AnswerLaws.{refused_none, refused_16, refused_stores, refused_19, answered}
use Rattle.decide.proofs.decide.Goals as goal
use Rattle.decide.proofs.decide.Goals.{After-rule_says}

pub returns-in_err-image : goal.returns-in_err-image
returns-in_err-image c =
    let e : ◌≡◌ {A = Answer} c.from_residual.result (Err c.in_err-image.field-0.0) = search rules in
    let none = c.in_err-image.ensures.ok_part in
    e ∙ refused_none c.in_err-image.ensures.value none c.at.ensures ∙ refused_16 _ _ _ _ (rw none at c.checked.ensures)

pub returns-in_err-stores : goal.returns-in_err-stores
returns-in_err-stores c =
    let e : ◌≡◌ {A = Answer} c.from_residual-in_err-stores.result (Err c.in_err-stores.field-0.0) = search rules in
    let image = rw c.in_ok-image.ensures.ok_part at c.checked.ensures in
    e ∙ refused_stores _ _ _ _ image.0 c.in_err-stores.ensures

pub returns-in_err-list : goal.returns-in_err-list
returns-in_err-list c =
    let e : ◌≡◌ {A = Answer} c.from_residual-in_err-list.result (Err c.in_err-list.field-0.0) = search rules in
    let none = c.in_err-list.ensures.ok_part in
    let image = rw c.in_ok-image.ensures.ok_part at c.checked.ensures in
    let t = c.in_ok-stores.ensures.0 in
    e ∙ refused_none c.in_err-list.ensures.value none c.at-2.ensures
    ∙ refused_19 _ _ _ _ image.0 (tested_table _ t) (tested_twin _ t) (rw none at c.of_list.ensures)

pub mark_confirmed-requires : goal.mark_confirmed-requires
mark_confirmed-requires c = (rw c.in_ok-stores.ensures.1 (tested_twin _ c.in_ok-stores.ensures.0), flags_unmarked 64)

pub rule_says-requires : goal.rule_says-requires
rule_says-requires c =
    let image = rw c.in_ok-image.ensures.ok_part at c.checked.ensures in
    image_few _ image.0 image.1.1

-- the rule's own answer is what deciding gives
the_answer : (c : After-rule_says) →
    let s = c.args in
    decision_of c.rule_says.result ≡ decide_of s.image.now s.stores.now s.age s.list.now
the_answer c =
    let t = c.in_ok-stores.ensures in
    let image = rw c.in_ok-image.ensures.ok_part at c.checked.ensures in
    let l = rw c.in_ok-list.ensures.ok_part at c.of_list.ensures in
    answered _ _ _ _ image.0 (tested_table _ t.0) (tested_twin _ t.0) l.0 image.1.1
    (rw (t.1, l.1) at (c.ready_count.ensures _ c.mark_confirmed.ensures)) c.rule_says.result
    (rw (image.1.0, l.1) at c.rule_says.ensures)

pub returns-then-rule_says : goal.returns-then-rule_says
returns-then-rule_says c = sym (ap decision_of c.if-rule_says.true) ∙ the_answer (goal.at.returns-then-rule_says c).After-rule_says

pub returns-else-rule_says : goal.returns-else-rule_says
returns-else-rule_says c = sym (ap decision_of c.if-rule_says.false) ∙ the_answer (goal.at.returns-else-rule_says c).After-rule_says
