-- `safety::validate_safety` meets its contract: 16, then the check of the image's rule. Assumes nothing.
use mathlib.Core.Path.{◌≡◌, ◌∙◌}
use borrow.Author.Rules.{rules}
use Rattle.std.specs.Prelude.{Err}
use Rattle.image.proofs.Laws.InsideLaws.{image_few}
use Rattle.decide.proofs.Laws.AnswerLaws.{refused_none}
use Rattle.verdict.specs.Verdict.{Verdict}
use Rattle.verdict.proofs.Laws.GuaranteeLaws.{with_checked}
use Rattle.verdict.proofs.Laws.CheckLaws.{refused_16, checks_image}
use Rattle.safety.proofs.validate_safety.Goals as goal

pub returns-in_err-image : goal.returns-in_err-image
returns-in_err-image c =
    let e : ◌≡◌ {A = Verdict} c.from_residual.result (Err c.in_err-image.field-0.0) = search rules in
    let none = c.in_err-image.ensures.ok_part in
    with_checked _ _ (e ∙ refused_none c.in_err-image.ensures.value none c.at.ensures ∙ refused_16 _ _ (rw none at c.checked.ensures))

pub check_rule-requires : goal.check_rule-requires
check_rule-requires c =
    let image = rw c.in_ok-image.ensures.ok_part at c.checked.ensures in
    image_few _ image.0 image.1.1

pub returns : goal.returns
returns c =
    let image = rw c.in_ok-image.ensures.ok_part at c.checked.ensures in
    with_checked _ _ (checks_image _ image.0 image.1.1 _ (rw image.1.0 at c.check_rule.ensures))
