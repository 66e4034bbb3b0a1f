-- `judge::judge_in` meets its contract: the text is read into the buffer, and the image there is checked. Assumes nothing.
use mathlib.Core.Path.{◌≡◌, sym, ◌∙◌}
use mathlib.Core.Bool.{true}
use Prim.Native.Nat.{◌≤◌}
use lib.ListN.{length, take}
use lib.Seq.{length-take-le}
use Rattle.image.specs.Decode.{decode}
use Rattle.image.specs.Inner.Valid.{is_some}
use Rattle.image.proofs.Laws.InsideLaws.{image_few}
use Rattle.verdict.proofs.Laws.GuaranteeLaws.{judges}
use Rattle.verdict.proofs.Laws.CheckLaws.{written_image, checks_image}
use borrow.Author.Rules.{rules}
use Rattle.std.specs.Prelude.{Err}
use Rattle.verdict.specs.Verdict.{Verdict}
use Rattle.judge.proofs.judge_in.Goals as goal
use Rattle.judge.proofs.judge_in.Goals.{In_ok-size}

-- what was written is an image within the buffer
the_image : (c : In_ok-size) →
    (let n = c.in_ok-size.size in let i = c.read_fitting.new.image in
    (n ≤ length i) × (is_some (decode (take n i)) ≡ true))
the_image c =
    written_image _ _ c.read_fitting.ensures c.in_ok-size.was

pub slice_bounds-of-end : goal.slice_bounds-of-end
slice_bounds-of-end c = (the_image (goal.at.slice_bounds-of-end c).In_ok-size).0

pub slice_bounds-of-end-2 : goal.slice_bounds-of-end-2
slice_bounds-of-end-2 c = sym (length-take-le _ _ (the_image (goal.at.slice_bounds-of-end-2 c).In_ok-size).0)

pub of-written-requires : goal.of-written-requires
of-written-requires c = (the_image (goal.at.of-written-requires c).In_ok-size).1

pub check_rule-requires : goal.check_rule-requires
check_rule-requires c = image_few _ (the_image (goal.at.check_rule-requires c).In_ok-size).1 c.of-written.ensures.1

pub returns : goal.returns
returns c =
    let image = c.of-written.ensures in
    checks_image _ (the_image (goal.at.returns c).In_ok-size).1 image.1 _ (rw image.0 at c.check_rule.ensures)
    ∙ judges _ _ _ c.read_fitting.ensures c.in_ok-size.was

pub returns-in_err-size : goal.returns-in_err-size
returns-in_err-size c =
    let e : ◌≡◌ {A = Verdict} c.from_residual.result (Err c.in_err-size.field-0.0) = search rules in
    e ∙ judges _ _ _ c.read_fitting.ensures c.in_err-size.was
