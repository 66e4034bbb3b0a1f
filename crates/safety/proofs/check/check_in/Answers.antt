-- `safety::check::check_in` meets its contract: the tests are 17 and 18, and where there are stores the rest. Assumes nothing.
use mathlib.Core.Path.{◌≡◌, ◌∙◌}
use native.Mathlib.Omega.{arith}
use borrow.Author.Rules.{rules}
use Rattle.std.specs.Prelude.{Err}
use Rattle.verdict.specs.Verdict.{Verdict}
use Rattle.decide.proofs.Laws.TestsLaws.{tested_table, tested_twin}
use Rattle.verdict.proofs.Laws.CheckLaws.{refused_stores, passed_none}
use Rattle.safety.proofs.check.check_in.Goals as goal

pub returns-in_err-stores : goal.returns-in_err-stores
returns-in_err-stores c r z st =
    let e : ◌≡◌ {A = Verdict} c.from_residual.result (Err c.in_err-stores.field-0.0) = search rules in
    e ∙ refused_stores r _ c.in_err-stores.ensures

pub returns-then-none : goal.returns-then-none
returns-then-none c r z st =
    let t = c.in_ok-stores.ensures in
    passed_none r _ (tested_table _ t.0) (tested_twin _ t.0) (omega (arith, c.if-none.true, rw t.1 at c.count-none.ensures))

pub check_names-requires : goal.check_names-requires
check_names-requires c =
    let t = c.in_ok-stores.ensures in (
      c.requires,
      record {
        table = rw t.1 (tested_table _ t.0);
        no_twin = rw t.1 (tested_twin _ t.0);
        stored = λ e. omega (arith, c.if-none.false, c.count-none.ensures);
      },
    )

pub returns : goal.returns
returns c = rw c.in_ok-stores.ensures.1 at c.check_names.ensures
