-- `report::append_judged` meets its contract: the verdict's line, and after it what that verdict means. Assumes nothing.
use native.Mathlib.Omega.{arith}
use Rattle.slices.proofs.Laws.WrittenLaws.{written_at_after}
use Rattle.page_text.proofs.Laws.ShortLaws.{verdict_short, meaning_line_short}
use Rattle.report.proofs.append_judged.Goals as goal

pub append_pass-requires : goal.append_pass-requires
append_pass-requires c =
    omega (arith, verdict_short c.args.v)

pub append_meaning-meaning_end-requires : goal.append_meaning-meaning_end-requires
append_meaning-meaning_end-requires c =
    omega (arith, verdict_short c.args.v)

pub append_detail-requires : goal.append_detail-requires
append_detail-requires c =
    record {
      small = c.requires.small;
      room = omega (arith, verdict_short c.args.v, meaning_line_short c.in-Err.f.cause);
      due = c.requires.due _ c.in-Err.is;
    }

pub returns-in-Ok : goal.returns-in-Ok
returns-in-Ok c =
    rw c.in-Ok.is (written_at_after (omega arith) (rw c.in-Ok.is at c.append_verdict-line_end.ensures) c.append_pass.ensures)

pub returns-in-Err : goal.returns-in-Err
returns-in-Err c =
    rw c.in-Err.is
    (written_at_after (omega arith) (rw c.in-Err.is at c.append_verdict-line_end.ensures)
    (written_at_after (omega (arith, verdict_short c.args.v)) c.append_meaning-meaning_end.ensures c.append_detail.ensures))
