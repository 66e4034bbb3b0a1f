-- `lines::append_shown` meets its contract: after i turns the first i bytes are written, each as it is shown. Assumes nothing.
use mathlib.Core.Path.{refl}
use native.Mathlib.Omega.{arith}
use lib.Seq.{take_all}
use Rattle.slices.proofs.Laws.WrittenLaws.{written_none, copied_on}
use Rattle.lines.specs.Lines.{shown_all}
use Rattle.lines.proofs.Laws.LinesLaws.{shown_length, shown_at}
use borrow.Author.Rules.{rules}
use Rattle.lines.proofs.append_shown.Goals as goal

pub loop-i-init : goal.loop-i-init
loop-i-init c = (omega arith, refl, written_none _ _)

pub loop-i-preserved : goal.loop-i-preserved
loop-i-preserved c =
    let l = c.loop-i in
    let piece = c.args.piece.now in (
      omega arith,
      search rules,
      rw (c.shown_byte.ensures, ← shown_at piece l.i (omega arith))
          (copied_on _ _ (omega arith) _ l.i (omega (arith, shown_length piece)) l.invariant.2 (omega arith)),
    )

pub returns : goal.returns
returns c =
    let l = c.loop-i in
    let piece = c.args.piece.now in
    record { ends = omega (arith, shown_length piece); text = rw (take_all l.i (shown_all piece) (omega (arith, shown_length piece))) at l.invariant.2 }
