-- `lines::append_numbers` meets its contract: five parts in a row. Assumes nothing.
use Rattle.std.proofs.Common.{arith}
use Rattle.slices.proofs.Laws.WrittenLaws.{written_at_after}
use Rattle.decimal.proofs.Laws.DigitsLaws.{digits_short}
use Rattle.lines.proofs.append_numbers.Goals as goal

pub append-blank_end-requires : goal.append-blank_end-requires
append-blank_end-requires c = omega (arith, digits_short c.args.a)

pub append_digits-b_end-requires : goal.append_digits-b_end-requires
append_digits-b_end-requires c = omega (arith, digits_short c.args.a)

pub append-requires : goal.append-requires
append-requires c = omega (arith, digits_short c.args.a, digits_short c.args.b)

pub returns : goal.returns
returns c =
    written_at_after (omega arith) c.append-word_end.ensures
    (written_at_after (omega arith) c.append_digits-a_end.ensures
    (written_at_after (omega (arith, digits_short c.args.a)) c.append-blank_end.ensures
    (written_at_after (omega (arith, digits_short c.args.a)) c.append_digits-b_end.ensures c.append.ensures)))
