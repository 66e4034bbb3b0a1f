-- `report::append_detail` meets its contract: by its cause, a refusal has its own parts in a row, or none. Assumes nothing.
use Prim.Native.Nat.{◌≤◌}
use native.Mathlib.Numerals.{add-one}
use native.Mathlib.Omega.{arith}
use lib.ListN.{length}
use Rattle.slices.proofs.Laws.WrittenLaws.{written_at_after}
use Rattle.decimal.proofs.Laws.DigitsLaws.{digits_short}
use Rattle.lines.proofs.Laws.LinesLaws.{shown_length}
use Rattle.grammar.specs.Reading.{read_of}
use Rattle.page_text.specs.Report.{node_name, detail_of}
use Rattle.page_text.proofs.Laws.ShortLaws.{name_short, lines_short}
use Rattle.page_text.proofs.Laws.CauseLaws.{in_text}
use Rattle.report.proofs.append_detail.Goals as goal

pub overflow_add-place : goal.overflow_add-place
overflow_add-place c =
    omega (arith, c.requires.due.index c.in-TwinName.is)

pub append-requires : goal.append-requires
append-requires c =
    omega (arith, digits_short)

pub append-requires-in-UnknownStore : goal.append-requires-in-UnknownStore
append-requires-in-UnknownStore c =
    let a = c.args in
    omega (arith, shown_length (node_name (read_of a.text.now) a.f.place), name_short a.text.now a.f.place)

pub append_age-requires-in-ArchiveOnly : goal.append_age-requires-in-ArchiveOnly
append_age-requires-in-ArchiveOnly c =
    omega (arith, lines_short c.args.stores.bytes.now c.args.stores.in_bounds)

pub append_place-requires : goal.append_place-requires
append_place-requires c =
    let d = c.in_default in
    let t = in_text _ d.not-TwinName d.not-UnknownStore d.not-Unconfirmed d.not-ArchiveOnly d.not-ShortBuffer d.not-LongText d.not-BadImage d.not-BadStoreTable d.not-BadConfirmedList in
    omega (arith, c.requires.due.short t.0 t.1)

pub returns-in-TwinName : goal.returns-in-TwinName
unfolding detail_of
returns-in-TwinName c =
    let a = c.args in
    let h : a.at ≤ length a.page.now = omega arith in
    rw c.in-TwinName.is
    (simp add-one at (written_at_after h (written_at_after h c.append-word_end.ensures c.append_digits-digits_end.ensures) c.append.ensures))

pub returns-in-UnknownStore : goal.returns-in-UnknownStore
unfolding detail_of
returns-in-UnknownStore c =
    rw c.in-UnknownStore.is (written_at_after (omega arith) c.append_node-name_end.ensures c.append-in-UnknownStore.ensures)

pub returns-in-Unconfirmed : goal.returns-in-Unconfirmed
unfolding detail_of
returns-in-Unconfirmed c =
    rw c.in-Unconfirmed.is (written_at_after (omega arith) c.append-nothing_end.ensures c.append_age.ensures)

pub returns-in-ArchiveOnly : goal.returns-in-ArchiveOnly
unfolding detail_of
returns-in-ArchiveOnly c =
    rw c.in-ArchiveOnly.is (written_at_after (omega arith) c.append_write_only-names_end.ensures c.append_age-in-ArchiveOnly.ensures)
