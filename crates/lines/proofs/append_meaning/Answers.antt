-- `lines::append_meaning` meets its contract: four parts in a row. Assumes nothing.
use Prim.Native.Nat.{◌≤◌}
use native.Mathlib.Omega.{arith}
use lib.ListN.{length}
use Rattle.slices.proofs.Laws.WrittenLaws.{written_at_after}
use Rattle.lines.proofs.Laws.CauseLaws.{word_short, meaning_short}
use Rattle.lines.proofs.append_meaning.Goals as goal
use Rattle.lines.proofs.append_meaning.Goals.{After-as_bytes, After-as_bytes-2}

-- the word is short, and so is the meaning
word_fits : (c : After-as_bytes) → length c.as_bytes.result.now ≤ 18
word_fits c = rw (c.as_bytes.ensures.value, c.word-word.ensures) (word_short c.args.cause)

meaning_fits : (c : After-as_bytes-2) → length c.as_bytes-2.result.now ≤ 64
meaning_fits c = rw (c.as_bytes-2.ensures.value, c.meaning-meaning.ensures) (meaning_short c.args.cause)

pub append-word_end-requires : goal.append-word_end-requires
append-word_end-requires c = omega (arith, word_fits (goal.at.append-word_end-requires c).After-as_bytes)

pub append-colon_end-requires : goal.append-colon_end-requires
append-colon_end-requires c = omega (arith, word_fits (goal.at.append-colon_end-requires c).After-as_bytes)

pub append-meaning_end-requires : goal.append-meaning_end-requires
append-meaning_end-requires c =
    omega (
      arith,
      word_fits (goal.at.append-meaning_end-requires c).After-as_bytes,
      meaning_fits (goal.at.append-meaning_end-requires c).After-as_bytes-2,
    )

pub append-requires : goal.append-requires
append-requires c =
    omega (arith, word_fits (goal.at.append-requires c).After-as_bytes, meaning_fits (goal.at.append-requires c).After-as_bytes-2)

pub returns : goal.returns
returns c =
    let w = rw (c.as_bytes.ensures.value, c.word-word.ensures) at c.append-word_end.ensures in
    let m = rw (c.as_bytes-2.ensures.value, c.meaning-meaning.ensures) at c.append-meaning_end.ensures in
    let i = word_short c.args.cause in
    let j = meaning_short c.args.cause in
    written_at_after (omega arith) w
    (written_at_after (omega (arith, w.ends)) c.append-colon_end.ensures (written_at_after (omega (arith, w.ends)) m c.append.ensures))
