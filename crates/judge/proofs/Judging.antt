-- What judging a text answers, and the guarantee of that. Assumes nothing.
use mathlib.Core.Path.{◌≡◌}
use mathlib.Core.List.{List}
use Prim.Native.Nat.{ℕ, ◌<◌}
use lib.ListN.{length}
use Rattle.refusals.specs.Refusals.{refusal}
use Rattle.refusals.specs.declared.Cause.TheVariants.{LongText}
use Rattle.std.specs.Prelude.{Err}
use Rattle.verdict.specs.Verdict.{Verdict}
use Rattle.verdict.specs.Check.{judge_of}
use Rattle.verdict.specs.Guarantee.{Judged}
use Rattle.parse_text.proofs.Laws.ParseTextLaws.{read_long}
use Rattle.verdict.proofs.Laws.GuaranteeLaws.{judge_read_lem, with_judged}

-- a text of more than 2,048 bytes gets 2
pub judge_long : (text s : List ℕ) → 2048 < length text → judge_of text s ≡ Err (refusal LongText 0)
judge_long text s h = judge_read_lem text s (read_long text h)

-- and what the demand says holds of it
pub judge_guarantee : (text s : List ℕ) (v : Verdict) → v ≡ judge_of text s → Judged text s v
judge_guarantee text s v e = (with_judged text s e).1
