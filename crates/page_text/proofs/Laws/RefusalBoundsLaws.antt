-- What is known of a refusal that judging gives: 3 to 15 come from a text of at most 2,048 bytes, and 18 has a store's index. Assumes nothing.
use Rattle.std.specs.Prelude.{Err}
use mathlib.Core.Path.{◌≡◌, refl}
use mathlib.Core.Bool.{Bool, true, false}
use mathlib.Core.List.{List}
use Prim.Native.Nat.{ℕ, ◌≤◌, ◌<◌}
use native.Mathlib.Omega.{arith}
use borrow.Author.Tests.{ltb-true, ltb-false}
use lib.Dec.{ltb}
use lib.ListN.{length}
use Rattle.refusals.specs.declared.Refusal.{Refusal}
use Rattle.refusals.specs.Refusals.{refusal, number}
use Rattle.refusals.specs.declared.Cause.TheVariants.{LongText}
use Rattle.parse_text.proofs.Laws.ParseTextLaws.{read_long}
use Rattle.verdict.specs.Check.{judge_of}
use Rattle.verdict.proofs.Laws.PlaceLaws.{judge_placed}
use Rattle.page_text.specs.Inner.Room.{RefusalBounds}

-- a long text gets 2
long_2 : (text s : List ℕ) (f : Refusal) → judge_of text s ≡ Err f → 2048 < length text → number f.cause ≡ number LongText
unfolding judge_of
long_2 text s f e h = let q : refusal LongText 0 ≡ f = cc (rw (read_long text h) at e) in rw (← q) refl

pub judged_bounds : (text s : List ℕ) (f : Refusal) → judge_of text s ≡ Err f → RefusalBounds text f
unfolding judge_of
judged_bounds text s f e = record {
  short = λ l m. go (ltb 2048 (length text)) refl l;
  index = (judge_placed s f text e).store;
}
  where
    go : (b : Bool) → ltb 2048 (length text) ≡ b → 3 ≤ number f.cause → length text ≤ 2048
    go true h l = absurd (omega (arith, long_2 text s f e (ltb-true 2048 (length text) h)))
    go false h l = ltb-false 2048 (length text) h
