-- The guarantee, for images and for texts. Assumes nothing.
use mathlib.Core.Path.{◌≡◌, refl, sym, ap, ◌∙◌}
use mathlib.Core.List.{List}
use mathlib.Core.Option.{Option, none, some}
use Prim.Native.Nat.{ℕ, ◌≤◌}
use native.Mathlib.Omega.{arith}
use lib.ListN.{length, drop}
use lib.Seq.{take-append_seam}
use Rattle.rules.specs.Rule.{Rule}
use Rattle.image.specs.Encode.{encode}
use Rattle.image.specs.Decode.{decode}
use Rattle.grammar.specs.Reading.{Read, rule, refused, read_of}
use Rattle.grammar.proofs.Laws.FitsLaws.{read_decodes}
use Rattle.grammar.proofs.Laws.NumberLaws.{read_number}
use Rattle.read.specs.Outcome.{outcome, reading_of, read_into}
use Rattle.read.proofs.Laws.BufferLaws.{reads}
use Rattle.store_table.specs.Stores.{entries_in}
use Rattle.store_table.proofs.Laws.DistinctLaws.{no_twin_distinct}
use Rattle.decide.proofs.Laws.ReadDecideLaws.{decide_read_says}
use Rattle.verdict.specs.Check.{check_decoded, check_of, judge_read, judge_of}
use Rattle.verdict.specs.Guarantee.{Checked, bytes_written, then_check, Judged}
use Rattle.verdict.proofs.Laws.SafetyLaws.{guaranteed, number_of}
use Rattle.std.specs.Prelude.{Result, Ok}
use Rattle.refusals.specs.declared.Refusal.{Refusal}
use Rattle.verdict.specs.Verdict.{Verdict}

-- ---- images
module _ (image s : List ℕ) where
  check_decoded_lem : {o : Option Rule} → decode image ≡ o → check_of image s ≡ check_decoded o s
  unfolding check_of
  check_decoded_lem e = rw e

  pub checked : Checked image s (check_of image s)
  checked = record {
    guarantee = λ t. guaranteed (λ r. decode image ≡ some r) t (λ r e. check_decoded_lem e) (held (decode image) refl);
    broken = λ e. check_decoded_lem e;
  }
    where
      held : (o : Option Rule) → decode image ≡ o → check_of image s ≡ Ok tt → (r : Rule) × (decode image ≡ some r)
      held none e p = absurd (omega (arith, ap number_of (sym (check_decoded_lem e) ∙ p)))
      held (some r) e p = (r, e)

-- ---- texts
module _ (text s : List ℕ) where
  pub judge_read_lem : {x : Read} → read_of text ≡ x → judge_of text s ≡ judge_read x s
  unfolding judge_of
  judge_read_lem e = rw e

  module _ (buffer : List ℕ) where
    -- the bytes written are the image of the text's rule
    image_written : {r : Rule} → 26_628 ≤ length buffer → read_of text ≡ rule r →
        (let o = read_into text buffer in bytes_written o.answer o.image ≡ encode r)
    image_written {r} room e = rw (reads text buffer room e) (take-append_seam (encode r) (drop (length (encode r)) buffer))

    read_then_check : (x : Read) → read_of text ≡ x → (let o = reading_of x buffer in judge_of text s ≡ then_check o.answer o.image s)
    unfolding check_of
    read_then_check (rule r) e = judge_read_lem e ∙ rw (take-append_seam (encode r) (drop (length (encode r)) buffer), read_decodes text r e)
    read_then_check (refused f) e = judge_read_lem e

    -- judging is reading into a buffer, and then checking
    pub judges : {a b : Result ℕ Refusal} {image : List ℕ} → outcome a image ≡ reading_of (read_of text) buffer → a ≡ b → then_check b image s ≡ judge_of text s
    judges e q = sym (rw (← e, q) at (read_then_check (read_of text) refl))

  pub judged : Judged text s (judge_of text s)
  judged = record {
    guarantee = λ t. guaranteed (λ r. read_of text ≡ rule r) t (λ r e. judge_read_lem e) (held (read_of text) refl);
    unread = λ f e. let (low, high) = read_number text f e in (judge_read_lem e, low, high);
    decides =
        λ r e table distinct buffer room age l is. rw (image_written buffer room e)
        (decide_read_says text r e s age l table ((no_twin_distinct (entries_in s)).1 distinct) is);
    read_check = λ buffer room. rw (reads text buffer room refl) (read_then_check buffer (read_of text) refl);
  }
    where
      held : (x : Read) → read_of text ≡ x → judge_of text s ≡ Ok tt → (r : Rule) × (read_of text ≡ rule r)
      held (rule r) e p = (r, e)
      held (refused f) e p = absurd (omega (arith, read_number text f e, ap number_of (sym (judge_read_lem e) ∙ p)))

-- ---- a verdict that is check's, or judge's, has what the demand says of it
pub with_checked : (image s : List ℕ) {v : Verdict} → v ≡ check_of image s → (v ≡ check_of image s) × Checked image s v
with_checked image s e = (e, rw e (checked image s))

pub with_judged : (text s : List ℕ) {v : Verdict} → v ≡ judge_of text s → (v ≡ judge_of text s) × Judged text s v
with_judged text s e = (e, rw e (judged text s))
