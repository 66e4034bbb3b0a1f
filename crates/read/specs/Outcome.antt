-- Reading into a lent buffer: the answer, and every byte of the buffer as it is left. Assumes nothing.
use Rattle.std.specs.Prelude.{ℕ, cond, List, ◌++◌, ltb, length, drop, Result, Ok, Err}
use Rattle.refusals.specs.declared.Refusal.{Refusal}
use Rattle.refusals.specs.Refusals.{refusal}
use Rattle.refusals.specs.declared.Cause.TheVariants.{ShortBuffer}
use Rattle.image.specs.Encode.{encode}
use Rattle.grammar.specs.Reading.{Read, rule, refused, read_of}

-- an answer, and the buffer as it is left
pub record ReadOutcome : Type 0 where
  pub answer : Result ℕ Refusal
  pub image : List ℕ

abbrev pub outcome : Result ℕ Refusal → List ℕ → ReadOutcome
outcome r image = record { answer = r; image = image }

-- "A refusal returns its number and a place, and writes nothing. An accepted call that fills a buffer answers the length
-- written and changes nothing beyond it."
abbrev pub reading_of : Read → List ℕ → ReadOutcome
reading_of (rule r) image = outcome (Ok (length (encode r))) (encode r ++ drop (length (encode r)) image)
reading_of (refused f) image = outcome (Err f) image

-- 1, "lent output too short": "Reading needs a buffer of 26,628 bytes"
unfoldable pub read_into : List ℕ → List ℕ → ReadOutcome
read_into s image = cond (ltb (length image) 26_628) (outcome (Err (refusal ShortBuffer 0)) image) (reading_of (read_of s) image)
