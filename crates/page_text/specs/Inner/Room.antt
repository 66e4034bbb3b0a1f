-- What the functions that print a page ask of each other. Assumes nothing.
use Rattle.std.specs.Prelude.{ℕ, ◌+◌, ◌≤◌, ◌<◌, ◌≡◌, List, length, Err}
use Rattle.refusals.specs.declared.Refusal.{Refusal}
use Rattle.refusals.specs.declared.Cause.TheVariants.{TwinName}
use Rattle.refusals.specs.Refusals.{number}
use Rattle.verdict.specs.Verdict.{Verdict}

-- what is known of a refusal that judging gives: 3 to 15 come from a text of at most 2,048 bytes, and 18 has the index of one of 64 stores
pub record RefusalBounds (text : List ℕ) (f : Refusal) : Type 0 where
  pub short : 3 ≤ number f.cause → number f.cause ≤ 15 → length text ≤ 2048
  pub index : f.cause ≡ TwinName → f.place < 64

-- a page that has room after a position for what there is to say of a refusal
pub record Room (page : List ℕ) (at : ℕ) (text stores : List ℕ) (f : Refusal) : Type 0 where
  pub small : length stores ≤ 16_452
  pub room : at + 32_000 ≤ length page
  pub due : RefusalBounds text f

-- the same for a verdict
pub record VerdictRoom (page : List ℕ) (text stores : List ℕ) (v : Verdict) : Type 0 where
  pub small : length stores ≤ 16_452
  pub room : 32_768 ≤ length page
  pub due : (f : Refusal) → v ≡ Err f → RefusalBounds text f
