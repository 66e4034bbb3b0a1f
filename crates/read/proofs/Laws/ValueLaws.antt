-- What reading answers: a length of at most 26,628 bytes, or a place of at most 2,048. Assumes nothing.
use mathlib.Core.Path.{◌≡◌, refl}
use mathlib.Core.Bool.{Bool, true, false, cond}
use mathlib.Core.List.{List}
use Prim.Native.Nat.{ℕ, ◌≤◌}
use native.Mathlib.Omega.{arith}
use lib.Dec.{ltb}
use lib.ListN.{length}
use Rattle.std.specs.Prelude.{Result, Ok, Err}
use Rattle.refusals.specs.declared.Refusal.{Refusal}
use Rattle.refusals.specs.Refusals.{refusal}
use Rattle.refusals.specs.declared.Cause.TheVariants.{ShortBuffer}
use Rattle.grammar.specs.Reading.{Read, rule, refused, read_of}
use Rattle.grammar.proofs.Laws.FitsLaws.{read_length}
use Rattle.grammar.proofs.Laws.PlaceLaws.{read_place}
use Rattle.read.specs.Outcome.{outcome, reading_of, read_into}

abbrev Bounded : Result ℕ Refusal → Type 0
Bounded (Ok size) = size ≤ 26_628
Bounded (Err f) = f.place ≤ 2048

module _ (text buffer : List ℕ) where
  by_reading : (x : Read) → read_of text ≡ x → Bounded (reading_of x buffer).answer
  by_reading (rule r) e = read_length text r e
  by_reading (refused f) e = (read_place text f e).1

  bounded : Bounded (read_into text buffer).answer
  unfolding read_into
  bounded = go (ltb (length buffer) 26_628)
    where
      go : (b : Bool) → Bounded (cond b (outcome (Err (refusal ShortBuffer 0)) buffer) (reading_of (read_of text) buffer)).answer
      go true = omega arith
      go false = by_reading (read_of text) refl

  pub read_value : (size : ℕ) → (read_into text buffer).answer ≡ Ok size → size ≤ 26_628
  read_value size e = rw e at bounded

  pub refused_value : (f : Refusal) → (read_into text buffer).answer ≡ Err f → f.place ≤ 2048
  refused_value f e = rw e at bounded
