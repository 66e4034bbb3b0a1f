-- After a bracket that is expected, and is there, the text continues later. Assumes nothing.
use Prim.Native.Nat.{ℕ}
use mathlib.Core.Path.{◌≡◌, refl}
use mathlib.Core.List.{List}
use Rattle.std.specs.Prelude.{Option, Some, None, Result, IfOk}
use Rattle.refusals.specs.declared.Refusal.{Refusal}
use Rattle.refusals.specs.declared.Cause.{Cause}
use Rattle.tokens.specs.Token.{place_of, token_at}
use Rattle.tokens.specs.Inner.Bounds.{next_of_class}
use Rattle.signs.specs.Inner.Expected.{expected_by, expected}
use Rattle.grammar.specs.Inner.Starts.{Ahead}
use Rattle.grammar.proofs.Laws.SignTestLaws.{test_on}

pub expected_ahead : (s : List ℕ) (at k : ℕ) (c : Cause) {r : Result ℕ Refusal} → r ≡ expected k c (token_at s at) → IfOk r (Ahead s at)
expected_ahead s at k c e = rw e (go (next_of_class k (token_at s at)) refl)
  where
    go : (v : Option ℕ) → v ≡ next_of_class k (token_at s at) → IfOk (expected_by v c (place_of (token_at s at))) (Ahead s at)
    go (Some next) p = (test_on s at k p refl).bounds
    go None p = tt
