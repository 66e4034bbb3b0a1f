-- What the test for bytes below 128 looks for. Assumes nothing.
use Rattle.std.specs.Prelude.{ℕ, max, List, [], ◌∷◌}

-- the largest byte of a list, or 0
unfoldable pub largest : List ℕ → ℕ
largest [] = 0
largest (b ∷ s) = max b (largest s)
