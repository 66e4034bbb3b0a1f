-- Where the text continues after how a primary begins. Assumes nothing.
use Rattle.std.specs.Prelude.{ℕ, List, Option, Some, None}
use Rattle.grammar.specs.Inner.Starts.{Ahead}

-- if it does, it is later in the text, and fewer tokens are left
abbrev pub NextAhead : List ℕ → ℕ → Option ℕ → Type 0
NextAhead s at (Some y) = Ahead s at y
NextAhead s at None = Unit {0}
