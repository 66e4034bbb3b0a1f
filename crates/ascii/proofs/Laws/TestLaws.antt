-- What a test of two values says of what they are known to be. Assumes nothing.
use mathlib.Core.Path.{◌≡◌, sym, ◌∙◌}
use mathlib.Core.Bool.{true}
use Prim.Native.Nat.{ℕ}
use borrow.Author.Tests.{eq-eqb}
use lib.Dec.{eqb}

-- x is a, y is b, and x was found to be y
pub is_so : {x y a b : ℕ} → x ≡ a → y ≡ b → x ≡ y → eqb a b ≡ true
is_so {x} {y} {a} {b} p q h = eq-eqb a b (sym p ∙ h ∙ q)
