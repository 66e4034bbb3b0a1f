-- The classes of signs come after those of brackets. Assumes nothing.
use Prim.Native.Nat.{◌≤◌}
use native.Mathlib.Omega.{arith}
use Rattle.classes.specs.Class.{ampersand}
use Rattle.signs.specs.Inner.Expected.{sign_class}
use Rattle.signs.specs.declared.Sign.{Sign}
use Rattle.signs.specs.declared.Sign.TheVariants.{And, Or}

pub sign_least : (sign : Sign) → ampersand ≤ sign_class sign
sign_least And = omega arith
sign_least Or = omega arith
