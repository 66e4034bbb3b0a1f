-- What a token's tag says of it, where the program takes one variant out and has another before it. Assumes nothing.
use mathlib.Core.Path.{◌≡◌, refl}
use mathlib.Core.List.{[], ◌∷◌}
use Prim.Native.Nat.{ℕ, ◌≤◌}
use native.Mathlib.Omega.{arith}
use borrow.Author.Tests.{ne_eqb}
use types.Run.{OneOf, miss}
use denote.Enum.Declared.{tag_of}
use Rattle.std.specs.Prelude.{None, Ok}
use Rattle.classes.specs.Class.{open_bracket, close_bracket, comma, ampersand}
use Rattle.tokens.specs.contracts.Token.{the_type}
use Rattle.tokens.specs.Inner.Bounds.{next_of_class, last_of}
use Rattle.tokens.specs.declared.Token.{Token}
use Rattle.tokens.specs.declared.Token.TheVariants.{End, Open, Close, Comma, And, Or, Word, Fault}

-- a token that is no fault says nothing against the text
pub not_fault : (t : Token) → OneOf (0 ∷ 1 ∷ 2 ∷ 3 ∷ 4 ∷ 5 ∷ 6 ∷ []) (tag_of the_type t) → last_of t ≡ Ok tt
not_fault (End p) h = refl
not_fault (Open p n) h = refl
not_fault (Close p n) h = refl
not_fault (Comma p n) h = refl
not_fault (And p n) h = refl
not_fault (Or p n) h = refl
not_fault (Word w) h = refl
not_fault (Fault f) h = absurd (miss (0 ∷ 1 ∷ 2 ∷ 3 ∷ 4 ∷ 5 ∷ 6 ∷ []) 7 tt h)

-- a token that is no sign is not the sign asked for
pub not_sign : (t : Token) → OneOf (0 ∷ 1 ∷ 2 ∷ 3 ∷ 6 ∷ 7 ∷ []) (tag_of the_type t) → (k : ℕ) → ampersand ≤ k → next_of_class k t ≡ None
unfolding next_of_class
not_sign (End p) h k l = refl
not_sign (Open p n) h k l = rw (ne_eqb k open_bracket (λ e. omega arith))
not_sign (Close p n) h k l = rw (ne_eqb k close_bracket (λ e. omega arith))
not_sign (Comma p n) h k l = rw (ne_eqb k comma (λ e. omega arith))
not_sign (And p n) h k l = absurd (miss (0 ∷ 1 ∷ 2 ∷ 3 ∷ 6 ∷ 7 ∷ []) 4 tt h)
not_sign (Or p n) h k l = absurd (miss (0 ∷ 1 ∷ 2 ∷ 3 ∷ 6 ∷ 7 ∷ []) 5 tt h)
not_sign (Word w) h k l = refl
not_sign (Fault f) h k l = refl
