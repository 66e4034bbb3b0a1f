-- The causes that are found in a text. Assumes nothing.
use mathlib.Core.Path.{◌≡◌, refl}
use Prim.Native.Nat.{◌≤◌}
use native.Mathlib.Omega.{arith}
use Rattle.refusals.specs.Refusals.{number}
use Rattle.refusals.specs.declared.Cause.{Cause}
use Rattle.refusals.specs.declared.Cause.TheVariants.{ShortBuffer, LongText, ForeignByte, HalfSign, OpenQuote, StrayCharacter, NoExpression, BracketExpected, TrailingToken, UnknownFunction, MissingArgument, BadCount, BadDuration, EmptyList, TooDeep, BadImage, BadStoreTable, TwinName, BadConfirmedList, UnknownStore, Unconfirmed, ArchiveOnly}

-- each cause but the others, by its number
pub in_text : (c : Cause) → (c ≡ TwinName → ⊥) → (c ≡ UnknownStore → ⊥) → (c ≡ Unconfirmed → ⊥) → (c ≡ ArchiveOnly → ⊥) → (c ≡ ShortBuffer → ⊥) → (c ≡ LongText → ⊥) → (c ≡ BadImage → ⊥) → (c ≡ BadStoreTable → ⊥) → (c ≡ BadConfirmedList → ⊥) → (3 ≤ number c) × (number c ≤ 15)
in_text ShortBuffer a b d e f g h i j = absurd (f refl)
in_text LongText a b d e f g h i j = absurd (g refl)
in_text ForeignByte a b d e f g h i j = (omega arith, omega arith)
in_text HalfSign a b d e f g h i j = (omega arith, omega arith)
in_text OpenQuote a b d e f g h i j = (omega arith, omega arith)
in_text StrayCharacter a b d e f g h i j = (omega arith, omega arith)
in_text NoExpression a b d e f g h i j = (omega arith, omega arith)
in_text BracketExpected a b d e f g h i j = (omega arith, omega arith)
in_text TrailingToken a b d e f g h i j = (omega arith, omega arith)
in_text UnknownFunction a b d e f g h i j = (omega arith, omega arith)
in_text MissingArgument a b d e f g h i j = (omega arith, omega arith)
in_text BadCount a b d e f g h i j = (omega arith, omega arith)
in_text BadDuration a b d e f g h i j = (omega arith, omega arith)
in_text EmptyList a b d e f g h i j = (omega arith, omega arith)
in_text TooDeep a b d e f g h i j = (omega arith, omega arith)
in_text BadImage a b d e f g h i j = absurd (h refl)
in_text BadStoreTable a b d e f g h i j = absurd (i refl)
in_text TwinName a b d e f g h i j = absurd (a refl)
in_text BadConfirmedList a b d e f g h i j = absurd (j refl)
in_text UnknownStore a b d e f g h i j = absurd (b refl)
in_text Unconfirmed a b d e f g h i j = absurd (d refl)
in_text ArchiveOnly a b d e f g h i j = absurd (e refl)
