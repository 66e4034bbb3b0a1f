-- Which buffers are too short for printing: none of 90,026 bytes and more, and each shorter one for some image. Assumes nothing.
use mathlib.Core.Path.{◌≡◌, refl}
use mathlib.Core.List.{List}
use mathlib.Core.Option.{Option, none, some}
use Rattle.std.proofs.Common.{Err}
use Prim.Native.Nat.{ℕ, ◌≤◌, ◌<◌}
use native.Mathlib.Omega.{arith}
use borrow.Author.Tests.{lt-ltb, le-ltb}
use lib.ListN.{length}
use Rattle.slices.specs.Text.{AllBytes}
use Rattle.refusals.specs.declared.Refusal.{Refusal}
use Rattle.refusals.specs.Refusals.{refusal}
use Rattle.refusals.specs.declared.Cause.TheVariants.{ShortBuffer, BadImage}
use Rattle.rules.specs.Rule.{Rule}
use Rattle.image.specs.Encode.{encode}
use Rattle.image.specs.Decode.{decode}
use Rattle.image.proofs.Laws.DecodeLaws.{decoded_fits}
use Rattle.image.proofs.Laws.RoundTripLaws.{image_decodes}
use Rattle.print_text.specs.Print.{text_of}
use Rattle.print_text.proofs.Laws.LengthLaws.{text_most, longest, longest_fits, longest_length}
use Rattle.print.specs.Printed.{print_rule, print_into}

-- the only refusal is 16, whatever the bytes of the image are
pub never_short : (image text : List ℕ) → AllBytes image → 90_026 ≤ length text →
    (f : Refusal) → (print_into image text).answer ≡ Err f → f ≡ refusal BadImage 0
unfolding print_into
never_short image text bytes room f = go (decode image) refl
  where
    go : (o : Option Rule) → decode image ≡ o → (print_rule o text).answer ≡ Err f → f ≡ refusal BadImage 0
    go none e = λ q. cc
    go (some r) e = rw (le-ltb (length text) (length (text_of r)) (omega (arith, text_most r (decoded_fits image r bytes e)))) (λ q. cc)

-- the image of the longest text needs all 90,026
pub short_below : (text : List ℕ) → length text < 90_026 → (print_into (encode longest) text).answer ≡ Err (refusal ShortBuffer 0)
unfolding print_into
short_below text h = rw (image_decodes longest longest_fits, longest_length, lt-ltb (length text) 90_026 h)
