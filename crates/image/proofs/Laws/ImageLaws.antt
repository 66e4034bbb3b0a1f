-- 16, as one law: bytes are read as a rule exactly if the rule fits and they are its image. Assumes nothing.
use mathlib.Core.Path.{◌≡◌, ap, ◌∙◌}
use mathlib.Core.Bool.{true}
use mathlib.Core.List.{List, ◌++◌}
use mathlib.Core.Logic.{◌↔◌}
use mathlib.Core.Option.{some}
use Prim.Native.Nat.{ℕ}
use lib.ListN.{length}
use Rattle.rules.specs.Rule.{Rule, size}
use Rattle.slices.specs.Text.{AllBytes}
use Rattle.little_endian.specs.Bytes.{le_bytes, packed}
use Rattle.image.specs.Encode.{names, tags, args, image_of, encode, Fits}
use Rattle.image.specs.Decode.{decode}
use Rattle.image.specs.Inner.Valid.{is_some}
use Rattle.little_endian.proofs.Laws.BytesLaws.{bytes_append, bytes_number, bytes_packed}
use Rattle.slices.proofs.Laws.AsciiLaws.{bytes_ascii}
use Rattle.image.proofs.Laws.FitLaws.{is_some_true}
use Rattle.image.proofs.Laws.RoundTripLaws.{image_decodes}
use Rattle.image.proofs.Laws.DecodeLaws.{decoded_image, decoded_fits}

-- an image is bytes
image_bytes : (n : ℕ) (ts xs ws : List ℕ) → AllBytes ws → AllBytes (image_of n ts xs ws)
unfolding image_of
image_bytes n ts xs ws h =
    let after-tags = packed 8 xs ++ ws in
    let nodes = packed 4 ts ++ after-tags in
    let x = bytes_append (packed 8 xs) ws (bytes_packed 8 xs) h in
    let y = bytes_append (packed 4 ts) after-tags (bytes_packed 4 ts) x in
    let z = bytes_append (le_bytes 2 (length ws)) nodes (bytes_number 2 (length ws)) y in
    bytes_append (le_bytes 2 n) (le_bytes 2 (length ws) ++ nodes) (bytes_number 2 n) z

pub encode_bytes : (r : Rule) → Fits r → AllBytes (encode r)
unfolding encode
encode_bytes r fits = image_bytes (size r) (tags r) (args r 0) (names r) (bytes_ascii (names r) fits.ascii)

module _ (s : List ℕ) (bytes : AllBytes s) where
  -- bytes are read as a rule exactly if the rule fits and they are its image
  pub decode_encode : (r : Rule) → (decode s ≡ some r) ↔ (Fits r × (s ≡ encode r))
  decode_encode r = (λ e. (decoded_fits s r bytes e, decoded_image s r bytes e), λ h. ap decode h.1 ∙ image_decodes r h.0)

  -- and as some rule, so that 16 is not the answer, exactly if a rule that fits has them as its image
  pub is_image : (is_some (decode s) ≡ true) ↔ ((r : Rule) × Fits r × (s ≡ encode r))
  is_image = (to, λ h. ap is_some ((decode_encode h.0).1 (h.1, h.2)))
    where
      to : is_some (decode s) ≡ true → (r : Rule) × Fits r × (s ≡ encode r)
      to e =
          let (r, d) = is_some_true (decode s) e in
          let (fits, image) = (decode_encode r).0 d in
          (r, fits, image)
