-- The two numbers at the front of the buffer are those of the line. Assumes nothing.
use mathlib.Core.Path.{◌≡◌, refl}
use mathlib.Core.List.{List}
use Prim.Native.Nat.{ℕ}
use native.Mathlib.Omega.{arith}
use lib.ListN.{length}
use Rattle.slices.specs.Text.{bytes}
use Rattle.lines.specs.Lines.{numbers_line}
use Rattle.rules.specs.Rule.{size}
use Rattle.little_endian.specs.Bytes.{le_bytes}
use Rattle.little_endian.proofs.Laws.BytesLaws.{Has, has_front, has_back, number_at}
use Rattle.image.specs.Layout.{node_count_in, name_byte_count_in}
use Rattle.image.specs.Encode.{names, image_of, encode}
use Rattle.grammar.specs.Reading.{read_of}
use Rattle.grammar.proofs.Laws.FitsLaws.{read_fits}
use Rattle.read_line.specs.Reading.{read_line}
use Rattle.read.proofs.Laws.FoundLaws.{Found}

module _ {text image : List ℕ} {len : ℕ} (g : Found text len image) where
  -- its two numbers are the line's
  pub read_numbers : {n m : ℕ} → n ≡ node_count_in image → m ≡ name_byte_count_in image → read_line (read_of text) ≡ numbers_line (bytes "ok ") n m
  unfolding Has encode image_of
  read_numbers p q =
      let r = g.read in
      let f = read_fits text r g.says in
      let h : Has image 0 (encode r) = rw g.long at g.taken in
      let nodes = number_at image 0 2 (size r) (omega arith) (has_front image (le_bytes 2 (size r)) _ 0 h) in
      let bs = number_at image 2 2 (length (names r)) (omega arith)
      (has_front image (le_bytes 2 (length (names r))) _ 2 (has_back image (le_bytes 2 (size r)) _ 0 2 refl h)) in
      rw (g.says, p, q, nodes, bs)
