-- `image::write_image` meets its contract: the parts are written one after another. Assumes nothing.
use mathlib.Core.Path.{◌≡◌, refl, ◌∙◌}
use mathlib.Core.List.{List, ◌++◌, append_assoc}
use Prim.Native.Nat.{ℕ, ◌+◌, ◌*◌}
use native.Mathlib.Omega.{arith}
use lib.ListN.{length, length-append}
use Rattle.std.proofs.lemmas.List.{map-id}
use Rattle.slices.specs.Text.{written}
use Rattle.little_endian.specs.Bytes.{le_bytes, packed}
use Rattle.image.specs.Encode.{image_of}
use Rattle.little_endian.proofs.Laws.BytesLaws.{length_packed}
use Rattle.slices.proofs.Laws.WrittenLaws.{written_then}
use Rattle.image.proofs.write_image.Goals as goal

-- the five parts, where n tags, n arguments and m name bytes are written
parts : {s₁ s₂ s₃ s₄ s₅ : List ℕ} {n m : ℕ} (s ts xs ws : List ℕ) → length ts ≡ n → length xs ≡ n → length ws ≡ m →
    s₁ ≡ written s 0 (le_bytes 2 n) → s₂ ≡ written s₁ 2 (le_bytes 2 m) → s₃ ≡ written s₂ 4 (packed 4 ts) →
    s₄ ≡ written s₃ (4 + 4 * n) (packed 8 xs) → s₅ ≡ written s₄ (4 + 12 * n) ws → s₅ ≡ written s 0 (image_of n ts xs ws)
unfolding image_of
parts {n} {m} s ts xs ws lt lx lw e₁ f₂ f₃ f₄ f₅ =
    let a = le_bytes 2 n in
    let b = le_bytes 2 m in
    let e₂ = written_then s 0 (omega arith) a b 2 refl e₁ f₂ in
    let e₃ = written_then s 0 (omega arith) (a ++ b) (packed 4 ts) 4 refl e₂ f₃ in
    let e₄ = written_then s 0 (omega arith) (a ++ b ++ packed 4 ts) (packed 8 xs) (4 + 4 * n) (simp length_packed (omega arith)) e₃ f₄ in
    let e₅ = written_then s 0 (omega arith) (a ++ b ++ packed 4 ts ++ packed 8 xs) ws (4 + 12 * n) (simp (length-append, length_packed) (omega arith)) e₄ f₅ in
    e₅ ∙ simp (append_assoc, lw)

pub returns : goal.returns
returns c =
    let ts = rw map-id at (c.write_numbers.ensures (λ x. x) (λ x y e. e)) in
    let xs = rw map-id at (c.write_numbers-2.ensures (λ x. x) (λ x y e. e)) in (
      omega (arith, c.append.ensures.ends),
      parts _ _ _ _ refl c.requires.0 refl c.write.ensures c.write-2.ensures ts xs c.append.ensures.text,
    )
