-- The tests of a whole image: its lengths, and that this test and those of its name bytes, names and nodes are all. Assumes nothing.
use mathlib.Core.Path.{◌≡◌, refl, ap, ap₂, ◌∙◌}
use mathlib.Core.Bool.{Bool, true, false, ◌&&◌}
use mathlib.Core.List.{List}
use mathlib.Core.Option.{Option, none, some, none-ne-some}
use Prim.Native.Nat.{ℕ, ◌+◌, ◌≤◌, ◌<◌}
use native.Mathlib.Omega.{arith}
use lib.Dec.{leb}
use lib.ListN.{length, drop}
use borrow.Author.Tests.{leb-true, le-leb, eqb-true, eq-eqb}
use Rattle.rules.specs.Rule.{Rule, Rules, nil, more}
use Rattle.slices.specs.Text.{all_ascii}
use Rattle.image.specs.Layout.{node_count_in, name_byte_count_in, names_start}
use Rattle.image.specs.Decode.{bind, node_at, cell_at, build, only, name_end, ends_at, sized, decode_parts, decode}
use Rattle.image.specs.Inner.Valid.{is_some}

both_true : (a b : Bool) → (a && b) ≡ true → (a ≡ true) × (b ≡ true)
both_true true b e = (refl, e)
both_true false b e = let z : ◌≡◌ {A = ℕ} 0 1 = cc in absurd (omega arith)

-- one rule, and names that end where the name bytes do
pub only_some : (rs : Rules) (r : Rule) → only rs ≡ some r → rs ≡ more nil r
only_some nil r e = absurd (none-ne-some _ e)
only_some (more nil q) r e = cc
only_some (more (more rs p) q) r e = absurd (none-ne-some _ e)

pub ends_some : (o : Option ℕ) (m : ℕ) → ends_at o m ≡ true → o ≡ some m
ends_some none m e = let z : ◌≡◌ {A = ℕ} 0 1 = cc in absurd (omega arith)
ends_some (some t) m e = ap some (eqb-true t m e)

-- lengths that an image can have
module _ (s : List ℕ) (n m : ℕ) where
  pub sized_true : sized s n m ≡ true → (0 < n) × (n ≤ 2048) × (m ≤ 2048) × (length s ≡ names_start n + m)
  unfolding sized
  sized_true e =
      let (e₁, d) = both_true (leb 1 n && leb n 2048 && leb m 2048) _ e in
      let (e₂, c) = both_true (leb 1 n && leb n 2048) _ e₁ in
      let (a, b) = both_true (leb 1 n) _ e₂ in
      (leb-true 1 n a, leb-true n 2048 b, leb-true m 2048 c, eqb-true (length s) (names_start n + m) d)

  pub true_sized : 0 < n → n ≤ 2048 → m ≤ 2048 → length s ≡ names_start n + m → sized s n m ≡ true
  unfolding sized
  true_sized a b c d = rw (le-leb 1 n a, le-leb n 2048 b, le-leb m 2048 c, eq-eqb (length s) (names_start n + m) d)

-- the tests in their order: the first four bytes say n and m
by_parts : (s : List ℕ) (n m : ℕ) → n ≡ node_count_in s → m ≡ name_byte_count_in s → is_some (decode_parts s n m) ≡ is_some (decode s)
unfolding decode
by_parts s n m p q = ap₂ (λ (x y : ℕ). is_some (decode_parts s x y)) p q

pub not_sized : (s : List ℕ) (n m : ℕ) → n ≡ node_count_in s → m ≡ name_byte_count_in s →
    (0 < n → n ≤ 2048 → m ≤ 2048 → length s ≡ names_start n + m → ⊥) → false ≡ is_some (decode s)
unfolding decode_parts
not_sized s n m p q never = by (sized s n m) refl ∙ by_parts s n m p q
  where
    by : (b : Bool) → sized s n m ≡ b → false ≡ is_some (decode_parts s n m)
    by true e = let (a, b, c, d) = sized_true s n m e in absurd (never a b c d)
    by false e = rw e

-- they say so, and the lengths are an image's
pub record Headed (s : List ℕ) (n m : ℕ) : Type 0 where
  pub nodes : n ≡ node_count_in s
  pub bytes : m ≡ name_byte_count_in s
  pub lengths : sized s n m ≡ true

module _ {s : List ℕ} {n m : ℕ} (h : Headed s n m) where
  pub not_ascii : all_ascii (drop (names_start n) s) ≡ false → false ≡ is_some (decode s)
  unfolding decode_parts
  not_ascii a = rw (h.lengths, a) at (by_parts s n m h.nodes h.bytes)

  module _ (ascii : all_ascii (drop (names_start n) s) ≡ true) where
    pub not_named : ends_at (name_end (node_at s n) n) m ≡ false → false ≡ is_some (decode s)
    unfolding decode_parts
    not_named e = rw (h.lengths, ascii, e) at (by_parts s n m h.nodes h.bytes)

    pub all_tests : ends_at (name_end (node_at s n) n) m ≡ true → is_some (bind (build (cell_at s n) n) only) ≡ is_some (decode s)
    unfolding decode_parts
    all_tests e = rw (h.lengths, ascii, e) at (by_parts s n m h.nodes h.bytes)
