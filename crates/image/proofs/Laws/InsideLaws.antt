-- The rule that an image decodes to has the image's nodes as its cells, and its names lie inside. Assumes nothing.
use mathlib.Core.Path.{◌≡◌}
use mathlib.Core.Bool.{true}
use mathlib.Core.List.{List}
use mathlib.Core.Logic.{⊎_elim}
use mathlib.Core.Option.{some}
use Prim.Native.Nat.{ℕ, zero, suc, ◌+◌, ◌/◌, ◌%◌, ◌≤◌, ◌<◌}
use native.Mathlib.Nat.{eq-or-lt_of_le}
use native.Mathlib.Omega.{arith}
use lib.ListN.{drop}
use Rattle.rules.specs.Rule.{Rule, size}
use Rattle.slices.specs.Text.{all_ascii}
use Rattle.image.specs.Kinds.{named_kind}
use Rattle.image.specs.Layout.{node_count_in, name_byte_count_in, names_start}
use Rattle.image.specs.Decode.{Node, node_at, cell_at, build, only, name_end, ends_at, decode_parts, decode}
use Rattle.image.specs.Inner.Valid.{is_some}
use Rattle.image.specs.Decode.{sized as lengths}
use Rattle.image.proofs.Laws.BuildLaws.{when_some, bind_some}
use Rattle.image.proofs.Laws.FitLaws.{is_some_true}
use Rattle.image.proofs.Laws.TestLaws.{sized_true, ends_some, only_some}
use Rattle.image.proofs.Laws.EncodedAtLaws.{built}
use Rattle.image.proofs.Laws.NameRunLaws.{next_le}
use Rattle.image.specs.Inner.EncodedAt.{EncodedAt}
use Rattle.image.specs.Inner.Subtree.{NamesInside, ValidSubtree}

-- ---- names that end at t lie before it

name_before : (f : ℕ → Node) (n t : ℕ) → name_end f n ≡ some t → (i : ℕ) → i < n → (f i).kind ≡ named_kind → (f i).arg / 65536 + (f i).arg % 65536 ≤ t
unfolding name_end
name_before f zero t e i lt h = absurd (omega arith)
name_before f (suc n) t e i lt h =
    let (u, e₀, e₁) = bind_some (name_end f n) _ e in
    let (le, here) = next_le (f n).kind (f n).arg u t e₁ in
    let il : i ≤ n = omega arith in
    ⊎_elim (λ p. rw p (here (rw (← p) h))) (λ p. omega (arith, name_before f n u e₀ i p h)) (eq-or-lt_of_le il)

-- ---- the whole image

-- an image of n nodes, all of them the rule's
pub record Whole (s : List ℕ) (n : ℕ) (r : Rule) : Type 0 where
  pub sized : size r ≡ n
  pub stands : EncodedAt r (cell_at s n) 0
  pub inside : ValidSubtree s n 0 n
  pub few : n ≤ 2048

parts_whole : (s : List ℕ) (n m : ℕ) (r : Rule) → decode_parts s n m ≡ some r → Whole s n r
unfolding decode_parts size EncodedAt NamesInside
parts_whole s n m r e =
    let (t₁, e₁) = when_some (lengths s n m) _ e in
    let (t₂, e₂) = when_some (all_ascii (drop (names_start n) s)) _ e₁ in
    let (t₃, e₃) = when_some (ends_at (name_end (node_at s n) n) m) _ e₂ in
    let (rs, e₄, e₅) = bind_some (build (cell_at s n) n) only e₃ in
    let (pos, few, short, long) = sized_true s n m t₁ in
    let b = rw (only_some rs r e₅) at (built (cell_at s n) n rs e₄) in
    let z : size r ≡ n = omega (arith, b.sized) in
    let names : NamesInside s n = λ i lt k. omega (arith, name_before (node_at s n) n m (ends_some (name_end (node_at s n) n) m t₃) i lt k) in
    record {
      sized = z;
      stands = b.standing.1;
      inside = record { long = omega arith; names = names; within = omega arith; here = record { rule = r; sized = z; stands = b.standing.1 } };
      few = few;
    }

-- n is the number of nodes that the image says
pub decode_whole : (s : List ℕ) {n : ℕ} {r : Rule} → n ≡ node_count_in s → decode s ≡ some r → Whole s n r
unfolding decode
decode_whole s {n} {r} p e = parts_whole s n (name_byte_count_in s) r (rw p e)

pub image_inside : (s : List ℕ) {n : ℕ} → is_some (decode s) ≡ true → n ≡ node_count_in s → ValidSubtree s n 0 n
image_inside s is p = let (r, e) = is_some_true (decode s) is in (decode_whole s p e).inside

pub image_few : (s : List ℕ) {n : ℕ} → is_some (decode s) ≡ true → n ≡ node_count_in s → n ≤ 2048
image_few s is p = let (r, e) = is_some_true (decode s) is in (decode_whole s p e).few
