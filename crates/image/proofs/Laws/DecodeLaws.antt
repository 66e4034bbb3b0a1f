-- Bytes that are read as a rule are that rule's image, and the rule fits. Assumes nothing.
use mathlib.Core.Path.{◌≡◌, refl, sym}
use mathlib.Core.Bool.{true}
use mathlib.Core.List.{List, [], ◌∷◌, ◌++◌, append-nil}
use mathlib.Core.Option.{some, none-ne-some}
use Prim.Native.Nat.{ℕ, zero, suc, ◌+◌, ◌-◌, ◌*◌, ◌/◌, ◌%◌, ◌^◌, ◌≤◌, ◌<◌}
use native.Mathlib.Nat.{add-zero}
use native.Mathlib.Omega.{arith}
use lib.Dec.{eqb}
use lib.ListN.{length, drop, length-append, length-drop}
use lib.Seq.{length-take-le}
use borrow.Author.Tests.{eqb-true}
use Rattle.rules.specs.Rule.{Leaf, Join, Rule, leaf, node, Rules, nil, more, size, sizes}
use Rattle.little_endian.specs.Bytes.{packed, le_at}
use Rattle.slices.specs.Text.{all_ascii, AllBytes}
use Rattle.image.specs.Encode.{leaf_kind, join_kind, tag, leaf_arg, join_arg, leaf_name, names, names_all, tags, tags_all, args, args_all, encode, Small, SmallAll, Fits}
use Rattle.image.specs.Decode.{node_at, Meaning, leaf_meaning, join_meaning, nothing, meaning, cell_at, place, build, only, next_name, name_end, ends_at, sized, decode_parts, decode}
use Rattle.little_endian.proofs.Laws.BytesLaws.{Has, has_rest, at_number, number_below}
use Rattle.image.proofs.Laws.EncodeLaws.{size_pos, length_tags, length_tags_all, length_args, length_args_all, length_encode, ImagePart, part_append, part_image}
use Rattle.image.proofs.Laws.BuildLaws.{when_some, bind_some, chain, closed, sizes_close, names_close, tags_close, args_close, small_close}
use Rattle.image.proofs.Laws.NameRunLaws.{next_le}
use Rattle.image.proofs.Laws.TestLaws.{sized_true, ends_some, only_some}

module _ (s : List ℕ) (n m : ℕ) (bytes : AllBytes s) (long : length s ≡ 4 + 12 * n + m) where
  -- a node that is read has its tag, argument and name at their places
  node_part : (i t k z a : ℕ) (ws : List ℕ) → i < n → (node_at s n i).kind ≡ k → (node_at s n i).size ≡ z → (node_at s n i).arg ≡ a →
      Has s (4 + 12 * n + t) ws → ImagePart s n i t (tag k z ∷ []) (a ∷ []) ws
  unfolding node_at packed
  node_part i t k z a ws lt p q e h =
      let x : le_at s (4 + 4 * i) 4 ≡ tag k z = omega arith in
      record {
        tags = rw x at (at_number s (4 + 4 * i) 4 bytes (omega arith));
        args = rw e at (at_number s (4 + 4 * n + 8 * i) 8 bytes (omega arith));
        names = h;
      }

  arg_below : (i : ℕ) → i < n → (node_at s n i).arg < 2 ^ 64
  unfolding node_at
  arg_below i lt = number_below s (4 + 4 * n + 8 * i) 8 bytes (omega arith)

  -- a leaf's kind, argument and name, where names run from t up to u
  record LeafAt (k a t u : ℕ) (l : Leaf) : Type 0 where
    kind : k ≡ leaf_kind l
    arg : a ≡ leaf_arg l t
    name : Has s (4 + 12 * n + t) (leaf_name l)
    ends : t + length (leaf_name l) ≡ u
    small : leaf_arg l 0 ≤ a

  -- what a node's meaning says of its kind and argument
  abbrev Says : ℕ → ℕ → ℕ → ℕ → Meaning → Type 0
  Says k a t u (leaf_meaning l) = LeafAt k a t u l
  Says k a t u (join_meaning j) = (k ≡ join_kind j) × (a ≡ join_arg j) × (t ≡ u)
  Says k a t u nothing = Unit {0}

  says : (k a t u : ℕ) → u ≤ m → next_name k a t ≡ some u → Says k a t u (meaning s n k a)
  unfolding meaning Has
  says zero a t u le f =
      let (g, f₁) = when_some (eqb (a / 65536) t) (some (t + a % 65536)) f in
      let at = eqb-true (a / 65536) t g in
      let ends : t + a % 65536 ≡ u = cc in
      let len = length-take-le (a % 65536) (drop (4 + 12 * n + a / 65536) s) (rw length-drop (omega arith)) in
      record { kind = refl; arg = omega arith; name = rw (len, at); ends = omega arith; small = omega arith }
  says (suc zero) a t u le f =
      let ends : t ≡ u = cc in
      record { kind = refl; arg = refl; name = refl; ends = omega arith; small = omega arith }
  says (suc (suc zero)) a t u le f =
      let ends : t ≡ u = cc in
      record { kind = refl; arg = refl; name = refl; ends = omega arith; small = omega arith }
  says (suc (suc (suc zero))) a t u le f = (refl, refl, cc)
  says (suc (suc (suc (suc zero)))) zero t u le f = (refl, refl, cc)
  says (suc (suc (suc (suc zero)))) (suc a) t u le f = tt
  says (suc (suc (suc (suc (suc zero))))) zero t u le f = (refl, refl, cc)
  says (suc (suc (suc (suc (suc zero))))) (suc a) t u le f = tt
  says (suc (suc (suc (suc (suc (suc k)))))) a t u le f = tt

  -- the first i nodes, with names up to t, are these rules'
  record Taken (i t : ℕ) (rs : Rules) : Type 0 where
    in_bounds : ImagePart s n 0 0 (tags_all rs) (args_all rs 0) (names_all rs)
    nodes : sizes rs ≡ i
    ends : length (names_all rs) ≡ t
    small : SmallAll rs

  -- one node more after them
  node_taken : (i t k z a : ℕ) (rs : Rules) (ws : List ℕ) → i < n → (node_at s n i).kind ≡ k → (node_at s n i).size ≡ z →
      (node_at s n i).arg ≡ a → Has s (4 + 12 * n + t) ws → Taken i t rs →
      ImagePart s n 0 0 (tags_all rs ++ (tag k z ∷ [])) (args_all rs 0 ++ (a ∷ [])) (names_all rs ++ ws)
  node_taken i t k z a rs ws lt p q e w h =
      let x = length_tags_all rs in
      let y = length_args_all rs 0 in
      part_append s n 0 i 0 t (tags_all rs) (tag k z ∷ []) (args_all rs 0) (a ∷ []) (names_all rs) ws (omega arith) (omega arith)
      (omega arith) h.in_bounds (node_part i t k z a ws lt p q e w)

  leaf_taken : (i t u : ℕ) (rs : Rules) (l : Leaf) → i < n → (node_at s n i).size ≡ 1 →
      LeafAt (node_at s n i).kind (node_at s n i).arg t u l → Taken i t rs → Taken (suc i) u (more rs (leaf l))
  unfolding size names tags args Small
  leaf_taken i t u rs l lt z d h =
      let p : 0 + length (names_all rs) ≡ t = omega arith in
      let below = arg_below i lt in
      record {
        in_bounds = rw p (node_taken i t (leaf_kind l) 1 (leaf_arg l t) rs (leaf_name l) lt d.kind z d.arg d.name h);
        nodes = omega arith;
        ends = rw length-append (omega arith);
        small = (h.small, omega arith);
      }

  join_taken : (i t : ℕ) (ps rs : Rules) (r : Rule) (j : Join) → i < n → (node_at s n i).kind ≡ join_kind j →
      (node_at s n i).size ≡ suc (sizes rs + size r) → (node_at s n i).arg ≡ join_arg j → Taken i t (more (chain ps rs) r) → Taken (suc i) t (more ps (node j rs r))
  unfolding Has
  join_taken i t ps rs r j lt k z a h =
      let below = arg_below i lt in
      let w = node_taken i t (join_kind j) (suc (sizes rs + size r)) (join_arg j) (more (chain ps rs) r) [] lt k z a refl h in
      record {
        in_bounds = rw (tags_close j ps rs r, args_close j ps rs r 0, names_close j ps rs r) (rw append-nil at w);
        nodes = omega (arith, sizes_close j ps rs r);
        ends = rw (names_close j ps rs r) h.ends;
        small = small_close j ps rs r (omega arith) h.small;
      }

  place_taken : (i t u : ℕ) (rs out : Rules) (w : Meaning) → i < n → Says (node_at s n i).kind (node_at s n i).arg t u w →
      place w (node_at s n i).size rs ≡ some out → Taken i t rs → Taken (suc i) u out
  unfolding place
  place_taken i t u rs out (leaf_meaning l) lt d e h =
      let (z, f) = when_some (eqb (node_at s n i).size 1) (some (more rs (leaf l))) e in
      let p : out ≡ more rs (leaf l) = cc in
      rw p (leaf_taken i t u rs l lt (eqb-true (node_at s n i).size 1 z) d h)
  place_taken i t u rs out (join_meaning j) lt d e h =
      let c = closed j rs ((node_at s n i).size - 1) out e in
      let pos = size_pos c.child in
      let z : (node_at s n i).size ≡ suc (sizes c.children + size c.child) = omega arith in
      rw (c.becomes, ← d.2) (join_taken i t c.before c.children c.child j lt d.0 z d.1 (rw c.was at h))
  place_taken i t u rs out nothing lt d e h = absurd (none-ne-some _ e)

  taken : (i t : ℕ) (rs : Rules) → i ≤ n → t ≤ m → build (cell_at s n) i ≡ some rs → name_end (node_at s n) i ≡ some t → Taken i t rs
  unfolding build cell_at name_end size names tags args Small Has packed
  taken zero t rs le short e f =
      let p : rs ≡ nil = cc in
      let q : t ≡ 0 = cc in
      rw (p, q) (record { in_bounds = record { tags = refl; args = refl; names = refl }; nodes = refl; ends = refl; small = tt })
  taken (suc i) u out le short e f =
      let (rs, e₁, e₂) = bind_some (build (cell_at s n) i) _ e in
      let (t, f₁, f₂) = bind_some (name_end (node_at s n) i) _ f in
      let l = (next_le (node_at s n i).kind (node_at s n i).arg t u f₂).0 in
      place_taken i t u rs out (cell_at s n i).what le (says (node_at s n i).kind (node_at s n i).arg t u short f₂) e₂
      (taken i t rs (omega arith) (omega arith) e₁ f₁)

-- what was read: its sizes, and its nodes and names at their places
record Parts (s : List ℕ) (n m : ℕ) (r : Rule) : Type 0 where
  nodes : n ≡ size r
  ends : m ≡ length (names r)
  long : length s ≡ 4 + 12 * n + m
  in_bounds : ImagePart s n 0 0 (tags r) (args r 0) (names r)
  fits : Fits r

taken_parts : (s : List ℕ) (n m : ℕ) (r : Rule) (bytes : AllBytes s) (long : length s ≡ 4 + 12 * n + m) → n ≤ 2048 → m ≤ 2048 →
    all_ascii (drop (4 + 12 * n) s) ≡ true → Taken s n m bytes long n m (more nil r) → Parts s n m r
unfolding size names tags args Small
taken_parts s n m r bytes long few short ascii h =
    let p : n ≡ size r = omega arith in
    let q : m ≡ length (names r) = sym h.ends in
    let e : drop (4 + 12 * n) s ≡ names r = has_rest s (names r) (4 + 12 * n) (omega arith) (rw add-zero at h.in_bounds.names) in
    record {
      nodes = p;
      ends = q;
      long = long;
      in_bounds = h.in_bounds;
      fits = record { nodes = omega arith; bytes = omega arith; ascii = rw e at ascii; small = h.small.1 };
    }

parts : (s : List ℕ) (n m : ℕ) (r : Rule) → AllBytes s → decode_parts s n m ≡ some r → Parts s n m r
unfolding decode_parts
parts s n m r bytes e =
    let (t₁, e₁) = when_some (sized s n m) _ e in
    let (t₂, e₂) = when_some (all_ascii (drop (4 + 12 * n) s)) _ e₁ in
    let (t₃, e₃) = when_some (ends_at (name_end (node_at s n) n) m) _ e₂ in
    let (rs, e₄, e₅) = bind_some (build (cell_at s n) n) only e₃ in
    let (pos, few, short, long) = sized_true s n m t₁ in
    let h = taken s n m bytes long n m rs (omega arith) (omega arith) e₄ (ends_some (name_end (node_at s n) n) m t₃) in
    taken_parts s n m r bytes long few short t₂ (rw (only_some rs r e₅) at h)

whole : (s : List ℕ) (r : Rule) → AllBytes s → decode s ≡ some r → Parts s (le_at s 0 2) (le_at s 2 2) r
unfolding decode
whole s r bytes e = parts s (le_at s 0 2) (le_at s 2 2) r bytes e

pub decoded_image : (s : List ℕ) (r : Rule) → AllBytes s → decode s ≡ some r → s ≡ encode r
unfolding encode
decoded_image s r bytes e =
    let w = whole s r bytes e in
    let a = rw w.nodes at (at_number s 0 2 bytes (omega arith)) in
    let b = rw w.ends at (at_number s 2 2 bytes (omega arith)) in
    let h = part_image s (size r) (tags r) (args r 0) (names r) (length_tags r) (length_args r 0) a b (rw w.nodes at w.in_bounds) in
    has_rest s (encode r) 0 (omega (arith, length_encode r)) h

pub decoded_fits : (s : List ℕ) (r : Rule) → AllBytes s → decode s ≡ some r → Fits r
decoded_fits s r bytes e = (whole s r bytes e).fits
