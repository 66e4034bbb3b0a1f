-- How long the parts of a rule's image are, and where they lie in it. Assumes nothing.
use mathlib.Core.Path.{◌≡◌, refl}
use mathlib.Core.List.{List, ◌++◌}
use Prim.Native.Nat.{ℕ, ◌+◌, ◌*◌, ◌<◌}
use native.Mathlib.Omega.{arith}
use lib.ListN.{length, length-append}
use lib.Seq.{take-length}
use Rattle.rules.specs.Rule.{Leaf, named, older_than, readable, Join, at_least, all, any, Rule, leaf, node, Rules, nil, more, size, sizes}
use Rattle.little_endian.specs.Bytes.{le_bytes, packed}
use Rattle.image.specs.Encode.{leaf_kind, join_kind, names, names_all, tags, tags_all, args, args_all, image_of, encode}
use Rattle.little_endian.proofs.Laws.BytesLaws.{length_packed, packed_append, Has, has_append, has_front, has_back}

-- a kind is a byte
pub leaf_kind_lem : (l : Leaf) → leaf_kind l < 256
leaf_kind_lem (named w) = omega arith
leaf_kind_lem (older_than d) = omega arith
leaf_kind_lem (readable d) = omega arith

pub join_kind_lem : (j : Join) → join_kind j < 256
join_kind_lem (at_least k) = omega arith
join_kind_lem all = omega arith
join_kind_lem any = omega arith

pub size_pos : (r : Rule) → 0 < size r
unfolding size
size_pos (leaf l) = omega arith
size_pos (node j rs r) = omega arith

mutual
  unfolding size tags

  pub length_tags : (r : Rule) → length (tags r) ≡ size r
  length_tags (leaf l) = refl
  length_tags (node j rs r) = simp (length-append, length_tags r, length_tags_all rs) (omega arith)

  pub length_tags_all : (rs : Rules) → length (tags_all rs) ≡ sizes rs
  length_tags_all nil = refl
  length_tags_all (more rs r) = simp (length-append, length_tags r, length_tags_all rs)

mutual
  unfolding size args

  pub length_args : (r : Rule) (t : ℕ) → length (args r t) ≡ size r
  length_args (leaf l) t = refl
  length_args (node j rs r) t = simp (length-append, length_args r (t + length (names_all rs)), length_args_all rs t) (omega arith)

  pub length_args_all : (rs : Rules) (t : ℕ) → length (args_all rs t) ≡ sizes rs
  length_args_all nil t = refl
  length_args_all (more rs r) t = simp (length-append, length_args r (t + length (names_all rs)), length_args_all rs t)

pub length_encode : (r : Rule) → length (encode r) ≡ 4 + 12 * size r + length (names r)
unfolding encode
length_encode r = simp (length-append, length_packed, length_tags, length_args) (omega arith)

-- from node i and name byte t on, an image of n nodes has these tags, arguments and name bytes
pub record ImagePart (s : List ℕ) (n i t : ℕ) (ts xs ws : List ℕ) : Type 0 where
  pub tags : Has s (4 + 4 * i) (packed 4 ts)
  pub args : Has s (4 + 4 * n + 8 * i) (packed 8 xs)
  pub names : Has s (4 + 12 * n + t) ws

-- some nodes and their names, up to node j and name byte u, and others after them
module _ (s : List ℕ) (n i j t u : ℕ) (ts us xs ys ws vs : List ℕ) (few : i + length ts ≡ j) (same : i + length xs ≡ j) (short : t + length ws ≡ u) where
  to_tags : 4 + 4 * i + length (packed 4 ts) ≡ 4 + 4 * j
  to_tags = rw length_packed (omega arith)

  to_args : 4 + 4 * n + 8 * i + length (packed 8 xs) ≡ 4 + 4 * n + 8 * j
  to_args = rw length_packed (omega arith)

  pub part_append : ImagePart s n i t ts xs ws → ImagePart s n j u us ys vs → ImagePart s n i t (ts ++ us) (xs ++ ys) (ws ++ vs)
  part_append a b =
      record {
        tags = rw packed_append (has_append s (packed 4 ts) (packed 4 us) _ _ to_tags a.tags b.tags);
        args = rw packed_append (has_append s (packed 8 xs) (packed 8 ys) _ _ to_args a.args b.args);
        names = has_append s ws vs _ _ (omega arith) a.names b.names;
      }

  pub part_cut : ImagePart s n i t (ts ++ us) (xs ++ ys) (ws ++ vs) → ImagePart s n i t ts xs ws × ImagePart s n j u us ys vs
  part_cut a =
      let x = rw packed_append at a.tags in
      let y = rw packed_append at a.args in (
        record {
          tags = has_front s (packed 4 ts) (packed 4 us) _ x;
          args = has_front s (packed 8 xs) (packed 8 ys) _ y;
          names = has_front s ws vs _ a.names;
        },
        record {
          tags = has_back s (packed 4 ts) (packed 4 us) _ _ to_tags x;
          args = has_back s (packed 8 xs) (packed 8 ys) _ _ to_args y;
          names = has_back s ws vs _ _ (omega arith) a.names;
        },
      )

-- a whole image
module _ (s : List ℕ) (n : ℕ) (ts xs ws : List ℕ) (few : length ts ≡ n) (same : length xs ≡ n) where
  to_names : 4 + 4 * n + 8 * 0 + length (packed 8 xs) ≡ 4 + 12 * n + 0
  to_names = rw length_packed (omega arith)

  from_tags : 4 + length (packed 4 ts) ≡ 4 + 4 * n + 8 * 0
  from_tags = rw length_packed (omega arith)

  image_part : Has s 0 (image_of n ts xs ws) → Has s 0 (le_bytes 2 n) × Has s 2 (le_bytes 2 (length ws)) × ImagePart s n 0 0 ts xs ws
  unfolding image_of
  image_part h =
      let h₁ = has_back s (le_bytes 2 n) _ 0 2 refl h in
      let h₂ = has_back s (le_bytes 2 (length ws)) _ 2 4 refl h₁ in
      let h₃ = has_back s (packed 4 ts) _ _ _ from_tags h₂ in (
        has_front s (le_bytes 2 n) _ 0 h,
        has_front s (le_bytes 2 (length ws)) _ 2 h₁,
        record {
          tags = has_front s (packed 4 ts) _ _ h₂;
          args = has_front s (packed 8 xs) ws _ h₃;
          names = has_back s (packed 8 xs) ws _ _ to_names h₃;
        },
      )

  pub part_image : Has s 0 (le_bytes 2 n) → Has s 2 (le_bytes 2 (length ws)) → ImagePart s n 0 0 ts xs ws → Has s 0 (image_of n ts xs ws)
  unfolding image_of
  part_image a b l =
      has_append s (le_bytes 2 n) _ 0 2 refl a
      (has_append s (le_bytes 2 (length ws)) _ 2 4 refl b
      (has_append s (packed 4 ts) _ _ _ from_tags l.tags
      (has_append s (packed 8 xs) ws _ _ to_names l.args l.names)))

-- a rule's image has the two counts, and from its first node and name byte on the rule's own
pub encode_part : (r : Rule) →
    Has (encode r) 0 (le_bytes 2 (size r)) × Has (encode r) 2 (le_bytes 2 (length (names r))) × ImagePart (encode r) (size r) 0 0 (tags r) (args r 0) (names r)
unfolding encode Has
encode_part r = image_part (encode r) (size r) (tags r) (args r 0) (names r) (length_tags r) (length_args r 0) (take-length (encode r))
