-- The image of a rule that fits is read back as the rule. Assumes nothing.
use mathlib.Core.Path.{◌≡◌, refl, ap, ap₂, ◌∙◌}
use mathlib.Core.Bool.{true}
use mathlib.Core.List.{List, [], ◌∷◌, ◌++◌, append-nil}
use mathlib.Core.Option.{some}
use Prim.Native.Nat.{ℕ, suc, ◌+◌, ◌-◌, ◌*◌, ◌/◌, ◌%◌, ◌^◌, ◌≤◌, ◌<◌}
use native.Mathlib.Nat.{add-zero, zero-add}
use native.Mathlib.Numerals.{add-one}
use native.Mathlib.Omega.{arith}
use lib.ListN.{length, drop, length-append}
use borrow.Author.Tests.{eq-eqb}
use Rattle.rules.specs.Rule.{Leaf, named, older_than, readable, Join, at_least, all, any, Rule, leaf, node, Rules, nil, more, size, sizes}
use Rattle.little_endian.specs.Bytes.{packed}
use Rattle.image.specs.Encode.{leaf_kind, join_kind, tag, leaf_arg, join_arg, leaf_name, names, names_all, tags, tags_all, args, args_all, encode, Small, SmallAll, Fits}
use Rattle.image.specs.Decode.{Node, node_at, leaf_meaning, join_meaning, meaning, cell_at, place, build, next_name, name_end, sized, decode_parts, decode}
use Rattle.little_endian.proofs.Laws.BytesLaws.{Has, has_rest, number_at}
use Rattle.image.proofs.Laws.EncodeLaws.{leaf_kind_lem, join_kind_lem, size_pos, length_tags_all, length_args_all, length_encode, ImagePart, part_cut, encode_part}
use Rattle.image.proofs.Laws.BuildLaws.{chain, close_chain}
use Rattle.image.proofs.Laws.TestLaws.{true_sized}

-- what a kind and an argument mean
means_leaf : (s : List ℕ) (n t : ℕ) (l : Leaf) → length (leaf_name l) < 65536 → Has s (4 + 12 * n + t) (leaf_name l) →
    meaning s n (leaf_kind l) (leaf_arg l t) ≡ leaf_meaning l
unfolding meaning Has
means_leaf s n t (named w) h e =
    let p : (t * 65536 + length w) % 65536 ≡ length w = omega arith in
    let q : (t * 65536 + length w) / 65536 ≡ t = omega arith in
    rw (p, q, e)
means_leaf s n t (older_than d) h e = refl
means_leaf s n t (readable k) h e = refl

means_join : (s : List ℕ) (n : ℕ) (j : Join) → meaning s n (join_kind j) (join_arg j) ≡ join_meaning j
unfolding meaning
means_join s n (at_least k) = refl
means_join s n all = refl
means_join s n any = refl

-- where the next name starts
next_leaf : (t : ℕ) (l : Leaf) → length (leaf_name l) < 65536 → next_name (leaf_kind l) (leaf_arg l t) t ≡ some (t + length (leaf_name l))
next_leaf t (named w) h =
    let p : (t * 65536 + length w) % 65536 ≡ length w = omega arith in
    let q : (t * 65536 + length w) / 65536 ≡ t = omega arith in
    rw (p, eq-eqb ((t * 65536 + length w) / 65536) t q)
next_leaf t (older_than d) h = rw add-zero
next_leaf t (readable k) h = rw add-zero

next_join : (t : ℕ) (j : Join) → next_name (join_kind j) (join_arg j) t ≡ some t
next_join t (at_least k) = refl
next_join t all = refl
next_join t any = refl

-- numbers that their bytes hold
leaf_below : (l : Leaf) (t : ℕ) → leaf_arg l 0 < 2 ^ 64 → t + length (leaf_name l) ≤ 2048 → leaf_arg l t < 2 ^ 64
leaf_below (named w) t h k = omega arith
leaf_below (older_than d) t h k = h
leaf_below (readable d) t h k = h

module _ (s : List ℕ) (n : ℕ) where
  -- a node with its tag, argument and name at their places is read
  node_found : (i t k z a : ℕ) (ws : List ℕ) → k < 256 → z ≤ 2048 → a < 2 ^ 64 → ImagePart s n i t (tag k z ∷ []) (a ∷ []) ws →
      node_at s n i ≡ record { kind = k; size = z; arg = a }
  unfolding node_at packed
  node_found i t k z a ws k_lt z-le a_lt l =
      let x = number_at s (4 + 4 * i) 4 (tag k z) (omega arith) l.tags in
      let y = number_at s (4 + 4 * n + 8 * i) 8 a a_lt l.args in
      let p : tag k z % 256 ≡ k = omega arith in
      let q : tag k z / 256 ≡ z = omega arith in
      λ c. record { kind = (ap (λ (m : ℕ). m % 256) x ∙ p) c; size = (ap (λ (m : ℕ). m / 256) x ∙ q) c; arg = y c }

  -- the first i nodes make rules, with names up to t
  record BuiltTo (i t : ℕ) (rs : Rules) : Type 0 where
    built : build (cell_at s n) i ≡ some rs
    named : name_end (node_at s n) i ≡ some t

  -- one node more
  step : (i t u : ℕ) (rs qs : Rules) (d : Node) → node_at s n i ≡ d →
      place (meaning s n d.kind d.arg) d.size rs ≡ some qs → next_name d.kind d.arg t ≡ some u → BuiltTo i t rs → BuiltTo (suc i) u qs
  unfolding build cell_at name_end
  step i t u rs qs d e p q m = record { built = rw (m.built, e) p; named = rw (m.named, e) q }

  -- where rules were made of the first i nodes, and the next ones are a rule's, it is made too; and so for some rules
  abbrev RuleMade : Rule → Type 0
  RuleMade r =
      (i t : ℕ) (ps : Rules) → Small r → size r ≤ 2048 → t + length (names r) ≤ 2048 →
      ImagePart s n i t (tags r) (args r t) (names r) → BuiltTo i t ps → BuiltTo (i + size r) (t + length (names r)) (more ps r)

  abbrev RulesMade : Rules → Type 0
  RulesMade rs =
      (i t : ℕ) (ps : Rules) → SmallAll rs → sizes rs ≤ 2048 → t + length (names_all rs) ≤ 2048 →
      ImagePart s n i t (tags_all rs) (args_all rs t) (names_all rs) → BuiltTo i t ps → BuiltTo (i + sizes rs) (t + length (names_all rs)) (chain ps rs)

  leaf_made : (l : Leaf) → RuleMade (leaf l)
  unfolding size names tags args Small place
  leaf_made l i t ps sm few short in_bounds m =
      let k = leaf_kind_lem l in
      let e = node_found i t (leaf_kind l) 1 (leaf_arg l t) (leaf_name l) k (omega arith) (leaf_below l t sm short) in_bounds in
      rw add-one
      (step i t (t + length (leaf_name l)) ps (more ps (leaf l)) _ e (rw (means_leaf s n t l (omega arith) in_bounds.names)) (next_leaf t l (omega arith)) m)

  more_made : (rs : Rules) (r : Rule) → RulesMade rs → RuleMade r → RulesMade (more rs r)
  unfolding size names tags args Small chain
  more_made rs r hs h i t ps sm few short in_bounds m =
      let u = t + length (names_all rs) in
      let a = length-append (names_all rs) (names r) in
      let (x, y) = part_cut s n i (i + sizes rs) t u (tags_all rs) (tags r) (args_all rs t) (args r u) (names_all rs) (names r)
      (ap (i +◌) (length_tags_all rs)) (ap (i +◌) (length_args_all rs t)) refl in_bounds in
      let w = h (i + sizes rs) u (chain ps rs) sm.1 (omega arith) (omega arith) y (hs i t ps sm.0 (omega arith) (omega arith) x m) in
      let p : i + (sizes rs + size r) ≡ i + sizes rs + size r = omega arith in
      let q : t + length (names_all rs ++ names r) ≡ u + length (names r) = omega arith in
      rw (p, q) w

  node_made : (j : Join) (rs : Rules) (r : Rule) → RulesMade (more rs r) → RuleMade (node j rs r)
  unfolding size names tags args Small chain place
  node_made j rs r h i t ps sm few short in_bounds m =
      let k = sizes rs + size r in
      let cs = more rs r in
      let u = t + length (names_all cs) in
      let (x, y) = part_cut s n i (i + k) t u (tags_all cs) (tag (join_kind j) (suc k) ∷ []) (args_all cs t) (join_arg j ∷ [])
      (names_all cs) [] (ap (i +◌) (length_tags_all cs)) (ap (i +◌) (length_args_all cs t)) refl (rw append-nil in_bounds) in
      let e = node_found (i + k) u (join_kind j) (suc k) (join_arg j) [] (join_kind_lem j) few sm.0 y in
      let p : i + suc k ≡ suc (i + k) = omega arith in
      let q : suc k - 1 ≡ k = omega arith in
      rw p (step (i + k) u u (more (chain ps rs) r) (more ps (node j rs r)) _ e
      (rw (means_join s n j, q) (close_chain j ps rs r)) (next_join u j) (h i t ps sm.1 (omega arith) short x m))

  mutual
    unfolding size names chain

    rule_made : (r : Rule) → RuleMade r
    rule_made (leaf l) = leaf_made l
    rule_made (node j rs r) = node_made j rs r (more_made rs r (rules_made rs) (rule_made r))

    rules_made : (rs : Rules) → RulesMade rs
    rules_made nil = λ i t ps sm few short in_bounds m. rw (add-zero i, add-zero t) m
    rules_made (more rs r) = more_made rs r (rules_made rs) (rule_made r)

module _ (r : Rule) (fits : Fits r) where
  made : BuiltTo (encode r) (size r) (size r) (length (names r)) (more nil r)
  unfolding build name_end
  made =
      let e = rule_made (encode r) (size r) r 0 0 nil fits.small fits.nodes (omega arith) (encode_part r).2 (record { built = refl; named = refl }) in
      rw (zero-add (size r), zero-add (length (names r))) at e

  names_at : drop (4 + 12 * size r) (encode r) ≡ names r
  names_at = has_rest (encode r) (names r) (4 + 12 * size r) (length_encode r) (rw add-zero at (encode_part r).2.names)

  is_sized : sized (encode r) (size r) (length (names r)) ≡ true
  is_sized = true_sized (encode r) (size r) (length (names r)) (size_pos r) fits.nodes fits.bytes (length_encode r)

  parts : decode_parts (encode r) (size r) (length (names r)) ≡ some r
  unfolding decode_parts
  parts = rw (is_sized, names_at, fits.ascii, made.named, eq-eqb (length (names r)) (length (names r)) refl, made.built)

pub image_decodes : (r : Rule) → Fits r → decode (encode r) ≡ some r
unfolding decode
image_decodes r fits =
    let (a, b, in_bounds) = encode_part r in
    let p = number_at (encode r) 0 2 (size r) (omega arith) a in
    let q = number_at (encode r) 2 2 (length (names r)) (omega arith) b in
    ap₂ (decode_parts (encode r)) p q ∙ parts r fits
