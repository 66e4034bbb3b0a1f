-- How long a rule's text is at most, and a rule whose text is as long as any that fits an image. Assumes nothing.
use mathlib.Core.Path.{◌≡◌, refl}
use mathlib.Core.Bool.{Bool, true, false, false≢true}
use mathlib.Core.List.{List, []}
use Prim.Native.Nat.{ℕ, zero, suc, ◌+◌, ◌-◌, ◌*◌, ◌/◌, ◌^◌, ◌≤◌, ◌<◌, max}
use native.Mathlib.Omega.{arith}
use lib.ListN.{length, replicate, length-append, length-replicate}
use Rattle.slices.specs.Text.{all_ascii}
use Rattle.rules.specs.Rule.{Leaf, named, older_than, readable, Join, at_least, all, any, Rule, leaf, node, Rules, nil, more, size, sizes}
use Rattle.image.specs.Encode.{leaf_arg, leaf_name, names, names_all, Small, SmallAll, Fits}
use Rattle.image.proofs.Laws.EncodeLaws.{size_pos}
use Rattle.decimal.specs.Digits.{digits_in, digits_of}
use Rattle.decimal.proofs.Laws.DigitsLaws.{digits_short, digits_below}
use Rattle.duration_text.specs.DurationText.{part_text, duration_text}
use Rattle.duration_text.proofs.Laws.DurationTextLaws.{duration_most}
use Rattle.print_text.specs.Print.{leaf_text, opening, after_child, bracketed, child_text, text_of, children_text}
use Rattle.print_text.proofs.Laws.PrintLaws.{text_named, length_node, length_more, child_plain, child_bracketed}
use Rattle.print_text.proofs.Laws.PiecesLaws.{opening_short}

-- ---- a leaf: 39 bytes, or a name's own
leaf_length : (l : Leaf) → leaf_arg l 0 < 2 ^ 64 → length (text_of (leaf l)) ≤ 39 + (length (leaf_name l) - 39)
unfolding text_of leaf_text
leaf_length (named w) h = omega arith
leaf_length (older_than d) h = simp length-append (omega (arith, duration_most d, digits_below 11 (d / 86_400_000) (omega arith)))
leaf_length (readable k) h = simp length-append (omega (arith, digits_short k))

-- ---- len bytes are no more than n nodes allow, with x bytes of names beyond 39: 43 each, for a leaf and the sign after it, less 47 for a
-- chain's own node and the sign that its last leaf lacks. Of fewer than 23 nodes, at_least in at_least may lose less
abbrev Long : ℕ → ℕ → ℕ → Type 0
Long len n x = len + 47 ≤ max (43 * n) (41 * n + 45) + x

-- the same of the children before the last, each with what comes after it, by the combinator
abbrev LongAll : Join → ℕ → ℕ → ℕ → Type 0
LongAll (at_least k) len n x = len + 45 ≤ max (43 * n) (41 * n + 45) + x
LongAll all len n x = len ≤ 43 * n + x
LongAll any len n x = len ≤ 43 * n + x

-- a rule in brackets has at least two nodes
bracketed_nodes : (j : Join) (r : Rule) → bracketed j r ≡ true → 2 ≤ size r
unfolding bracketed size
bracketed_nodes (at_least k) r e = absurd (false≢true e)
bracketed_nodes all (leaf l) e = absurd (false≢true e)
bracketed_nodes all (node j rs r) e = omega (arith, size_pos r)
bracketed_nodes any r e = absurd (false≢true e)

-- a child of text t, with what surrounds it
module _ (j : Join) (r : Rule) (t : List ℕ) (x : ℕ) (long : Long (length t) (size r) x) (last : Bool) where
  child_length : length (child_text j r t last) + 4 ≤ 43 * size r + x + length (after_child j last)
  child_length = go (bracketed j r) refl
    where
      go : (b : Bool) → bracketed j r ≡ b → length (child_text j r t last) + 4 ≤ 43 * size r + x + length (after_child j last)
      go false e = rw (child_plain j r t last e, length-append) (omega (arith, size_pos r))
      go true e = rw (child_bracketed j r t last e) (simp length-append (omega (arith, bracketed_nodes j r e)))

-- a child of at_least has no brackets
least_child : (k : ℕ) (r : Rule) (t : List ℕ) (last : Bool) → length (child_text (at_least k) r t last) ≡ length t + length (after_child (at_least k) last)
unfolding bracketed
least_child k r t last = rw (child_plain (at_least k) r t last refl) (length-append t (after_child (at_least k) last))

-- ---- no child, one more, and the whole combinator
none_long : (j : Join) → LongAll j (length (children_text nil j)) 0 0
unfolding children_text
none_long (at_least k) = omega arith
none_long all = omega arith
none_long any = omega arith

module _ (r : Rule) (t : List ℕ) (len n x y z : ℕ) (beyond : x + y ≤ z) (long : Long (length t) (size r) y) where
  more_long : (j : Join) → LongAll j len n x → LongAll j (len + length (child_text j r t false)) (n + size r) z
  unfolding after_child
  more_long (at_least k) h = rw (least_child k r t false) (omega arith)
  more_long all h = omega (arith, child_length all r t y long false)
  more_long any h = omega (arith, child_length any r t y long false)

  node_long : (j : Join) → LongAll j len n x → Long (length (opening j) + (len + length (child_text j r t true))) (suc (n + size r)) z
  unfolding opening after_child
  node_long (at_least k) h = rw (least_child k r t true) (omega (arith, opening_short (at_least k)))
  node_long all h = omega (arith, child_length all r t y long true)
  node_long any h = omega (arith, child_length any r t y long true)

-- ---- the text of a rule: at most 43 bytes a node, and 47 less of 23 nodes and more; what its names have beyond 39 bytes adds to that
mutual
  unfolding size names Small

  pub text_length : (r : Rule) → Small r → length (text_of r) + 47 ≤ max (43 * size r) (41 * size r + 45) + (length (names r) - 39)
  text_length (leaf l) h = omega (arith, leaf_length l h)
  text_length (node j rs r) h =
      let a = length (names_all rs) in
      let b = length (names r) in
      rw (length_node j rs r, length-append (names_all rs) (names r))
      (node_long r (text_of r) (length (children_text rs j)) (sizes rs) (a - 39) (b - 39) (a + b - 39) (omega arith) (text_length r h.1.1) j
      (children_length rs h.1.0 j))

  children_length : (rs : Rules) → SmallAll rs → (j : Join) → LongAll j (length (children_text rs j)) (sizes rs) (length (names_all rs) - 39)
  children_length nil h j = none_long j
  children_length (more rs r) h j =
      let a = length (names_all rs) in
      let b = length (names r) in
      rw (length_more j rs r, length-append (names_all rs) (names r))
      (more_long r (text_of r) (length (children_text rs j)) (sizes rs) (a - 39) (b - 39) (a + b - 39) (omega arith) (text_length r h.1) j
      (children_length rs h.0 j))

-- at most 90,026, of a rule that fits an image
pub text_most : (r : Rule) → Fits r → length (text_of r) ≤ 90_026
text_most r fits = omega (arith, text_length r fits.small)

-- ---- a rule that has as many: all of 2,046 durations and a name of 2,048 bytes
durations : ℕ → Rules
durations zero = nil
durations (suc k) = more (durations k) (leaf (older_than (2 ^ 64 - 1)))

letters : ℕ → List ℕ
letters k = replicate k 97

pub longest : Rule
longest = node all (durations 2046) (leaf (named (letters 2048)))

durations_size : (k : ℕ) → sizes (durations k) ≡ k
unfolding durations size
durations_size zero = refl
durations_size (suc k) = omega (arith, durations_size k)

durations_names : (k : ℕ) → names_all (durations k) ≡ []
unfolding durations names
durations_names zero = refl
durations_names (suc k) = rw (durations_names k)

durations_small : (k : ℕ) → SmallAll (durations k)
unfolding durations Small
durations_small zero = tt
durations_small (suc k) = (durations_small k, omega arith)

letters_length : (k : ℕ) → length (letters k) ≡ k
unfolding letters
letters_length k = length-replicate k 97

letters_ascii : (k : ℕ) → all_ascii (letters k) ≡ true
unfolding letters all_ascii
letters_ascii zero = refl
letters_ascii (suc k) = letters_ascii k

pub longest_fits : Fits longest
unfolding longest size names Small
longest_fits = record {
  nodes = omega (arith, durations_size 2046);
  bytes = rw (durations_names 2046) (omega (arith, letters_length 2048));
  ascii = rw (durations_names 2046) (letters_ascii 2048);
  small = (omega arith, (durations_small 2046, omega (arith, letters_length 2048)));
}

-- the largest duration
duration_39 : length (text_of (leaf (older_than (2 ^ 64 - 1)))) ≡ 39
unfolding text_of leaf_text duration_text part_text digits_of digits_in
duration_39 = refl

-- each with the sign after it has 43
durations_none : length (children_text (durations 0) all) ≡ 0
unfolding durations children_text
durations_none = refl

durations_length : (k : ℕ) → length (children_text (durations k) all) ≡ 43 * k
unfolding durations bracketed after_child
durations_length zero = durations_none
durations_length (suc k) =
    let d = leaf (older_than (2 ^ 64 - 1)) in
    rw (length_more all (durations k) d, child_plain all d (text_of d) false refl, length-append) (omega (arith, durations_length k, duration_39))

pub longest_length : length (text_of longest) ≡ 90_026
unfolding longest opening bracketed after_child
longest_length =
    let w = leaf (named (letters 2048)) in
    rw (length_node all (durations 2046) w, child_plain all w (text_of w) true refl, length-append, text_named)
    (omega (arith, durations_length 2046, letters_length 2048))
