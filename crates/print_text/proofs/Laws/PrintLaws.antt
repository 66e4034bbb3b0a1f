-- What a rule's text is made of, piece by piece, and how long it is. Assumes nothing.
use mathlib.Core.Path.{◌≡◌, refl}
use mathlib.Core.Bool.{Bool, true, false}
use mathlib.Core.List.{List, ◌++◌}
use Prim.Native.Nat.{ℕ, ◌+◌}
use lib.ListN.{length, length-append}
use Rattle.slices.specs.Text.{bytes}
use Rattle.decimal.specs.Digits.{digits_of}
use Rattle.duration_text.specs.DurationText.{duration_text}
use Rattle.rules.specs.Rule.{named, older_than, readable, Join, Rule, leaf, node, Rules, more}
use Rattle.print_text.specs.Print.{opening, after_child, bracketed, child_text, text_of, children_text}

-- ---- leaves
pub text_named : (w : List ℕ) → text_of (leaf (named w)) ≡ w
unfolding text_of
text_named w = refl

pub text_older : (d : ℕ) → text_of (leaf (older_than d)) ≡ bytes "older_than(" ++ (duration_text d ++ bytes ")")
unfolding text_of
text_older d = refl

pub text_readable : (k : ℕ) → text_of (leaf (readable k)) ≡ bytes "readable(" ++ (digits_of k ++ bytes ")")
unfolding text_of
text_readable k = refl

-- ---- combinators: what comes before the children, the earlier ones, and the last
module _ (j : Join) (rs : Rules) (r : Rule) where
  pub text_node : text_of (node j rs r) ≡ opening j ++ (children_text rs j ++ child_text j r (text_of r) true)
  unfolding text_of
  text_node = refl

  pub text_more : children_text (more rs r) j ≡ children_text rs j ++ child_text j r (text_of r) false
  unfolding children_text
  text_more = refl

  pub length_node : length (text_of (node j rs r)) ≡ length (opening j) + (length (children_text rs j) + length (child_text j r (text_of r) true))
  length_node = rw (text_node, length-append, length-append)

  pub length_more : length (children_text (more rs r) j) ≡ length (children_text rs j) + length (child_text j r (text_of r) false)
  length_more = rw (text_more, length-append)

-- ---- a child of text t, without brackets and with them
module _ (j : Join) (r : Rule) (t : List ℕ) (last : Bool) where
  pub child_plain : bracketed j r ≡ false → child_text j r t last ≡ t ++ after_child j last
  unfolding child_text
  child_plain e = rw e

  pub child_bracketed : bracketed j r ≡ true → child_text j r t last ≡ bytes "(" ++ (t ++ (bytes ")" ++ after_child j last))
  unfolding child_text
  child_bracketed e = rw e
