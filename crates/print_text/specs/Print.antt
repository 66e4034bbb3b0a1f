-- What a rule prints as, as document 01's 'Printing' lays it down. Assumes nothing.
use Rattle.std.specs.Prelude.{ℕ, Bool, true, false, cond, List, [], ◌++◌}
use Rattle.slices.specs.Text.{bytes}
use Rattle.decimal.specs.Digits.{digits_of}
use Rattle.duration_text.specs.DurationText.{duration_text}
use Rattle.rules.specs.Rule.{Leaf, named, older_than, readable, Join, at_least, all, any, Rule, leaf, node, Rules, nil, more}

-- "Names bare; `readable(k)`"; older_than with its duration as durations are printed
unfoldable pub leaf_text : Leaf → List ℕ
leaf_text (named w) = w
leaf_text (older_than d) = bytes "older_than(" ++ (duration_text d ++ bytes ")")
leaf_text (readable k) = bytes "readable(" ++ (digits_of k ++ bytes ")")

-- "`at_least(k, x, y)`": what comes before a combinator's children
unfoldable pub opening : Join → List ℕ
opening (at_least k) = bytes "at_least(" ++ (digits_of k ++ bytes ", ")
opening all = []
opening any = []

-- "all joined by ` && `, any by ` || `": what comes between two of them, and after the last
unfoldable pub after_child : Join → Bool → List ℕ
after_child (at_least k) false = bytes ", "
after_child all false = bytes " && "
after_child any false = bytes " || "
after_child (at_least k) true = bytes ")"
after_child all true = []
after_child any true = []

-- "brackets only round an any directly under an all"
abbrev pub is_any : Rule → Bool
is_any (leaf l) = false
is_any (node (at_least k) rs r) = false
is_any (node all rs r) = false
is_any (node any rs r) = true

unfoldable pub bracketed : Join → Rule → Bool
bracketed (at_least k) r = false
bracketed all r = is_any r
bracketed any r = false

-- a bracket, or none
unfoldable pub bracket : Bool → List ℕ → List ℕ
bracket b sign = cond b sign []

-- a child of text t, and what comes after it, by whether it is the last child
unfoldable pub child_text : Join → Rule → List ℕ → Bool → List ℕ
unfolding after_child bracketed bracket
child_text j r t last = bracket (bracketed j r) (bytes "(") ++ (t ++ (bracket (bracketed j r) (bytes ")") ++ after_child j last))

unfoldable mutual
  unfolding leaf_text opening child_text

  pub text_of : Rule → List ℕ
  text_of (leaf l) = leaf_text l
  text_of (node j rs r) = opening j ++ (children_text rs j ++ child_text j r (text_of r) true)

  -- the children before the last
  pub children_text : Rules → Join → List ℕ
  children_text nil j = []
  children_text (more rs r) j = children_text rs j ++ child_text j r (text_of r) false
