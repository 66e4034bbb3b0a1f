-- The pieces of a rule's text by the kinds and arguments of nodes: what the inner functions promise each other. Assumes nothing.
use Rattle.std.specs.Prelude.{ℕ, Bool, cond, ◌&&◌, List, [], ◌++◌, eqb}
use Rattle.slices.specs.Text.{bytes}
use Rattle.rules.specs.Rule.{at_least, all, any}
use Rattle.image.specs.Kinds.{at_least_kind, all_kind, any_kind}
use Rattle.image.specs.Decode.{Meaning, leaf_meaning, join_meaning, nothing, meaning}
use Rattle.print_text.specs.Print.{leaf_text, opening, after_child, bracket}

-- a leaf's text
unfoldable pub leaf_text_of : Meaning → List ℕ
unfolding leaf_text
leaf_text_of (leaf_meaning l) = leaf_text l
leaf_text_of (join_meaning j) = []
leaf_text_of nothing = []

-- of a node by its kind and argument, in an image s of n nodes
abbrev pub leaf_in : List ℕ → ℕ → ℕ → ℕ → List ℕ
leaf_in s n kind arg = leaf_text_of (meaning s n kind arg)

-- what comes before the children of a combinator of this kind and argument
unfoldable pub opening_of : ℕ → ℕ → List ℕ
unfolding opening
opening_of kind arg = cond (eqb kind at_least_kind) (opening (at_least arg)) []

-- what comes after a child of a combinator of this kind
unfoldable pub after_child_of : ℕ → Bool → List ℕ
unfolding after_child
after_child_of kind last =
    cond (eqb kind at_least_kind) (after_child (at_least 0) last)
    (cond (eqb kind all_kind) (after_child all last)
    (cond (eqb kind any_kind) (after_child any last) []))

-- an any under an all, by their kinds
unfoldable pub bracketed_of : ℕ → ℕ → Bool
bracketed_of kind child = eqb kind all_kind && eqb child any_kind

-- what comes before a child's own text, and what comes after it
unfoldable pub front_of : ℕ → ℕ → List ℕ
unfolding bracket bracketed_of
front_of kind child = bracket (bracketed_of kind child) (bytes "(")

unfoldable pub back_of : ℕ → ℕ → Bool → List ℕ
unfolding bracket bracketed_of after_child_of
back_of kind child last = bracket (bracketed_of kind child) (bytes ")") ++ after_child_of kind last
