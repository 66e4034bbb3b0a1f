-- The pieces that nodes have by their kinds and arguments are those of the rule whose nodes they are, and they are short. Assumes nothing.
use mathlib.Core.Path.{◌≡◌, refl}
use mathlib.Core.Bool.{Bool, true, false, cond}
use mathlib.Core.List.{List, [], ◌++◌}
use Prim.Native.Nat.{ℕ, zero, suc, ◌+◌, ◌≤◌}
use native.Mathlib.Omega.{arith}
use lib.Dec.{eqb}
use lib.ListN.{length, drop, length-append, length-take}
use borrow.Author.Tests.{eqb-true, ne_eqb}
use Rattle.slices.specs.Text.{bytes}
use Rattle.rules.specs.Rule.{named, older_than, readable, Join, at_least, all, any, Rule, leaf, node, size, sizes}
use Rattle.image.specs.Kinds.{at_least_kind, all_kind, any_kind}
use Rattle.image.specs.Layout.{names_start, name_start, name_length}
use Rattle.image.specs.Encode.{leaf_kind, join_kind, join_arg}
use Rattle.image.specs.Decode.{Meaning, leaf_meaning, join_meaning, nothing, meaning, Cell}
use Rattle.image.specs.Inner.Leaves.{is_leaf}
use Rattle.image.specs.Inner.EncodedAt.{EncodedAt}
use Rattle.image.proofs.Laws.KindLaws.{other_kind, says, NoLeaf, no_leaf}
use Rattle.print_text.specs.Print.{opening, after_child, is_any, bracketed, bracket, child_text}
use Rattle.print_text.specs.Inner.Pieces.{leaf_text_of, leaf_in, opening_of, after_child_of, bracketed_of, front_of, back_of}
use Rattle.decimal.proofs.Laws.DigitsLaws.{digits_short}
use Rattle.duration_text.proofs.Laws.DurationTextLaws.{duration_short}

-- ---- the root of a rule, and its kind
abbrev pub root_of : Rule → Meaning
root_of (leaf l) = leaf_meaning l
root_of (node j rs r) = join_meaning j

abbrev pub kind_of : Rule → ℕ
kind_of (leaf l) = leaf_kind l
kind_of (node j rs r) = join_kind j

-- a rule's last cell is its root
pub root_what : (r : Rule) (f : ℕ → Cell) (s i : ℕ) → s + size r ≡ suc i → EncodedAt r f s → (f i).what ≡ root_of r
unfolding size EncodedAt
root_what (leaf l) f s i e st =
    let p : i ≡ s = omega arith in
    rw p st.0
root_what (node j rs r) f s i e st =
    let p : i ≡ s + sizes rs + size r = omega arith in
    rw p st.2

-- a node that is a rule's root has the rule's kind
pub kind_of_lem : (s : List ℕ) (n k a : ℕ) (r : Rule) → meaning s n k a ≡ root_of r → k ≡ kind_of r
kind_of_lem s n k a (leaf l) e = rw e at (says s n k a)
kind_of_lem s n k a (node j rs r) e = (rw e at (says s n k a)).0

-- ---- a combinator's pieces, by its kind and argument and its child's kind
pub opening_of_lem : (j : Join) → opening_of (join_kind j) (join_arg j) ≡ opening j
unfolding opening_of
opening_of_lem (at_least k) = refl
opening_of_lem all = refl
opening_of_lem any = refl

after_child_of_lem : (j : Join) (last : Bool) → after_child_of (join_kind j) last ≡ after_child j last
unfolding after_child_of
after_child_of_lem (at_least k) true = refl
after_child_of_lem (at_least k) false = refl
after_child_of_lem all last = refl
after_child_of_lem any last = refl

-- a bracket, as an any under an all has it
any_of : (q : Rule) → eqb (kind_of q) any_kind ≡ is_any q
any_of (leaf (named w)) = refl
any_of (leaf (older_than d)) = refl
any_of (leaf (readable k)) = refl
any_of (node (at_least k) rs r) = refl
any_of (node all rs r) = refl
any_of (node any rs r) = refl

bracketed_of_lem : (j : Join) (q : Rule) → bracketed_of (join_kind j) (kind_of q) ≡ bracketed j q
unfolding bracketed_of bracketed
bracketed_of_lem (at_least k) q = refl
bracketed_of_lem all q = any_of q
bracketed_of_lem any q = refl

-- a child with what surrounds it
pub child_of : (j : Join) (q : Rule) (t : List ℕ) (last : Bool) →
    child_text j q t last ≡ front_of (join_kind j) (kind_of q) ++ (t ++ back_of (join_kind j) (kind_of q) last)
unfolding child_text front_of back_of
child_of j q t last = rw (bracketed_of_lem j q, after_child_of_lem j last)

-- ---- kinds that have no text of a leaf, nothing before their children, nothing after a child
leaf_none : (m : Meaning) → NoLeaf m → leaf_text_of m ≡ []
unfolding leaf_text_of
leaf_none (leaf_meaning l) h = absurd (h l refl)
leaf_none (join_meaning j) h = refl
leaf_none nothing h = refl

pub no_leaf_text : (s : List ℕ) (n k a : ℕ) → is_leaf k ≡ false → leaf_in s n k a ≡ []
no_leaf_text s n k a h = leaf_none (meaning s n k a) (no_leaf s n k a h)

-- ---- how long they are at most: what comes after a child, what surrounds it, what comes before the children, and a leaf
sign_short : (j : Join) (last : Bool) → length (after_child j last) ≤ 4
unfolding after_child
sign_short (at_least k) true = omega arith
sign_short (at_least k) false = omega arith
sign_short all true = omega arith
sign_short all false = omega arith
sign_short any true = omega arith
sign_short any false = omega arith

pub after_child_short : (k : ℕ) (last : Bool) → length (after_child_of k last) ≤ 4
unfolding after_child_of
after_child_short k last = by (eqb k at_least_kind) (eqb k all_kind) (eqb k any_kind)
  where
    by : (a b c : Bool) → length (cond a (after_child (at_least 0) last) (cond b (after_child all last) (cond c (after_child any last) []))) ≤ 4
    by true b c = sign_short (at_least 0) last
    by false true c = sign_short all last
    by false false true = sign_short any last
    by false false false = omega arith

bracket_short : (b : Bool) (sign : List ℕ) → length (bracket b sign) ≤ length sign
unfolding bracket
bracket_short true sign = omega arith
bracket_short false sign = omega arith

pub child_short : (j : Join) (q : Rule) (t : List ℕ) (last : Bool) → length (child_text j q t last) ≤ length t + 6
unfolding child_text
child_short j q t last =
    let b = bracketed j q in
    let h = rw (after_child_of_lem j last) at (after_child_short (join_kind j) last) in
    simp length-append (omega (arith, bracket_short b (bytes "("), bracket_short b (bytes ")")))

pub opening_short : (j : Join) → length (opening j) ≤ 31
unfolding opening
opening_short (at_least k) = simp length-append (omega (arith, digits_short k))
opening_short all = omega arith
opening_short any = omega arith

pub leaf_short : (s : List ℕ) (n k a : ℕ) → length (leaf_in s n k a) ≤ 65_535
unfolding meaning leaf_text_of
leaf_short s n zero a = omega (arith, length-take (name_length a) (drop (names_start n + name_start a) s))
leaf_short s n (suc zero) a = simp length-append (omega (arith, duration_short a))
leaf_short s n (suc (suc zero)) a = simp length-append (omega (arith, digits_short a))
leaf_short s n (suc (suc (suc k))) a =
    rw (no_leaf_text s n (suc (suc (suc k))) a (other_kind (suc (suc (suc k))) (λ q. omega arith) (λ q. omega arith) (λ q. omega arith))) (omega arith)
