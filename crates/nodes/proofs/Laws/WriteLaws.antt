-- Laws of a leaf's node, appended with its name. Assumes nothing.
use mathlib.Core.Path.{◌≡◌, sym, ap, ◌∙◌}
use mathlib.Core.List.{List, [], ◌++◌, append-nil}
use Prim.Native.Nat.{ℕ, ◌+◌, ◌-◌, ◌<◌}
use native.Mathlib.Omega.{arith}
use lib.ListN.{length, take}
use Rattle.slices.specs.Text.{part}
use Rattle.slices.proofs.Laws.TextLaws.{part_length}
use Rattle.rules.specs.Rule.{Leaf, named, leaf}
use Rattle.image.specs.Kinds.{named_kind}
use Rattle.image.specs.Encode.{leaf_kind, tag, leaf_arg, leaf_name, tags, args, names, name_arg}
use Rattle.grammar.specs.Inner.Starts.{leaf_of}
use Rattle.grammar.specs.declared.Test.{Test}
use Rattle.grammar.specs.declared.Test.TheVariants.{OlderThan, Readable}
use Rattle.nodes.specs.Inner.Parses.{NameRoom, Holds, Appended, Written, pushed}
use Rattle.nodes.specs.declared.Nodes.{Nodes}
use Rattle.nodes.proofs.Laws.ArrayLaws.{holds_none, holds_push}

-- its name was appended already, if it has one
leaf_appended : (l : Leaf) {N : ℕ} {b mid a : Nodes N} → Holds b mid [] [] (leaf_name l) → (mid.n < length mid.tags) × (mid.n < length mid.args) →
    a ≡ pushed (tag (leaf_kind l) 1) (leaf_arg l b.m) mid → Appended (leaf l) b a
unfolding tags args names
leaf_appended l {N} {b} h lt e = rw e (holds_push h (tag (leaf_kind l) 1) (leaf_arg l b.m) lt.0 lt.1)

leaf_written : (l : Leaf) {N : ℕ} {b a : Nodes N} → Appended (leaf l) b a → Written l b a
unfolding tags names
leaf_written l h = record { reached = (h.more_tags, h.more_names); holds = h }

-- a name was copied after the others
pub name_written : {s : List ℕ} {start end N : ℕ} {b a : Nodes N} {w : List ℕ} → NameRoom s start end b
    → (b.n < length b.tags) × (b.n < length b.args)
    → a ≡ pushed (tag named_kind 1) (name_arg b.m (end - start)) (record b { names = w; m = b.m + (end - start) })
    → take (b.m + (end - start)) w ≡ take b.m b.names ++ part s start end
    → Written (named (part s start end)) b a
name_written {s} {start} {end} {N} {b} {a} {w} room lt e copied =
    let long : end - start ≡ length (part s start end) = sym (part_length s start end room.ordered room.inside) in
    let mid : Nodes N = record b { names = w; m = b.m + (end - start) } in
    let held : Holds b mid [] [] (part s start end) = record {
      tags = sym (append-nil (take b.n b.tags));
      args = sym (append-nil (take b.n b.args));
      names = copied;
      more_tags = omega arith;
      more_args = omega arith;
      more_names = ap (λ (i : ℕ). b.m + i) long;
    } in
    leaf_written (named (part s start end)) (leaf_appended (named (part s start end)) held lt (e ∙ ap (λ (i : ℕ). pushed (tag named_kind 1) (name_arg b.m i) mid) long))

-- another leaf
pub test_written : (u : Test) {N k x : ℕ} {b a : Nodes N} → (b.n < length b.tags) × (b.n < length b.args)
    → k ≡ leaf_kind (leaf_of u) → x ≡ leaf_arg (leaf_of u) 0 → a ≡ pushed (tag k 1) x b → Written (leaf_of u) b a
test_written u {N} {k} {x} {b} {a} lt p q e = by u (e ∙ ap (λ (i : ℕ). pushed (tag i 1) x b) p ∙ ap (λ (i : ℕ). pushed (tag (leaf_kind (leaf_of u)) 1) i b) q)
  where
    by : (u : Test) → a ≡ pushed (tag (leaf_kind (leaf_of u)) 1) (leaf_arg (leaf_of u) 0) b → Written (leaf_of u) b a
    by (OlderThan i) e = leaf_written (leaf_of (OlderThan i)) (leaf_appended (leaf_of (OlderThan i)) holds_none lt e)
    by (Readable i) e = leaf_written (leaf_of (Readable i)) (leaf_appended (leaf_of (Readable i)) holds_none lt e)
