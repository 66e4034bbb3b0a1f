-- Laws of reading into a buffer: when it is too short, and what it holds where the text reads as a rule. Assumes nothing.
use mathlib.Core.Path.{◌≡◌, ap, ◌∙◌}
use mathlib.Core.List.{List, ◌++◌}
use Prim.Native.Nat.{ℕ, ◌+◌, ◌≤◌, ◌<◌}
use native.Mathlib.Omega.{arith}
use borrow.Author.Tests.{lt-ltb, le-ltb}
use lib.ListN.{length, take, drop}
use Rattle.std.specs.Prelude.{Ok, Err}
use Rattle.refusals.specs.Refusals.{refusal}
use Rattle.refusals.specs.declared.Cause.TheVariants.{ShortBuffer}
use Rattle.slices.specs.Text.{written}
use Rattle.slices.proofs.Laws.WrittenLaws.{written_front}
use Rattle.image.specs.Layout.{names_start}
use Rattle.image.specs.Encode.{image_of, encode}
use Rattle.image.proofs.Laws.EncodeLaws.{length_encode}
use Rattle.grammar.specs.Reading.{Read, read_of}
use Rattle.read.specs.Outcome.{outcome, reading_of, read_into}
use Rattle.nodes.specs.declared.Nodes.{Nodes}
use Rattle.parse_text.specs.Inner.Parsing.{Whole}

module _ (s i : List ℕ) where
  pub says_short : length i < 26_628 → outcome (Err (refusal ShortBuffer 0)) i ≡ read_into s i
  unfolding read_into
  says_short h = rw (lt-ltb _ _ h)

  pub reads : 26_628 ≤ length i → {x : Read} → read_of s ≡ x → read_into s i ≡ reading_of x i
  unfolding read_into
  reads room e = rw (le-ltb _ _ room, e)

module _ {x : Read} {s : List ℕ} {N : ℕ} {a : Nodes N} (w : Whole x s a) where
  -- the arrays' image is the rule's
  image_is : image_of a.n (take a.n a.tags) (take a.n a.args) (take a.m a.names) ≡ encode w.tree
  unfolding encode
  image_is = rw (w.tags, w.args, w.names, w.nodes)

  pub says_rule : (i : List ℕ) {i' : List ℕ} {len : ℕ} → len ≡ names_start a.n + a.m →
      i' ≡ written i 0 (image_of a.n (take a.n a.tags) (take a.n a.args) (take a.m a.names)) → outcome (Ok len) i' ≡ reading_of x i
  says_rule i {i'} {len} q e =
      let r = w.tree in
      let long : len ≡ length (encode r) = omega (arith, length_encode r, w.nodes, w.bytes) in
      let left : i' ≡ encode r ++ drop (length (encode r)) i = e ∙ ap (written i 0) image_is ∙ written_front i (encode r) in
      rw (long, left, w.says)
