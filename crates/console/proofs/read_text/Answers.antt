-- A read goes on after what was read before it.
use Rattle.std.proofs.Common.{◌≡◌, ℕ, ◌+◌, ◌≤◌, List, ◌++◌, length, take, drop, sym, ap, ◌∙◌, subst, arith, le_refl, drop_at, length-take-le}
use Rattle.std.proofs.lemmas.Slice.{take-put_mid_below}
use Rattle.std.specs.Io.KnownBytes.{Consumes}
use Rattle.std.proofs.KnownBytes.{Consumes-trans}
use borrow.Rule.Slice.PartMut.{put_mid, post_of}
use lib.Seq.{take-add, take-append-le}
use Rattle.console.proofs.read_text.Goals as goal

part_after : (at room n : ℕ) (xs ys : List ℕ) → at ≤ length xs → n ≤ length ys → take at xs ++ take n ys ≡ take (at + n) (put_mid at room xs ys)
part_after at room n xs ys within fits =
    let after = post_of at room xs in
    let front = take-put_mid_below at room xs ys at (le_refl at) within in
    let part = ap (take n) (drop_at (take at xs) (ys ++ after) at (length-take-le at xs within)) ∙ take-append-le n ys after fits in
    sym (take-add at n (put_mid at room xs ys) ∙ ap (λ l. l ++ take n (drop at (put_mid at room xs ys))) front ∙ ap (λ l. take at xs ++ l) part)

pub loop-done-preserved : goal.loop-done-preserved
loop-done-preserved g c = record {
  within = omega (arith, c.in_ok-more.ensures.bound);
  read = subst (Consumes _ _) (part_after _ _ _ _ _ c.loop-done.invariant.within c.in_ok-more.ensures.bound.0) (Consumes-trans _ _ _ _ _ c.loop-done.invariant.read c.in_ok-more.ensures.bytes.0);
}
