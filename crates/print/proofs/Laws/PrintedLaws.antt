-- What printing answers, by what each test found, and what the buffer holds then. Assumes nothing.
use mathlib.Core.Path.{◌≡◌, ◌∙◌}
use mathlib.Core.Bool.{true, false}
use mathlib.Core.List.{List, ◌++◌}
use Rattle.std.specs.Prelude.{None, Option, Result, Ok, Err}
use Rattle.std.specs.Option.{ok_or}
use Rattle.refusals.specs.declared.Refusal.{Refusal}
use Prim.Native.Nat.{ℕ, ◌≤◌, ◌<◌}
use native.Mathlib.Omega.{arith}
use borrow.Author.Tests.{lt-ltb, le-ltb}
use lib.ListN.{length, drop}
use Rattle.slices.specs.Text.{WrittenAt}
use Rattle.slices.proofs.Laws.WrittenLaws.{written_front}
use Rattle.refusals.specs.Refusals.{refusal}
use Rattle.refusals.specs.declared.Cause.TheVariants.{ShortBuffer, BadImage}
use Rattle.rules.specs.Rule.{Rule, size}
use Rattle.image.specs.Layout.{node_count_in}
use Rattle.image.specs.Decode.{cell_at, decode}
use Rattle.image.specs.Inner.Valid.{is_some}
use Rattle.image.proofs.Laws.FitLaws.{is_some_true, is_some_false}
use Rattle.image.specs.Inner.EncodedAt.{EncodedAt}
use Rattle.image.proofs.Laws.InsideLaws.{decode_whole}
use Rattle.print_text.specs.Print.{text_of}
use Rattle.print.specs.Printed.{outcome, print_into}

-- what `ok_or` refuses, where there is none, is the refusal that it is given
pub refused_none : {A B : Type 0} {o : Option A} {e f g : Refusal} → ◌≡◌ {A = Result A Refusal} (Err e) (ok_or o f) → o ≡ None → f ≡ g →
    ◌≡◌ {A = Result B Refusal} (Err e) (Err g)
refused_none {e = e} {f = f} v none p = let q : e ≡ f = cc (rw none at v) in rw (q, p)

-- of an image i and a buffer t
module _ (i t : List ℕ) where
  pub refused_16 : is_some (decode i) ≡ false → outcome (Err (refusal BadImage 0)) t ≡ print_into i t
  unfolding print_into
  refused_16 e = rw (is_some_false (decode i) e)

  -- k is the length of the text of whatever rule has all n nodes
  module _ (image : is_some (decode i) ≡ true) {n k : ℕ} (p : n ≡ node_count_in i)
      (long : (r : Rule) → size r ≡ n → EncodedAt r (cell_at i n) 0 → k ≡ length (text_of r)) where
    pub refused_1 : length t < k → outcome (Err (refusal ShortBuffer 0)) t ≡ print_into i t
    unfolding print_into
    refused_1 short =
        let (r, e) = is_some_true (decode i) image in
        let w = decode_whole i p e in
        let q = long r w.sized w.stands in
        rw (e, lt-ltb (length t) (length (text_of r)) (omega arith))

    -- and the text was written into the buffer so that it ends at k
    pub printed : {t' : List ℕ} {start : ℕ} → k ≤ length t →
        ((r : Rule) → size r ≡ n → EncodedAt r (cell_at i n) 0 → WrittenAt t t' start k (text_of r)) → outcome (Ok k) t' ≡ print_into i t
    unfolding print_into
    printed {t'} {start} room puts =
        let (r, e) = is_some_true (decode i) image in
        let w = decode_whole i p e in
        let q = long r w.sized w.stands in
        let put = puts r w.sized w.stands in
        let zero : start ≡ 0 = omega (arith, put.ends) in
        let left : t' ≡ text_of r ++ drop (length (text_of r)) t = put.text ∙ rw zero (written_front t (text_of r)) in
        rw (e, le-ltb (length t) (length (text_of r)) (omega arith), q, left)
