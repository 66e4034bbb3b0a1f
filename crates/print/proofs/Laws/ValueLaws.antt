-- What printing answers: a length of at most 65,600 bytes a node of at most 2,048, or place 0. Assumes nothing.
use mathlib.Core.Path.{◌≡◌, refl}
use mathlib.Core.Bool.{Bool, true, false, cond}
use mathlib.Core.List.{List, ◌++◌}
use mathlib.Core.Option.{Option, none, some}
use Rattle.std.proofs.Common.{Ok, Err}
use Prim.Native.Nat.{ℕ, ◌*◌, ◌≤◌}
use native.Mathlib.Omega.{arith}
use lib.Dec.{ltb}
use lib.ListN.{length, drop}
use Rattle.refusals.specs.declared.Refusal.{Refusal}
use Rattle.refusals.specs.Refusals.{refusal}
use Rattle.refusals.specs.declared.Cause.TheVariants.{ShortBuffer}
use Rattle.rules.specs.Rule.{Rule}
use Rattle.image.specs.Layout.{node_count_in}
use Rattle.image.specs.Decode.{decode}
use Rattle.image.proofs.Laws.InsideLaws.{decode_whole}
use Rattle.print_text.specs.Print.{text_of}
use Rattle.print.specs.Printed.{Printing, outcome, fitted, print_rule, print_into}
use Rattle.print_text.proofs.Laws.ChildrenLaws.{text_short}

abbrev Bounded : Printing → Type 0
Bounded (Ok size) = size ≤ 65_600 * 2048
Bounded (Err f) = f.place ≡ 0

fitted_bounded : (t text : List ℕ) → length t ≤ 65_600 * 2048 → Bounded (fitted t text).answer
fitted_bounded t text h = go (ltb (length text) (length t))
  where
    go : (b : Bool) → Bounded (cond b (outcome (Err (refusal ShortBuffer 0)) text) (outcome (Ok (length t)) (t ++ drop (length t) text))).answer
    go true = refl
    go false = h

module _ (image text : List ℕ) where
  bounded : Bounded (print_into image text).answer
  unfolding print_into
  bounded = go (decode image) refl
    where
      go : (o : Option Rule) → decode image ≡ o → Bounded (print_rule o text).answer
      go none e = refl
      go (some r) e =
          let w = decode_whole image refl e in
          fitted_bounded (text_of r) text (omega (arith, text_short image (node_count_in image) r 0 w.stands))

  pub print_value : (size : ℕ) → (print_into image text).answer ≡ Ok size → size ≤ 65_600 * 2048
  print_value size e = rw e at bounded

  pub refused_value : (f : Refusal) → (print_into image text).answer ≡ Err f → f.place ≡ 0
  refused_value f e = rw e at bounded
