-- What reading a text into a buffer answers, by what the text reads as. Assumes nothing.
use mathlib.Core.Path.{◌≡◌, refl, ap, ◌∙◌}
use mathlib.Core.List.{List, ◌++◌}
use Prim.Native.Nat.{ℕ, ◌≤◌}
use native.Mathlib.Omega.{arith}
use lib.ListN.{length, take, drop, length-append}
use lib.Seq.{take-append_seam}
use Rattle.std.specs.Prelude.{Result, Ok, Err}
use Rattle.refusals.specs.declared.Refusal.{Refusal}
use Rattle.rules.specs.Rule.{Rule}
use Rattle.image.specs.Encode.{encode}
use Rattle.grammar.specs.Reading.{Read, rule, refused, read_of}
use Rattle.read.specs.Outcome.{ReadOutcome, outcome, reading_of, read_into}
use Rattle.read.proofs.Laws.BufferLaws.{reads}

-- the rule of a text that was read, whose image the first `len` bytes of a buffer are
pub record Found (text : List ℕ) (len : ℕ) (image : List ℕ) : Type 0 where
  pub read : Rule
  pub says : read_of text ≡ rule read
  pub long : len ≡ length (encode read)
  pub within : len ≤ length image
  pub taken : take len image ≡ encode read

-- ---- what was answered is what the text reads as
module _ (text buffer : List ℕ) (room : 26_628 ≤ length buffer) {a : Result ℕ Refusal} {image : List ℕ} (e : outcome a image ≡ read_into text buffer) where
  answered : {x : Read} → read_of text ≡ x → a ≡ (reading_of x buffer).answer
  answered q = ap (λ (o : ReadOutcome). o.answer) (e ∙ reads text buffer room q)

  pub read_refused : {f : Refusal} → a ≡ Err f → read_of text ≡ refused f
  read_refused {f} is = go (read_of text) refl
    where
      go : (x : Read) → read_of text ≡ x → x ≡ refused f
      go (rule r) q = let z : ◌≡◌ {A = ℕ} 0 1 = cc (answered q) in absurd (omega arith)
      go (refused g) q = let p : g ≡ f = cc (answered q) in ap refused p

  pub read_rule : {len : ℕ} → a ≡ Ok len → Found text len image
  read_rule {len} is = go (read_of text) refl
    where
      go : (x : Read) → read_of text ≡ x → Found text len image
      go (rule r) q =
          let long : len ≡ length (encode r) = cc (answered q) in
          let left : image ≡ encode r ++ drop (length (encode r)) buffer = ap (λ (o : ReadOutcome). o.image) (e ∙ reads text buffer room q) in
          record {
            read = r;
            says = q;
            long = long;
            within = rw left (simp length-append (omega arith));
            taken = rw (long, left, take-append_seam);
          }
      go (refused f) q = let z : ◌≡◌ {A = ℕ} 0 1 = cc (answered q) in absurd (omega arith)
