-- Every text that reads gives a rule that an image can hold: its image is read back as the rule, and has at most 26,628 bytes.
-- Assumes nothing.
use mathlib.Core.Path.{◌≡◌, refl}
use mathlib.Core.Bool.{Bool, true, false, cond}
use mathlib.Core.List.{List}
use mathlib.Core.Option.{some}
use Prim.Native.Nat.{ℕ, zero, suc, ◌+◌, ◌-◌, ◌*◌, ◌≤◌}
use native.Mathlib.Omega.{arith}
use borrow.Author.Tests.{ltb-false}
use lib.Dec.{ltb}
use lib.ListN.{length}
use Rattle.std.specs.Prelude.{Result, Ok, Err, ⊤}
use Rattle.refusals.specs.declared.Refusal.{Refusal}
use Rattle.slices.specs.Text.{run_end, all_ascii}
use Rattle.refusals.specs.Refusals.{refusal}
use Rattle.refusals.specs.declared.Cause.TheVariants.{LongText, ForeignByte, TrailingToken}
use Rattle.tokens.specs.declared.Token.{Token}
use Rattle.tokens.specs.declared.Token.TheVariants.{End, Open, Close, Comma, And, Or, Word, Fault}
use Rattle.tokens.specs.Token.{ascii, token_at, next_of, onward, tokens_by, tokens_from, scan_of}
use Rattle.tokens.specs.Inner.Bounds.{Lexed}
use Rattle.tokens.proofs.Laws.TokenLaws.{lexed}
use Rattle.rules.specs.Rule.{Rule}
use Rattle.image.specs.Encode.{encode, Fits}
use Rattle.image.proofs.Laws.EncodeLaws.{length_encode}
use Rattle.image.specs.Decode.{decode}
use Rattle.image.proofs.Laws.ImageLaws.{encode_bytes, decode_encode}
use Rattle.grammar.specs.Grammar.{first_place, ParseResult, got, bad, or_in}
use Rattle.grammar.specs.Reading.{Read, rule, refused, at_end, ended, parse_of, scanned_of, read_of}
use Rattle.grammar.proofs.Laws.AsciiLaws.{text_ascii}
use Rattle.grammar.proofs.Laws.TakenLaws.{nodes_for, bytes_for, MadeRule, Holds, or_made}

-- ---- a text's bytes pay for its tokens
abbrev Within : ℕ → List Token → Type 0
Within n ts = (nodes_for ts ≤ n) × (bytes_for ts ≤ n)

module _ (len at : ℕ) where
  onward_within : (t : Token) (later : ℕ → List Token) → Lexed len at t → ((n : ℕ) → Within (len - n) (later n)) → Within (len - at) (onward t (next_of t) later)
  unfolding next_of
  onward_within (End p) later l h = omega arith
  onward_within (Open p n) later l h = omega (arith, h n)
  onward_within (Close p n) later l h = omega (arith, h n)
  onward_within (Comma p n) later l h = omega (arith, h n)
  onward_within (And p n) later l h = omega (arith, h n)
  onward_within (Or p n) later l h = omega (arith, h n)
  onward_within (Word w) later l h = omega (arith, h w.next)
  onward_within (Fault f) later l h = omega arith

tokens_within : (f : ℕ) (s : List ℕ) (at : ℕ) → Within (length s - at) (tokens_by f s at)
unfolding tokens_by
tokens_within zero s at = omega arith
tokens_within (suc f) s at = onward_within (length s) at (token_at s at) (tokens_by f s) (lexed s at) (tokens_within f s)

text_within : (s : List ℕ) → Within (length s) (tokens_from s 0)
unfolding tokens_from
text_within s = omega (arith, tokens_within (length s - 0 + 1) s 0)

-- ---- what is read fits
abbrev ReadFits : Read → Type 0
ReadFits (rule r) = Fits r
ReadFits (refused f) = Unit {0}

module _ (s : List ℕ) (short : length s ≤ 2048) (low : all_ascii s ≡ true) where
  ended_fits : (g : ParseResult) → Holds (MadeRule s (tokens_from s 0)) g → ReadFits (ended g)
  ended_fits (got r us) m = go (at_end us)
    where
      go : (v : Bool) → ReadFits (cond v (rule r) (refused (refusal TrailingToken (first_place us))))
      go true =
          let t = m.taken in
          let w = text_within s in
          record { nodes = omega arith; bytes = omega arith; ascii = m.ascii low; small = m.small (omega arith) }
      go false = tt
  ended_fits (bad f) m = tt

  parse_fits : ReadFits (parse_of s)
  unfolding parse_of
  parse_fits = let ts = tokens_from s 0 in let n = 3 * length ts + 3 in ended_fits (or_in n s 0 ts) (or_made s n 0 ts)

  scanned_fits : (x : Result ⊤ Refusal) → ReadFits (scanned_of x s)
  scanned_fits (Ok u) = parse_fits
  scanned_fits (Err f) = tt

fits : (s : List ℕ) → ReadFits (read_of s)
unfolding read_of
fits s = go (ltb 2048 (length s)) (ltb (run_end ascii s 0) (length s)) refl refl
  where
    go : (x y : Bool) → ltb 2048 (length s) ≡ x → ltb (run_end ascii s 0) (length s) ≡ y →
        ReadFits (cond x (refused (refusal LongText 0)) (cond y (refused (refusal ForeignByte (run_end ascii s 0))) (scanned_of (scan_of (tokens_from s 0)) s)))
    go true y p q = tt
    go false true p q = tt
    go false false p q = scanned_fits s (ltb-false 2048 (length s) p) (text_ascii s (ltb-false (run_end ascii s 0) (length s) q)) (scan_of (tokens_from s 0))

module _ (s : List ℕ) (r : Rule) (e : read_of s ≡ rule r) where
  pub read_fits : Fits r
  read_fits = rw e at (fits s)

  pub read_decodes : decode (encode r) ≡ some r
  read_decodes = (decode_encode (encode r) (encode_bytes r read_fits) r).1 (read_fits, refl)

  pub read_length : length (encode r) ≤ 26628
  read_length = let f = read_fits in omega (arith, length_encode r)
