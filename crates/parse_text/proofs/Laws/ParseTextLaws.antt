-- Laws of reading a whole text: which test refuses it, and what the nodes hold where it reads as a rule. Assumes nothing.
use mathlib.Core.Path.{◌≡◌, refl, sym, ap, ◌∙◌}
use mathlib.Core.Bool.{false, cond}
use mathlib.Core.List.{List}
use Prim.Native.Nat.{ℕ, ◌+◌, ◌*◌, ◌≤◌, ◌<◌}
use native.Mathlib.Omega.{arith}
use borrow.Author.Tests.{lt-ltb, le-ltb, ne_eqb}
use lib.Dec.{eqb}
use lib.ListN.{length}
use Rattle.std.specs.Prelude.{Option, Some, None, Result, Ok, Err}
use Rattle.std.specs.Result.{IsErrAnd, is_err}
use Rattle.slices.specs.Text.{run_end}
use Rattle.refusals.specs.declared.Refusal.{Refusal}
use Rattle.refusals.specs.Refusals.{refusal}
use Rattle.refusals.specs.declared.Cause.TheVariants.{LongText, ForeignByte, TrailingToken}
use Rattle.tokens.specs.declared.Token.{Token}
use Rattle.tokens.specs.declared.Token.TheVariants.{End, Open, Close, Comma, And, Or, Word, Fault}
use Rattle.tokens.specs.Token.{ascii, place_of, next_of, token_at, onward, tokens_from, scan_of}
use Rattle.tokens.proofs.Laws.TokenLaws.{tokens_are}
use Rattle.image.proofs.Laws.EncodeLaws.{length_tags}
use Rattle.grammar.specs.Grammar.{token_kind, ParseResult, got, bad, or_in}
use Rattle.grammar.specs.Reading.{rule, refused, at_end, ended, parse_of, scanned_of, read_of}
use Rattle.grammar.specs.Inner.Starts.{left}
use Rattle.grammar.proofs.Laws.TokenListLaws.{first_place_lem}
use Rattle.grammar.proofs.Laws.CleanLaws.{read_clean}
use Rattle.nodes.specs.Inner.Parses.{ParsedRule}
use Rattle.nodes.specs.declared.Nodes.{Nodes}
use Rattle.parse_text.specs.Inner.Parsing.{Whole, Ended, Finished}

-- a refusal that was passed on
pub refused_on : (s : List ℕ) {N : ℕ} (a : Nodes N) (r : Result (Unit {0}) Refusal) {f : Refusal} → IsErrAnd r (λ (y : Refusal). y ≡ f) → parse_of s ≡ refused f →
    Ended s a r
refused_on s a (Ok u) h e = absurd h
refused_on s a (Err y) h e = e ∙ ap refused (sym h)

pub unread_on : (s : List ℕ) {N : ℕ} (a : Nodes N) (r : Result (Unit {0}) Refusal) {f : Refusal} → IsErrAnd r (λ (y : Refusal). y ≡ f) → read_of s ≡ refused f →
    Finished s a r
unread_on s a (Ok u) h e = absurd h
unread_on s a (Err y) h e = e ∙ ap refused (sym h)

-- what was parsed is what the text reads as, where no test before refuses it
pub finished_ended : (s : List ℕ) {N : ℕ} (a : Nodes N) (r : Result (Unit {0}) Refusal) → read_of s ≡ parse_of s → Ended s a r → Finished s a r
finished_ended s a (Ok u) q p = rw q p.1
finished_ended s a (Err f) q p = q ∙ p

-- where it was parsed, no test refuses it
pub finished_parsed : (s : List ℕ) {N : ℕ} (a : Nodes N) (r : Result (Unit {0}) Refusal) → is_err r ≡ false →
    (scan_of (tokens_from s 0) ≡ Ok tt → read_of s ≡ parse_of s) → Ended s a r → Finished s a r
finished_parsed s a (Ok u) parsed q p = rw (q p.0) p.1
finished_parsed s a (Err f) parsed q p = let z : ◌≡◌ {A = ℕ} 0 1 = cc in absurd (omega arith)

-- a token that is not the end is of another kind
pub not_end : (t : Token) → ((p : ℕ) → t ≡ End p → ⊥) → token_kind t ≡ 0 → ⊥
not_end (End p) h e = h p refl
not_end (Open p n) h e = omega arith
not_end (Close p n) h e = omega arith
not_end (Comma p n) h e = omega arith
not_end (And p n) h e = omega arith
not_end (Or p n) h e = omega arith
not_end (Word w) h e = omega arith
not_end (Fault f) h e = omega arith

-- ---- the tests before the parse
pub read_long : (s : List ℕ) → 2048 < length s → read_of s ≡ refused (refusal LongText 0)
unfolding read_of
read_long s h = rw (lt-ltb 2048 (length s) h)

module _ (s : List ℕ) (fits : length s ≤ 2048) where
  pub read_foreign : {p : ℕ} → p ≡ run_end ascii s 0 → p < length s → read_of s ≡ refused (refusal ForeignByte p)
  unfolding read_of
  read_foreign q lt = rw (le-ltb 2048 (length s) fits, ← q, lt-ltb _ _ lt)

  module _ {p : ℕ} (q : p ≡ run_end ascii s 0) (le : length s ≤ p) where
    pub read_scanned : {x : Result (Unit {0}) Refusal} → scan_of (tokens_from s 0) ≡ x → read_of s ≡ scanned_of x s
    unfolding read_of
    read_scanned e = rw (le-ltb 2048 (length s) fits, ← q, le-ltb _ _ le, e)

-- ---- the parse
module _ (s : List ℕ) where
  parsed_as : (g : ParseResult) → ((f : ℕ) → 3 * left s 0 + 3 ≤ f → or_in f s 0 (tokens_from s 0) ≡ g) → parse_of s ≡ ended g
  unfolding parse_of
  parsed_as g h = ap ended (h (3 * left s 0 + 3) (omega arith))

  pub parse_refused : {x : Refusal} → ((f : ℕ) → 3 * left s 0 + 3 ≤ f → or_in f s 0 (tokens_from s 0) ≡ bad x) → parse_of s ≡ refused x
  parse_refused {x} h = parsed_as (bad x) h

  end_onward : (t : Token) (n : Option ℕ) (more : ℕ → List Token) → at_end (onward t n more) ≡ eqb (token_kind t) 0
  end_onward t None more = refl
  end_onward t (Some n) more = refl

  module _ {N : ℕ} {b a : Nodes N} {e : ℕ}
      (r : ParsedRule (λ (f : ℕ). or_in f s 0 (tokens_from s 0)) (3 * left s 0 + 3) s 0 b a e) where
    ended_at : {t : Token} → token_at s e ≡ t → parse_of s ≡ cond (eqb (token_kind t) 0) (rule r.tree) (refused (refusal TrailingToken (place_of t)))
    ended_at {t} h =
        parsed_as (got r.tree (tokens_from s e)) r.says
        ∙ rw (tokens_are s e h, end_onward t (next_of t) (tokens_from s), ← tokens_are s e h, first_place_lem s e h)

    pub parse_trailing : {t : Token} {p : ℕ} → token_at s e ≡ t → (token_kind t ≡ 0 → ⊥) → p ≡ place_of t → parse_of s ≡ refused (refusal TrailingToken p)
    parse_trailing h k q = ended_at h ∙ rw (ne_eqb _ _ k, q)

    pub parse_whole : {p : ℕ} → (b.n ≡ 0) × (b.m ≡ 0) → token_at s e ≡ End p → (scan_of (tokens_from s 0) ≡ Ok tt) × Whole (parse_of s) s a
    parse_whole none h =
        let f = 3 * left s 0 + 3 in
        let o = r.holds in (
          read_clean s f e (r.says f (omega arith)) h,
          record {
            tree = r.tree;
            says = ended_at h;
            tags = rw none.0 at o.tags;
            args = rw (none.0, none.1) at o.args;
            names = rw none.1 at o.names;
            nodes = omega (arith, o.more_tags, length_tags r.tree);
            bytes = omega (arith, o.more_names);
            few = omega (arith, r.room, r.within);
            short = omega (arith, r.width, r.within);
          },
        )
