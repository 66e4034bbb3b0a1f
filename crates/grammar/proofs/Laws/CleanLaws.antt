-- A text that is read up to its end has no fault among its tokens. Assumes nothing.
use Prim.Native.Nat.{ℕ}
use mathlib.Core.Path.{◌≡◌, refl, ap, ◌∙◌}
use mathlib.Core.List.{List, [], ◌∷◌}
use native.Mathlib.Omega.{arith}
use Rattle.std.specs.Prelude.{Ok}
use Rattle.tokens.specs.declared.Token.{Token}
use Rattle.tokens.specs.declared.Token.TheVariants.{End, Open, Close, Comma, And, Or, Word, Fault}
use Rattle.tokens.specs.Token.{next_of, token_at, tokens_from, scan_of}
use Rattle.tokens.proofs.Laws.TokenLaws.{tokens_are}
use Rattle.rules.specs.Rule.{Rule}
use Rattle.grammar.specs.Grammar.{got, or_in}
use Rattle.grammar.proofs.Laws.TakenLaws.{faults_in, or_made}

scan_clean : (ts : List Token) → faults_in ts ≡ 0 → scan_of ts ≡ Ok tt
unfolding scan_of
scan_clean [] h = refl
scan_clean (End p ∷ ts) h = scan_clean ts (omega arith)
scan_clean (Open p n ∷ ts) h = scan_clean ts (omega arith)
scan_clean (Close p n ∷ ts) h = scan_clean ts (omega arith)
scan_clean (Comma p n ∷ ts) h = scan_clean ts (omega arith)
scan_clean (And p n ∷ ts) h = scan_clean ts (omega arith)
scan_clean (Or p n ∷ ts) h = scan_clean ts (omega arith)
scan_clean (Word w ∷ ts) h = scan_clean ts (omega arith)
scan_clean (Fault f ∷ ts) h = absurd (omega arith)

-- the expression ends at e, where no token is left
pub read_clean : (s : List ℕ) (f e : ℕ) {p : ℕ} {r : Rule} → or_in f s 0 (tokens_from s 0) ≡ got r (tokens_from s e) →
    token_at s e ≡ End p → scan_of (tokens_from s 0) ≡ Ok tt
unfolding next_of
read_clean s f e q h =
    let m = rw q at (or_made s f 0 (tokens_from s 0)) in
    scan_clean (tokens_from s 0) (m.taken.clean ∙ ap faults_in (tokens_are s e h))
