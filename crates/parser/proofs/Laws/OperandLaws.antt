-- Laws of what follows a chain's left side: an operand after the sign, or none. Assumes nothing.
use Prim.Native.Nat.{ℕ, ◌≤◌}
use mathlib.Core.Path.{◌≡◌, sym, ap, ◌∙◌}
use mathlib.Core.List.{List}
use Rattle.std.specs.Prelude.{Option, Some, None}
use Rattle.classes.specs.Class.{open_bracket, bar}
use Rattle.tokens.specs.Token.{token_at, tokens_from}
use Rattle.tokens.specs.Inner.Bounds.{next_of_class}
use Rattle.grammar.specs.Grammar.{missing, after}
use Rattle.grammar.proofs.Laws.TokenListLaws.{Signed}
use Rattle.grammar.proofs.Laws.SignTestLaws.{test_on, test_off}
use Rattle.nodes.specs.declared.Nodes.{Nodes}
use Rattle.nodes.specs.Inner.Parses.{without_root}
use Rattle.endings.specs.Inner.Endings.{continued}

-- a sign is found where the test for it says so, and nowhere else
module _ (s : List ℕ) (e sign : ℕ) {r : Option ℕ} (q : r ≡ next_of_class sign (token_at s e)) where
  pub found : {y : ℕ} → r ≡ Some y → Signed s e sign y
  found h = test_on s e sign q h

  pub not_found : (open_bracket ≤ sign) × (sign ≤ bar) → r ≡ None → after sign (tokens_from s e) ≡ missing
  not_found lies h = test_off s e sign q lies.0 lies.1 h

  -- the left side's nodes
  module _ (kind : ℕ) {N : ℕ} (a : Nodes N) {k : Nodes N} (w : k ≡ continued (next_of_class sign (token_at s e)) kind a) where
    pub root_dropped : {y : ℕ} → r ≡ Some y → k ≡ without_root kind a
    root_dropped h = w ∙ ap (λ (v : Option ℕ). continued v kind a) (sym q ∙ h)

    pub root_stays : r ≡ None → k ≡ a
    root_stays h = w ∙ ap (λ (v : Option ℕ). continued v kind a) (sym q ∙ h)
