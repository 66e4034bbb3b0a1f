-- Laws of a primary by how it begins: what each case gives. Assumes nothing.
use Prim.Native.Nat.{ℕ, ◌+◌, ◌-◌, ◌*◌, ◌≤◌}
use mathlib.Core.Path.{◌≡◌, refl, ap}
use mathlib.Core.List.{List}
use native.Mathlib.Omega.{arith}
use lib.ListN.{length}
use Rattle.std.specs.Prelude.{Option, Some, None, Result, Ok, Err}
use Rattle.slices.specs.Text.{part}
use Rattle.slices.proofs.Laws.TextLaws.{part_length}
use Rattle.classes.specs.Class.{close_bracket}
use Rattle.refusals.specs.declared.Refusal.{Refusal}
use Rattle.tokens.specs.Token.{place_of, token_at, tokens_from}
use Rattle.tokens.specs.Inner.Bounds.{next_of_class}
use Rattle.rules.specs.Rule.{named, leaf}
use Rattle.image.specs.Encode.{leaf_name}
use Rattle.grammar.specs.Grammar.{ParseResult, bad, primary_start, or_in, primary_in}
use Rattle.grammar.specs.Inner.Starts.{leaf_of, start_next, left, Begins}
use Rattle.grammar.specs.declared.Test.{Test}
use Rattle.grammar.specs.declared.Test.TheVariants.{OlderThan, Readable}
use Rattle.grammar.specs.declared.PrimaryStart.{PrimaryStart}
use Rattle.grammar.specs.declared.PrimaryStart.TheVariants.{Name, Leaf, Group}
use Rattle.grammar.proofs.Laws.StartLaws.{head_is, head_ahead}
use Rattle.grammar.proofs.Laws.SignTestLaws.{test_on, test_off}
use Rattle.grammar.proofs.Laws.TokenListLaws.{first_place_lem}
use Rattle.nodes.specs.declared.Nodes.{Nodes}
use Rattle.nodes.specs.Inner.Parses.{Appended, ParsedRule, ParsedBy}
use Rattle.nodes.proofs.Laws.ParseLaws.{head_refused, leaf_read, inner_refused, unclosed, closed}
use Rattle.endings.specs.Inner.Endings.{closed_by, group_end}
use Rattle.parser.specs.Inner.Starting.{NextAhead}

-- the text continues later
pub next_ahead : (s : List ℕ) (at d : ℕ) {h : Result PrimaryStart Refusal} → Begins s at (at + 1) (left s at - 1) h (primary_start s d (tokens_from s at)) →
    NextAhead s at (start_next h)
next_ahead s at d {h} g = go (start_next h) refl
  where
    go : (n : Option ℕ) → start_next h ≡ n → NextAhead s at n
    go (Some y) q = head_ahead at g q
    go None q = tt

no_name : (u : Test) → length (leaf_name (leaf_of u)) ≡ 0
no_name (OlderThan i) = refl
no_name (Readable i) = refl

module _ (s : List ℕ) (d at : ℕ) {h : Result PrimaryStart Refusal} (g : Begins s at (at + 1) (left s at - 1) h (primary_start s d (tokens_from s at))) where
  -- what it reads as
  abbrev Says : ParseResult → Type 0
  Says r = (f : ℕ) → 3 * left s at + 1 ≤ f → primary_in f s d (tokens_from s at) ≡ r

  abbrev Reads : {N : ℕ} (b a : Nodes N) (e : ℕ) → Type 0
  Reads b a e = ParsedRule (λ (f : ℕ). primary_in f s d (tokens_from s at)) (3 * left s at + 1) s at b a e

  pub primary_refused : {x : Refusal} → h ≡ Err x → Says (bad x)
  primary_refused q = head_refused s d at (head_is at g q)

  pub name_read : {N : ℕ} {b a : Nodes N} {x y e : ℕ} → h ≡ Ok (Name x y e) → Appended (leaf (named (part s x y))) b a → Reads b a e
  name_read {x = x} {y = y} {e = e} q w =
      let i = g.name x y e q in
      let k = head_ahead at g (ap start_next q) in
      let short : length (part s x y) + at ≤ e = omega (arith, part_length s x y i.1 (omega arith)) in
      leaf_read s d at (named (part s x y)) (head_is at g q) k short w

  pub test_read : {N : ℕ} {b a : Nodes N} {u : Test} {e : ℕ} → h ≡ Ok (Leaf u e) → Appended (leaf (leaf_of u)) b a → Reads b a e
  test_read {u = u} {e = e} q w =
      let k = head_ahead at g (ap start_next q) in
      let short : length (leaf_name (leaf_of u)) + at ≤ e = omega (arith, no_name u) in
      leaf_read s d at (leaf_of u) (head_is at g q) k short w

  -- a group, whose text continues at e₀
  module _ {e₀ : ℕ} (q : h ≡ Ok (Group e₀)) where
    pub group_refused : {x : Refusal} → ((f : ℕ) → 3 * left s e₀ + 3 ≤ f → or_in f s (d + 1) (tokens_from s e₀) ≡ bad x) → Says (bad x)
    group_refused inner = inner_refused s d at (head_is at g q) (head_ahead at g (ap start_next q)) inner

    pub group_read : {N : ℕ} {b a : Nodes N} {e : ℕ} {r : Result ℕ Refusal} →
        ParsedRule (λ (f : ℕ). or_in f s (d + 1) (tokens_from s e₀)) (3 * left s e₀ + 3) s e₀ b a e → r ≡ group_end s e → ParsedBy primary_in 1 s d at b a r
    group_read {N} {b} {a} {e} {r} inner w = rw w (go (next_of_class close_bracket (token_at s e)) refl)
      where
        go : (x : Option ℕ) → x ≡ next_of_class close_bracket (token_at s e) → ParsedBy primary_in 1 s d at b a (closed_by x (place_of (token_at s e)))
        go (Some y) p =
            let i = test_on s e close_bracket p refl in
            closed s d at (head_is at g q) (head_ahead at g (ap start_next q)) inner i.sign i.bounds
        go None p =
            unclosed s d at (head_is at g q) (head_ahead at g (ap start_next q)) inner
            (test_off s e close_bracket p (omega arith) (omega arith) refl) (first_place_lem s e refl)
