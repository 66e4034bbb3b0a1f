-- Laws of a list: its first argument, the next one, its end. Assumes nothing.
use Prim.Native.Nat.{ℕ, ◌+◌, ◌-◌, ◌*◌, ◌≤◌, ◌<◌}
use mathlib.Core.Path.{◌≡◌, refl, sym, ◌∙◌}
use mathlib.Core.List.{List}
use native.Mathlib.Omega.{arith}
use lib.ListN.{length}
use Rattle.std.specs.Prelude.{Option, Some, None, Result, Ok, Err, IfOk}
use Rattle.classes.specs.Class.{close_bracket, comma}
use Rattle.refusals.specs.declared.Refusal.{Refusal}
use Rattle.tokens.specs.Token.{place_of, token_at, tokens_from}
use Rattle.tokens.specs.Inner.Bounds.{next_of_class}
use Rattle.rules.specs.Rule.{Join}
use Rattle.grammar.specs.Grammar.{bad, missing, after, a_list, primary_start, primary_in}
use Rattle.grammar.specs.Inner.Starts.{left}
use Rattle.grammar.proofs.Laws.TokenListLaws.{first_place_lem}
use Rattle.grammar.proofs.Laws.SignTestLaws.{test_on, test_off}
use Rattle.nodes.specs.declared.Nodes.{Nodes}
use Rattle.nodes.specs.Inner.Parses.{Long, JoinRoom, ParsedBy}
use Rattle.nodes.proofs.Laws.ParseLaws.{Listing, Listed, list_empty, list_begin, list_unclosed, list_stop}
use Rattle.endings.specs.Inner.Endings.{closed_by, group_end, first_by, first_argument, list_nodes, ListRoom}

module _ (s : List ℕ) (d at : ℕ) (j : Join) where
  -- where the list's text continues, at e
  module _ {place e : ℕ} (q : primary_start s d (tokens_from s at) ≡ a_list j place (tokens_from s e)) (h : (at < e) × (e ≤ length s) × (left s e < left s at))
      {r : Result ℕ Refusal} (w : r ≡ first_argument s place e) where
    pub first_missing : {x : Refusal} → r ≡ Err x → (f : ℕ) → 3 * left s at + 1 ≤ f → primary_in f s d (tokens_from s at) ≡ bad x
    first_missing {x} is = go (next_of_class close_bracket (token_at s e)) refl (sym is ∙ w)
      where
        go : (v : Option ℕ) → v ≡ next_of_class close_bracket (token_at s e) → Err x ≡ first_by v place e →
            (f : ℕ) → 3 * left s at + 1 ≤ f → primary_in f s d (tokens_from s at) ≡ bad x
        go (Some y) p g f le =
            let empty = list_empty s d at j q h (test_on s e close_bracket p refl).sign f le in
            cc
        go None p g f le = let z : ◌≡◌ {A = ℕ} 0 1 = cc in absurd (omega arith)

    pub first_listing : {N : ℕ} (b : Nodes N) {y : ℕ} → r ≡ Ok y → Listing s d at j b b y
    first_listing b {y} is = go (next_of_class close_bracket (token_at s e)) refl (sym is ∙ w)
      where
        go : (v : Option ℕ) → v ≡ next_of_class close_bracket (token_at s e) → Ok y ≡ first_by v place e → Listing s d at j b b y
        go (Some z) p g = let z : ◌≡◌ {A = ℕ} 0 1 = cc in absurd (omega arith)
        go None p g =
            let same : e ≡ y = cc in
            rw (← same) (list_begin s d at j q h (test_off s e close_bracket p (omega arith) (omega arith) refl))

  -- there is room for the list's node where the list is closed
  pub list_room : {N : ℕ} {b a : Nodes N} {e : ℕ} → Listed s d at j b a e → (b.n + (length s - at) ≤ N) × (N ≤ 2048) → ListRoom s e b.n a
  list_room {N} {b} {a} {e} l fits = go (next_of_class close_bracket (token_at s e)) refl
    where
      go : (v : Option ℕ) → v ≡ next_of_class close_bracket (token_at s e) → IfOk (closed_by v (place_of (token_at s e))) (λ (y : ℕ). JoinRoom b.n a)
      go (Some y) p =
          let i = test_on s e close_bracket p refl in
          record { some = l.some; room = omega (arith, l.room, i.bounds); few = fits.1 }
      go None p = tt

  -- the list's end
  pub list_end : {N : ℕ} {b a c : Nodes N} {e : ℕ} {r : Result ℕ Refusal} → Listed s d at j b a e → b.n + (length s - at) ≤ N → IfOk r (λ (y : ℕ). Long c)
      → after comma (tokens_from s e) ≡ missing → r ≡ group_end s e
      → c ≡ list_nodes (next_of_class close_bracket (token_at s e)) j b.n a → ParsedBy primary_in 1 s d at b c r
  list_end {N} {b} {a} {c} {e} {r} l room long no_comma w nodes = rw w (go (next_of_class close_bracket (token_at s e)) refl (rw w at long) nodes)
    where
      go : (v : Option ℕ) → v ≡ next_of_class close_bracket (token_at s e) → IfOk (closed_by v (place_of (token_at s e))) (λ (y : ℕ). Long c)
          → c ≡ list_nodes v j b.n a → ParsedBy primary_in 1 s d at b c (closed_by v (place_of (token_at s e)))
      go (Some y) p lc k =
          let i = test_on s e close_bracket p refl in
          list_stop s d at j l no_comma i.sign i.bounds (omega (arith, room, l.room, i.bounds)) lc k
      go None p lc k =
          list_unclosed s d at j l no_comma (test_off s e close_bracket p (omega arith) (omega arith) refl) (first_place_lem s e refl)
