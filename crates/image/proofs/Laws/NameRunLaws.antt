-- Names that run on from one node to the next: where those of the first nodes end, with one node more. Assumes nothing.
use mathlib.Core.Path.{◌≡◌, refl, ◌∙◌}
use mathlib.Core.Bool.{false}
use mathlib.Core.Option.{none, some}
use Prim.Native.Nat.{ℕ, zero, suc, ◌+◌, ◌/◌, ◌%◌, ◌≤◌, ◌<◌}
use native.Mathlib.Omega.{arith}
use lib.Dec.{eqb}
use borrow.Author.Tests.{eqb-true, eq-eqb, ne_eqb}
use Rattle.image.specs.Kinds.{named_kind}
use Rattle.image.specs.Decode.{Node, next_name, name_end, ends_at}
use Rattle.image.proofs.Laws.BuildLaws.{when_some}
use Rattle.image.proofs.Laws.FitLaws.{stays_none}

-- names do not run backwards, and a name ends where the next one may begin
pub next_le : (k a t u : ℕ) → next_name k a t ≡ some u → (t ≤ u) × (k ≡ named_kind → a / 65536 + a % 65536 ≤ u)
next_le zero a t u e =
    let (b, q) = when_some (eqb (a / 65536) t) (some (t + a % 65536)) e in
    let r : t + a % 65536 ≡ u = cc in
    let s = eqb-true (a / 65536) t b in
    (omega arith, λ h. omega arith)
next_le (suc k) a t u e =
    let r : t ≡ u = cc in
    (omega arith, λ h. absurd (omega arith))

next_other : (k a t : ℕ) → (k ≡ named_kind → ⊥) → next_name k a t ≡ some t
next_other zero a t h = absurd (h refl)
next_other (suc k) a t h = refl

-- node i is d, and the names before it end at t
module _ (f : ℕ → Node) (i t : ℕ) {d : Node} (e : d ≡ f i) (h : name_end f i ≡ some t) where
  name_step : name_end f (suc i) ≡ next_name d.kind d.arg t
  unfolding name_end
  name_step = rw (h, ← e)

  pub name_next : d.kind ≡ named_kind → d.arg / 65536 ≡ t → name_end f (suc i) ≡ some (t + d.arg % 65536)
  name_next k p = name_step ∙ rw (k, eq-eqb (d.arg / 65536) t p)

  pub name_other : (d.kind ≡ named_kind → ⊥) → name_end f (suc i) ≡ some t
  name_other k = name_step ∙ next_other d.kind d.arg t k

  pub name_stop : d.kind ≡ named_kind → (d.arg / 65536 ≡ t → ⊥) → (n m : ℕ) → i < n → false ≡ ends_at (name_end f n) m
  unfolding name_end
  name_stop k p n m lt =
      let q : name_end f (suc i) ≡ none = name_step ∙ rw (k, ne_eqb (d.arg / 65536) t p) in
      rw (stays_none (name_end f) (λ j r. rw r) (suc i) n lt q)
