-- A text whose bytes are all below 128 has no foreign byte. Assumes nothing.
use mathlib.Core.Path.{◌≡◌, refl, ap}
use mathlib.Core.Bool.{true, not, and-eq-true_iff}
use mathlib.Core.List.{List, [], ◌∷◌}
use Prim.Native.Nat.{ℕ, suc, ◌<◌}
use Prim.Native.Char.{code}
use native.Mathlib.Omega.{arith}
use borrow.Author.Tests.{lt-leb, ltb-true}
use lib.Dec.{ltb, eqb}
use lib.ListN.{length}
use Rattle.slices.specs.Text.{run, run_end, all_ascii}
use Rattle.classes.specs.Class.{is_blank, is_quote, is_word, class_of, foreign}
use Rattle.tokens.specs.Token.{ascii}
use Rattle.tokens.proofs.Laws.TokenLaws.{by_cond}

below_ascii : (b : ℕ) → b < 128 → ascii b ≡ true
unfolding ascii class_of
below_ascii b h =
    let NotForeign : ℕ → Type 0 = λ k. not (eqb k foreign) ≡ true in
    rw (lt-leb 128 b h)
    (by_cond NotForeign (is_blank b) (λ _. refl)
    (λ _. by_cond NotForeign (eqb b (code "(")) (λ _. refl)
    (λ _. by_cond NotForeign (eqb b (code ")")) (λ _. refl)
    (λ _. by_cond NotForeign (eqb b (code ",")) (λ _. refl)
    (λ _. by_cond NotForeign (eqb b (code "&")) (λ _. refl)
    (λ _. by_cond NotForeign (eqb b (code "|")) (λ _. refl)
    (λ _. by_cond NotForeign (is_quote b) (λ _. refl)
    (λ _. by_cond NotForeign (is_word b) (λ _. refl) (λ _. refl)))))))))

run_all : (s : List ℕ) → all_ascii s ≡ true → run ascii s ≡ length s
unfolding run all_ascii
run_all [] h = refl
run_all (b ∷ s) h =
    let i = (and-eq-true_iff (ltb b 128) (all_ascii s)).0 h in
    rw (below_ascii b (ltb-true b 128 i.0)) (ap suc (run_all s i.1))

pub none_foreign : (s : List ℕ) → all_ascii s ≡ true → run_end ascii s 0 ≡ length s
unfolding run_end
none_foreign s h = omega (arith, run_all s h)
