-- Laws of the stores that arguments give: each fits a table, and there is one for each argument. Assumes nothing.
use mathlib.Core.Path.{◌≡◌, refl, ap}
use mathlib.Core.Logic.{⊎_elim}
use mathlib.Core.Bool.{Bool, true, false, cond}
use mathlib.Core.List.Memᴰ
use mathlib.Core.List.{List, [], ◌∷◌}
use Rattle.std.specs.Prelude.{Result, Ok, Err}
use Prim.Native.Nat.{ℕ, suc, ◌-◌, ◌≤◌}
use native.Mathlib.Omega.{arith}
use borrow.Author.Tests.{ltb-false}
use lib.Dec.{eqb, ltb}
use lib.ListN.{length, take}
use Rattle.slices.specs.Text.{bytes, all_ascii}
use Rattle.ascii.specs.Letters.{equal}
use Rattle.store_table.specs.Stores.{Entry, read_write, read_only, write_only}
use Rattle.store_table.proofs.Laws.TableBytesLaws.{Fit, AllFit}
use Rattle.store_args.specs.Arguments.{arguments_in, named, mode_tested, colon_tested, given_by, after_colon, before, stores_from, stores_in}
use Rattle.store_args.specs.declared.Fault.{Fault}
use Rattle.store_args.specs.declared.Fault.TheVariants.{LongName, ForeignName}
use Rattle.store_args.specs.declared.WrongArgument.{WrongArgument}

-- ---- a store that is given fits a table
abbrev Fits : Result Entry Fault → Type 0
Fits g = (e : Entry) → g ≡ Ok e → Fit write_only e

wrong_fits : (f : Fault) → Fits (Err f)
wrong_fits f e p = absurd (let z : ◌≡◌ {A = ℕ} 0 1 = cc in omega arith)

either : (v : Bool) {a b : Result Entry Fault} → Fits a → Fits b → Fits (cond v a b)
either true p q = p
either false p q = q

named_fits : (mode : ℕ) (name : List ℕ) → mode ≤ write_only → Fits (named mode name)
unfolding named
named_fits mode name h = go (ltb 255 (length name)) refl (all_ascii name) refl
  where
    go : (v : Bool) → ltb 255 (length name) ≡ v → (w : Bool) → all_ascii name ≡ w →
        Fits (cond v (Err LongName) (cond w (Ok (record { mode = mode; name = name })) (Err ForeignName)))
    go true p w q = wrong_fits LongName
    go false p false q = wrong_fits ForeignName
    go false p true q = λ e s. let t : e ≡ record { mode = mode; name = name } = cc in
        rw t (record { mode = h; short = ltb-false 255 (length name) p; ascii = q })

mode_fits : (word name : List ℕ) → Fits (mode_tested word name)
unfolding mode_tested
mode_fits word name =
    either (equal word (bytes "read-write")) (named_fits read_write name (omega arith))
    (either (equal word (bytes "read-only")) (named_fits read_only name (omega arith))
    (either (equal word (bytes "write-only")) (named_fits write_only name (omega arith)) (wrong_fits _)))

pub given_fits : (w : List ℕ) → Fits (given_by w)
unfolding given_by colon_tested
given_fits w = either (ltb 266 (length w)) (wrong_fits _) (either (eqb (after_colon w) 0) (wrong_fits _) (mode_fits _ (take (after_colon w - 1) w)))

-- ---- all stores that n arguments give
abbrev All : ℕ → Result (List Entry) WrongArgument → Type 0
All n r = (es : List Entry) → r ≡ Ok es → AllFit write_only es × (length es ≡ n)

wrong_all : (n : ℕ) (w : WrongArgument) → All n (Err w)
wrong_all n w es x = absurd (let z : ◌≡◌ {A = ℕ} 0 1 = cc in omega arith)

one_more : (g : Result Entry Fault) (i : ℕ) (r : Result (List Entry) WrongArgument) (n : ℕ) → Fits g → All n r → All (suc n) (before g i r)
one_more (Err f) i r n p q es x = wrong_all (suc n) _ es x
one_more (Ok e) i (Err w) n p q es x = wrong_all (suc n) w es x
one_more (Ok e) i (Ok fs) n p q es x =
    let y : es ≡ e ∷ fs = cc in
    let h = q fs refl in
    rw y (λ d m. ⊎_elim (λ z. rw z (p e refl)) (h.0 d) (Memᴰ.cases_cons m), ap suc h.1)

all_from : (i : ℕ) (ws : List (List ℕ)) → All (length ws) (stores_from i ws)
unfolding stores_from
all_from i [] es x = let y : es ≡ [] = cc in rw y (λ d m. absurd (Memᴰ.not-nil m), refl)
all_from i (w ∷ ws) es x = one_more (given_by w) i (stores_from (suc i) ws) (length ws) (given_fits w) (all_from (suc i) ws) es x

module _ (args : List ℕ) (es : List Entry) (e : stores_in args ≡ Ok es) where
  pub stores_fit : AllFit write_only es
  unfolding stores_in
  stores_fit = (all_from 1 (arguments_in args) es e).0

  pub stores_many : length es ≡ length (arguments_in args)
  unfolding stores_in
  stores_many = (all_from 1 (arguments_in args) es e).1
