-- Laws of names: their order does not matter, and the names of entries that follow others. Assumes nothing.
use mathlib.Core.Path.{◌≡◌, refl}
use mathlib.Core.Bool.{Bool, true, false, ◌||◌}
use mathlib.Core.List.{List, [], ◌∷◌, ◌++◌, map-append}
use Prim.Native.Nat.{ℕ, ◌+◌}
use lib.ListN.{take, drop}
use lib.Seq.{take-add}
use Rattle.store_table.specs.Names.{same_name, has}
use Rattle.store_table.specs.Stores.{Entry, all_names}

has_last : (w n : List ℕ) (ns : List (List ℕ)) → has w (ns ++ (n ∷ [])) ≡ has w (n ∷ ns)
unfolding has
has_last w n [] = refl
has_last w n (m ∷ ns) = rw (has_last w n ns) (swap (same_name w m) (same_name w n))
  where
    swap : (a b : Bool) → (a || (b || has w ns)) ≡ (b || (a || has w ns))
    swap true true = refl
    swap true false = refl
    swap false b = refl

-- one entry more has one name more
pub has_next : (es : List Entry) (k : ℕ) {x : Entry} → drop k es ≡ x ∷ drop (k + 1) es → (w : List ℕ) →
    has w (all_names (take (k + 1) es)) ≡ (same_name w x.name || has w (all_names (take k es)))
unfolding has all_names
has_next es k {x} e w = rw (take-add k 1 es, e, map-append, has_last)
