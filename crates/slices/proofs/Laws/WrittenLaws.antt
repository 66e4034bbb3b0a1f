-- Laws of writing over a list: stores in a row, and what is written after or before what was written. Assumes nothing.
use mathlib.Core.Path.{◌≡◌, ◌∙◌}
use mathlib.Core.List.{List, [], ◌∷◌, ◌++◌, append_assoc}
use Prim.Native.Nat.{ℕ, ◌+◌, ◌-◌, ◌≤◌, ◌<◌}
use native.Mathlib.Nat.{add_assoc, add-zero, zero-add}
use native.Mathlib.Numerals.{add-one}
use native.Mathlib.Decide.{ℕ_discrete}
use native.Mathlib.Omega.{arith}
use lib.ListN.{length, get_or, set, take, drop, length-append, length-take, length-drop, take-append-drop}
use lib.Seq.{length-take-le, take-suc, take_at, take-append-le, take-take, drop_at, drop-drop, sets, sets-eq, get_or-set_same, get_or-set_other}
use Rattle.slices.specs.Text.{written, WrittenAt}

pub written_none : (s : List ℕ) (at : ℕ) → s ≡ written s at []
unfolding written
written_none s at = rw (add-zero, take-append-drop)

-- at the front
pub written_front : (s v : List ℕ) → written s 0 v ≡ v ++ drop (length v) s
unfolding written
written_front s v = rw zero-add

-- stores from a position on
pub written_sets : (s : List ℕ) (at : ℕ) (v : List ℕ) → at + length v ≤ length s → sets s at v ≡ written s at v
unfolding written
written_sets s at v h = sets-eq v s at h ∙ append_assoc (take at s) v (drop (at + length v) s)

module _ (s : List ℕ) (at : ℕ) (h : at ≤ length s) where
  head_length : (v : List ℕ) → length (take at s ++ v) ≡ at + length v
  head_length v = rw (length-append, length-take-le at s h)

  written_more : (v w : List ℕ) → written (written s at v) (at + length v) w ≡ written s at (v ++ w)
  unfolding written
  written_more v w =
      let q = drop (at + length v) s in
      let e = head_length v in
      rw (← append_assoc (take at s) v q, take_at, ← drop-drop (length w) (at + length v) (take at s ++ v ++ q), drop_at, drop-drop)
      (simp (append_assoc, length-append, add_assoc))

  module _ {s' s'' : List ℕ} where
    -- s with v written is s', and s' with w written after that is s''
    pub written_then : (v w : List ℕ) (p : ℕ) → at + length v ≡ p → s' ≡ written s at v → s'' ≡ written s' p w → s'' ≡ written s at (v ++ w)
    written_then v w p q e f = f ∙ rw (e, ← q) (written_more v w)

  -- a turn of a loop that copies a list
  module _ (xs : List ℕ) (i : ℕ) (l : i < length xs) where
    pub front_length : length (take i xs) ≡ i
    front_length = length-take-le i xs (omega arith)

    pub copied_on : {s' : List ℕ} → s' ≡ written s at (take i xs) → at + i < length s' → set s' (at + i) (get_or xs i 0) ≡ written s at (take (i + 1) xs)
    copied_on {s'} e b =
        rw (add-one, take-suc xs i 0 l)
        (written_then (take i xs) (get_or xs i 0 ∷ []) (at + i) (rw front_length) e (written_sets s' (at + i) (get_or xs i 0 ∷ []) (omega arith)))

-- ---- bytes written into a text, from its end on: none
pub written_at_none : (s : List ℕ) (end : ℕ) → WrittenAt s s end end []
written_at_none s end = record { ends = add-zero end; text = written_none s end }

-- a byte that ends at a position
pub written_at_byte : (s : List ℕ) (end b : ℕ) → 1 ≤ end → end ≤ length s → WrittenAt s (set s (end - 1) b) (end - 1) end (b ∷ [])
written_at_byte s end b l h = record { ends = omega arith; text = written_sets s (end - 1) (b ∷ []) (omega arith) }

-- what is written before what was written
written_before : (s : List ℕ) (p at : ℕ) (v w : List ℕ) → at ≤ length s → p + length w ≡ at → written (written s at v) p w ≡ written s p (w ++ v)
unfolding written
written_before s p at v w h e =
    let q = v ++ drop (at + length v) s in
    let l = length-take-le at s h in
    let k : p ≤ length (take at s) = omega arith in
    rw (e, drop_at (take at s) q at l, take-append-le p (take at s) q k, take-take p at s (omega arith), length-append, ← add_assoc p (length w) (length v), e)
    (simp append_assoc)

-- what is written so that it ends where what was written begins
pub written_at_before : {a b c : List ℕ} {p s e : ℕ} {v w : List ℕ} → e ≤ length a → WrittenAt a b s e v → WrittenAt b c p s w → WrittenAt a c p e (w ++ v)
written_at_before {a} {b} {c} {p} {s} {e} {v} {w} h x y =
    record {
      ends = rw length-append (omega arith);
      text = y.text ∙ rw x.text (written_before a p s v w (omega arith) y.ends);
    }

-- where it begins follows from where it ends
pub written_at_from : {a b : List ℕ} {s e : ℕ} {v : List ℕ} (t : ℕ) → t + length v ≡ e → WrittenAt a b s e v → WrittenAt a b t e v
written_at_from {a} {b} {s} {e} {v} t q x = let h : s ≡ t = omega arith in rw h at x

-- what is written after what was written
pub written_at_after : {a b c : List ℕ} {s p e : ℕ} {v w : List ℕ} → s ≤ length a → WrittenAt a b s p v → WrittenAt b c p e w → WrittenAt a c s e (v ++ w)
written_at_after {a} {b} {c} {s} {p} {e} {v} {w} h x y =
    record { ends = rw length-append (omega arith); text = written_then a s h v w p x.ends x.text y.text }

-- up to the end of what was written: what was before it, and then what was written
pub written_at_front : {a b : List ℕ} {s e : ℕ} {v : List ℕ} → s ≤ length a → WrittenAt a b s e v → take e b ≡ take s a ++ v
unfolding written
written_at_front {a} {b} {s} {e} {v} h x = rw (x.text, ← append_assoc (take s a) v _) (take_at (take s a ++ v) _ e (head_length a s h v ∙ x.ends))

-- a text keeps its length
pub written_at_length : {a b : List ℕ} {s e : ℕ} {v : List ℕ} → e ≤ length a → WrittenAt a b s e v → length b ≡ length a
unfolding written
written_at_length {a} {b} {s} {e} {v} h x = rw x.text (simp (length-append, length-take, length-drop) (omega arith))

-- ---- what is known of an element after a write
pub after_set : (P : ℕ → Type 0) (l : List ℕ) (i a j : ℕ) → i < length l → (j ≡ i → P a) → ((j ≡ i → ⊥) → P (get_or l j 0)) → P (get_or (set l i a) j 0)
after_set P l i a j lt here there = go (ℕ_discrete j i)
  where
    go : Dec (j ≡ i) → P (get_or (set l i a) j 0)
    go (yes e) = rw (e, get_or-set_same l i a 0 lt) (here e)
    go (no n) = rw (get_or-set_other l i j a 0 n) (there n)
