-- Laws of bytes as they are shown, and the line of a place. Assumes nothing.
use mathlib.Core.Path.{◌≡◌, refl, ap, ◌∙◌}
use mathlib.Core.List.{List, [], ◌∷◌}
use Prim.Native.Nat.{ℕ, zero, suc, ◌+◌, ◌-◌, ◌≤◌, ◌<◌}
use native.Mathlib.Nat.{le_of_suc-le-suc, not-suc-le-zero}
use native.Mathlib.Omega.{arith}
use lib.ListN.{length, take, drop, get_or, replicate, length-drop, length-replicate}
use lib.Seq.{length-take-le, drop-drop}
use borrow.Rule.Slice.PartMut.{put_mid}
use Rattle.ascii.specs.Letters.{within}
use Rattle.slices.specs.Text.{part, other, written, WrittenAt}
use Rattle.slices.proofs.Laws.TextLaws.{end_within, part_length}
use Rattle.slices.proofs.Laws.SearchLaws.{last_le}
use Rattle.lines.specs.Lines.{shown, shown_all, line_start, line_stop}

-- what is written over a part of a slice
pub written_over : (s ys : List ℕ) (at end : ℕ) → at + length ys ≡ end → end ≤ length s → WrittenAt s (put_mid at (end - at) s ys) at end ys
unfolding written
written_over s ys at end e h =
    let k : end - at ≡ length ys = omega arith in
    record { ends = e; text = rw (k, drop-drop) }

-- blanks over a part
pub blanks_over : (s ys : List ℕ) (at n : ℕ) → at + n ≤ length s → ys ≡ replicate (length (take (at + n - at) (drop at s))) 32 →
    WrittenAt s (put_mid at (at + n - at) s ys) at (at + n) (replicate n 32)
blanks_over s ys at n room e =
    let long : length (take (at + n - at) (drop at s)) ≡ n =
    let m : at + n - at ≡ n = omega arith in
    rw m (length-take-le n (drop at s) (rw length-drop (omega arith))) in
    let blanks : ys ≡ replicate n 32 = e ∙ ap (λ m. replicate m 32) long in
    rw (← blanks) (written_over s ys at (at + n) (omega (arith, ap length blanks, length-replicate {A = ℕ} n 32)) room)

-- bytes are shown one by one
pub shown_length : (s : List ℕ) → length (shown_all s) ≡ length s
unfolding shown_all
shown_length [] = refl
shown_length (b ∷ s) = ap suc (shown_length s)

pub shown_at : (s : List ℕ) (i : ℕ) → i < length s → get_or (shown_all s) i 0 ≡ shown (get_or s i 0)
unfolding shown_all
shown_at [] i h = absurd (not-suc-le-zero h)
shown_at (b ∷ s) zero h = refl
shown_at (b ∷ s) (suc i) h = shown_at s i (le_of_suc-le-suc h)

-- the line of a place: the place is in it, and it is in the text
pub record LineOf (s : List ℕ) (place start stop : ℕ) : Type 0 where
  pub from : start ≤ place
  pub to : (place ≤ stop) × (stop ≤ length s)
  pub long : length (take (stop - start) (drop start s)) ≡ stop - start
  pub shown_long : length (shown_all (take (stop - start) (drop start s))) ≡ stop - start

pub line_of : {s : List ℕ} {place start stop : ℕ} → place ≤ length s → start ≡ line_start s place → stop ≡ line_stop s place → LineOf s place start stop
unfolding part
line_of {s} {place} {start} {stop} h p q =
    let from : start ≤ place = omega (arith, last_le (within 10 10) s place) in
    let to = end_within (other 10) s place h q in
    let long = part_length s start stop (omega arith) to.1 in
    record { from = from; to = to; long = long; shown_long = shown_length _ ∙ long }
