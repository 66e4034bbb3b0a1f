-- Writing a rule's text from its end to its beginning: the room that a child's pieces have. Assumes nothing.
use mathlib.Core.Path.{◌≡◌, sym, ◌∙◌}
use mathlib.Core.List.{List}
use Prim.Native.Nat.{ℕ, ◌+◌, ◌-◌, ◌≤◌}
use native.Mathlib.Omega.{arith}
use lib.Dec.{eqb}
use lib.ListN.{length}
use Rattle.slices.specs.Text.{WrittenAt}
use Rattle.slices.proofs.Laws.WrittenLaws.{written_at_length}
use Rattle.rules.specs.Rule.{Rule, size}
use Rattle.image.specs.Decode.{Node, cell_at}
use Rattle.image.specs.Inner.EncodedAt.{EncodedAt}
use Rattle.image.proofs.Laws.EncodedAtLaws.{one_rule}
use Rattle.print_text.specs.Print.{text_of}
use Rattle.print_text.specs.Inner.Pieces.{front_of, back_of}
use Rattle.print_text.proofs.Laws.ChildrenLaws.{Turn, turn_room}

-- bytes that are written begin inside the text
pub put_start : {a b v : List ℕ} {to end : ℕ} → end ≤ length a → WrittenAt a b to end v → to ≤ length b
put_start long x = omega (arith, written_at_length long x, x.ends)

-- of a rule whose text has room before `end`, a part is written from `to` on, and a child is the next to be written
module _ {s : List ℕ} {n kind arg from k stop : ℕ} {a b : List ℕ} {to end : ℕ} {ρ : Rule} {d : Node}
    (fits : length (text_of ρ) ≤ end) (u : Turn s n kind arg from k stop (λ t. WrittenAt a b to end t) ρ d) where
  -- its pieces have room before `to`
  pub pieces_room : length (front_of kind d.kind) + (length (text_of u.child) + length (back_of kind d.kind (eqb stop (from + k - 1)))) ≤ to
  pieces_room = omega (arith, turn_room s n u, u.holds.ends)

  -- and so has its text, once what comes after it is written
  pub child_room : {p : ℕ} → p + length (back_of kind d.kind (eqb stop (from + k - 1))) ≡ to → (r : Rule) → size r ≡ d.size →
      EncodedAt r (cell_at s n) (stop - d.size) → length (text_of r) ≤ p
  child_room e r z st = rw (one_rule r u.child (cell_at s n) (stop - d.size) (z ∙ sym u.sized) st u.stands) (omega (arith, pieces_room))
