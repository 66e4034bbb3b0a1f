-- What a pass means, by how many stores there are. Assumes nothing.
use mathlib.Core.Path.{◌≡◌, refl}
use mathlib.Core.List.{List, [], ◌∷◌, ◌++◌}
use Prim.Native.Nat.{ℕ, ◌≤◌}
use native.Mathlib.Omega.{arith}
use lib.ListN.{length}
use Rattle.slices.specs.Text.{bytes}
use Rattle.lines.specs.Lines.{line_end}
use Rattle.store_table.specs.Stores.{Entry}
use Rattle.page_text.specs.Report.{pass_line}

-- without stores
abbrev pub unchecked : List ℕ
unchecked = bytes "the rule reads; no stores are given to check it against" ++ line_end

pub pass_none : (es : List Entry) → length es ≡ 0 → unchecked ≡ pass_line es
pass_none [] h = refl
pass_none (e ∷ es) h = absurd (omega arith)

-- with some
abbrev pub checked : List ℕ
checked = bytes "at any age, the rule says evict only if a readable store has confirmed" ++ line_end

pub pass_some : (es : List Entry) → 1 ≤ length es → checked ≡ pass_line es
pass_some [] h = absurd (omega arith)
pass_some (e ∷ es) h = refl
