-- The names of the nodes in the buffer that a text was read into. Assumes nothing.
use mathlib.Core.Path.{◌≡◌, refl, sym, ap, ◌∙◌}
use mathlib.Core.List.{List, [], ◌∷◌, ◌++◌}
use Prim.Native.Nat.{ℕ, zero, suc, ◌+◌, ◌≤◌, ◌<◌}
use native.Mathlib.Nat.{zero-add, suc-add, add-zero, add_assoc}
use native.Mathlib.Omega.{arith}
use lib.ListN.{length, take, get_or}
use Rattle.rules.specs.Rule.{named, older_than, readable, Rule, leaf, node, Rules, nil, more, size, sizes}
use Rattle.image.specs.Kinds.{named_kind}
use Rattle.image.specs.Layout.{node_count_in, name_of}
use Rattle.image.specs.Decode.{Node, node_at, Meaning, leaf_meaning, join_meaning, nothing, meaning, Cell, cell_at}
use Rattle.image.specs.Inner.EncodedAt.{EncodedAt, EncodedAllAt}
use Rattle.grammar.specs.Reading.{read_of}
use Rattle.grammar.proofs.Laws.FitsLaws.{read_decodes, read_length}
use Rattle.image.proofs.Laws.InsideLaws.{Whole, decode_whole}
use Rattle.image.proofs.Laws.KindLaws.{no_name}
use Rattle.image.proofs.Laws.CellLaws.{cell_what}
use Rattle.page_text.specs.Report.{node_names, node_names_all, node_name}
use Rattle.read.proofs.Laws.FoundLaws.{Found}

-- ---- the name of a cell; what is no name has none
abbrev pub name_in : Meaning → List ℕ
name_in (leaf_meaning (named w)) = w
name_in (leaf_meaning (older_than d)) = []
name_in (leaf_meaning (readable k)) = []
name_in (join_meaning j) = []
name_in nothing = []

not_named : (m : Meaning) → ((w : List ℕ) → m ≡ leaf_meaning (named w) → ⊥) → name_in m ≡ []
not_named (leaf_meaning (named w)) h = absurd (h w refl)
not_named (leaf_meaning (older_than d)) h = refl
not_named (leaf_meaning (readable k)) h = refl
not_named (join_meaning j) h = refl
not_named nothing h = refl

pub unnamed : (s : List ℕ) (n k a : ℕ) → (k ≡ named_kind → ⊥) → name_in (meaning s n k a) ≡ []
unnamed s n k a h = not_named (meaning s n k a) (no_name s n k a h)

-- ---- a rule's names, node by node, are those of its cells

-- the names of k cells, from cell s on
unfoldable cell_names : (ℕ → Cell) → ℕ → ℕ → List (List ℕ)
cell_names f s zero = []
cell_names f s (suc k) = name_in (f s).what ∷ cell_names f (suc s) k

cells_more : (f : ℕ → Cell) (s a b : ℕ) → cell_names f s (a + b) ≡ cell_names f s a ++ cell_names f (s + a) b
unfolding cell_names
cells_more f s zero b = rw (zero-add, add-zero)
cells_more f s (suc a) b =
    let p : s + suc a ≡ suc s + a = omega arith in
    rw (suc-add, p) (ap (λ (ns : List (List ℕ)). name_in (f s).what ∷ ns) (cells_more f (suc s) a b))

cell_name : (f : ℕ → Cell) (s k i : ℕ) → i < k → get_or (cell_names f s k) i [] ≡ name_in (f (s + i)).what
unfolding cell_names
cell_name f s zero i h = absurd (omega arith)
cell_name f s (suc k) zero h = rw (add-zero)
cell_name f s (suc k) (suc i) h =
    let p : s + suc i ≡ suc s + i = omega arith in
    rw p (cell_name f (suc s) k i (omega arith))

cell_past : (f : ℕ → Cell) (s k i : ℕ) → k ≤ i → get_or (cell_names f s k) i [] ≡ []
unfolding cell_names
cell_past f s zero i h = refl
cell_past f s (suc k) zero h = absurd (omega arith)
cell_past f s (suc k) (suc i) h = cell_past f (suc s) k i (omega arith)

one_cell : (f : ℕ → Cell) (s : ℕ) → cell_names f s 1 ≡ name_in (f s).what ∷ []
unfolding cell_names
one_cell f s = refl

last_cell : (f : ℕ → Cell) (s k : ℕ) → cell_names f s (suc k) ≡ cell_names f s k ++ (name_in (f (s + k)).what ∷ [])
unfolding cell_names
last_cell f s zero = rw add-zero
last_cell f s (suc k) =
    let p : s + suc k ≡ suc s + k = omega arith in
    rw p (ap (λ (ns : List (List ℕ)). name_in (f s).what ∷ ns) (last_cell f (suc s) k))

no_cells : (f : ℕ → Cell) (s : ℕ) → cell_names f s 0 ≡ []
unfolding cell_names
no_cells f s = refl

module _ (f : ℕ → Cell) where
  mutual
    unfolding size EncodedAt node_names

    names_cells : (r : Rule) (s : ℕ) → EncodedAt r f s → node_names r ≡ cell_names f s (size r)
    names_cells (leaf (named w)) s st = rw (one_cell f s, st.0)
    names_cells (leaf (older_than d)) s st = rw (one_cell f s, st.0)
    names_cells (leaf (readable k)) s st = rw (one_cell f s, st.0)
    names_cells (node j rs r) s st =
        rw (
          last_cell f s (sizes rs + size r),
          ← add_assoc,
          st.2,
          cells_more f s (sizes rs) (size r),
          ← names_cells_all rs s st.0,
          ← names_cells r (s + sizes rs) st.1,
        )

    names_cells_all : (rs : Rules) (s : ℕ) → EncodedAllAt rs f s → node_names_all rs ≡ cell_names f s (sizes rs)
    names_cells_all nil s st = rw (no_cells f s)
    names_cells_all (more rs r) s st = rw (cells_more f s (sizes rs) (size r), ← names_cells_all rs s st.0, ← names_cells r (s + sizes rs) st.1)

-- the name of node i of a whole image
module _ (s : List ℕ) {n : ℕ} {r : Rule} (w : Whole s n r) where
  all_cells : node_names r ≡ cell_names (cell_at s n) 0 n
  all_cells = names_cells (cell_at s n) r 0 w.stands ∙ rw w.sized

  pub name_at : (i : ℕ) → i < n → get_or (node_names r) i [] ≡ name_in (cell_at s n i).what
  name_at i lt = rw all_cells (rw zero-add at (cell_name (cell_at s n) 0 n i lt))

  pub past_last : (i : ℕ) → n ≤ i → get_or (node_names r) i [] ≡ []
  past_last i h = rw all_cells (cell_past (cell_at s n) 0 n i h)

-- ---- in the buffer
module _ {text image : List ℕ} {len : ℕ} (g : Found text len image) where
  pub taken_short : length (take len image) ≤ 26_628
  taken_short = rw g.taken (read_length text g.read g.says)

  -- n is the number of nodes that it says
  module _ {n : ℕ} (p : n ≡ node_count_in (take len image)) where
    pub taken_whole : Whole (take len image) n g.read
    taken_whole = decode_whole (take len image) p (rw g.taken (read_decodes text g.read g.says))

    -- past the last node
    pub name_past : {i : ℕ} → n ≤ i → node_name (read_of text) i ≡ []
    name_past {i} h = rw g.says (past_last (take len image) taken_whole i h)

    -- node i, by what was read of it
    module _ {i : ℕ} {d : Node} (e : d ≡ node_at (take len image) n i) (lt : i < n) where
      name_meant : node_name (read_of text) i ≡ name_in (meaning (take len image) n d.kind d.arg)
      name_meant = rw g.says (name_at (take len image) taken_whole i lt) ∙ ap name_in (sym (cell_what (take len image) n i e))

      pub name_here : {w : List ℕ} → d.kind ≡ named_kind → w ≡ name_of (take len image) n d.arg → node_name (read_of text) i ≡ w
      unfolding meaning
      name_here k q = name_meant ∙ rw (k, q)

      pub name_not : (d.kind ≡ named_kind → ⊥) → node_name (read_of text) i ≡ []
      name_not h = name_meant ∙ unnamed (take len image) n d.kind d.arg h
