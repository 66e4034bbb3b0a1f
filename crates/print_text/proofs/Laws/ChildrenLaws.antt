-- The walk over a combinator's children, from the last one back to the first, and how long a rule's text is at most. Assumes nothing.
use mathlib.Core.Path.{◌≡◌, refl, sym, ap, ◌∙◌}
use mathlib.Core.Bool.{Bool, true, false}
use mathlib.Core.List.{List, [], ◌++◌, append_assoc, append-nil}
use Prim.Native.Nat.{ℕ, suc, ◌+◌, ◌-◌, ◌*◌, ◌≤◌, ◌<◌}
use native.Mathlib.Omega.{arith}
use lib.Dec.{eqb}
use lib.ListN.{length, length-append}
use borrow.Author.Tests.{eq-eqb, ne_eqb}
use Rattle.rules.specs.Rule.{Join, Rule, leaf, node, Rules, nil, more, size, sizes}
use Rattle.image.specs.Inner.Leaves.{is_leaf}
use Rattle.image.specs.Encode.{join_kind}
use Rattle.image.specs.Decode.{Node, node_at, meaning, cell_at}
use Rattle.image.proofs.Laws.FitLaws.{cell_size}
use Rattle.image.proofs.Laws.EncodeLaws.{size_pos}
use Rattle.image.specs.Inner.EncodedAt.{EncodedAt, EncodedAllAt}
use Rattle.image.proofs.Laws.EncodedAtLaws.{root_size}
use Rattle.image.proofs.Laws.KindLaws.{says, no_leaf, leaf_no_join}
use Rattle.image.proofs.Laws.CellLaws.{cell_what}
use Rattle.print_text.specs.Print.{child_text, text_of, children_text}
use Rattle.print_text.specs.Inner.Pieces.{leaf_text_of, leaf_in, opening_of, front_of, back_of}
use Rattle.print_text.proofs.Laws.PiecesLaws.{root_of, kind_of, root_what, kind_of_lem, opening_of_lem, child_of, child_short, opening_short, leaf_short}

-- the text of the first children of a combinator; the last of these is the combinator's last child, or is not
unfoldable pub up_to : Rules → Join → Bool → List ℕ
unfolding text_of
up_to nil j last = []
up_to (more rs r) j last = children_text rs j ++ child_text j r (text_of r) last

up_to_lem : (rs : Rules) (j : Join) → children_text rs j ≡ up_to rs j false
unfolding text_of up_to
up_to_lem nil j = refl
up_to_lem (more rs r) j = refl

-- the last of these, taken apart by its kind and the combinator's
up_next : {kind child : ℕ} {b : Bool} (o : List ℕ) (rs : Rules) (q : Rule) (j : Join) (last : Bool) (t : List ℕ) →
    kind ≡ join_kind j → child ≡ kind_of q → b ≡ false →
    o ++ (up_to (more rs q) j last ++ t) ≡ o ++ (up_to rs j b ++ (front_of kind child ++ (text_of q ++ (back_of kind child last ++ t))))
unfolding up_to
up_next o rs q j last t x y z = rw (x, y, z, ← up_to_lem rs j, child_of j q (text_of q) last) (simp append_assoc)

module _ (s : List ℕ) (n : ℕ) where
  -- ρ has the k nodes from `from` on, and its root this kind and argument: the walk over its children has come to `end`, where the first
  -- ones, `rest`, are left, and has passed a part of its text
  pub record TextWalk (kind arg from k end : ℕ) (ρ : Rule) (rest : Rules) (passed : List ℕ) : Type 0 where
    pub join : Join
    pub kinded : kind ≡ join_kind join
    pub standing : EncodedAllAt rest (cell_at s n) from
    pub ends : from + sizes rest ≡ end
    pub text : text_of ρ ≡ opening_of kind arg ++ (up_to rest join (eqb end (from + k - 1)) ++ passed)

  -- so for whatever rule has these nodes, and P holds of what was passed
  abbrev pub TextWalks : ℕ → ℕ → ℕ → ℕ → ℕ → (List ℕ → Type 0) → Type 0
  TextWalks kind arg from k end P =
      (ρ : Rule) → size ρ ≡ k → EncodedAt ρ (cell_at s n) from → (rest : Rules) × (passed : List ℕ) × TextWalk kind arg from k end ρ rest passed × P passed

  -- ---- the last of k nodes from `from` on was read as d
  module _ (from k i : ℕ) {d : Node} (read : d ≡ node_at s n i) (last : from + k ≡ suc i) where
    root : (ρ : Rule) → size ρ ≡ k → EncodedAt ρ (cell_at s n) from → meaning s n d.kind d.arg ≡ root_of ρ
    root ρ e st = cell_what s n i read ∙ root_what ρ (cell_at s n) from i (omega arith) st

    -- a leaf has no children
    pub leaf_text_lem : is_leaf d.kind ≡ true → (ρ : Rule) → size ρ ≡ k → EncodedAt ρ (cell_at s n) from → leaf_in s n d.kind d.arg ≡ text_of ρ
    unfolding leaf_text_of text_of
    leaf_text_lem low (leaf l) e st = ap leaf_text_of (root (leaf l) e st)
    leaf_text_lem low (node j rs r) e st = absurd (leaf_no_join s n d.kind d.arg low j (root (node j rs r) e st))

    -- no child is passed yet
    pub walks_start : {P : List ℕ → Type 0} → is_leaf d.kind ≡ false → P [] → TextWalks d.kind d.arg from k i P
    unfolding size EncodedAt text_of up_to
    walks_start high p (leaf l) e st = absurd (no_leaf s n d.kind d.arg high l (root (leaf l) e st))
    walks_start high p (node j rs r) e st =
        let (x, y) = rw (root (node j rs r) e st) at (says s n d.kind d.arg) in (
          more rs r,
          [],
          record {
            join = j;
            kinded = x;
            standing = (st.0, st.1);
            ends = omega arith;
            text = rw (x, y, opening_of_lem j, eq-eqb i (from + k - 1) (omega arith), append-nil);
          },
          p,
        )

  -- the child before `end`, whose root was read as d, is the next to be passed
  pub record Turn (kind arg from k end : ℕ) (P : List ℕ → Type 0) (ρ : Rule) (d : Node) : Type 0 where
    pub child : Rule
    pub sized : size child ≡ d.size
    pub stands : EncodedAt child (cell_at s n) (end - d.size)
    pub some : 0 < d.size
    pub fits : d.size + from ≤ end
    pub passed : List ℕ
    pub holds : P passed
    pub before : Rules
    pub next : TextWalk kind arg from k (end - d.size) ρ before
        (front_of kind d.kind ++ (text_of child ++ (back_of kind d.kind (eqb end (from + k - 1)) ++ passed)))

  -- what surrounds it and what was passed fit into the text
  pub turn_room : {kind arg from k end : ℕ} {P : List ℕ → Type 0} {ρ : Rule} {d : Node} (t : Turn kind arg from k end P ρ d) →
      length (opening_of kind arg)
      + (length (front_of kind d.kind) + (length (text_of t.child) + (length (back_of kind d.kind (eqb end (from + k - 1))) + length t.passed)))
      ≤ length (text_of ρ)
  turn_room t = omega (arith, simp length-append at (ap length t.next.text))

  -- ---- the walk has come to `end`
  module _ {kind arg : ℕ} (from k end : ℕ) {P : List ℕ → Type 0} (ws : TextWalks kind arg from k end P) where
    module _ (le : end ≤ from + k - 1) (lt : from < end) {d : Node} (read : d ≡ node_at s n (end - 1)) where
      turn_of : (ρ : Rule) (rest : Rules) (passed : List ℕ) → TextWalk kind arg from k end ρ rest passed → P passed → Turn kind arg from k end P ρ d
      unfolding size EncodedAt
      turn_of ρ nil passed w h = absurd (omega (arith, w.ends))
      turn_of ρ (more rest q) passed w h =
          let ends = w.ends in
          let j = w.join in
          let here = from + sizes rest in
          let pos = size_pos q in
          let e : here + size q - 1 ≡ end - 1 = omega arith in
          let z : size q ≡ d.size = sym (rw e at (root_size q (cell_at s n) here w.standing.1)) ∙ sym (cell_size s n _ read) in
          let p : here ≡ end - d.size = omega arith in
          let x : d.kind ≡ kind_of q = kind_of_lem s n d.kind d.arg q (root here (size q) (end - 1) read (omega arith) q refl w.standing.1) in
          record {
            child = q;
            sized = z;
            stands = rw p at w.standing.1;
            some = omega arith;
            fits = omega arith;
            passed = passed;
            holds = h;
            before = rest;
            next = record {
              join = j;
              kinded = w.kinded;
              standing = w.standing.0;
              ends = p;
              text = w.text
                  ∙ up_next (opening_of kind arg) rest q j (eqb end (from + k - 1)) passed w.kinded x
                  (ne_eqb (end - d.size) (from + k - 1) (λ f. omega arith));
            };
          }

      pub turn : (ρ : Rule) → size ρ ≡ k → EncodedAt ρ (cell_at s n) from → Turn kind arg from k end P ρ d
      turn ρ e st = let (rest, passed, w, h) = ws ρ e st in turn_of ρ rest passed w h

      -- one child more is passed
      pub walks_next : {P' : List ℕ → Type 0} →
          ((q : Rule) (t : List ℕ) → size q ≡ d.size → EncodedAt q (cell_at s n) (end - d.size) → P t →
          P' (front_of kind d.kind ++ (text_of q ++ (back_of kind d.kind (eqb end (from + k - 1)) ++ t)))) →
          TextWalks kind arg from k (end - d.size) P'
      walks_next f ρ e st = let t = turn ρ e st in (t.before, _, t.next, f t.child t.passed t.sized t.stands t.holds)

    done_of : (ρ : Rule) (rest : Rules) {passed : List ℕ} → end ≤ from → TextWalk kind arg from k end ρ rest passed → text_of ρ ≡ opening_of kind arg ++ passed
    unfolding size up_to
    done_of ρ nil le w = w.text
    done_of ρ (more rest q) le w = absurd (omega (arith, w.ends, size_pos q))

    -- all are passed
    pub walks_done : end ≤ from → (ρ : Rule) → size ρ ≡ k → EncodedAt ρ (cell_at s n) from → (t : List ℕ) × (text_of ρ ≡ opening_of kind arg ++ t) × P t
    walks_done le ρ e st = let (rest, passed, w, h) = ws ρ e st in (passed, done_of ρ rest le w, h)

  -- ---- at most 65,600 bytes a node, and 6 of them around the text
  mutual
    unfolding size EncodedAt text_of cell_at leaf_text_of

    pub text_short : (r : Rule) (from : ℕ) → EncodedAt r (cell_at s n) from → length (text_of r) + 6 ≤ 65_600 * size r
    text_short (leaf l) from st = omega (arith, rw st.0 at (leaf_short s n (node_at s n from).kind (node_at s n from).arg))
    text_short (node j rs r) from st =
        rw (length-append, length-append)
        (omega (arith, opening_short j, children_short rs from st.0 j, child_short j r (text_of r) true, text_short r (from + sizes rs) st.1))

    children_short : (rs : Rules) (from : ℕ) → EncodedAllAt rs (cell_at s n) from → (j : Join) → length (children_text rs j) ≤ 65_600 * sizes rs
    children_short nil from st j = omega arith
    children_short (more rs r) from st j =
        rw length-append
        (omega (arith, children_short rs from st.0 j, child_short j r (text_of r) false, text_short r (from + sizes rs) st.1))
