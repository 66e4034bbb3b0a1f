-- Laws of stores that are added one after another, and of the table that they make. Assumes nothing.
use mathlib.Core.Path.{◌≡◌, refl, ap, ◌∙◌}
use mathlib.Core.List.{List, [], ◌∷◌, ◌++◌, append-nil, append_assoc, map-append}
use Prim.Native.Nat.{ℕ, suc, ◌+◌, ◌*◌, ◌≤◌, ◌<◌}
use native.Mathlib.Numerals.{add-one}
use native.Mathlib.Omega.{arith}
use lib.ListN.{length, take, set, length-append}
use lib.Seq.{take-suc-set, append_snoc}
use Rattle.std.specs.Prelude.{Result, Ok, Err}
use Rattle.slices.specs.Text.{written, WrittenAt}
use Rattle.slices.proofs.Laws.WrittenLaws.{written_at_front, written_at_after}
use Rattle.little_endian.specs.Bytes.{le_bytes}
use Rattle.store_table.specs.Stores.{modes_start, Entry}
use Rattle.store_table.specs.Inner.Bounds.{count_start, total_start}
use Rattle.store_table.specs.TableBytes.{modes, lengths, joined, table_of}
use Rattle.store_table.proofs.Laws.TableBytesLaws.{length_joined, sum_few}
use Rattle.store_args.specs.Arguments.{arguments_in, given_by, before, stores_from, stores_in}
use Rattle.store_args.proofs.Laws.ArgumentsLaws.{given_fits, stores_fit, stores_many}
use Rattle.store_args.specs.Inner.Filling.{entry, TableAt}
use Rattle.store_args.specs.declared.Fault.{Fault}
use Rattle.store_args.specs.declared.WrongArgument.{WrongArgument}
use Rattle.store_args.specs.declared.Store.{Store}
use Rattle.args_table.specs.Inner.Stores.{Hold, Room, Written}
use Rattle.args_table.specs.declared.Stores.{Stores}

-- ---- one store more
joined_one : (es : List Entry) (e : Entry) → joined (es ++ (e ∷ [])) ≡ joined es ++ e.name
unfolding joined
joined_one [] e = append-nil e.name
joined_one (x ∷ es) e = rw (joined_one es e, append_assoc)

pub hold_none : (s : Stores) → s.count ≡ 0 → s.end ≡ 0 → Hold [] s
unfolding modes lengths joined
hold_none s c e = record { many = c; modes = rw c; lengths = rw c; names = rw e; ends = e }

pub hold_on : {s : Stores} {end : ℕ} {names : List ℕ} (e : Entry) → s.count < length s.modes → s.count < length s.lengths → s.end ≤ length s.names →
    WrittenAt s.names names s.end end e.name → (es : List Entry) → Hold es s →
    Hold (es ++ (e ∷ [])) (record { count = s.count + 1; modes = set s.modes s.count e.mode; lengths = set s.lengths s.count (length e.name); end = end; names = names })
unfolding modes lengths
hold_on {s} e m l r n es h =
    record {
      many = rw length-append (omega (arith, h.many));
      modes = rw (add-one, take-suc-set s.modes s.count e.mode m, h.modes, map-append);
      lengths = rw (add-one, take-suc-set s.lengths s.count (length e.name) l, h.lengths, map-append);
      names = written_at_front r n ∙ rw (h.names, joined_one);
      ends = rw (joined_one, length-append) (omega (arith, n.ends, h.ends));
    }

-- ---- stores after those that are there
abbrev behind : List Entry → Result (List Entry) WrongArgument → Result (List Entry) WrongArgument
behind es (Ok fs) = Ok (es ++ fs)
behind es (Err w) = Err w

behind_none : (r : Result (List Entry) WrongArgument) → r ≡ behind [] r
behind_none (Ok fs) = refl
behind_none (Err w) = refl

behind_one : (es : List Entry) (e : Entry) (i : ℕ) (r : Result (List Entry) WrongArgument) → behind es (before (Ok e) i r) ≡ behind (es ++ (e ∷ [])) r
behind_one es e i (Ok fs) = rw append_snoc
behind_one es e i (Err w) = refl

-- ---- the stores of the arguments that were read; `left` are those to come
pub record Filling (args : List ℕ) (left : List (List ℕ)) (s : Stores) : Type 0 where
  pub es : List Entry
  pub hold : Hold es s
  pub short : s.end ≤ 255 * s.count
  pub few : s.count + length left ≡ length (arguments_in args)
  pub rest : stores_in args ≡ behind es (stores_from (suc s.count) left)

pub fill_start : (args : List ℕ) {s : Stores} → Hold [] s → Filling args (arguments_in args) s
unfolding stores_in joined
fill_start args {s} h =
    let z : s.count ≡ 0 = h.many in
    record {
      es = [];
      hold = h;
      short = omega (arith, h.ends);
      few = omega arith;
      rest = rw z (behind_none (stores_from 1 (arguments_in args)));
    }

pub fill_end : {args : List ℕ} {left : List (List ℕ)} {s : Stores} (f : Filling args left s) → left ≡ [] → (es : List Entry) × ((stores_in args ≡ Ok es) × Hold es s)
unfolding stores_from
fill_end f e = (f.es, (f.rest ∙ rw (e, append-nil), f.hold))

module _ {args : List ℕ} {left ws : List (List ℕ)} {w : List ℕ} {s : Stores} (f : Filling args left s) (e : left ≡ w ∷ ws) where
  pub fill_bad : {x : Fault} → given_by w ≡ Err x → stores_in args ≡ Err (record { index = s.count + 1; fault = x })
  unfolding stores_from
  fill_bad q = f.rest ∙ rw (e, q, add-one)

  -- there is room for a store more, whatever the argument is
  pub room_left : length (arguments_in args) ≤ 64 → (s.count < 64) × (s.end + 255 ≤ 16_320)
  room_left l = let more = ap length e in omega (arith, f.few, f.short)

  module _ (g : Store) (q : given_by w ≡ Ok (entry g)) where
    pub fill_room : length (arguments_in args) ≤ 64 → Room s (length g.name.now)
    fill_room l =
        let r = room_left l in
        let n = (given_fits w (entry g) q).short in
        record { few = r.0; short = n; names = omega arith }

    pub fill_on : {t : Stores} → ((es : List Entry) → Hold es s → Hold (es ++ (entry g ∷ [])) t) → Filling args ws t
    unfolding stores_from
    fill_on {t} p =
        let h = p f.es f.hold in
        let n = (given_fits w (entry g) q).short in
        let c : t.count ≡ s.count + 1 = h.many ∙ rw length-append (omega (arith, f.hold.many)) in
        let more = ap length e in
        let m : t.end ≡ s.end + length g.name.now = h.ends ∙ rw (joined_one, length-append) (omega (arith, f.hold.ends)) in
        record {
          es = f.es ++ (entry g ∷ []);
          hold = h;
          short = omega (arith, f.short);
          few = omega (arith, f.few);
          rest = f.rest ∙ rw (e, q, behind_one, c, add-one);
        }

-- ---- the table
-- the five parts of the table
parts : {es : List Entry} {s : Stores} → Hold es s →
    le_bytes 2 s.count ++ le_bytes 2 s.end ++ take s.count s.modes ++ take s.count s.lengths ++ take s.end s.names ≡ table_of es
unfolding table_of
parts {es} h = rw (h.modes, h.lengths, h.names, h.many, h.ends, length_joined, append_assoc (modes es) (lengths es) (joined es))

-- the parts follow one another
pub written_parts : (s : Stores) (t : List ℕ) {m l n : ℕ} {t₁ t₂ t₃ t₄ t₅ : List ℕ} →
    t₁ ≡ written t count_start (le_bytes 2 s.count) → t₂ ≡ written t₁ total_start (le_bytes 2 s.end) →
    WrittenAt t₂ t₃ modes_start m (take s.count s.modes) → WrittenAt t₃ t₄ m l (take s.count s.lengths) →
    WrittenAt t₄ t₅ l n (take s.end s.names) → n ≤ length t₅ → Written s t₅ n
unfolding le_bytes
written_parts s t {t₁} {t₂} e₁ e₂ p₃ p₄ p₅ h =
    let p₁ : WrittenAt t t₁ count_start total_start (le_bytes 2 s.count) = record { ends = refl; text = e₁ } in
    let p₂ : WrittenAt t₁ t₂ total_start modes_start (le_bytes 2 s.end) = record { ends = refl; text = e₂ } in
    let z : count_start ≤ length t = omega arith in
    record {
      within = h;
      bytes = written_at_front z (written_at_after z (written_at_after z (written_at_after z (written_at_after z p₁ p₂) p₃) p₄) p₅);
    }

-- a table and the arrays have room for 64 stores
pub made_room : (args : List ℕ) {s : Stores} → (es : List Entry) × ((stores_in args ≡ Ok es) × Hold es s) → length (arguments_in args) ≤ 64 →
    (s.count ≤ 64) × (s.end ≤ 16_320)
made_room args (es, (q, h)) l = omega (arith, h.many, h.ends, stores_many args es q, length_joined es, sum_few es (stores_fit args es q))

pub table_at : (args : List ℕ) {s : Stores} {t : List ℕ} {n : ℕ} → (es : List Entry) × ((stores_in args ≡ Ok es) × Hold es s) → Written s t n → TableAt (stores_in args) t n
table_at args (es, (q, h)) w = record { es = es; are = q; within = w.within; bytes = w.bytes ∙ parts h }
