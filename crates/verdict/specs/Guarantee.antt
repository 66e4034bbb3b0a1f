-- Demand 3: what a verdict says, over the bytes of text, table and list. Each field quotes the demand, or document 01's 'What the
-- reviewer signs for'. Assumes nothing.
use Rattle.std.specs.Prelude.{ℕ, ◌≤◌, ◌≡◌, true, ◌↔◌, ◌⊎◌, length, take, Result, Err, Ok}
use mathlib.Core.List.{List, [], Memᴰ}
use Rattle.std.proofs.Math.Option.{none, some}
use Rattle.refusals.specs.declared.Refusal.{Refusal}
use Rattle.refusals.specs.Refusals.{refusal, number}
use Rattle.refusals.specs.declared.Cause.TheVariants.{BadImage, UnknownStore, Unconfirmed, ArchiveOnly}
use Rattle.rules.specs.Rule.{Rule, names_in}
use Rattle.slices.specs.Text.{AllBytes}
use Rattle.image.specs.Decode.{decode}
use Rattle.grammar.specs.Reading.{rule, refused, read_of}
use Rattle.read.specs.Outcome.{read_into}
use Rattle.store_table.specs.Stores.{Entry, is_table, is_list, count_in, entries_in, is_readable, Distinct, write_only}
use Rattle.evaluate.specs.Evict.{env_of, evict}
use Rattle.decide.specs.Decide.{decision_of, list_names, decide_of}
use Rattle.verdict.specs.Check.{oldest, check_of}
use Rattle.verdict.specs.Verdict.{Verdict}

-- ---- tables, lists and names

-- "any well-made store table with at least one store and no name twice"
pub record Table (s : List ℕ) : Type 0 where
  pub bytes : AllBytes s
  pub made : is_table s ≡ true
  pub stored : 1 ≤ count_in s
  pub distinct : Distinct (entries_in s)

-- a well-made confirmed list
pub record Confirmed (l : List ℕ) : Type 0 where
  pub bytes : AllBytes l
  pub made : is_list l ≡ true

-- a table or a list has an entry of this name
abbrev pub Named : List ℕ → List ℕ → Type 0
Named w s = (e : Entry) × Memᴰ e (entries_in s) × (e.name ≡ w)

-- a list with nothing confirmed
pub record Nothing (l : List ℕ) : Type 0 where
  pub list : Confirmed l
  pub none : (w : List ℕ) → Named w l → ⊥

-- a table has a write-only store of this name
abbrev pub WriteOnly : List ℕ → List ℕ → Type 0
WriteOnly w s = (e : Entry) × Memᴰ e (entries_in s) × (e.mode ≡ write_only) × (e.name ≡ w)

-- a list with "the write-only stores, and no others, confirmed"
pub record JustWriteOnly (s l : List ℕ) : Type 0 where
  pub list : Confirmed l
  pub just : (w : List ℕ) → Named w l ↔ WriteOnly w s

-- ---- rules

-- "names only stores of the table when each of its names is some store's"
abbrev pub Known : Rule → List ℕ → Type 0
Known r s = (w : List ℕ) → Memᴰ w (names_in r) → Named w s

-- "It says evict when the lines under Deciding come out so at its root, for that table, an age and a well-made list"
abbrev pub Evicts : Rule → List ℕ → ℕ → List ℕ → Type 0
Evicts r s age l = evict r (env_of (entries_in s) age (list_names l)) ≡ true

-- "some readable store's name is on that list"
abbrev pub ReadableOn : List ℕ → List ℕ → Type 0
ReadableOn s l = (e : Entry) × Memᴰ e (entries_in s) × (is_readable e.mode ≡ true) × Named e.name l

-- "whatever the age and whatever the confirmed list holds, says evict only when some readable store's name is on that list"
abbrev pub Safe : Rule → List ℕ → Type 0
Safe r s = (age : ℕ) → age ≤ oldest → (l : List ℕ) → Confirmed l → Evicts r s age l → ReadableOn s l

-- ---- the guarantee

-- of a verdict v on what may hold a rule: `Holds r` says that it holds r
pub record Guarantee (Holds : Rule → Type 0) (s : List ℕ) (v : Verdict) : Type 0 where
  -- 1: "pass the text exactly when it reads as a rule which names only stores of the table and which, whatever the age .."
  pub passes : (v ≡ Ok tt) ↔ ((r : Rule) × Holds r × Known r s × Safe r s)
  -- 2: "is passed, or refused with document 01's 21 or 22"
  pub answers : (r : Rule) → Holds r → Known r s → (v ≡ Ok tt) ⊎ (v ≡ Err (refusal Unconfirmed 0)) ⊎ (v ≡ Err (refusal ArchiveOnly 0))
  -- 3: "21 .. exactly when its rule says evict at the largest age with nothing confirmed"
  pub unconfirmed_when : (r : Rule) → Holds r → Known r s → (l : List ℕ) → Nothing l → (v ≡ Err (refusal Unconfirmed 0)) ↔ Evicts r s oldest l
  -- 4: "22 .. exactly when its rule doesn't say evict there, but does at the largest age with the write-only stores, and no
  -- others, confirmed"
  pub archive_only_when : (r : Rule) → Holds r → Known r s → (l k : List ℕ) → Nothing l → JustWriteOnly s k →
      (v ≡ Err (refusal ArchiveOnly 0)) ↔ ((Evicts r s oldest l → ⊥) × Evicts r s oldest k)
  -- 5: "one whose rule has a name that is no store's gets 20"
  pub unknown_name : (r : Rule) → Holds r → (Known r s → ⊥) → (i : ℕ) × (v ≡ Err (refusal UnknownStore i))
  -- there are lists such as 3 and 4 speak of
  pub nothing_list : (l : List ℕ) × Nothing l
  pub write_only_list : (l : List ℕ) × JustWriteOnly s l

-- of check's verdict on an image
pub record Checked (image s : List ℕ) (v : Verdict) : Type 0 where
  pub guarantee : Table s → Guarantee (λ r. decode image ≡ some r) s v
  pub broken : decode image ≡ none → v ≡ Err (refusal BadImage 0)

-- ---- "reading into a buffer of at least 26,628 bytes and then check on the bytes written"

abbrev pub bytes_written : Result ℕ Refusal → List ℕ → List ℕ
bytes_written (Ok size) buffer = take size buffer
bytes_written (Err f) buffer = []

abbrev pub then_check : Result ℕ Refusal → List ℕ → List ℕ → Verdict
then_check (Ok size) buffer s = check_of (take size buffer) s
then_check (Err f) buffer s = Err f

-- of judge's verdict on a text
pub record Judged (text s : List ℕ) (v : Verdict) : Type 0 where
  pub guarantee : Table s → Guarantee (λ r. read_of text ≡ rule r) s v
  -- 5: "A text that doesn't read as a rule gets its number among 2 to 15"
  pub unread : (f : Refusal) → read_of text ≡ refused f → (v ≡ Err f) × (2 ≤ number f.cause) × (number f.cause ≤ 15)
  -- 6: "decide, given the image read from the text, answers the same"
  pub decides : (r : Rule) → read_of text ≡ rule r → is_table s ≡ true → Distinct (entries_in s) → (buffer : List ℕ) → 26_628 ≤ length buffer →
      (age : ℕ) (l : List ℕ) → is_list l ≡ true →
      (let o = read_into text buffer in decide_of (bytes_written o.answer o.image) s age l ≡ decision_of (evict r (env_of (entries_in s) age (list_names l))))
  -- 7: "reading and checking" is judge
  pub read_check : (buffer : List ℕ) → 26_628 ≤ length buffer → (let o = read_into text buffer in v ≡ then_check o.answer o.image s)
