-- A verdict on a rule's text, and what it means, as a person reads it. Not of document 01. Assumes nothing.
use Rattle.std.specs.Prelude.{ℕ, suc, min, List, [], ◌∷◌, ◌++◌, get_or, Ok, Err}
use Rattle.slices.specs.Text.{bytes}
use Rattle.refusals.specs.declared.Refusal.{Refusal}
use Rattle.refusals.specs.declared.Cause.TheVariants.{ShortBuffer, LongText, BadImage, BadStoreTable, TwinName, BadConfirmedList, UnknownStore, Unconfirmed, ArchiveOnly}
use Rattle.refusals.specs.declared.Cause.{Cause}
use Rattle.decimal.specs.Digits.{digits_of}
use Rattle.lines.specs.Lines.{line_end, meaning_line, text_end, shown_all, marked_line}
use Rattle.rules.specs.Rule.{Rule, leaf, node, Rules, nil, more}
use Rattle.image.specs.Encode.{leaf_name}
use Rattle.grammar.specs.Reading.{Read, rule, refused, read_of}
use Rattle.store_table.specs.Stores.{Entry, write_only_names}
use Rattle.verdict.specs.Verdict.{Verdict}
use Rattle.verdict.specs.Check.{oldest}
use Rattle.read_line.specs.Reading.{refusal_line}

-- ---- the first line: `pass` or `no NUMBER PLACE`

abbrev pub verdict_line : Verdict → List ℕ
verdict_line (Ok u) = bytes "pass" ++ line_end
verdict_line (Err f) = refusal_line f

-- ---- what a refusal is about

-- the name of each node, in the order of the image; empty where it has none
unfoldable mutual
  pub node_names : Rule → List (List ℕ)
  node_names (leaf l) = leaf_name l ∷ []
  node_names (node j rs r) = (node_names_all rs ++ node_names r) ++ ([] ∷ [])

  pub node_names_all : Rules → List (List ℕ)
  node_names_all nil = []
  node_names_all (more rs r) = node_names_all rs ++ node_names r

-- the name of node i of what a text reads as
abbrev pub node_name : Read → ℕ → List ℕ
node_name (rule r) i = get_or (node_names r) i []
node_name (refused f) i = []

-- the age at which 21 and 22 are tested
abbrev pub age_line : List ℕ
age_line = bytes "age: " ++ (digits_of oldest ++ (bytes " ms, the largest" ++ line_end))

-- a line for each name
abbrev pub confirmed_line : List ℕ → List ℕ
confirmed_line n = bytes "confirmed: " ++ (shown_all n ++ line_end)

unfoldable pub confirmed_lines : List (List ℕ) → List ℕ
unfolding shown_all
confirmed_lines [] = []
confirmed_lines (n ∷ ns) = confirmed_line n ++ confirmed_lines ns

-- by the cause of a refusal, and its place: of two stores of one name, which argument; of an unknown store, the name; where the rule
-- says evict, the confirmations and the age; of a text or bytes as a whole, nothing; of any other cause, the line of the text, and a
-- mark under the place, or at the text's end where it ends too early
unfoldable pub detail_of : List ℕ → List Entry → Cause → ℕ → List ℕ
unfolding marked_line confirmed_lines
detail_of text es TwinName p = bytes "argument " ++ (digits_of (suc p) ++ line_end)
detail_of text es UnknownStore p = shown_all (node_name (read_of text) p) ++ line_end
detail_of text es Unconfirmed p = bytes "confirmed: nothing" ++ (line_end ++ age_line)
detail_of text es ArchiveOnly p = confirmed_lines (write_only_names es) ++ age_line
detail_of text es ShortBuffer p = []
detail_of text es LongText p = []
detail_of text es BadImage p = []
detail_of text es BadStoreTable p = []
detail_of text es BadConfirmedList p = []
detail_of text es _ p = marked_line text (min p (text_end text))

abbrev pub detail : List ℕ → List Entry → Refusal → List ℕ
detail text es f = detail_of text es f.cause f.place

-- ---- the lines after the first

abbrev pub pass_line : List Entry → List ℕ
pass_line [] = bytes "the rule reads; no stores are given to check it against" ++ line_end
pass_line (e ∷ es) = bytes "at any age, the rule says evict only if a readable store has confirmed" ++ line_end

abbrev pub explained : List ℕ → List Entry → Verdict → List ℕ
explained text es (Ok u) = pass_line es
explained text es (Err f) = meaning_line f.cause ++ detail text es f

-- a verdict on a text for some stores, and what it means
abbrev pub verdict_text : List ℕ → List Entry → Verdict → List ℕ
verdict_text text es v = verdict_line v ++ explained text es v
