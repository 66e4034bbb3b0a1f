-- On the image that reading writes for a text, deciding answers what the text's rule says. Assumes nothing.
use mathlib.Core.Path.{◌≡◌}
use mathlib.Core.Bool.{true}
use mathlib.Core.List.{List}
use mathlib.Core.Option.{some}
use Prim.Native.Nat.{ℕ}
use Rattle.rules.specs.Rule.{Rule}
use Rattle.image.specs.Encode.{encode}
use Rattle.grammar.specs.Reading.{rule, read_of}
use Rattle.grammar.proofs.Laws.FitsLaws.{read_fits, read_decodes}
use Rattle.store_table.specs.Stores.{is_table, is_list, entries_in, twin_of}
use Rattle.std.specs.Prelude.{None}
use Rattle.evaluate.specs.Evict.{env_of, evict}
use Rattle.decide.specs.Decide.{decision_of, list_names, decide_rule, decide_of}
use Rattle.decide.proofs.Laws.DecideLaws.{decide_image, decide_says}

-- a text whose rule is r, stores s, an age a and a list l
module _ (text : List ℕ) (r : Rule) (reads : read_of text ≡ rule r) (s : List ℕ) (a : ℕ) (l : List ℕ) where
  -- the image is never refused
  pub decide_read : decide_of (encode r) s a l ≡ decide_rule (some r) s a l
  decide_read = decide_image r (read_fits text r reads) s a l

  -- "answers evict or keep": for every table and list that is accepted, what the text's rule says
  pub decide_read_says : is_table s ≡ true → twin_of (entries_in s) ≡ None → is_list l ≡ true →
      decide_of (encode r) s a l ≡ decision_of (evict r (env_of (entries_in s) a (list_names l)))
  decide_read_says = decide_says (encode r) s a l (read_decodes text r reads)
