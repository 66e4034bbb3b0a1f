-- `tokens::token_at` meets its contract: by the class of the first byte that is no blank. Assumes nothing.
use mathlib.Core.Path.{◌≡◌, refl, sym, ◌∙◌}
use mathlib.Core.List.{List}
use mathlib.Core.Logic.{◌≢◌}
use Prim.Native.Nat.{ℕ}
use native.Mathlib.Omega.{arith}
use lib.ListN.{get_or}
use Rattle.classes.specs.Class.{class_of}
use Rattle.classes.specs.Inner.ClassNumber.{class_number}
use Rattle.classes.specs.declared.Class.{Class}
use Rattle.classes.specs.declared.Class.TheVariants.{Blank, Open, Close, Comma, Ampersand, Bar, Quote, Word, Foreign, Stray}
use Rattle.refusals.specs.Refusals.{refusal}
use Rattle.refusals.specs.declared.Cause.TheVariants.{StrayCharacter}
use Rattle.tokens.specs.Token.{token_of, token_at}
use Rattle.tokens.specs.declared.Token.TheVariants.{Fault}
use Rattle.tokens.proofs.Laws.TokenLaws.{at_end_lem, at_token}
use Rattle.tokens.proofs.token_at.Goals as goal
use Rattle.tokens.proofs.token_at.Goals.{After-class_of}

-- the token is the one of its first byte's class
here : (c : After-class_of) {k : ℕ} → k ≡ class_of (get_or c.args.text.now c.class_end-place.result 0) →
    let p = c.class_end-place.result in
    token_of c.args.text.now p (get_or c.args.text.now p 0) k ≡ token_at c.args.text.now c.args.at
here c q = sym (at_token _ _ c.class_end-place.ensures (omega arith) (sym q))

-- a byte of no other class begins nothing
stray_of : (s : List ℕ) (p b : ℕ) (k : Class) → k ≢ Open → k ≢ Close → k ≢ Comma → k ≢ Ampersand → k ≢ Bar → k ≢ Quote → k ≢ Word →
    Fault (refusal StrayCharacter p) ≡ token_of s p b (class_number k)
unfolding token_of
stray_of s p b Blank o c m a r q w = refl
stray_of s p b Open o c m a r q w = absurd (o refl)
stray_of s p b Close o c m a r q w = absurd (c refl)
stray_of s p b Comma o c m a r q w = absurd (m refl)
stray_of s p b Ampersand o c m a r q w = absurd (a refl)
stray_of s p b Bar o c m a r q w = absurd (r refl)
stray_of s p b Quote o c m a r q w = absurd (q refl)
stray_of s p b Word o c m a r q w = absurd (w refl)
stray_of s p b Foreign o c m a r q w = refl
stray_of s p b Stray o c m a r q w = refl

pub returns-then-text-place : goal.returns-then-text-place
returns-then-text-place c = sym (at_end_lem _ _ c.class_end-place.ensures (omega arith))

pub returns-in-Open : goal.returns-in-Open
unfolding token_of
returns-in-Open c = here (goal.at.returns-in-Open c).After-class_of c.in-Open.ensures

pub returns-in-Close : goal.returns-in-Close
unfolding token_of
returns-in-Close c = here (goal.at.returns-in-Close c).After-class_of c.in-Close.ensures

pub returns-in-Comma : goal.returns-in-Comma
unfolding token_of
returns-in-Comma c = here (goal.at.returns-in-Comma c).After-class_of c.in-Comma.ensures

pub returns-in-Ampersand : goal.returns-in-Ampersand
unfolding token_of
returns-in-Ampersand c = c.sign_at.ensures ∙ here (goal.at.returns-in-Ampersand c).After-class_of c.in-Ampersand.ensures

pub returns-in-Bar : goal.returns-in-Bar
unfolding token_of
returns-in-Bar c = c.sign_at-in-Bar.ensures ∙ here (goal.at.returns-in-Bar c).After-class_of c.in-Bar.ensures

pub returns-in-Quote : goal.returns-in-Quote
unfolding token_of
returns-in-Quote c = c.quoted_at.ensures ∙ here (goal.at.returns-in-Quote c).After-class_of c.in-Quote.ensures

pub returns-in-Word : goal.returns-in-Word
unfolding token_of
returns-in-Word c = c.unquoted_at.ensures ∙ here (goal.at.returns-in-Word c).After-class_of c.in-Word.ensures

pub returns-in_default : goal.returns-in_default
returns-in_default c =
    let d = c.in_default in
    rw c.at.ensures
    (stray_of _ _ _ c.class_of.result d.not-Open d.not-Close d.not-Comma d.not-Ampersand d.not-Bar d.not-Quote d.not-Word ∙
    here (goal.at.returns-in_default c).After-class_of c.class_of.ensures)
