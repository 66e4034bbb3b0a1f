-- A text is the list of its bytes: literals, parts, runs of bytes that pass a test, and bytes written over others. Assumes nothing.
use Rattle.std.specs.Prelude.{ℕ, zero, suc, ◌+◌, ◌-◌, ◌<◌, ◌≡◌, Bool, true, not, cond, ◌&&◌, List, [], ◌∷◌, ◌++◌, ltb, eqb, length, get_or, take, drop}
use Prim.Native.Char.{code}
use Prim.Native.String.{String}

-- the bytes of a literal, which is ASCII
abbrev pub bytes : String → List ℕ
bytes String.[] = []
bytes (String.◌∷◌ c s) = code c ∷ bytes s

-- a list of bytes
abbrev pub AllBytes : List ℕ → Type 0
AllBytes s = (i : ℕ) → get_or s i 0 < 256

-- the part of a text from one position up to another
unfoldable pub part : List ℕ → ℕ → ℕ → List ℕ
part s from to = take (to - from) (drop from s)

-- how many bytes at the head of a list pass a test
unfoldable pub run : (ℕ → Bool) → List ℕ → ℕ
run p [] = 0
run p (b ∷ s) = let more = suc (run p s) in cond (p b) more 0

-- where the run of bytes that pass a test, from a position on, ends
unfoldable pub run_end : (ℕ → Bool) → List ℕ → ℕ → ℕ
unfolding run
run_end p s at = at + run p (drop at s)

-- the end of the last of the first i bytes that passes a test, or 0
unfoldable pub end_of_last : (ℕ → Bool) → List ℕ → ℕ → ℕ
end_of_last p s zero = 0
end_of_last p s (suc i) = let before = end_of_last p s i in cond (p (get_or s i 0)) (suc i) before

-- the byte is not this mark
unfoldable pub other : ℕ → ℕ → Bool
other mark b = not (eqb b mark)

-- all bytes are below 128
unfoldable pub all_ascii : List ℕ → Bool
all_ascii [] = true
all_ascii (b ∷ bs) = ltb b 128 && all_ascii bs

-- a list with other elements written over its own, from a position on
unfoldable pub written : List ℕ → ℕ → List ℕ → List ℕ
written s at bs = take at s ++ (bs ++ drop (at + length bs) s)

-- a text before and after bytes were written into it, from `start` up to `end`
pub record WrittenAt (before after : List ℕ) (start end : ℕ) (bs : List ℕ) : Type 0 where
  pub ends : start + length bs ≡ end
  pub text : after ≡ written before start bs
