-- The call that a line of a listing asks for (document 01, "A listing, and edges", and document 02, request 8): `parsed`. A line is a list of bytes,
-- without its newline.
use Rattle.std.specs.Prelude.{ℕ, ◌^◌, cond, List, [], ◌∷◌, map, ltb, eqb}
use Prim.Native.String.{String}
use Rattle.model.specs.Lists.{all, same}
use Rattle.model.specs.Rules.{add, replace, delete, start, pass, begin, end, step, clock, on, off, hand_back, awaited}
use Rattle.model.specs.Calls.{Call, set_up, sized, on_state}
use Rattle.model.specs.Digits.{bytes, value}
use Rattle.listing_text.specs.Number.{space, is_number}

pub data Parsed : Type 0 where
  bad : Parsed
  call : Call → Parsed

-- ---- words

-- b in front of the first word
unfoldable pub longer : ℕ → List (List ℕ) → List (List ℕ)
longer b [] = (b ∷ []) ∷ []
longer b (w ∷ ws) = (b ∷ w) ∷ ws

-- the words of a line: what stands before, between and after its spaces. Two spaces in a row, or one at an end, make an empty word.
unfoldable pub words_of : List ℕ → List (List ℕ)
words_of [] = [] ∷ []
words_of (b ∷ bs) = cond (eqb b space) ([] ∷ words_of bs) (longer b (words_of bs))

-- ---- commands

-- a number of 32 bits is below this
abbrev pub word : ℕ
word = 2 ^ 32

-- a code, a number of 64 bits
abbrev pub code : ℕ
code = 2 ^ 64

-- what asks for a call once it has a number for each limit
abbrev pub Takes : List ℕ → Type 0
Takes [] = Parsed
Takes (l ∷ ls) = ℕ → Takes ls

-- a command: its name, what each of its arguments is below, and the call of its arguments
pub record Command : Type 0 where
  pub name : List ℕ
  pub limits : List ℕ
  pub makes : Takes limits

abbrev pub command : String → (ls : List ℕ) → Takes ls → Command
command s ls k = record { name = bytes s; limits = ls; makes = k }

-- a listing has one yard: set-up is a call only where it asks for that
abbrev pub one_yard : ℕ
one_yard = 1

abbrev pub set_up_of : (yards cabinets places slots : ℕ) → Parsed
set_up_of y c p n = cond (eqb y one_yard) (call (set_up (sized y c p n))) bad

unfoldable pub commands : List Command
commands =
    command "setup" (word ∷ word ∷ word ∷ word ∷ []) set_up_of
    ∷ command "add" (word ∷ code ∷ word ∷ word ∷ []) (λ i c d m. call (on_state (add i c d m)))
    ∷ command "rep" (word ∷ code ∷ word ∷ word ∷ []) (λ i c d m. call (on_state (replace i c d m)))
    ∷ command "del" (word ∷ code ∷ []) (λ i c. call (on_state (delete i c)))
    ∷ command "begin" (word ∷ []) (λ i. call (on_state (begin i)))
    ∷ command "end" (word ∷ []) (λ i. call (on_state (end i)))
    ∷ command "start" (word ∷ code ∷ []) (λ i c. call (on_state (start i c)))
    ∷ command "step" (word ∷ []) (λ i. call (on_state (step i)))
    ∷ command "pass" (word ∷ word ∷ []) (λ i k. call (on_state (pass i k)))
    ∷ command "clock" (word ∷ []) (λ i. call (on_state (clock i)))
    ∷ command "on" (word ∷ []) (λ i. call (on_state (on i)))
    ∷ command "off" (word ∷ []) (λ i. call (on_state (off i)))
    ∷ command "back" (word ∷ []) (λ i. call (on_state (hand_back i)))
    ∷ command "awaited" [] (call (on_state awaited))
    ∷ []

-- what a word that names no command is: it takes nothing and asks for nothing
abbrev pub unknown : Command
unknown = record { name = []; limits = []; makes = bad }

-- the command of that name
unfoldable pub lookup : List ℕ → List Command → Command
lookup w [] = unknown
lookup w (c ∷ cs) = cond (same w c.name) c (lookup w cs)

-- ---- arguments

-- what is asked for by as many numbers as limits, each below its own; any others are bad
unfoldable pub taken : (ls : List ℕ) → Takes ls → List ℕ → Parsed
taken [] k [] = k
taken [] k (n ∷ ns) = bad
taken (l ∷ ls) k [] = bad
taken (l ∷ ls) k (n ∷ ns) = cond (ltb n l) (taken ls (k n) ns) bad

-- ---- lines

-- a command with the numbers after it: bad where they are not what it takes
unfoldable pub asked : Command → List ℕ → Parsed
asked c ns = taken c.limits c.makes ns

-- the words of a line: a command, then numbers
unfoldable pub of_words : List (List ℕ) → Parsed
of_words [] = bad
of_words (w ∷ ws) = cond (all is_number ws) (asked (lookup w commands) (map value ws)) bad

-- the call that a line asks for, or bad
unfoldable pub parsed : List ℕ → Parsed
parsed bs = of_words (words_of bs)
