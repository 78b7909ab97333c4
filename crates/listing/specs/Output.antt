-- What the listing program prints (document 01, "A listing, and edges"): the lines of an input, the text that each is answered with, and the memory
-- after it.
use Rattle.std.specs.Prelude.{ℕ, cond, List, [], ◌∷◌, ◌++◌, eqb, replicate}
use Rattle.model.specs.Lists.{is_empty}
use Rattle.model.specs.Calls.{reply, left}
use Rattle.listing_text.specs.Number.{newline}
use Rattle.listing_text.specs.Call.{Parsed, bad, call, parsed}
use Rattle.listing_text.specs.Answer.{line_text, bad_text}

-- ---- a line

-- the text that it is answered with on the memory m
unfoldable pub answered : List ℕ → Parsed → List ℕ
answered m bad = bad_text
answered m (call k) = line_text (reply m k)

-- the memory after it: a bad line changes no word
unfoldable pub after : List ℕ → Parsed → List ℕ
after m bad = m
after m (call k) = left m k

-- ---- several lines

unfoldable pub answered_all : List ℕ → List (List ℕ) → List ℕ
answered_all m [] = []
answered_all m (l ∷ ls) = answered m (parsed l) ++ answered_all (after m (parsed l)) ls

unfoldable pub after_all : List ℕ → List (List ℕ) → List ℕ
after_all m [] = m
after_all m (l ∷ ls) = after_all (after m (parsed l)) ls

-- ---- the lines of a text

-- the lines that end in a text, where the bytes p of the first were read before it
unfoldable pub ended : List ℕ → List ℕ → List (List ℕ)
ended p [] = []
ended p (b ∷ bs) = cond (eqb newline b) (p ∷ ended [] bs) (ended (p ++ b ∷ []) bs)

-- what has been read of the line that has not ended then
unfoldable pub unended : List ℕ → List ℕ → List ℕ
unended p [] = p
unended p (b ∷ bs) = cond (eqb newline b) (unended [] bs) (unended (p ++ b ∷ []) bs)

-- a last line without a newline is a line, if it has a byte
unfoldable pub last_line : List ℕ → List (List ℕ)
last_line p = cond (is_empty p) [] (p ∷ [])

-- the lines of an input
unfoldable pub lines_of : List ℕ → List (List ℕ)
lines_of input = ended [] input ++ last_line (unended [] input)

-- the output for an input, on a memory that is m at first
unfoldable pub output : List ℕ → List ℕ → List ℕ
output m input = answered_all m (lines_of input)

-- the words that a listing lends, before its first line
unfoldable pub lent : List ℕ
lent = replicate 16000 0

-- what is printed for an input that is read in blocks, where p is what was read before: the lines that end in each block, and after the last block
-- the last line. That this is the output is a theorem (`blocks-output` of proofs/LinesInParts.antt).
unfoldable pub printed_in : List ℕ → List ℕ → List (List ℕ) → List ℕ
printed_in m p [] = answered_all m (last_line p)
printed_in m p (b ∷ bs) = answered_all m (ended p b) ++ printed_in (after_all m (ended p b)) (unended p b) bs
