-- The line that the listing program prints for an answer or for a bad line, and a text put after another.
use Rattle.std.specs.Prelude.{ℕ, ◌+◌, ◌*◌, ◌≤◌, List, [], ◌∷◌, ◌++◌, ◌≡◌, length, get_or}
use Rattle.model.specs.Rules.{Answer}
use Rattle.model.specs.Digits.{bytes}
use Rattle.listing_text.specs.Number.{space, newline, decimal}

-- the most bytes that a number of 32 bits takes, and with the byte after it; that five of them take; and that bad takes with its newline
abbrev pub number_length : ℕ
number_length = 10

abbrev pub word_length : ℕ
word_length = number_length + 1

abbrev pub line_length : ℕ
line_length = 5 * word_length

abbrev pub bad_length : ℕ
bad_length = 3 + 1

-- a number and the byte after it
abbrev pub word_text : ℕ → ℕ → List ℕ
word_text n after = decimal n ++ (after ∷ [])

-- the five numbers parted by single spaces, and a newline
unfoldable pub line_text : Answer → List ℕ
line_text r = word_text r.status space ++ word_text r.a space ++ word_text r.b space ++ word_text r.c space ++ word_text r.d newline

unfoldable pub bad_text : List ℕ
bad_text = bytes "bad" ++ newline ∷ []

-- the answer that five words are
abbrev pub answer_of : List ℕ → Answer
answer_of ws = record { status = get_or ws 0 0; a = get_or ws 1 0; b = get_or ws 2 0; c = get_or ws 3 0; d = get_or ws 4 0 }

-- a text that was xs is ys: t stands at its end, of at most k bytes
pub record Puts (k : ℕ) (xs t ys : List ℕ) : Type 0 where
  pub text : ys ≡ xs ++ t
  pub short : length t ≤ k
