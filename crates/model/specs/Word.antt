-- Words of 32 bits, and the order of generations (document 01, "The memory", first lines, and "Generations and passes", first lines).
use Rattle.std.specs.Prelude.{ℕ, ◌+◌, ◌-◌, ◌%◌, Bool, ◌&&◌, leb}

-- one more than the largest word
abbrev pub word_limit : ℕ
word_limit = 4294967296

-- the number of its bits
abbrev pub word_bits : ℕ
word_bits = 32

-- the word that stands for no slot and no lane
abbrev pub none : ℕ
none = 4294967295

-- one more than a, wrapping to 0 at the limit
abbrev pub up_to : ℕ → ℕ → ℕ
up_to limit a = (a + 1) % limit

-- the generation after a
abbrev pub up : ℕ → ℕ
up a = up_to word_limit a

-- the generation before a
abbrev pub down : ℕ → ℕ
down a = (a + (word_limit - 1)) % word_limit

-- a less b, wrapping
abbrev pub less : ℕ → ℕ → ℕ
less a b = (a + (word_limit - b)) % word_limit

-- the most by which a generation is later than another
abbrev pub farthest : ℕ
farthest = 2147483647

-- generation a is later than b: a less b, wrapping, lies in 1 to 2,147,483,647
unfoldable pub later : ℕ → ℕ → Bool
later a b = leb 1 (less a b) && leb (less a b) farthest
