-- The lowest set bit of a mask that stands among others of its width, by its number among the bits of all: bit p of mask g is number g × w + p.
use Rattle.std.specs.Prelude.{ℕ, ◌+◌, ◌*◌, ◌<◌, List, length}
use Rattle.model.specs.Word.{word_limit}
use Rattle.model.specs.Memory.{at}
use Rattle.laws.specs.MaskFlags.{first_true}
use Rattle.masks.specs.Bits.{width, bits}

-- of mask g of those that stand from a on
abbrev pub lowest_in : List ℕ → (a g w : ℕ) → ℕ
lowest_in m a g w = g * w + first_true (bits (at m (a + g)))

-- the mask is lent, and the numbers of its bits are words
pub record MaskAt (m : List ℕ) (a g w : ℕ) : Type 0 where
  pub inside : a + g < length m
  pub few : g * w + width < word_limit
