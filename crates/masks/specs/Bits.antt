-- A word as a mask of 32 flags, by the model's `mask` and `flag`. Contracts cite these, and `trues` and `first_true` of the laws of masks.
use Rattle.std.specs.Prelude.{ℕ, Bool, true, false, List, map, slice_set}
use Rattle.model.specs.Word.{word_bits}
use Rattle.model.specs.Lists.{from, mask}
use Rattle.model.specs.Memory.{flag}

-- the number of bits of a word
abbrev pub width : ℕ
width = word_bits

-- the flags of w, bit 0 first
abbrev pub bits : ℕ → List Bool
bits w = map (λ (k : ℕ). flag k w) (from 0 width)

-- w with bit p set
unfoldable pub with_bit : ℕ → ℕ → ℕ
with_bit p w = mask (slice_set (bits w) p true)

-- w with bit p cleared
unfoldable pub without_bit : ℕ → ℕ → ℕ
without_bit p w = mask (slice_set (bits w) p false)
