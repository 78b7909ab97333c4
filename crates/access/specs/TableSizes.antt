-- A table as the calls hand it on: its sizes, read once a call.
use Rattle.std.specs.Prelude.{ℕ, ◌≡◌, List}
use Rattle.model.specs.Memory.{sizes}
use Rattle.representation.specs.Sound.{Sound}
use Rattle.words.specs.declared.sizes.Sizes.{Sizes}
use Rattle.words.specs.Lent.{sizes_of, Lent}

-- a legal memory, and the sizes that were read from it
pub record TableIn (m : List ℕ) (z : Sizes) : Type 0 where
  pub sound : Sound m
  pub sizes : sizes_of z ≡ sizes m
  -- the table is lent
  pub lent : Lent m (sizes_of z)
