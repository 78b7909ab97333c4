-- What the contracts of the calls ask of a memory.
use Rattle.std.specs.Prelude.{ℕ, ◌≡◌, true, List}
use Rattle.model.specs.Memory.{Words}
use Rattle.model.specs.Legal.{legal}

-- a legal memory of words
pub record Sound (m : List ℕ) : Type 0 where
  pub lawful : legal m ≡ true
  pub words : Words m
