-- A memory to which a run of words is written, and runs made of rows.
use Rattle.std.specs.Prelude.{ℕ, ◌≡◌, List}
use Rattle.std.proofs.lemmas.List.Edits.{sets}
use Rattle.model.specs.Lists.{concat_map, from}

-- n is m with the words ws from a on
pub record Written (m : List ℕ) (a : ℕ) (ws : List ℕ) (n : List ℕ) : Type 0 where
  pub is : n ≡ sets m a ws

-- n rows
abbrev pub rows : (ℕ → List ℕ) → ℕ → List ℕ
rows f n = concat_map f (from 0 n)
