-- The search for a code, in words: what the contracts of the updates cite.
use Rattle.std.specs.Prelude.{ℕ, ◌+◌, List}
use Rattle.model.specs.Word.{none}
use Rattle.model.specs.State.{Sizes}
use Rattle.model.specs.Layout.{heads_at}
use Rattle.model.specs.Table.{chain_number}
use Rattle.model.specs.Memory.{at}
use Rattle.chains.specs.declared.Found.{Found}
use Rattle.chains.specs.Chain.{seek}

-- what the search for code c finds in a memory of these sizes
abbrev pub search_words : Sizes → List ℕ → ℕ → Found
search_words z m c = seek m z c (z.slots + 1) none (at m (heads_at + chain_number c))
