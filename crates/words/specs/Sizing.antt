-- Sizes that were named, as those of a table.
use Rattle.std.specs.Prelude.{◌≡◌, true, false, Result, MatchResult}
use Rattle.model.specs.Legal.{sizes_fit}
use Rattle.words.specs.declared.sizes.Sizes.{Sizes}
use Rattle.words.specs.declared.sizes.NamedSizes.{NamedSizes}
use Rattle.words.specs.declared.sizes.SizesOutOfRange.{SizesOutOfRange}
use Rattle.words.specs.Lent.{sizes_of, named}

-- the same sizes where they are in range, else an error
abbrev pub Sized : NamedSizes → Result Sizes SizesOutOfRange → Type 0
Sized n r = MatchResult r (λ z. (sizes_of z ≡ named n) × (sizes_fit (named n) ≡ true)) (λ _. sizes_fit (named n) ≡ false)
