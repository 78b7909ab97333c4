-- A chain's slot of a code, by what stands before it: the link that a replace or a delete stores to.
use Rattle.std.specs.Prelude.{ℕ, cond, List, [], ◌∷◌, eqb}
use Rattle.model.specs.State.{Product}
use Rattle.model.specs.Table.{product_at}

-- what stands before the first slot of xs that holds code c, p before the first of xs
unfoldable pub before_code : List Product → ℕ → List ℕ → ℕ → ℕ
before_code ps c [] p = p
before_code ps c (x ∷ xs) p = cond (eqb (product_at ps x).code c) p (before_code ps c xs x)
