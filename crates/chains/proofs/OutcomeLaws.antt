-- The outcome of a step by the words is the model's, where the table's products are those of the words.
use Prim.Native.Nat.{ℕ, ◌+◌, ◌≤◌, ◌<◌}
use mathlib.Core.Path.{◌≡◌}
use mathlib.Core.Logic.{◌⊎◌, inl, inr}
use mathlib.Core.List.{List}
use native.Mathlib.Omega.{arith}
use borrow.Author.Tests.{le-leb, lt-leb, ne_eqb}
use Rattle.model.specs.Word.{none}
use Rattle.model.specs.Layout.{deposit_at, material_at, slot_address}
use Rattle.model.specs.State.{Sizes, running, Table}
use Rattle.model.specs.Table.{product, product_at}
use Rattle.model.specs.Memory.{at}
use Rattle.model.specs.Rules.{outcome}
use Rattle.chains.specs.Chain.{code_words}
use Rattle.chains.specs.Outcome.{outcome_at}

module _ (m : List ℕ) (z : Sizes) (t : Table) (few : z.slots ≤ none)
    (products : (i : ℕ) → i < z.slots → product_at t.products i
    ≡ product (code_words m z i) (at m (slot_address z i + deposit_at)) (at m (slot_address z i + material_at))) where
  pub outcome_at-outcome : (code i : ℕ) → (i < z.slots) ⊎ (i ≡ none) → outcome_at m z code i ≡ outcome t (running code i)
  unfolding outcome_at outcome
  outcome_at-outcome code i (inl h) = rw (lt-leb z.slots i h, ne_eqb i none (λ q. omega arith), products i h)
  outcome_at-outcome code i (inr e) = rw (e, le-leb z.slots none few)
