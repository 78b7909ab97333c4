-- The outcome of a lookup's step: the code's enum as the model's, and the words of its answer.
use Rattle.std.specs.Prelude.{ℕ, ◌+◌, cond, List, [], ◌∷◌, leb, eqb}
use Rattle.model.specs.State.{Sizes}
use Rattle.model.specs.Layout.{deposit_at, material_at, slot_address}
use Rattle.model.specs.Memory.{at}
use Rattle.model.specs.Rules.{Outcome, going, found, absent, Answer}
use Rattle.chains.specs.declared.Step.{Step}
use Rattle.chains.specs.declared.Step.TheVariants.{Going, Found, Absent}
use Rattle.chains.specs.Chain.{code_words}

-- the model's outcome for each case
unfoldable pub outcome_of : Step → Outcome
outcome_of Going = going
outcome_of (Found r) = found (record { slot = r.slot; deposit = r.deposit; material = r.material })
outcome_of Absent = absent

-- the outcome at a position, by the words: absent if it is no slot; found if the slot's code matches; otherwise still going
unfoldable pub outcome_at : List ℕ → Sizes → ℕ → ℕ → Outcome
outcome_at m z code i =
    let b = slot_address z i in
    cond (leb z.slots i)
    absent
    (cond (eqb (code_words m z i) code) (found (record { slot = i; deposit = at m (b + deposit_at); material = at m (b + material_at) })) going)

-- the words of an answer after its status
abbrev pub step_words : Answer → List ℕ
step_words r = r.a ∷ r.b ∷ r.c ∷ r.d ∷ []
