-- The answer of awaited by the words of a legal memory.
use Prim.Native.Nat.{ℕ, ◌+◌}
use mathlib.Core.Path.{◌≡◌, refl, sym, ◌∙◌}
use mathlib.Core.List.{List, [], ◌∷◌}
use lib.ListN.{length}
use Rattle.std.specs.Prelude.{Ok}
use Rattle.model.specs.Lists.{first}
use Rattle.model.specs.Layout.{length_offset, free_at}
use Rattle.model.specs.Rules.{awaited, causes, first_cause, result, performed, pending_from}
use Rattle.model.specs.Memory.{at, state}
use Rattle.model.specs.Calls.{on_state}
use Rattle.representation.proofs.Round.{stored-state}
use Rattle.representation.specs.Sound.{Sound}
use Rattle.access.specs.Causes.{answer_of}
use Rattle.access.specs.Contract.{Does}
use Rattle.access.proofs.Ways.{performs}
use Rattle.awaited.specs.Lengths.{retired_length}
use Rattle.awaited.proofs.OwnerLengths.{free-is}

-- the four words as they were counted
pub answered : (m : List ℕ) → Sound m → (n l f q : ℕ)
    → n ≡ length (pending_from 0 (state m).engine.lanes)
    → l ≡ first (pending_from 0 (state m).engine.lanes)
    → f ≡ at m (free_at + length_offset)
    → q ≡ retired_length (state m)
    → Does (on_state awaited) m (answer_of (Ok (n ∷ l ∷ f ∷ q ∷ []))) m
unfolding causes first_cause result performed
answered m v n l f q en el ef eq = performs m awaited v refl _ m (rw (en, el, ef ∙ free-is m v, eq)) (sym (stored-state m v.lawful v.words))
