-- The three ways out of set-up: the answer and the memory after it.
use Prim.Native.Nat.{ℕ, ◌≤◌, ◌<◌}
use mathlib.Core.Bool.{true, false}
use mathlib.Core.Path.{◌≡◌, ap, ◌∙◌}
use mathlib.Core.List.{List, [], ◌∷◌}
use native.Mathlib.Omega.{arith}
use lib.ListN.{length}
use Rattle.std.specs.Prelude.{Ok, Err}
use borrow.Author.Tests.{lt-ltb, le-ltb}
use Rattle.model.specs.State.{Sizes}
use Rattle.model.specs.Layout.{total}
use Rattle.model.specs.Rules.{first_cause, fresh}
use Rattle.model.specs.Legal.{sizes_fit}
use Rattle.access.specs.declared.causes.Cause.TheVariants.{BadSize, ShortMemory}
use Rattle.access.specs.Causes.{answer_of}
use Rattle.access.specs.Contract.{Does}
use Rattle.model.specs.Calls.{set_up, stored, refusal_of, reply_of, left_of, reply, left}

module _ (m : List ℕ) (n : Sizes) where
  pub out_of_range : sizes_fit n ≡ false → Does (set_up n) m (answer_of (Err BadSize)) m
  unfolding reply reply_of left left_of refusal_of first_cause
  out_of_range unfit = record { answer = rw unfit; memory = rw unfit }

  -- the sizes z of the table, and its total x
  module _ (z : Sizes) (x : ℕ) (same : (z ≡ n) × (sizes_fit n ≡ true)) (total_is : x ≡ total z) where
    whole : x ≡ total n
    whole = total_is ∙ ap total same.0

    pub too_short : length m < x → Does (set_up n) m (answer_of (Err ShortMemory)) m
    unfolding reply reply_of left left_of refusal_of first_cause
    too_short l = let short = lt-ltb (length m) (total n) (omega (arith, whole)) in record { answer = rw (same.1, short); memory = rw (same.1, short) }

    pub written : x ≤ length m → (k : List ℕ) → k ≡ stored (fresh z) m → Does (set_up n) m (answer_of (Ok (x ∷ 0 ∷ 0 ∷ 0 ∷ []))) k
    unfolding reply reply_of left left_of refusal_of first_cause
    written l k g =
        let long = le-ltb (length m) (total n) (omega (arith, whole)) in
        record { answer = rw (same.1, long, whole); memory = g ∙ ap (λ (y : Sizes). stored (fresh y) m) same.0 ∙ rw (same.1, long) }
