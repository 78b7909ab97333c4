-- One call on a memory: what it answers and leaves on a legal memory and on any other, that it keeps legality, and that a refusal changes no word.
use Prim.Native.Nat.{ℕ, zero, suc, ◌≤◌}
use mathlib.Core.Path.{◌≡◌, refl, sym, ap, subst, ◌∙◌}
use mathlib.Core.Bool.{true, false, not}
use mathlib.Core.List.{List, [], ◌∷◌}
use native.Mathlib.Omega.{arith}
use lib.ListN.{length}
use lib.Dec.{ltb}
use borrow.Author.Tests.{ltb-false, not-false}
use Rattle.model.specs.State.{Sizes}
use Rattle.model.specs.Layout.{total}
use Rattle.model.specs.Rules.{Op, refused, cause, first_cause, answer, answer_of, next, next_of, refusal, fresh}
use Rattle.model.specs.Memory.{Words, state}
use Rattle.model.specs.Legal.{sizes_fit, legal}
use Rattle.model.specs.Calls.{Call, set_up, on_state, stored, refusal_of, reply_of, left_of, reply, left}
use Rattle.representation.proofs.WellFormed.{WellFormed}
use Rattle.representation.proofs.Causes.Passed.{clear}
use Rattle.representation.proofs.FromState.Worded.{stored-words}
use Rattle.representation.proofs.CallsWellFormed.Fresh.{fresh-well_formed}
use Rattle.representation.proofs.CallsWellFormed.Next.{status, sizes-next, next-well_formed}
use Rattle.representation.proofs.Round.{ready, legal-well_formed, stored-state, round}

-- ---- a refused call, on any list

pub refused-keeps : (m : List ℕ) (k : Call) → ((reply m k).status ≡ 0 → ⊥) → left m k ≡ m
unfolding left left_of reply reply_of
refused-keeps m k = go k (refusal_of m k)
  where
    go : (k : Call) (n : ℕ) → ((reply_of m n k).status ≡ 0 → ⊥) → left_of m n k ≡ m
    go k (suc n) f = refl
    go (set_up z) zero f = absurd (f refl)
    go (on_state o) zero f = absurd (f (status (state m) o))

-- ---- the thirteen calls on a memory that is not legal

module _ (m : List ℕ) (k : Op) (h : legal m ≡ false) where
  refusal-illegal : refusal_of m (on_state k) ≡ 3
  unfolding refusal_of first_cause
  refusal-illegal = rw h

  pub reply-illegal : reply m (on_state k) ≡ refused 3
  unfolding reply reply_of
  reply-illegal = ap (λ (n : ℕ). reply_of m n (on_state k)) refusal-illegal

  pub left-illegal : left m (on_state k) ≡ m
  unfolding left left_of
  left-illegal = ap (λ (n : ℕ). left_of m n (on_state k)) refusal-illegal

-- ---- on a legal memory: they are those of its state

module _ (m : List ℕ) (k : Op) (h : legal m ≡ true) where
  pub refusal-legal : refusal_of m (on_state k) ≡ refusal (state m) k
  unfolding refusal_of first_cause
  refusal-legal = rw h

  pub reply-legal : reply m (on_state k) ≡ answer (state m) k
  unfolding reply reply_of answer
  reply-legal = ap (λ (n : ℕ). reply_of m n (on_state k)) refusal-legal ∙ go (refusal (state m) k)
    where
      go : (n : ℕ) → reply_of m n (on_state k) ≡ answer_of (state m) n k
      go zero = refl
      go (suc n) = refl

  module _ (w : Words m) where
    pub left-legal : left m (on_state k) ≡ stored (next (state m) k) m
    unfolding left left_of next
    left-legal = ap (λ (n : ℕ). left_of m n (on_state k)) refusal-legal ∙ go (refusal (state m) k)
      where
        go : (n : ℕ) → left_of m n (on_state k) ≡ stored (next_of (state m) n k) m
        go zero = refl
        go (suc n) = sym (stored-state m h w)

    next_fits : WellFormed (next (state m) k)
    next_fits = next-well_formed (state m) k (legal-well_formed m h w)

    next-long : total (next (state m) k).sizes ≤ length m
    unfolding state
    next-long = subst (λ (z : Sizes). total z ≤ length m) (sym (sizes-next (state m) k)) (ready m h w).long

    -- a call on a legal memory leaves a legal memory
    pub next-legal : legal (left m (on_state k)) ≡ true
    next-legal = subst (λ (n : List ℕ). legal n ≡ true) (sym left-legal) (round (next (state m) k) m next_fits next-long).0

    -- which reads as the state after the call
    pub left-state : state (left m (on_state k)) ≡ next (state m) k
    left-state = ap state left-legal ∙ (round (next (state m) k) m next_fits next-long).1

    pub next-words : Words (left m (on_state k))
    next-words = subst Words (sym left-legal) (stored-words (next (state m) k) next_fits m w)

-- ---- set-up

-- what no cause refuses
pub record SetUp (m : List ℕ) (z : Sizes) : Type 0 where
  pub in_range : sizes_fit z ≡ true
  pub long : total z ≤ length m

pub set_up-accepted : (m : List ℕ) (z : Sizes) → refusal_of m (set_up z) ≡ 0 → SetUp m z
unfolding refusal_of
set_up-accepted m z h =
    let (fits, (short, rest)) = clear (cause 1 (not (sizes_fit z)) ∷ cause 2 (ltb (length m) (total z)) ∷ []) (omega arith) h in
    record { in_range = not-false _ fits; long = ltb-false (length m) (total z) short }

module _ (m : List ℕ) (z : Sizes) (h : refusal_of m (set_up z) ≡ 0) where
  pub left-set_up : left m (set_up z) ≡ stored (fresh z) m
  unfolding left left_of
  left-set_up = ap (λ (x : ℕ). left_of m x (set_up z)) h

  fresh-fits : WellFormed (fresh z)
  fresh-fits = fresh-well_formed z (set_up-accepted m z h).in_range

  fresh-long : total (fresh z).sizes ≤ length m
  unfolding fresh
  fresh-long = (set_up-accepted m z h).long

  -- an accepted set-up leaves a legal memory
  pub set_up-legal : legal (left m (set_up z)) ≡ true
  set_up-legal = subst (λ (x : List ℕ). legal x ≡ true) (sym left-set_up) (round (fresh z) m fresh-fits fresh-long).0

  -- which reads as the fresh state
  pub set_up-state : state (left m (set_up z)) ≡ fresh z
  set_up-state = ap state left-set_up ∙ (round (fresh z) m fresh-fits fresh-long).1

  pub set_up-words : Words m → Words (left m (set_up z))
  set_up-words w = subst Words (sym left-set_up) (stored-words (fresh z) fresh-fits m w)
