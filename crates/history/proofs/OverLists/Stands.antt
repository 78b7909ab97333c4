-- A memory that holds a well-formed state, and what a call answers and leaves on it.
use Prim.Native.Nat.{ℕ, zero, suc, ◌≤◌}
use mathlib.Core.Path.{◌≡◌, sym, ap, subst, ◌∙◌}
use mathlib.Core.Bool.{true}
use mathlib.Core.List.{List}
use lib.ListN.{length}
use Rattle.model.specs.State.{State}
use Rattle.model.specs.Layout.{total}
use Rattle.model.specs.Rules.{Op, first_cause, performed, next_of, refusal, answer, next}
use Rattle.model.specs.Memory.{state}
use Rattle.model.specs.Legal.{legal}
use Rattle.model.specs.Calls.{on_state, stored, refusal_of, left_of, reply, left}
use Rattle.representation.proofs.WellFormed.{WellFormed}
use Rattle.representation.proofs.CallsWellFormed.Next.{sizes-next, next-well_formed}
use Rattle.representation.proofs.Round.{round}
use Rattle.representation.proofs.MemoryCalls.{reply-legal}

-- memory m holds the well-formed state s
pub record Stands (s : State) (m : List ℕ) : Type 0 where
  pub well_formed : WellFormed s
  pub lawful : legal m ≡ true
  pub read : state m ≡ s
  pub long : total s.sizes ≤ length m

pub stands-stored : (s : State) (m : List ℕ) → WellFormed s → total s.sizes ≤ length m → Stands s (stored s m)
stands-stored s m w h = let r = round s m w h in record { well_formed = w; lawful = r.0; read = r.1; long = rw r.2 h }

module _ {s : State} {m : List ℕ} (v : Stands s m) (o : Op) where
  refusal-on : refusal_of m (on_state o) ≡ refusal s o
  unfolding refusal_of first_cause
  refusal-on = rw (v.lawful, v.read)

  pub reply-on : reply m (on_state o) ≡ answer s o
  reply-on = reply-legal m o v.lawful ∙ ap (λ (t : State). answer t o) v.read

  pub stands-next : Stands (next s o) (left m (on_state o))
  unfolding left left_of next
  stands-next = subst (λ (n : ℕ). Stands (next s o) (left_of m n (on_state o))) (sym refusal-on)
      (go (refusal s o) (next-well_formed s o v.well_formed) (sizes-next s o))
    where
      go : (n : ℕ) → WellFormed (next_of s n o) → (next_of s n o).sizes ≡ s.sizes → Stands (next_of s n o) (left_of m n (on_state o))
      go zero w z = rw v.read (stands-stored (performed s o) m w (rw z v.long))
      go (suc n) w z = v
