-- Memories whose first words are those of a state, so that changes compose: a change that makes `stored t m` of a memory m that shows s leaves a
-- memory that shows t.
use Prim.Native.Nat.{ℕ, ◌≤◌}
use mathlib.Core.Path.{◌≡◌, refl, ap, sym, ◌∙◌}
use mathlib.Core.Bool.{true}
use mathlib.Core.List.{List, ◌++◌}
use native.Mathlib.Omega.{arith}
use lib.ListN.{length, drop}
use lib.Seq.{drop_at}
use Rattle.model.specs.State.{Sizes, State}
use Rattle.model.specs.Layout.{total}
use Rattle.model.specs.Memory.{Words, words, state}
use Rattle.model.specs.Legal.{legal}
use Rattle.model.specs.Calls.{stored}
use Rattle.representation.proofs.Addresses.Fields.{value}
use Rattle.representation.proofs.Addresses.Writes.{Image, length-words, length-stored, stored-image, writes-none, writes-done}
use Rattle.representation.proofs.Round.{ready}

-- the first words of m are those of s
pub record Shows (m : List ℕ) (s : State) : Type 0 where
  pub long : total s.sizes ≤ length m
  pub image : Image s.sizes m (value s)

pub shows-stored : (s : State) (m : List ℕ) → total s.sizes ≤ length m → Shows (stored s m) s
shows-stored s m t = record { long = omega (arith, length-stored s m t); image = stored-image s m t }

-- to store the state that m shows changes nothing
pub stored-shown : (s : State) (m : List ℕ) → Shows m s → stored s m ≡ m
stored-shown s m h = sym (writes-done s m m (value s) h.long (writes-none s.sizes m h.long (value s) h.image) (λ f p. refl))

-- only the state stored last stays
pub stored-stored : (s t : State) (m : List ℕ) → t.sizes ≡ s.sizes → stored t (stored s m) ≡ stored t m
stored-stored s t m e =
    ap (λ (r : List ℕ). words t ++ r)
    (ap (λ (z : Sizes). drop (total z) (stored s m)) e
    ∙ drop_at (words s) (drop (total s.sizes) m) (total s.sizes) (length-words s)
    ∙ ap (λ (z : Sizes). drop (total z) m) (sym e))

-- a legal memory shows its state
pub shows-state : (m : List ℕ) → legal m ≡ true → Words m → Shows m (state m)
unfolding state
shows-state m l w = let r = ready m l w in record { long = r.long; image = r.image }

-- ---- one change after another

-- a change left n of m, and n shows its state
pub shows_then : (s : State) (m n : List ℕ) → total s.sizes ≤ length m → n ≡ stored s m → Shows n s
shows_then s m n t e = rw e (shows-stored s m t)

-- a change left n of m, and another k of n
pub stored-then : (s t : State) (m n k : List ℕ) → t.sizes ≡ s.sizes → n ≡ stored s m → k ≡ stored t n → k ≡ stored t m
stored-then s t m n k z e f = f ∙ ap (stored t) e ∙ stored-stored s t m z
