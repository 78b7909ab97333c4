-- A call is refused, or no cause applies.
use Prim.Native.Nat.{ℕ, zero, suc, ◌<◌}
use mathlib.Core.Path.{◌≡◌, refl, ap}
use mathlib.Core.Bool.{Bool, true, false}
use mathlib.Core.List.{List, [], ◌∷◌}
use native.Mathlib.Omega.{arith}
use lib.Dec.{leb}
use borrow.Author.Tests.{leb-false}
use Rattle.model.specs.State.{State, lane_count}
use Rattle.model.specs.Rules.{Op, Answer, refused, Cause, first_cause, causes, refusal, performed, result, answer, next}

-- ---- what is known where no cause applies

abbrev pub Numbered : List Cause → Type 0
Numbered [] = Unit {0}
Numbered (x ∷ xs) = (0 < x.number) × Numbered xs

abbrev pub Clear : List Cause → Type 0
Clear [] = Unit {0}
Clear (x ∷ xs) = (x.applies ≡ false) × Clear xs

pub clear : (cs : List Cause) → Numbered cs → first_cause cs ≡ 0 → Clear cs
unfolding first_cause
clear [] n h = tt
clear (x ∷ xs) n h = go x.applies refl (clear xs n.1)
  where
    go : (b : Bool) → x.applies ≡ b → (first_cause xs ≡ 0 → Clear xs) → (x.applies ≡ false) × Clear xs
    go true e ih = absurd (omega (arith, n.0, rw e at h))
    go false e ih = (e, ih (rw e at h))

pub within : (s : State) (i : ℕ) → leb (lane_count s.sizes) i ≡ false → i < lane_count s.sizes
within s i h = leb-false (lane_count s.sizes) i h

pub call-cases : (P : State → Answer → Type 0) (s : State) (o : Op)
    → (first_cause (causes s o) ≡ 0 → P (performed s o) (result s o)) → ((m : ℕ) → P s (refused (suc m))) → P (next s o) (answer s o)
unfolding answer next
call-cases P s o f g = go (first_cause (causes s o)) refl
  where
    go : (n : ℕ) → first_cause (causes s o) ≡ n → P (next s o) (answer s o)
    go zero e = rw (e, answer, next) (f e)
    go (suc n) e = rw (e, answer, next) (g n)

-- ---- a call, by the number of the cause that refuses it

module _ (s : State) (o : Op) where
  pub next-accepted : refusal s o ≡ 0 → next s o ≡ performed s o
  unfolding next
  next-accepted z = rw z

  pub answer-accepted : refusal s o ≡ 0 → answer s o ≡ result s o
  unfolding answer
  answer-accepted z = rw z

  pub answer-refused : (n : ℕ) → refusal s o ≡ suc n → answer s o ≡ refused (suc n)
  unfolding answer
  answer-refused n z = rw z

  -- status 0 is answered where no cause applies
  pub status-accepted : (answer s o).status ≡ 0 → refusal s o ≡ 0
  status-accepted e = go (refusal s o) refl
    where
      go : (n : ℕ) → refusal s o ≡ n → refusal s o ≡ 0
      go zero z = z
      go (suc n) z = absurd (omega (arith, e, ap (λ (r : Answer). r.status) (answer-refused n z)))
