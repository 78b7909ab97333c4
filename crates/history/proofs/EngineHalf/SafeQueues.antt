-- The queues of one owner: what is safe stays so when fewer slots wait, a generation is asked for, a period ends, or slots go to done.
use Prim.Native.Nat.{ℕ, zero, suc, ◌+◌, ◌<◌}
use mathlib.Core.Path.{◌≡◌}
use mathlib.Core.Logic.{◌⊎◌, inl, inr}
use mathlib.Core.Bool.{true, false, not, ◌&&◌}
use mathlib.Core.List.{[], ◌++◌}
use native.Mathlib.Omega.{arith}
use Rattle.model.specs.Word.{word_limit, up, later}
use Rattle.model.specs.Lists.{count, is_empty}
use Rattle.model.specs.State.{Queues}
use Rattle.model.specs.Engine.{settled}
use Rattle.model.specs.Engine.{taken}
use Rattle.laws.specs.Tests.{clash, and-true, cond_cases}
use Rattle.laws.specs.Counts.{count-append}
use Rattle.laws.specs.Generations.{later-self, later-up}
use Rattle.history.proofs.Ties.Halves.{Pends, this, following, Safe}

pub pos-cases : (a b : ℕ) → 0 < a + b → (0 < a) ⊎ (0 < b)
pos-cases zero b h = inr (omega arith)
pos-cases (suc a) b h = inl (omega arith)

-- ---- the queues of one owner

pub pends-map : {c m g : ℕ} {A B : Type 0} → (A → B) → Pends c m g A → Pends c m g B
pends-map f (this p a) = this p (f a)
pends-map f (following p q) = following p q

-- such a batch is not earlier than the current generation
pub pends-not-over : {c m g : ℕ} {A : Type 0} → c < word_limit → Pends c m g A → later c g ≡ false
pends-not-over h (this p a) = rw p (later-self h)
pends-not-over h (following p q) = rw p (later-up h)

module _ {c m : ℕ} {W : ℕ → ℕ → Type 0} {A : ℕ → Type 0} {q : Queues} where
  -- fewer slots wait, and the lanes that they wait for are awaited still
  pub safe-mono : {U : ℕ → ℕ → Type 0} {B : ℕ → Type 0} → ((x i : ℕ) → U x i → W x i) → ((x i : ℕ) → U x i → A i → B i)
      → Safe c m W A q → Safe c m U B q
  safe-mono f b s = record {
    done = λ x i p u. s.done x i p (f x i u);
    current = λ x i p u. pends-map (b x i u) (s.current x i p (f x i u));
  }

  -- a larger generation is asked for
  pub safe-raised : (n : ℕ) → (m ≡ up c → n ≡ up c) → Safe c m W A q → Safe c n W A q
  safe-raised n f s = record { done = s.done; current = λ x i p w. go (s.current x i p w) }
    where
      go : {g : ℕ} {B : Type 0} → Pends c m g B → Pends c n g B
      go (this p a) = this p a
      go (following p r) = following p (f r)

  -- the next generation, once no lane is awaited
  pub safe-next : {B : ℕ → Type 0} → ((x i : ℕ) → W x i → A i → ⊥) → (m ≡ up c → (x i : ℕ) → W x i → B i) → Safe c m W A q → Safe (up c) m W B q
  safe-next {B} f b s = record { done = s.done; current = λ x i p w. go x i w (s.current x i p w) }
    where
      go : (x i : ℕ) → W x i → {g : ℕ} → Pends c m g (A i) → Pends (up c) m g (B i)
      go x i w (this p a) = absurd (f x i w a)
      go x i w (following p r) = this p (b r x i w)

  -- the current queue goes to done once its generation is over
  pub safe-settled : c < word_limit → Safe c m W A q → Safe c m W A (settled c q)
  unfolding count settled
  safe-settled h s = cond_cases (Safe c m W A) (not (is_empty q.current) && later c q.generation) over (λ t. s)
    where
      over : (not (is_empty q.current) && later c q.generation) ≡ true
          → Safe c m W A (record { next = q.next; current = []; done = q.done ++ q.current; generation = 0 })
      over t = record {
        done = λ x i p w. go x i w (pos-cases (count x q.done) (count x q.current) (rw (← count-append) p));
        current = λ x i p w. absurd (omega arith);
      }
        where
          go : (x i : ℕ) → W x i → (0 < count x q.done) ⊎ (0 < count x q.current) → ⊥
          go x i w (inl p) = s.done x i p w
          go x i w (inr p) = clash (and-true (not (is_empty q.current)) (later c q.generation) t).1 (pends-not-over h (s.current x i p w))

  -- a leaving lane's queues p join the global ones
  pub safe-taken : {p : Queues} → Safe c m W A q → Safe c m W A p → Safe c m W A (taken q p)
  safe-taken {p} s r = record {
    done = λ x i h w. go x i w (pos-cases (count x q.done) (count x p.done) (rw (← count-append) h));
    current = s.current;
  }
    where
      go : (x i : ℕ) → W x i → (0 < count x q.done) ⊎ (0 < count x p.done) → ⊥
      go x i w (inl h) = s.done x i h w
      go x i w (inr h) = r.done x i h w
