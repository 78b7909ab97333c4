-- The three demands hold of every call that met its contract, and of every list of such calls.
use Prim.Native.Nat.{ℕ, zero, suc, ◌≤◌}
use Rattle.std.specs.Prelude.{◌≡◌, false, List, length, ltb}
use Rattle.std.proofs.Math.Path.{refl}
use Rattle.std.proofs.Common.{sym, ap, subst, ◌∙◌, arith, lt-ltb, le-ltb}
use Rattle.model.specs.State.{Sizes, State}
use Rattle.model.specs.Rules.{Answer, Op, fresh}
use Rattle.model.specs.Memory.{Words, state}
use Rattle.model.specs.Calls.{Call, set_up, on_state, stored, refusal_of, reply_of, left_of, reply, left, left_all}
use Rattle.model.specs.Ledger.{Event, events, Demand, RefusesSetUps}
use Rattle.representation.proofs.MemoryCalls.{reply-legal, left-legal, left-state, set_up-legal, set_up-state, set_up-words, left-set_up}
use Rattle.representation.specs.Sound.{Sound}
use Rattle.representation.proofs.Memories.{left-sound}
use Rattle.representation.proofs.Round.{one-to-one}
use Rattle.history.proofs.Demand3.{demand3 as listed}
use Rattle.history.proofs.Corollaries.{EveryList}
use Rattle.product_table.specs.Called.{answer_length, Called}
use Rattle.demands.specs.Demands.{Answered, work_answer, work_state, Demand1, Run, Ran, last_memory, NoSetUps, calls_of}
use Rattle.demands.specs.Demands.{FollowsRules, SetsUp, state_after, Demand2, OfEveryList, Demand3}
use Rattle.demands.specs.Runs.{made-long, short-run, long-memory, long-answer, ran-events, ran-left, ran-set-ups, left_all-state}

-- ---- demand 1

-- where none applies, `reply` and `left` are the work's
work-reply : (m : List ℕ) (k : Call) → reply_of m 0 k ≡ work_answer m k
unfolding reply_of
work-reply m (set_up z) = refl
work-reply m (on_state k) = refl

work-left : (m : List ℕ) (k : Call) → left_of m 0 k ≡ stored (work_state m k) m
unfolding left_of
work-left m (set_up z) = refl
work-left m (on_state k) = refl

pub demand1 : Demand1
unfolding reply left reply_of left_of
demand1 k m a n b s h = record {
  short = λ l. short-run k m a n b s h (lt-ltb (length a) answer_length l);
  broken = λ l c e. (
    subst (λ (r : Answer). Answered r a b s) (ap (λ (x : ℕ). reply_of m x k) e) (long-answer k m a n b s h (five l)),
    long-memory k m a n b s h (five l) ∙ ap (λ (x : ℕ). left_of m x k) e,
  );
  kept = λ l e. (
    subst (λ (r : Answer). Answered r a b s) (ap (λ (x : ℕ). reply_of m x k) e ∙ work-reply m k) (long-answer k m a n b s h (five l)),
    long-memory k m a n b s h (five l) ∙ ap (λ (x : ℕ). left_of m x k) e ∙ work-left m k,
  );
}
  where
    five : answer_length ≤ length a → ltb (length a) answer_length ≡ false
    five l = le-ltb (length a) answer_length l

-- ---- a set-up that returned 0

module _ (z : Sizes) (m a n b : List ℕ) (h : Called (set_up z) m a n b 0) where
  -- five words were lent: the short answer is not 0
  set-up-long : ltb (length a) answer_length ≡ false
  set-up-long = made-long (reply m (set_up z)) m (left m (set_up z)) a n b 0 h refl

  set-up-status : (reply m (set_up z)).status ≡ 0
  set-up-status = sym (long-answer (set_up z) m a n b 0 h set-up-long).status

  set-up-memory : n ≡ left m (set_up z)
  set-up-memory = long-memory (set_up z) m a n b 0 h set-up-long

  set-up-accepted : refusal_of m (set_up z) ≡ 0
  unfolding reply reply_of
  set-up-accepted = go (refusal_of m (set_up z)) refl set-up-status
    where
      go : (y : ℕ) → refusal_of m (set_up z) ≡ y → (reply_of m y (set_up z)).status ≡ 0 → refusal_of m (set_up z) ≡ 0
      go zero e z = e
      go (suc y) e z = absurd (omega arith)

  sets-up : Words m → SetsUp z m n
  sets-up w = rw set-up-memory (record {
    memory = left-set_up m z set-up-accepted;
    legal = record { lawful = set_up-legal m z set-up-accepted; words = set_up-words m z set-up-accepted w };
    state = set_up-state m z set-up-accepted;
  })

-- ---- demand 2

follows-rules : (k : Op) (m a n b : List ℕ) (s : ℕ) → Called (on_state k) m a n b s → answer_length ≤ length a → Sound m → FollowsRules k m a n b s
follows-rules k m a n b s h l v =
    let e = le-ltb (length a) answer_length l in
    let is = long-memory (on_state k) m a n b s h e in
    record {
      answer = subst (λ (r : Answer). Answered r a b s) (reply-legal m k v.lawful) (long-answer (on_state k) m a n b s h e);
      memory = is ∙ left-legal m k v.lawful v.words;
      legal = subst Sound (sym is) (left-sound m (on_state k) v);
      state = ap state is ∙ left-state m k v.lawful v.words;
    }

state-listed : (z : Sizes) (m a m₀ b : List ℕ) → Called (set_up z) m a m₀ b 0 → Words m → (xs : List Run) → Ran m₀ xs → NoSetUps xs
    → Sound (last_memory m₀ xs) × (state (last_memory m₀ xs) ≡ state_after (fresh z) (calls_of xs))
state-listed z m a m₀ b h w xs ran ups =
    let u = sets-up z m a m₀ b h w in
    let (v, e) = left_all-state (calls_of xs) m₀ u.legal (ran-set-ups m₀ xs ran ups) in
    rw (ran-left m₀ xs ran) (v, e ∙ ap (λ (s : State). state_after s (calls_of xs)) u.state)

pub demand2 : Demand2
demand2 = record { calls = follows-rules; setting_up = sets-up; list = state-listed; one_to_one = one-to-one }

-- ---- demand 3

-- what holds of the calls of every list of the model, on the memory that its set-up left, holds of the calls for C
pub on-calls : (P : List ℕ → List Call → Type 0)
    → ((m : List ℕ) (z : Sizes) → (reply m (set_up z)).status ≡ 0 → (ks : List Call) → RefusesSetUps (left m (set_up z)) ks → P (left m (set_up z)) ks)
    → (z : Sizes) (m a m₀ b : List ℕ) → Called (set_up z) m a m₀ b 0 → (xs : List Run) → Ran m₀ xs → NoSetUps xs → P m₀ (calls_of xs)
on-calls P every z m a m₀ b h xs ran ups =
    subst (λ (w : List ℕ). P w (calls_of xs)) (sym is)
    (every m z (set-up-status z m a m₀ b h) (calls_of xs) (subst (λ (w : List ℕ). RefusesSetUps w (calls_of xs)) is (ran-set-ups m₀ xs ran ups)))
  where
    is : m₀ ≡ left m (set_up z)
    is = set-up-memory z m a m₀ b h

-- the same of their events and the memory after them
pub on-lists : (P : List Event → List ℕ → Type 0) → EveryList P → OfEveryList P
on-lists P every z m a m₀ b h xs ran ups =
    rw (ran-events m₀ xs ran, ran-left m₀ xs ran)
    (on-calls (λ (w : List ℕ) (ks : List Call). P (events w ks) (left_all w ks)) every z m a m₀ b h xs ran ups)

pub demand3 : Demand3
demand3 = on-lists Demand listed
