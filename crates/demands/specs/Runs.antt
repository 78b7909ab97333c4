-- A call that met its contract, by whether five words were lent for its answer; and calls made one after another are the events of the model, those that
-- were not made left out.
use Rattle.std.specs.Prelude.{ℕ, ◌≡◌, refl, ◌⊎◌, true, false, length, ltb}
use Rattle.std.proofs.Math.Path.{ap, subst}
use Rattle.std.proofs.Common.{◌∙◌, inl, inr, arith}
use mathlib.Core.List.{List, [], ◌∷◌, map}
use Rattle.laws.specs.Tests.{bool_cases, cond_cases}
use Rattle.model.specs.Lists.{drops}
use Rattle.model.specs.State.{State}
use Rattle.model.specs.Rules.{Answer}
use Rattle.model.specs.Memory.{state}
use Rattle.model.specs.Calls.{Call, set_up, on_state, reply, left, left_all}
use Rattle.model.specs.Ledger.{events, RefusesSetUps}
use Rattle.representation.proofs.MemoryCalls.{refused-keeps, left-state}
use Rattle.representation.specs.Sound.{Sound}
use Rattle.representation.proofs.Memories.{left-sound}
use Rattle.product_table.specs.Called.{answer_length, Outcome, outcome, answering, Called}
use Rattle.demands.specs.Demands.{NotMade, Answered, Run, Ran, last_memory, NoSetUp, NoSetUps, is_short, call_of, calls_of, state_after}
use Rattle.demands.specs.Demands.{answer_in, event_of, events_of}

-- ---- one call

-- a function for C that answers r and makes o of m
module _ (r : Answer) (m o a n b : List ℕ) (s : ℕ) (h : outcome s n b ≡ answering r m o a) where
  pub short-answer : ltb (length a) answer_length ≡ true → NotMade m a n b s
  unfolding answering
  short-answer e = record {
    status = ap (λ (o : Outcome). o.status) (rw e at h);
    memory = ap (λ (o : Outcome). o.memory) (rw e at h);
    answer = ap (λ (o : Outcome). o.answer) (rw e at h);
  }

  module _ (e : ltb (length a) answer_length ≡ false) where
    pub made-memory : n ≡ o
    unfolding answering
    made-memory = ap (λ (o : Outcome). o.memory) (rw e at h)

    pub made-answer : Answered r a b s
    unfolding answering
    made-answer = record { status = ap (λ (o : Outcome). o.status) (rw e at h); answer = ap (λ (o : Outcome). o.answer) (rw e at h) }

  -- the short answer's status is not 0
  pub made-long : s ≡ 0 → ltb (length a) answer_length ≡ false
  made-long z = go (bool_cases (ltb (length a) answer_length))
    where
      go : (ltb (length a) answer_length ≡ true) ⊎ (ltb (length a) answer_length ≡ false) → ltb (length a) answer_length ≡ false
      go (inl e) = absurd (omega (arith, (short-answer e).status))
      go (inr e) = e

module _ (k : Call) (m a n b : List ℕ) (s : ℕ) (h : Called k m a n b s) where
  pub short-run : ltb (length a) answer_length ≡ true → NotMade m a n b s
  short-run e = short-answer (reply m k) m (left m k) a n b s h e

  module _ (e : ltb (length a) answer_length ≡ false) where
    pub long-memory : n ≡ left m k
    long-memory = made-memory (reply m k) m (left m k) a n b s h e

    pub long-answer : Answered (reply m k) a b s
    long-answer = made-answer (reply m k) m (left m k) a n b s h e

-- ---- the calls of a list

-- what holds of the calls that were made, by what holds of the later ones: of a call on m, whose contract is met
module _ (P : List ℕ → List Run → Type 0) (m : List ℕ) (x : Run) (xs : List Run) where
  on-run : Called x.call m x.lent x.memory x.answer x.status → P x.memory (drops is_short xs)
      → (is_short x ≡ false → P (left m x.call) (drops is_short xs) → P m (x ∷ drops is_short xs)) → P m (drops is_short (x ∷ xs))
  unfolding drops
  on-run d h f =
      cond_cases (P m) (is_short x) (λ e. later m (short-run _ _ _ _ _ _ d e).memory) (λ e. f e (later (left m x.call) (long-memory _ _ _ _ _ _ d e)))
    where
      later : (n : List ℕ) → x.memory ≡ n → P n (drops is_short xs)
      later n e = subst (λ (n : List ℕ). P n (drops is_short xs)) e h

pub ran-events : (m : List ℕ) (xs : List Run) → Ran m xs → events_of xs ≡ events m (calls_of xs)
unfolding Ran events drops
ran-events m [] h = refl
ran-events m (x ∷ xs) (d, h) =
    on-run (λ (n : List ℕ) (ys : List Run). map event_of ys ≡ events n (map call_of ys)) m x xs d (ran-events x.memory xs h)
    (λ e i. let r : answer_in x.answer ≡ reply m x.call = ap answer_in (long-answer _ _ _ _ _ _ d e).answer in rw (r, i))

pub ran-left : (m : List ℕ) (xs : List Run) → Ran m xs → last_memory m xs ≡ left_all m (calls_of xs)
unfolding Ran last_memory left_all drops
ran-left m [] h = refl
ran-left m (x ∷ xs) (d, h) =
    on-run (λ (n : List ℕ) (ys : List Run). last_memory x.memory xs ≡ left_all n (map call_of ys)) m x xs d (ran-left x.memory xs h) (λ e i. i)

pub ran-set-ups : (m : List ℕ) (xs : List Run) → Ran m xs → NoSetUps xs → RefusesSetUps m (calls_of xs)
unfolding Ran NoSetUps RefusesSetUps drops
ran-set-ups m [] h r = tt
ran-set-ups m (x ∷ xs) (d, h) (r, rs) =
    on-run (λ (n : List ℕ) (ys : List Run). RefusesSetUps n (map call_of ys)) m x xs d (ran-set-ups x.memory xs h rs)
    (λ e i. go x.call (long-answer _ _ _ _ _ _ d e).status r i)
  where
    go : (k : Call) → x.status ≡ (reply m k).status → NoSetUp k x.status → RefusesSetUps (left m k) (calls_of xs) → RefusesSetUps m (k ∷ calls_of xs)
    go (set_up z) e f g = ((λ z. f (e ∙ z)), g)
    go (on_state k) e f g = g

-- ---- the state after a list

pub left_all-state : (ks : List Call) (m : List ℕ) → Sound m → RefusesSetUps m ks
    → Sound (left_all m ks) × (state (left_all m ks) ≡ state_after (state m) ks)
unfolding left_all state_after RefusesSetUps
left_all-state [] m v r = (v, refl)
left_all-state (set_up z ∷ ks) m v r =
    let same = refused-keeps m (set_up z) r.0 in
    rw same (left_all-state ks m v (rw same at r.1))
left_all-state (on_state k ∷ ks) m v r =
    let (w, e) = left_all-state ks (left m (on_state k)) (left-sound m (on_state k) v) r in
    (w, e ∙ ap (λ (s : State). state_after s ks) (left-state m k v.lawful v.words))
