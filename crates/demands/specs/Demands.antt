-- The three demands on the calls for C, in document 01's order and terms; Proved shows that each holds. They ask of the fourteen functions nothing but
-- their contract: `Called k m a n b s` (crate `product_table`) says that the call k, on the memory m and with the words a lent for its answer, returned s
-- and left the memory n and the words b.
use Rattle.std.specs.Prelude.{ℕ, suc, ◌≤◌, ◌<◌, ◌≡◌, Bool, List, [], ◌∷◌, ◌++◌, map, length, get_or, drop, ltb}
use Rattle.model.specs.Lists.{drops}
use Rattle.model.specs.State.{Sizes, State}
use Rattle.model.specs.Layout.{total}
use Rattle.model.specs.Rules.{Answer, Op, accepted, refused, result, performed, answer, next, fresh}
use Rattle.model.specs.Memory.{Words, state}
use Rattle.model.specs.Calls.{Call, set_up, on_state, stored, refusal_of}
use Rattle.model.specs.Ledger.{Event, Demand}
use Rattle.representation.specs.Sound.{Sound}
use Rattle.representation.proofs.Round.{OneToOne}
use Rattle.product_table.specs.Called.{answer_length, short_answer, answer_words, Called}

-- ---- what a call returned and left

-- nothing: with fewer than five words for its answer a call returns 4,294,967,295 and does nothing
pub record NotMade (m a n b : List ℕ) (s : ℕ) : Type 0 where
  pub status : s ≡ short_answer
  pub memory : n ≡ m
  pub answer : b ≡ a

-- the answer r: the status is returned, the five words are the first five of those lent, and the others are as they were
pub record Answered (r : Answer) (a b : List ℕ) (s : ℕ) : Type 0 where
  pub status : s ≡ r.status
  pub answer : b ≡ answer_words r ++ drop answer_length a

-- ---- demand 1. Any call on any memory with any numbers returns: one that breaks a rule answers the number of the first cause that applies and four
-- zeros, and changes no word; one that breaks none does its work. (That it returns is no part of `Called`. It is what the prover shows of every function
-- before its contract holds: the function ends, and touches nothing that was not lent to it; and the functions for C ask nothing of their arguments.)

-- what the work of a call answers, and the state that it makes; the state of a legal memory is what its words stand for
abbrev pub work_answer : List ℕ → Call → Answer
work_answer m (set_up z) = accepted (total z) 0 0 0
work_answer m (on_state k) = result (state m) k

abbrev pub work_state : List ℕ → Call → State
work_state m (set_up z) = fresh z
work_state m (on_state k) = performed (state m) k

pub record ByTheRule (k : Call) (m a n b : List ℕ) (s : ℕ) : Type 0 where
  pub short : length a < answer_length → NotMade m a n b s
  -- a cause applies, and this is the number of the first: it, four zeros, and no word changed
  pub broken : answer_length ≤ length a → (c : ℕ) → refusal_of m k ≡ suc c → Answered (refused (suc c)) a b s × (n ≡ m)
  -- none applies: the answer of the work; below the total the words of the state that it makes, past it the words as they were
  pub kept : answer_length ≤ length a → refusal_of m k ≡ 0 → Answered (work_answer m k) a b s × (n ≡ stored (work_state m k) m)

abbrev pub Demand1 : Type 0
Demand1 = (k : Call) (m a n b : List ℕ) (s : ℕ) → Called k m a n b s → ByTheRule k m a n b s

-- ---- a list of calls, one after another on one memory

-- a call of the list: the words lent for its answer, what it returned, and the memory and the words that it left
pub record Run : Type 0 where
  pub call : Call
  pub lent : List ℕ
  pub status : ℕ
  pub memory : List ℕ
  pub answer : List ℕ

-- each was made on the memory that the one before it left; the first on m
unfoldable pub Ran : List ℕ → List Run → Type 0
Ran m [] = Unit {0}
Ran m (x ∷ xs) = Called x.call m x.lent x.memory x.answer x.status × Ran x.memory xs

-- the memory after the last of them
unfoldable pub last_memory : List ℕ → List Run → List ℕ
last_memory m [] = m
last_memory m (x ∷ xs) = last_memory x.memory xs

-- no set-up among them was accepted: an accepted one makes another table, and ends the list
abbrev pub NoSetUp : Call → ℕ → Type 0
NoSetUp (set_up z) s = s ≡ 0 → ⊥
NoSetUp (on_state k) s = Unit {0}

unfoldable pub NoSetUps : List Run → Type 0
NoSetUps [] = Unit {0}
NoSetUps (x ∷ xs) = NoSetUp x.call x.status × NoSetUps xs

-- the calls of the list less those with too few words for their answer, which were not made
abbrev pub is_short : Run → Bool
is_short x = ltb (length x.lent) answer_length

abbrev pub call_of : Run → Call
call_of x = x.call

abbrev pub calls_of : List Run → List Call
calls_of xs = map call_of (drops is_short xs)

-- ---- demand 2. On a legal memory every call answers as the rules say, and leaves the words of the state that the rules make. Legal memories, up to what
-- follows their total, and well-formed states are one to one. (`Sound`: legal, and of words, as every lent memory is.)

pub record FollowsRules (k : Op) (m a n b : List ℕ) (s : ℕ) : Type 0 where
  pub answer : Answered (answer (state m) k) a b s
  pub memory : n ≡ stored (next (state m) k) m
  pub legal : Sound n
  pub state : state n ≡ next (state m) k

pub record SetsUp (z : Sizes) (m n : List ℕ) : Type 0 where
  pub memory : n ≡ stored (fresh z) m
  pub legal : Sound n
  pub state : state n ≡ fresh z

-- the state after a list's calls, by the rules
unfoldable pub state_after : State → List Call → State
state_after s [] = s
state_after s (set_up z ∷ ks) = state_after s ks
state_after s (on_state k ∷ ks) = state_after (next s k) ks

pub record Demand2 : Type 0 where
  pub calls : (k : Op) (m a n b : List ℕ) (s : ℕ) → Called (on_state k) m a n b s → answer_length ≤ length a → Sound m → FollowsRules k m a n b s
  pub setting_up : (z : Sizes) (m a n b : List ℕ) → Called (set_up z) m a n b 0 → Words m → SetsUp z m n
  -- over a list from an accepted set-up on, the memory is legal and stands for the state after the calls
  pub list : (z : Sizes) (m a m₀ b : List ℕ) → Called (set_up z) m a m₀ b 0 → Words m → (xs : List Run) → Ran m₀ xs → NoSetUps xs
      → Sound (last_memory m₀ xs) × (state (last_memory m₀ xs) ≡ state_after (fresh z) (calls_of xs))
  pub one_to_one : OneToOne

-- ---- demand 3, whole: one statement over every list, from an accepted set-up of any memory on. `Demand` (crate `model`, Ledger) is document 01's, of the
-- ledger that the calls and their answers feed, and of the memory after the last of them.

-- the answer in the first five words
abbrev pub answer_in : List ℕ → Answer
answer_in b = record { status = get_or b 0 0; a = get_or b 1 0; b = get_or b 2 0; c = get_or b 3 0; d = get_or b 4 0 }

-- what the ledger is fed
abbrev pub event_of : Run → Event
event_of x = record { call = x.call; answer = answer_in x.answer }

abbrev pub events_of : List Run → List Event
events_of xs = map event_of (drops is_short xs)

-- P holds of every list of calls, by its events and the memory after it
abbrev pub OfEveryList : (List Event → List ℕ → Type 0) → Type 0
OfEveryList P =
    (z : Sizes) (m a m₀ b : List ℕ) → Called (set_up z) m a m₀ b 0 → (xs : List Run) → Ran m₀ xs → NoSetUps xs → P (events_of xs) (last_memory m₀ xs)

abbrev pub Demand3 : Type 0
Demand3 = OfEveryList Demand
