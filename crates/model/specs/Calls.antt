-- The fourteen calls on a memory: what the contracts of the public functions cite. `reply` is the answer, `left` the memory after the call; they are
-- apart, so that an answer can be computed without the memory after it.
use Rattle.std.specs.Prelude.{ℕ, zero, suc, not, List, [], ◌∷◌, ◌++◌, length, drop, ltb}
use Rattle.model.specs.State.{Sizes, State}
use Rattle.model.specs.Layout.{total}
use Rattle.model.specs.Rules.{Op, Answer, accepted, refused, cause, first_cause, causes, result, performed, fresh}
use Rattle.model.specs.Memory.{words, state}
use Rattle.model.specs.Legal.{sizes_fit, legal}

pub data Call : Type 0 where
  set_up : Sizes → Call
  on_state : Op → Call

abbrev pub sized : (yards cabinets places slots : ℕ) → Sizes
sized y c p n = record { yards = y; cabinets = c; places = p; slots = n }

-- the words of s, then the words past its total as they were in m
abbrev pub stored : State → List ℕ → List ℕ
stored s m = words s ++ drop (total s.sizes) m

module _ (m : List ℕ) where
  -- the number of the cause that refuses a call on m, the first of its list where several apply; 0 where none does
  unfoldable pub refusal_of : Call → ℕ
  refusal_of (set_up z) = first_cause (cause 1 (not (sizes_fit z)) ∷ cause 2 (ltb (length m) (total z)) ∷ [])
  refusal_of (on_state k) = first_cause (cause 3 (not (legal m)) ∷ causes (state m) k)

  -- the answer of a call that cause n refuses; n is 0 where none does
  unfoldable pub reply_of : ℕ → Call → Answer
  reply_of (suc n) k = refused (suc n)
  reply_of zero (set_up z) = accepted (total z) 0 0 0
  reply_of zero (on_state k) = result (state m) k

  -- the memory after it: a refused call changes no word
  unfoldable pub left_of : ℕ → Call → List ℕ
  left_of (suc n) k = m
  left_of zero (set_up z) = stored (fresh z) m
  left_of zero (on_state k) = stored (performed (state m) k) m

  -- the answer of a call on m
  unfoldable pub reply : Call → Answer
  reply k = reply_of (refusal_of k) k

  -- the memory after a call on m
  unfoldable pub left : Call → List ℕ
  left k = left_of (refusal_of k) k

-- the answers to a list of calls
unfoldable pub replies : List ℕ → List Call → List Answer
replies m [] = []
replies m (k ∷ ks) = reply m k ∷ replies (left m k) ks

-- the memory after a list of calls
unfoldable pub left_all : List ℕ → List Call → List ℕ
left_all m [] = m
left_all m (k ∷ ks) = left_all (left m k) ks
