-- What the word-level functions of queues do to a state that the memory shows, over the queue's name: the test for an empty queue, and append.
use Prim.Native.Nat.{ℕ, ◌+◌, ◌<◌, ◌≤◌}
use mathlib.Core.Bool.{Bool, true, false, not, cond}
use mathlib.Core.Path.{◌≡◌, refl, ap, ◌∙◌}
use mathlib.Core.Logic.{◌≢◌}
use mathlib.Core.List.{List, [], ◌∷◌, ◌++◌}
use native.Mathlib.Omega.{arith}
use lib.ListN.{length, set, length-append}
use lib.Dec.{ltb, eqb}
use borrow.Author.Tests.{lt-ltb, le-ltb, ltb-true, ne_eqb}
use Rattle.model.specs.Word.{word_limit, none}
use Rattle.model.specs.Lists.{is_empty, concat, first, last, count, successor_in}
use Rattle.model.specs.State.{Sizes, State}
use Rattle.model.specs.Layout.{last_offset, length_offset, queue_width, queue_link_at}
use Rattle.model.specs.Memory.{at, all_queues, slot_words}
use Rattle.model.specs.Calls.{stored}
use Rattle.laws.specs.Counts.{count-self}
use Rattle.laws.specs.Repeats.{length-at-most}
use Rattle.laws.specs.Successors.{count-last-cons, first-append, last_snoc}
use Rattle.representation.proofs.Addresses.Fields.{Field, slot, Inside, value}
use Rattle.representation.proofs.Addresses.Writes.{Writes, put, writes-none, writes-put, writes-if, writes-done}
use Rattle.words.specs.Sums.{plus}
use Rattle.queues.specs.Queue.{link_address, cleared, followed, appended_run, appended}
use Rattle.queues.proofs.AllQueues.{append-links}
use Rattle.changes.proofs.Shows.{Shows}
use Rattle.changes.proofs.Shape.{Shape, queued}
use Rattle.changes.proofs.Puts.{linked, linked-put-one, linked-same, put_same, put-over}
use Rattle.changes.specs.Queues.{Queue, Named, queue_of, with_queue, ends_at}
use Rattle.changes.proofs.OfQueues.QueuePlaces.{position, all_queues-at, position-inside}
use Rattle.changes.proofs.OfQueues.QueueStates.{queue-le}
use Rattle.changes.proofs.OfQueues.QueueEnds.{first_field, word_field, last_field, length_field, first-address, word_address, first-inside, word-inside}
use Rattle.changes.proofs.OfQueues.QueueEnds.{value-first, value-length, word_first, length_last, first_slot, word-slot, first-shown, last-shown}
use Rattle.changes.proofs.OfQueues.QueueFields.{links_with, value-with_queue}

-- ---- a state's queues: each slot once, and none is no slot

module _ (s : State) (w : Shape s) where
  pub queues-once : (x : ℕ) → count x (concat (all_queues s)) ≤ 1
  queues-once x = omega (arith, w.once x)

  pub slot-real : (x : ℕ) → x < s.sizes.slots → x ≢ none
  slot-real x h e = omega (arith, w.few)

  pub few-none : s.sizes.slots ≤ none
  few-none = omega (arith, w.few)

  -- the slots of one queue
  pub queue-below : (q : Queue) (x : ℕ) → 0 < count x (queue_of s q) → x < s.sizes.slots
  queue-below q x h = w.below x (omega (arith, queue-le s q x))

  pub first_below : (q : Queue) (x : ℕ) (xs : List ℕ) → queue_of s q ≡ x ∷ xs → x < s.sizes.slots
  first_below q x xs e = queue-below q x (rw e (omega (arith, count-self x xs)))

  pub queue-few : (q : Queue) → length (queue_of s q) ≤ s.sizes.slots
  queue-few q = length-at-most s.sizes.slots (queue_of s q) (queue-below q) (λ x. omega (arith, queue-le s q x, w.once x))

  pub last-below : (q : Queue) (x : ℕ) (xs : List ℕ) → queue_of s q ≡ x ∷ xs → last (x ∷ xs) < s.sizes.slots
  last-below q x xs e = queue-below q (last (x ∷ xs)) (rw e (count-last-cons x xs))

module _ (s : State) (m : List ℕ) (shows : Shows m s) (w : Shape s) (q : Queue) (named : Named s.sizes q) where
  abbrev z : Sizes
  z = s.sizes

  -- the test for an empty queue
  pub empty-shown : not (ltb (at m (ends_at z q)) z.slots) ≡ is_empty (queue_of s q)
  unfolding first is_empty
  empty-shown = rw (first-shown s m shows q named) (go (queue_of s q) refl)
    where
      go : (xs : List ℕ) → queue_of s q ≡ xs → not (ltb (first xs) z.slots) ≡ is_empty xs
      go [] e = ap not (le-ltb none z.slots (few-none s w))
      go (x ∷ xs) e = ap not (lt-ltb x z.slots (first_below s w q x xs e))

  -- ---- the stores of an appended run

  -- what the fields hold after x and the run that begins there follow the queue's last
  abbrev pub followed_value : ℕ → Field → ℕ
  followed_value x f = cond (ltb (last (queue_of s q)) z.slots) (put (value s) (slot (last (queue_of s q)) queue_link_at) x f) (put (value s) (first_field q) x f)

  last-inside-slot : ltb (last (queue_of s q)) z.slots ≡ true → Inside z (slot (last (queue_of s q)) queue_link_at)
  last-inside-slot t = (ltb-true (last (queue_of s q)) z.slots t, omega arith)

  -- a store to the queue's first, and to its word at offset o
  pub first-writes : (n : List ℕ) (v : Field → ℕ) (x : ℕ) → Writes z m n v → Writes z m (set n (ends_at z q) x) (put v (first_field q) x)
  first-writes n v x p = writes-put z m shows.long n v (first_field q) (ends_at z q) x (first-address z q) (first-inside z q named) p

  pub word-writes : (o : ℕ) → o < queue_width → (n : List ℕ) (v : Field → ℕ) (x : ℕ) → Writes z m n v → Writes z m (set n (ends_at z q + o) x) (put v (word_field q o) x)
  word-writes o h n v x p = writes-put z m shows.long n v (word_field q o) (ends_at z q + o) x (word_address z q o) (word-inside z q named o h) p

  -- a queue that is empty
  pub cleared-writes : (n : List ℕ) (v : Field → ℕ) → Writes z m n v
      → Writes z m (cleared n (ends_at z q)) (put (put (put v (first_field q) none) (last_field q) none) (length_field q) 0)
  cleared-writes n v p =
      word-writes length_offset (omega arith) (set (set n (ends_at z q) none) (ends_at z q + last_offset) none) (put (put v (first_field q) none) (last_field q) none) 0
      (word-writes last_offset (omega arith) (set n (ends_at z q) none) (put v (first_field q) none) none (first-writes n v none p))

  -- its length, where the stores so far left it alone
  pub stored-length : (n : List ℕ) (v : Field → ℕ) → Writes z m n v → v (length_field q) ≡ value s (length_field q)
      → at n (ends_at z q + length_offset) ≡ length (queue_of s q)
  stored-length n v p e =
      ap (at n) (word_address z q length_offset) ∙ p.image (length_field q) (word-inside z q named length_offset (omega arith)) ∙ e ∙ value-length s q

  abbrev followed_with : ℕ → ℕ → List ℕ
  followed_with x y = set (followed m z (ends_at z q) x) (ends_at z q + last_offset) y

  followed-writes : (x y : ℕ) → Writes z m (followed_with x y) (put (followed_value x) (last_field q) y)
  unfolding followed
  followed-writes x y =
      word-writes last_offset (omega arith) (followed m z (ends_at z q) x) (followed_value x) y
      (rw (last-shown s m shows q named)
      (writes-if z m shows.long (ltb (last (queue_of s q)) z.slots) (set m (link_address z (last (queue_of s q))) x) (set m (ends_at z q) x)
      (put (value s) (slot (last (queue_of s q)) queue_link_at) x) (put (value s) (first_field q) x)
      (λ t. writes-put z m shows.long m (value s) (slot (last (queue_of s q)) queue_link_at) (link_address z (last (queue_of s q))) x refl
      (last-inside-slot t) none_yet)
      (λ t. first-writes m (value s) x none_yet)))
    where
      none_yet : Writes z m m (value s)
      none_yet = writes-none z m shows.long (value s) shows.image

  -- they leave the length alone
  followed-length : (x y : ℕ) → put (followed_value x) (last_field q) y (length_field q) ≡ value s (length_field q)
  followed-length x y = rw (length_last q, word-slot (last (queue_of s q)) queue_link_at q length_offset, word_first q length_offset (omega arith)) (go (ltb (last (queue_of s q)) z.slots))
    where
      go : (b : Bool) → cond b (value s (length_field q)) (value s (length_field q)) ≡ value s (length_field q)
      go true = refl
      go false = refl

  -- n slots more are the sum
  pub run-writes : (x y n : ℕ) → length (queue_of s q) + n < word_limit
      → Writes z m (appended_run m z (ends_at z q) x y n) (put (put (followed_value x) (last_field q) y) (length_field q) (length (queue_of s q) + n))
  unfolding appended_run
  run-writes x y n few =
      let e : plus (at (followed_with x y) (ends_at z q + length_offset)) n ≡ length (queue_of s q) + n =
      ap (λ (k : ℕ). plus k n) (stored-length (followed_with x y) (put (followed_value x) (last_field q) y) (followed-writes x y) (followed-length x y)) ∙ omega arith in
      rw e
      (word-writes length_offset (omega arith) (followed_with x y) (put (followed_value x) (last_field q) y) (length (queue_of s q) + n) (followed-writes x y))

  -- they are the links h and the first of the longer queue
  pub followed-values : (x : ℕ) (h : ℕ → ℕ) → ((j : ℕ) → j ≢ none → h j ≡ cond (eqb j (last (queue_of s q))) x (successor_in (all_queues s) j none))
      → (f : Field) → Inside z f
      → put (linked queue_link_at h (value s)) (first_field q) (cond (is_empty (queue_of s q)) x (first (queue_of s q))) f ≡ followed_value x f
  unfolding is_empty last slot_words
  followed-values x h e f b = go (queue_of s q) refl
    where
      go : (xs : List ℕ) → queue_of s q ≡ xs → put (linked queue_link_at h (value s)) (first_field q) (cond (is_empty xs) x (first xs)) f
          ≡ cond (ltb (last xs) z.slots) (put (value s) (slot (last xs) queue_link_at) x f) (put (value s) (first_field q) x f)
      go [] r =
          rw (le-ltb none z.slots (few-none s w))
          (put-over (linked queue_link_at h (value s)) (value s) (first_field q) x f
          (linked-same z queue_link_at h (value s) (λ j c. let n = slot-real s w j c in e j n ∙ rw (r, ne_eqb j none n)) f b))
      go (y ∷ ys) r =
          rw (lt-ltb (last (y ∷ ys)) z.slots (last-below s w q y ys r))
          (put-over (linked queue_link_at h (value s)) (put (value s) (slot (last (y ∷ ys)) queue_link_at) x) (first_field q) (first (y ∷ ys)) f
          (linked-put-one z queue_link_at h (value s) (last (y ∷ ys)) x (λ j c. e j (slot-real s w j c) ∙ rw r) f b)
          ∙ put_same (put (value s) (slot (last (y ∷ ys)) queue_link_at) x) (first_field q) (first (y ∷ ys)) (at_first y ys r) f)
        where
          at_first : (y : ℕ) (ys : List ℕ) → queue_of s q ≡ y ∷ ys → put (value s) (slot (last (y ∷ ys)) queue_link_at) x (first_field q) ≡ first (y ∷ ys)
          at_first y ys r = ap (λ (c : Bool). cond c x (value s (first_field q))) (first_slot (last (y ∷ ys)) queue_link_at q) ∙ value-first s q ∙ ap first r

  -- ---- append

  module _ (o : ℕ) (inside : o < z.slots) (out : queued o s ≡ 0) where
    pub append-queue : appended m z (ends_at z q) o ≡ stored (with_queue q (λ xs. xs ++ (o ∷ [])) s) m
    unfolding first
    append-queue =
        writes-done (with_queue q (λ xs. xs ++ (o ∷ [])) s) m (appended m z (ends_at z q) o)
        (put (put (followed_value o) (last_field q) o) (length_field q) (length (queue_of s q) + 1)) shows.long
        (run-writes o o 1 (omega (arith, queue-few s w q, w.few)))
        (λ f b. value-with_queue s (λ xs. xs ++ (o ∷ [])) q w.lanes named f
        ∙ rw (last_snoc (queue_of s q) o, first-append (queue_of s q) (o ∷ []), length-append (queue_of s q) (o ∷ []))
        (put-over (put (put (linked queue_link_at links (value s)) (first_field q) (cond (is_empty (queue_of s q)) o (first (queue_of s q)))) (last_field q) o)
        (put (followed_value o) (last_field q) o) (length_field q) (length (queue_of s q) + 1) f
        (put-over (put (linked queue_link_at links (value s)) (first_field q) (cond (is_empty (queue_of s q)) o (first (queue_of s q))))
        (followed_value o) (last_field q) o f
        (followed-values o links link-of f b))))
      where
        links : ℕ → ℕ
        links = links_with s (λ xs. xs ++ (o ∷ [])) q

        link-of : (j : ℕ) → j ≢ none → links j ≡ cond (eqb j (last (queue_of s q))) o (successor_in (all_queues s) j none)
        link-of j n = append-links (all_queues s) (position q) o (position-inside s q w.lanes named) (queues-once s w) out j n ∙ rw (all_queues-at s q)
