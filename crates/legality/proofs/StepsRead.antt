-- The steps of the walks, in the chains and queues that a memory reads: their slots are those of all chains and queues, and the checks of the queues
-- have "lines agree with first and last" and that lengths agree among them.
use Prim.Native.Nat.{ℕ, zero, suc, ◌+◌, ◌*◌, ◌<◌}
use mathlib.Core.Bool.{Bool, true, ◌&&◌}
use mathlib.Core.Path.{◌≡◌, refl, ap, ap₂, sym, ◌∙◌, subst}
use mathlib.Core.List.{List, [], ◌∷◌, ◌++◌, map}
use native.Mathlib.Omega.{arith}
use native.Mathlib.Numerals.{add-one}
use lib.ListN.{length}
use lib.Dec.{eqb}
use borrow.Author.Tests.{le-leb, lt-leb}
use Rattle.model.specs.Word.{none}
use Rattle.model.specs.Lists.{all, from, count, last, concat, concat_map}
use Rattle.model.specs.State.{lane_count, Lane}
use Rattle.model.specs.Layout.{slots_at, chain_count, heads_at, free_at, global_queues_at, global_generation_at, generation_at, queues_at}
use Rattle.model.specs.Layout.{queue_width, current_offset, done_offset, last_offset, length_offset, chain_link_at, queue_link_at, slot_length, lane_length}
use Rattle.model.specs.Layout.{slots_body, slot_address, lane_address, lanes_body}
use Rattle.model.specs.Engine.{lane_at, fresh_lane}
use Rattle.model.specs.Memory.{at, sizes, walk, slot_field, read_chain, read_chains, read_queue, read_queues, read_lane, queues_of, lane_queues, state}
use Rattle.model.specs.Legal.{agrees_at, queues_agree, lasts_agree, lengths_agree}
use Rattle.laws.specs.Tests.{every_true, every-intro, and-true, and_intro, all-below, all-below-intro}
use Rattle.laws.specs.ListLaws.{length-map-from, get_or-map-below}
use Rattle.laws.specs.Walks.{walk-stop, walk-on, stop, on, step}
use Rattle.laws.specs.Counts.{count-append}
use Rattle.words.specs.Links.{slot_or_none}
use Rattle.slot_places.specs.declared.slots.Queued.{Queued}
use Rattle.slot_places.specs.declared.slots.Queued.TheVariants.{Free, Retired}
use Rattle.slot_places.specs.Slots.{queued_fits}
use Rattle.slot_places.specs.WalkSteps.{Step, slots_of, several, queue_count, walks, chain_steps, link_steps, end_steps, queue_steps, lane_steps}
use Rattle.slot_places.proofs.WalkStepLaws.{slots_of-append}
use Rattle.slot_places.proofs.Marked.{checks, Right, look, stop as ended}
use Rattle.slot_places.proofs.Places.{slots-append, checks-both, both-check, right-walks, right-append, right-several, several-check, check-several, told-walks}
use Rattle.legality.specs.Parts.{queued_steps}

module _ (m : List ℕ) where
  abbrev pub S : ℕ
  S = at m slots_at

  abbrev pub base : ℕ
  base = slots_body (sizes m)

  abbrev pub lane_total : ℕ
  lane_total = lane_count (sizes m)

  -- ---- a walk of the check is the model's

  walk-slots : (p : ℕ → Bool) (k n i : ℕ) → slots_of (walks m (base + k) S p i n) ≡ walk (slot_field m k) i n
  unfolding walks walk slots_of
  walk-slots p k zero i = refl
  walk-slots p k (suc n) i =
      elim (step (slot_field m k) i) [
        | stop q ↦
            rw (le-leb S i (omega (arith, length-map-from (λ (j : ℕ). at m (slot_address (sizes m) j + k)) 0 S)), walks)
            (sym (walk-stop (slot_field m k) i (suc n) q))
        | on q ↦
            let b : i < S = omega (arith, length-map-from (λ (j : ℕ). at m (slot_address (sizes m) j + k)) 0 S) in
            let a : base + k + slot_length * i ≡ slot_address (sizes m) i + k = omega arith in
            rw (lt-leb S i b, walks)
            (ap (λ (xs : List ℕ). i ∷ xs)
            (walk-slots p k n (at m (base + k + slot_length * i))
            ∙ ap (λ (j : ℕ). walk (slot_field m k) j n) (ap (at m) a ∙ sym (get_or-map-below (λ (j : ℕ). at m (slot_address (sizes m) j + k)) S i none b)))
            ∙ sym (walk-on (slot_field m k) i n q))
      ]

  pub chain-slots : (k : ℕ) → slots_of (chain_steps m base S k) ≡ read_chain m k
  chain-slots k = walk-slots _ chain_link_at (S + 1) (at m (heads_at + k)) ∙ ap (walk (slot_field m chain_link_at) (at m (heads_at + k))) (add-one S)

  pub link-slots : (kind : Queued) (a : ℕ) → slots_of (link_steps m base S kind a) ≡ read_queue m a
  link-slots kind a = walk-slots _ queue_link_at (S + 1) (at m a) ∙ ap (walk (slot_field m queue_link_at) (at m a)) (add-one S)

  -- ---- the parts

  abbrev pub chain_part : List Step
  chain_part = several (chain_steps m base S) 1 0 chain_count

  abbrev pub free_part : List Step
  free_part = several (queue_steps m base S Free) queue_width free_at 1

  abbrev pub three_steps : ℕ → List Step
  three_steps a = several (queue_steps m base S Retired) queue_width a queue_count

  abbrev pub lane_part : List Step
  lane_part = several (lane_steps m base S) lane_length (lanes_body (sizes m)) lane_total

  abbrev pub queued_part : List Step
  queued_part = queued_steps m base (lanes_body (sizes m)) lane_total S

  queue-right : (kind : Queued) (a : ℕ) → Right S (queue_steps m base S kind a)
  queue-right kind a = right-append (right-walks m _ S _ (at m a) (S + 1)) (look (look ended))

  pub steps-right : Right S (chain_part ++ queued_part)
  unfolding queued_steps
  steps-right =
      right-append (right-several (chain_steps m base S) 1 (λ k. right-walks m _ S _ (at m (heads_at + k)) (S + 1)) 0 chain_count)
      (right-append (right-several (queue_steps m base S Free) queue_width (queue-right Free) free_at 1)
      (right-append (three global_queues_at) (right-several (lane_steps m base S) lane_length (λ a. three (a + queues_at)) (lanes_body (sizes m)) lane_total)))
    where
      three : (a : ℕ) → Right S (three_steps a)
      three a = right-several (queue_steps m base S Retired) queue_width (queue-right Retired) a 3

  -- ---- their slots

  pub slots-queue : (i : ℕ) (kind : Queued) (a : ℕ) → count i (slots_of (queue_steps m base S kind a)) ≡ count i (read_queue m a)
  unfolding slots_of count
  slots-queue i kind a =
      omega (
        arith,
        slots-append i (link_steps m base S kind a) (end_steps m base S a (slots_of (link_steps m base S kind a))),
        ap (count i) (link-slots kind a),
      )

  slots-chains : (a n : ℕ) → slots_of (several (chain_steps m base S) 1 a n) ≡ concat (map (read_chain m) (from a n))
  unfolding several slots_of concat from
  slots-chains a zero = refl
  slots-chains a (suc n) =
      let e : a + 1 ≡ suc a = omega arith in
      slots_of-append (chain_steps m base S a) (several (chain_steps m base S) 1 (a + 1) n)
      ∙ ap₂ ◌++◌ (chain-slots a) (slots-chains (a + 1) n ∙ ap (λ (x : ℕ). concat (map (read_chain m) (from x n))) e)

  pub chains-are : slots_of chain_part ≡ concat (read_chains m)
  unfolding read_chains
  chains-are = slots-chains 0 chain_count

  pub free-count : (i : ℕ) → count i (slots_of free_part) ≡ count i (read_queue m free_at)
  unfolding several slots_of count
  free-count i = omega (arith, slots-append i (queue_steps m base S Free free_at) [], slots-queue i Free free_at)

  -- three queues, the first of them at a
  three-count : (i a c : ℕ) → c ≡ a + done_offset
      → count i (slots_of (three_steps a)) ≡ count i (read_queue m a) + (count i (read_queue m (a + current_offset)) + count i (read_queue m c))
  unfolding several slots_of count
  three-count i a c e =
      let q : a + queue_width + queue_width ≡ c = omega arith in
      omega (
        arith,
        slots-append i (queue_steps m base S Retired a) (several (queue_steps m base S Retired) queue_width (a + queue_width) 2),
        slots-append i (queue_steps m base S Retired (a + queue_width)) (several (queue_steps m base S Retired) queue_width (a + queue_width + queue_width) 1),
        slots-append i (queue_steps m base S Retired (a + queue_width + queue_width)) [],
        slots-queue i Retired a,
        slots-queue i Retired (a + queue_width),
        slots-queue i Retired (a + queue_width + queue_width),
        ap (λ (x : ℕ). count i (read_queue m x)) q,
      )

  three-concat : (i : ℕ) (x y z : List ℕ) (r : List (List ℕ)) → count i (concat (x ∷ y ∷ z ∷ r)) ≡ count i x + (count i y + count i z) + count i (concat r)
  unfolding concat
  three-concat i x y z r = omega (arith, count-append i x (y ++ (z ++ concat r)), count-append i y (z ++ concat r), count-append i z (concat r))

  slots-lanes : (i j a n : ℕ) → a ≡ lane_address (sizes m) j
      → count i (slots_of (several (lane_steps m base S) lane_length a n)) ≡ count i (concat (concat_map lane_queues (map (read_lane m) (from j n))))
  unfolding several slots_of count concat concat_map from read_lane
  slots-lanes i j a zero e = refl
  slots-lanes i j a (suc n) e =
      let rest = concat_map lane_queues (map (read_lane m) (from (suc j) n)) in
      let b = lane_address (sizes m) j in
      slots-append i (lane_steps m base S a) (several (lane_steps m base S) lane_length (a + lane_length) n)
      ∙ ap₂ ◌+◌ (ap (λ (x : ℕ). count i (slots_of (lane_steps m base S x))) e ∙ three-count i (b + queues_at) (b + queues_at + done_offset) refl)
      (slots-lanes i (suc j) (a + lane_length) n (omega arith))
      ∙ sym (three-concat i (read_queue m (b + queues_at)) (read_queue m (b + queues_at + current_offset)) (read_queue m (b + queues_at + done_offset)) rest)

  -- the queues other than the free one
  abbrev pub retired_queues : List (List ℕ)
  retired_queues = queues_of (read_queues m global_generation_at global_queues_at) ++ concat_map lane_queues (map (read_lane m) (from 0 lane_total))

  pub retired-count : (i : ℕ) → count i (slots_of (three_steps global_queues_at ++ lane_part)) ≡ count i (concat retired_queues)
  retired-count i =
      slots-append i (three_steps global_queues_at) lane_part
      ∙ ap₂ ◌+◌ (three-count i global_queues_at (global_queues_at + done_offset) refl) (slots-lanes i 0 (lanes_body (sizes m)) lane_total (omega arith))
      ∙ sym (three-concat i (read_queue m global_queues_at) (read_queue m (global_queues_at + current_offset)) (read_queue m (global_queues_at + done_offset)) rest)
    where
      rest : List (List ℕ)
      rest = concat_map lane_queues (map (read_lane m) (from 0 lane_total))

  pub all-count : (i : ℕ)
      → count i (slots_of (chain_part ++ queued_part)) ≡ count i (concat (read_chains m)) + (count i (read_queue m free_at) + count i (concat retired_queues))
  unfolding queued_steps
  all-count i =
      omega (
        arith,
        slots-append i chain_part queued_part,
        slots-append i free_part (three_steps global_queues_at ++ lane_part),
        ap (count i) chains-are,
        free-count i,
        retired-count i,
      )

  -- ---- their checks: one queue

  -- what f gives of the queue at a is its word at offset o
  abbrev given : (List ℕ → ℕ) → ℕ → ℕ → Bool
  given f o a = eqb (f (read_queue m a)) (at m (a + o))

  -- the checks at its end speak of the queue that the memory reads
  ends-given : (kind : Queued) (a : ℕ) → checks (end_steps m base S a (slots_of (link_steps m base S kind a))) ≡ (given last last_offset a && (given length length_offset a && true))
  unfolding checks
  ends-given kind a = ap (λ (xs : List ℕ). checks (end_steps m base S a xs)) (link-slots kind a)

  ends-told : (kind : Queued) (a : ℕ) → checks (queue_steps m base S kind a) ≡ true → (given last last_offset a && (given length length_offset a && true)) ≡ true
  ends-told kind a h =
      sym (ends-given kind a) ∙ (checks-both (link_steps m base S kind a) (end_steps m base S a (slots_of (link_steps m base S kind a))) h).1

  pub queue-last : (kind : Queued) (a : ℕ) → checks (queue_steps m base S kind a) ≡ true → given last last_offset a ≡ true
  queue-last kind a h = (and-true (given last last_offset a) (given length length_offset a && true) (ends-told kind a h)).0

  pub queue-length : (kind : Queued) (a : ℕ) → checks (queue_steps m base S kind a) ≡ true → given length length_offset a ≡ true
  queue-length kind a h =
      (and-true (given length length_offset a) true (and-true (given last last_offset a) (given length length_offset a && true) (ends-told kind a h)).1).0

  module _ (links : (x : ℕ) → x < S → slot_or_none S (at m (base + queue_link_at + slot_length * x)) ≡ true) where
    given-queue : (kind : Queued) (a : ℕ) → slot_or_none S (at m a) ≡ true → ((x : ℕ) → 0 < count x (read_queue m a) → queued_fits m base S kind x ≡ true)
        → given last last_offset a ≡ true → given length length_offset a ≡ true
        → checks (queue_steps m base S kind a) ≡ true
    given-queue kind a h f l n =
        both-check (link_steps m base S kind a) (end_steps m base S a (slots_of (link_steps m base S kind a)))
        (told-walks m (base + queue_link_at) S (queued_fits m base S kind) links (at m a) (S + 1) h
        (λ x p. f x (subst (λ (xs : List ℕ). 0 < count x xs) (link-slots kind a) p)))
        (ends-given kind a ∙ and_intro (given last last_offset a) (given length length_offset a && true) l (and_intro (given length length_offset a) true n refl))

  -- ---- three queues, and all

  lane_of : (i : ℕ) → i < lane_total → lane_at (state m).engine i ≡ read_lane m i
  unfolding state
  lane_of i b = get_or-map-below (read_lane m) lane_total i fresh_lane b

  module _ (f : List ℕ → ℕ) (o : ℕ) (told : (kind : Queued) (a : ℕ) → checks (queue_steps m base S kind a) ≡ true → given f o a ≡ true) where
    three-agree : (a g : ℕ) → checks (three_steps a) ≡ true → agrees_at m f o a (read_queues m g a) ≡ true
    three-agree a g h =
        every-intro _ (
          found 0 a (omega arith) (omega arith),
          (found 1 (a + current_offset) (omega arith) (omega arith), (found 2 (a + done_offset) (omega arith) (omega arith), tt)),
        )
      where
        found : (j x : ℕ) → j < queue_count → a + queue_width * j ≡ x → given f o x ≡ true
        found j x b e =
            subst (λ (y : ℕ). given f o y ≡ true) e
            (told Retired (a + queue_width * j) (several-check (queue_steps m base S Retired) queue_width a queue_count h j b))

    pub steps-agree : checks queued_part ≡ true → queues_agree m f o (state m) ≡ true
    unfolding queued_steps state read_lane several
    steps-agree h =
        let k = checks-both free_part (three_steps global_queues_at ++ lane_part) h in
        let r = checks-both (three_steps global_queues_at) lane_part k.1 in
        every-intro _ (
          told Free free_at (several-check (queue_steps m base S Free) queue_width free_at 1 k.0 0 (omega arith)),
          (
            three-agree global_queues_at global_generation_at r.0,
            (
              all-below-intro (λ (i : ℕ). agrees_at m f o (lane_address (sizes m) i + queues_at) (lane_at (state m).engine i).queues) lane_total
                  (λ i b. ap (λ (l : Lane). agrees_at m f o (lane_address (sizes m) i + queues_at) l.queues) (lane_of i b)
                  ∙ three-agree (lane_address (sizes m) i + queues_at) (lane_address (sizes m) i + generation_at)
                  (several-check (lane_steps m base S) lane_length (lanes_body (sizes m)) lane_total r.1 i b)),
              tt,
            ),
          ),
        )

  -- ---- and back

  -- what is said of all queues is said of a lane's
  lane-agrees : (f : List ℕ → ℕ) (o i : ℕ) → i < lane_total
      → all (λ (i : ℕ). agrees_at m f o (lane_address (sizes m) i + queues_at) (lane_at (state m).engine i).queues) (from 0 lane_total) ≡ true
      → agrees_at m f o (lane_address (sizes m) i + queues_at) (read_lane m i).queues ≡ true
  lane-agrees f o i b h =
      sym (ap (λ (l : Lane). agrees_at m f o (lane_address (sizes m) i + queues_at) l.queues) (lane_of i b))
      ∙ all-below (λ (i : ℕ). agrees_at m f o (lane_address (sizes m) i + queues_at) (lane_at (state m).engine i).queues) lane_total i h b

  module _ (links : (x : ℕ) → x < S → slot_or_none S (at m (base + queue_link_at + slot_length * x)) ≡ true)
      (retired : (a x : ℕ) → 0 < count x (read_queue m a) → queued_fits m base S Retired x ≡ true) where
    agree-three : (a g : ℕ) → slot_or_none S (at m a) ≡ true → slot_or_none S (at m (a + current_offset)) ≡ true → slot_or_none S (at m (a + done_offset)) ≡ true
        → agrees_at m last last_offset a (read_queues m g a) ≡ true → agrees_at m length length_offset a (read_queues m g a) ≡ true
        → checks (three_steps a) ≡ true
    agree-three a g h₀ h₁ h₂ l n =
        let e = every_true _ l in
        let k = every_true _ n in
        check-several (queue_steps m base S Retired) queue_width a queue_count
        (found (here a h₀ e.0 k.0) (here (a + current_offset) h₁ e.1.0 k.1.0) (here (a + done_offset) h₂ e.1.1.0 k.1.1.0))
      where
        here : (x : ℕ) → slot_or_none S (at m x) ≡ true → given last last_offset x ≡ true → given length length_offset x ≡ true
            → checks (queue_steps m base S Retired x) ≡ true
        here x h t u = given-queue links Retired x h (retired x) t u

        there : (x y : ℕ) → x ≡ y → checks (queue_steps m base S Retired x) ≡ true → checks (queue_steps m base S Retired y) ≡ true
        there x y q t = subst (λ (z : ℕ). checks (queue_steps m base S Retired z) ≡ true) q t

        found : checks (queue_steps m base S Retired a) ≡ true → checks (queue_steps m base S Retired (a + current_offset)) ≡ true
            → checks (queue_steps m base S Retired (a + done_offset)) ≡ true → (j : ℕ) → j < queue_count
            → checks (queue_steps m base S Retired (a + queue_width * j)) ≡ true
        found t₀ t₁ t₂ zero b = there a (a + queue_width * 0) (omega arith) t₀
        found t₀ t₁ t₂ (suc zero) b = there (a + current_offset) (a + queue_width * 1) (omega arith) t₁
        found t₀ t₁ t₂ (suc (suc zero)) b = there (a + done_offset) (a + queue_width * 2) (omega arith) t₂
        found t₀ t₁ t₂ (suc (suc (suc j))) b = absurd (omega arith)

    pub agree-steps : ((x : ℕ) → 0 < count x (read_queue m free_at) → queued_fits m base S Free x ≡ true)
        → slot_or_none S (at m free_at) ≡ true
        → slot_or_none S (at m global_queues_at) ≡ true → slot_or_none S (at m (global_queues_at + current_offset)) ≡ true
        → slot_or_none S (at m (global_queues_at + done_offset)) ≡ true
        → ((i : ℕ) → i < lane_total
        → (slot_or_none S (at m (lane_address (sizes m) i + queues_at)) ≡ true) × (slot_or_none S (at m (lane_address (sizes m) i + queues_at + current_offset)) ≡ true)
        × (slot_or_none S (at m (lane_address (sizes m) i + queues_at + done_offset)) ≡ true))
        → lasts_agree m (state m) ≡ true → lengths_agree m (state m) ≡ true → checks queued_part ≡ true
    unfolding queued_steps lasts_agree lengths_agree state read_lane
    agree-steps blank f g₀ g₁ g₂ h l n =
        let e = every_true _ l in
        let k = every_true _ n in
        both-check free_part (three_steps global_queues_at ++ lane_part)
        (check-several (queue_steps m base S Free) queue_width free_at 1
        (λ j b. let q : free_at ≡ free_at + queue_width * j = omega arith in subst (λ (z : ℕ). checks (queue_steps m base S Free z) ≡ true) q
        (given-queue links Free free_at f blank e.0 k.0)))
        (both-check (three_steps global_queues_at) lane_part (agree-three global_queues_at global_generation_at g₀ g₁ g₂ e.1.0 k.1.0)
        (check-several (lane_steps m base S) lane_length (lanes_body (sizes m)) lane_total (λ i b.
        agree-three (lane_address (sizes m) i + queues_at) (lane_address (sizes m) i + generation_at)
        (h i b).0 (h i b).1 (h i b).2 (lane-agrees last last_offset i b e.1.1.0) (lane-agrees length length_offset i b k.1.1.0))))
