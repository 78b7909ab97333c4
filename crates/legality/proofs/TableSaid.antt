-- What the sentences about the slots say, by counts: how often slot i stands on the chains, in the free queue and in the other queues.
use Prim.Native.Nat.{ℕ, ◌+◌, ◌%◌, ◌≤◌, ◌<◌}
use mathlib.Core.Bool.{Bool, true, not, ◌&&◌, ◌||◌}
use mathlib.Core.Path.{◌≡◌, ap, sym, ◌∙◌, subst}
use mathlib.Core.List.{List, [], ◌∷◌, ◌++◌, map}
use native.Mathlib.Omega.{arith}
use native.Mathlib.Decide.{dec_lt}
use lib.ListN.{get_or}
use lib.Dec.{ltb, eqb}
use borrow.Author.Tests.{eq-eqb, eqb-true}
use Rattle.model.specs.Word.{none}
use Rattle.model.specs.Lists.{all, from, count, member, distinct, concat}
use Rattle.model.specs.State.{Product}
use Rattle.model.specs.Layout.{slots_at, chain_count, heads_at, free_at, global_queues_at, deposit_at, material_at, chain_link_at, queue_link_at, slot_address}
use Rattle.model.specs.Table.{blank}
use Rattle.model.specs.Rules.{wrong_product}
use Rattle.model.specs.Memory.{at, wide, sizes, slot_word, slot_field, walk, read_chain, read_chains, read_queue, read_product, all_queues, state}
use Rattle.model.specs.Legal.{ends_in_range, queues_in_range, code_of, stands_once, lasts_agree, lengths_agree, on_their_chains, no_code_twice}
use Rattle.model.specs.Legal.{queue_links_at_rest, free_blank}
use Rattle.laws.specs.Tests.{every_true, every-intro, or_cases, or_left, or_right, all-below, all-below-intro, clash}
use Rattle.laws.specs.ListLaws.{length-map-from, get_or-map-below}
use Rattle.laws.specs.Counts.{count-append, count-concat-get_or, member-true, member-false, all-count, all-count-intro, map-alike}
use Rattle.laws.specs.Walks.{walk-below}
use Rattle.legality.specs.Parts.{table_legal}
use Rattle.legality.proofs.StepsRead.{retired_queues}

module _ (m : List ℕ) where
  abbrev pub chained_count : ℕ → ℕ
  chained_count i = count i (concat (read_chains m))

  abbrev pub free_count : ℕ → ℕ
  free_count i = count i (read_queue m free_at)

  abbrev pub retired_count : ℕ → ℕ
  retired_count i = count i (concat (retired_queues m))

  abbrev pub code_at : ℕ → ℕ
  code_at i = wide m (slot_address (sizes m) i)

  -- slot i is blank
  abbrev pub blank_said : ℕ → Bool
  blank_said i =
      let b = slot_address (sizes m) i in
      eqb (wide m b) 0 && eqb (at m (b + deposit_at)) 0 && eqb (at m (b + material_at)) 0 && eqb (at m (b + chain_link_at)) none

  abbrev pub product_said : ℕ → Bool
  product_said i = let b = slot_address (sizes m) i in not (wrong_product (wide m b) (at m (b + deposit_at)) (at m (b + material_at)))

pub record TableSaid (m : List ℕ) : Type 0 where
  pub heads : (k : ℕ) → k < chain_count → (ltb (at m (heads_at + k)) (at m slots_at) || eqb (at m (heads_at + k)) none) ≡ true
  pub free_ends : ends_in_range m (at m) free_at ≡ true
  pub global_ends : queues_in_range m (at m) global_queues_at ≡ true
  pub chain_links : (i : ℕ) → i < at m slots_at → (ltb (slot_word m chain_link_at i) (at m slots_at) || eqb (slot_word m chain_link_at i) none) ≡ true
  pub queue_links : (i : ℕ) → i < at m slots_at → (ltb (slot_word m queue_link_at i) (at m slots_at) || eqb (slot_word m queue_link_at i) none) ≡ true
  pub products : (i : ℕ) → i < at m slots_at → product_said m i ≡ true
  pub once : (i : ℕ) → i < at m slots_at → chained_count m i + (free_count m i + retired_count m i) ≡ 1
  pub lasts : lasts_agree m (state m) ≡ true
  pub lengths : lengths_agree m (state m) ≡ true
  pub chained : (k i : ℕ) → k < chain_count → 0 < count i (read_chain m k) → code_at m i % chain_count ≡ k
  pub codes : distinct (map (code_at m) (concat (read_chains m))) ≡ true
  pub rest : (i : ℕ) → i < at m slots_at → free_count m i + retired_count m i ≡ 0 → slot_word m queue_link_at i ≡ none
  pub blank : (i : ℕ) → 0 < free_count m i → blank_said m i ≡ true

module _ (m : List ℕ) where
  abbrev S : ℕ
  S = at m slots_at

  walk-in : (k h n i : ℕ) → 0 < count i (walk (slot_field m k) h n) → i < S
  walk-in k h n i b = omega (arith, walk-below (slot_field m k) h n i b, length-map-from (λ (j : ℕ). at m (slot_address (sizes m) j + k)) 0 S)

  pub chain-below : (k i : ℕ) → 0 < count i (read_chain m k) → i < S
  chain-below k i b = walk-in chain_link_at _ _ i b

  pub queue-below-at : (a i : ℕ) → 0 < count i (read_queue m a) → i < S
  queue-below-at a i b = walk-in queue_link_at _ _ i b

  pub chain-at : (k : ℕ) → k < chain_count → get_or (read_chains m) k [] ≡ read_chain m k
  unfolding read_chains
  chain-at k b = get_or-map-below (read_chain m) chain_count k [] b

  pub chain-chained : (k i : ℕ) → k < chain_count → count i (read_chain m k) ≤ chained_count m i
  chain-chained k i b = omega (arith, count-concat-get_or (read_chains m) k i, ap (count i) (chain-at k b))

  concat-below : (i : ℕ) (ks : List ℕ) → 0 < count i (concat (map (read_chain m) ks)) → i < S
  unfolding count concat
  concat-below i [] h = absurd (omega arith)
  concat-below i (k ∷ ks) h =
      elim (dec_lt 0 (count i (read_chain m k))) [
        | yes p ↦ chain-below k i p
        | no p ↦ concat-below i ks (omega (arith, count-append i (read_chain m k) (concat (map (read_chain m) ks))))
      ]

  pub chained-below : (i : ℕ) → 0 < chained_count m i → i < S
  unfolding read_chains
  chained-below i b = concat-below i (from 0 chain_count) b

  pub queues-count : (i : ℕ) → count i (concat (all_queues (state m))) ≡ free_count m i + retired_count m i
  unfolding state concat
  queues-count i = count-append i (read_queue m free_at) (concat (retired_queues m))

  code-of : (i : ℕ) → i < S → code_of (state m) i ≡ code_at m i
  unfolding state read_product
  code-of i b = ap (λ (p : Product). p.code) (get_or-map-below (read_product m) S i blank b)

  codes-are : map (code_of (state m)) (concat (read_chains m)) ≡ map (code_at m) (concat (read_chains m))
  codes-are = map-alike (code_of (state m)) (code_at m) (concat (read_chains m)) (λ i b. code-of i (chained-below i b))

  -- ---- each sentence from its facts, and back

  once-said : stands_once (state m) ≡ true → (i : ℕ) → i < S → chained_count m i + (free_count m i + retired_count m i) ≡ 1
  unfolding stands_once state
  once-said t i b =
      sym (count-append i (concat (read_chains m)) (concat (all_queues (state m))) ∙ ap (λ (x : ℕ). chained_count m i + x) (queues-count i))
      ∙ eqb-true _ _ (all-below (λ (i : ℕ). eqb (count i (concat (read_chains m) ++ concat (all_queues (state m)))) 1) S i t b)

  said-once : ((i : ℕ) → i < S → chained_count m i + (free_count m i + retired_count m i) ≡ 1) → stands_once (state m) ≡ true
  unfolding stands_once state
  said-once h =
      all-below-intro (λ (i : ℕ). eqb (count i (concat (read_chains m) ++ concat (all_queues (state m)))) 1) S
      (λ i b. eq-eqb _ _ (count-append i (concat (read_chains m)) (concat (all_queues (state m)))
      ∙ ap (λ (x : ℕ). chained_count m i + x) (queues-count i) ∙ h i b))

  abbrev on_chain : ℕ → List ℕ → Bool
  on_chain k xs = all (λ (i : ℕ). eqb (code_of (state m) i % chain_count) k) xs

  chains-said : on_their_chains (state m) ≡ true → (k i : ℕ) → k < chain_count → 0 < count i (read_chain m k) → code_at m i % chain_count ≡ k
  unfolding on_their_chains state
  chains-said t k i b c =
      let t₁ : on_chain k (get_or (read_chains m) k []) ≡ true = all-below (λ (k : ℕ). on_chain k (get_or (read_chains m) k [])) chain_count k t b in
      let t₂ : on_chain k (read_chain m k) ≡ true = subst (λ (xs : List ℕ). on_chain k xs ≡ true) (chain-at k b) t₁ in
      ap (λ (x : ℕ). x % chain_count) (sym (code-of i (chain-below k i c)))
      ∙ eqb-true _ _ (all-count (λ (i : ℕ). eqb (code_of (state m) i % chain_count) k) (read_chain m k) t₂ i c)

  said-chains : ((k i : ℕ) → k < chain_count → 0 < count i (read_chain m k) → code_at m i % chain_count ≡ k) → on_their_chains (state m) ≡ true
  unfolding on_their_chains state
  said-chains h =
      all-below-intro (λ (k : ℕ). on_chain k (get_or (read_chains m) k [])) chain_count
      (λ k b. subst (λ (xs : List ℕ). on_chain k xs ≡ true) (sym (chain-at k b))
      (all-count-intro (λ (i : ℕ). eqb (code_of (state m) i % chain_count) k) (read_chain m k)
      (λ i c. eq-eqb _ _ (ap (λ (x : ℕ). x % chain_count) (code-of i (chain-below k i c)) ∙ h k i b c))))

  codes-said : no_code_twice (state m) ≡ distinct (map (code_at m) (concat (read_chains m)))
  unfolding no_code_twice state
  codes-said = ap distinct codes-are

  abbrev rest_test : ℕ → Bool
  rest_test i = member i (concat (all_queues (state m))) || eqb (slot_word m queue_link_at i) none

  rest-said : queue_links_at_rest m (state m) ≡ true → (i : ℕ) → i < S → free_count m i + retired_count m i ≡ 0 → slot_word m queue_link_at i ≡ none
  unfolding queue_links_at_rest
  rest-said t i b z =
      or_cases (member i (concat (all_queues (state m)))) (eqb (slot_word m queue_link_at i) none) (all-below rest_test S i t b)
      (λ u. clash u (member-false i (concat (all_queues (state m))) (queues-count i ∙ z))) (λ u. eqb-true _ _ u)

  said-rest : ((i : ℕ) → i < S → free_count m i + retired_count m i ≡ 0 → slot_word m queue_link_at i ≡ none) → queue_links_at_rest m (state m) ≡ true
  unfolding queue_links_at_rest
  said-rest h =
      all-below-intro rest_test S (λ i b.
      elim (dec_lt 0 (count i (concat (all_queues (state m))))) [
        | yes p ↦ or_left (member i (concat (all_queues (state m)))) (eqb (slot_word m queue_link_at i) none) (member-true i (concat (all_queues (state m))) p)
        | no p ↦ or_right (member i (concat (all_queues (state m)))) (eqb (slot_word m queue_link_at i) none) (eq-eqb _ _ (h i b (omega (arith, queues-count i))))
      ])

  free-said : free_blank m (state m) ≡ true → (i : ℕ) → 0 < free_count m i → blank_said m i ≡ true
  unfolding free_blank state
  free-said t = all-count (blank_said m) (read_queue m free_at) t

  said-free : ((i : ℕ) → 0 < free_count m i → blank_said m i ≡ true) → free_blank m (state m) ≡ true
  unfolding free_blank state
  said-free h = all-count-intro (blank_said m) (read_queue m free_at) h

  -- ---- all of them

  pub table-said : table_legal m ≡ true → TableSaid m
  unfolding table_legal
  table-said h =
      let front = every_true _ h in
      let e = front.1.1.1 in
      let e₃ = e.1.1.1 in
      let e₆ = e₃.1.1.1 in
      let e₈ = e₆.1.1 in
      record {
        heads = λ k b. all-below _ _ k front.0 b;
        free_ends = front.1.0;
        global_ends = front.1.1.0;
        chain_links = λ i b. all-below _ _ i e.0 b;
        queue_links = λ i b. all-below _ _ i e.1.0 b;
        products = λ i b. all-below _ _ i e.1.1.0 b;
        once = once-said e₃.0;
        lasts = e₃.1.0;
        lengths = e₃.1.1.0;
        chained = chains-said e₆.0;
        codes = sym codes-said ∙ e₆.1.0;
        rest = rest-said e₈.0;
        blank = free-said e₈.1.0;
      }

  pub said-table : TableSaid m → table_legal m ≡ true
  unfolding table_legal
  said-table s =
      every-intro _ (
        all-below-intro _ chain_count s.heads,
        (
          s.free_ends,
          (
            s.global_ends,
            (
              all-below-intro _ S s.chain_links,
              (
                all-below-intro _ S s.queue_links,
                (
                  all-below-intro _ S s.products,
                  (said-once s.once, (s.lasts, (s.lengths, (said-chains s.chained, (codes-said ∙ s.codes, (said-rest s.rest, (said-free s.blank, tt))))))),
                ),
              ),
            ),
          ),
        ),
      )
