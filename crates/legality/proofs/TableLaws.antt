-- The walks and the codes put aside decide the sentences about the slots: each slot is right for the place where it is met, each is met once, and
-- two codes are equal only where two put aside are.
use Prim.Native.Nat.{ℕ, zero, suc, ◌+◌, ◌*◌, ◌/◌, ◌%◌, ◌≤◌, ◌<◌}
use mathlib.Core.Bool.{Bool, true, false, ◌&&◌}
use mathlib.Core.Path.{◌≡◌, refl, ap, ap₂, sym, ◌∙◌, subst}
use mathlib.Core.List.{List, [], ◌∷◌, ◌++◌, map}
use native.Mathlib.Omega.{arith}
use native.Mathlib.Decide.{dec_lt}
use lib.ListN.{get_or, length, replicate, length-replicate}
use lib.Dec.{ltb, eqb}
use borrow.Author.Tests.{eq-eqb, eqb-true, lt-ltb}
use Rattle.std.specs.Prelude.{Some, None}
use Rattle.std.proofs.Math.Nat.{mod-lt}
use Rattle.model.specs.Word.{none}
use Rattle.model.specs.Lists.{from, count, last, distinct, concat}
use Rattle.model.specs.Layout.{slots_at, chain_count, queue_width, current_offset, done_offset, last_offset, length_offset, heads_at, free_at, global_queues_at}
use Rattle.model.specs.Layout.{masks_at, queues_at, position_at, deposit_at, material_at, chain_link_at, queue_link_at, slot_length, lane_length, slots_body}
use Rattle.model.specs.Layout.{lane_address, lanes_body}
use Rattle.model.specs.Memory.{at, wide, low, high, sizes, slot_word, lane_word, read_chain, read_chains, read_queue}
use Rattle.model.specs.Legal.{ends_in_range, queues_in_range, lane_links_in_range, slot_or_none as in_range, lasts_agree, lengths_agree}
use Rattle.laws.specs.Tests.{refuted, every_true, and-true, and_intro, or_left, or_right, all-below, clash}
use Rattle.laws.specs.ListLaws.{get_or-replicate-default}
use Rattle.laws.specs.Counts.{count-append}
use Rattle.distinct_codes.specs.declared.slots.Slots.{Slots}
use Rattle.distinct_codes.specs.Cells.{CellCount, low_factor, high_factor, dropped, spread, code_at, Held, held}
use Rattle.distinct_codes.specs.Met.{code_of, Listed}
use Rattle.distinct_codes.proofs.CellLaws.{meets-told, meets-twice}
use Rattle.words.specs.Links.{slot_or_none}
use Rattle.slot_places.specs.declared.slots.Queued.{Queued}
use Rattle.slot_places.specs.declared.slots.Queued.TheVariants.{Free, Retired}
use Rattle.slot_places.specs.Slots.{product_in_range, chained_fits, queued_fits}
use Rattle.slot_places.specs.WalkSteps.{Step, Outcome, spoilt, painted, run, slots_of, several, queue_count, chain_steps, link_steps, queue_steps}
use Rattle.slot_places.specs.WalkSteps.{lane_steps, unmarked}
use Rattle.slot_places.specs.Walks.{chain_of, Counted, Ready, enters_all, Enters, Runs}
use Rattle.slot_places.proofs.WalkStepLaws.{going, run-append, unmarked-all, unmarked-none, unmarked-some}
use Rattle.slot_places.proofs.Marked.{checks, marks-are, marks-most, marks-checked, Spoilt, failed, doubled, spoilt-why}
use Rattle.slot_places.proofs.Places.{Told, checks-both, both-check, told-append, told-several, several-check, check-several, walks-begin, walks-told}
use Rattle.slot_places.proofs.Places.{told-walks}
use Rattle.engine_legality.specs.WordSentences.{engine_legal}
use Rattle.legality.specs.Parts.{Table, table_legal, queued_steps}
use Rattle.legality.proofs.StepsRead.{S, base, lane_total, chain_part, free_part, three_steps, lane_part, queued_part, chain-slots, chains-are}
use Rattle.legality.proofs.StepsRead.{free-count, retired-count, all-count, steps-right, queue-last, queue-length, steps-agree, agree-steps}
use Rattle.legality.proofs.TableSaid.{chained_count, free_count, retired_count, TableSaid, chain-below, queue-below-at, chain-chained, table-said}
use Rattle.legality.proofs.TableSaid.{said-table}

-- the last of slots below n, or none
last_fits : (n : ℕ) (xs : List ℕ) → ((x : ℕ) → 0 < count x xs → x < n) → slot_or_none n (last xs) ≡ true
unfolding last count
last_fits n [] h = or_right (ltb none n) (eqb none none) (eq-eqb none none refl)
last_fits n (x ∷ []) h = or_left (ltb x n) (eqb x none) (lt-ltb x n (h x (rw (eq-eqb x x refl) (omega arith))))
last_fits n (x ∷ (y ∷ xs)) h = last_fits n (y ∷ xs) (λ z p. h z (omega (arith, p)))

abbrev Firsts : List ℕ → (ℕ → ℕ) → ℕ → Type 0
Firsts m word k = (slot_or_none (S m) (word k) ≡ true) × (slot_or_none (S m) (word (k + current_offset)) ≡ true) × (slot_or_none (S m) (word (k + done_offset)) ≡ true)

module _ (m : List ℕ) where
  abbrev slot_at : ℕ → ℕ
  slot_at i = base m + slot_length * i

  -- a slot's link, as a walk reads it and as the sentences do
  link-said : (k i : ℕ) → slot_or_none (S m) (slot_word m k i) ≡ true → slot_or_none (S m) (at m (base m + k + slot_length * i)) ≡ true
  link-said k i h = let e : slot_at i + k ≡ base m + k + slot_length * i = omega arith in subst (λ (x : ℕ). slot_or_none (S m) (at m x) ≡ true) e h

  said-link : (k i : ℕ) → slot_or_none (S m) (at m (base m + k + slot_length * i)) ≡ true → slot_or_none (S m) (slot_word m k i) ≡ true
  said-link k i h = let e : base m + k + slot_length * i ≡ slot_at i + k = omega arith in subst (λ (x : ℕ). slot_or_none (S m) (at m x) ≡ true) e h

  -- ---- legal tables pass every check

  -- the first of a queue, of three
  first_fits : (word : ℕ → ℕ) (k : ℕ) → ends_in_range m word k ≡ true → slot_or_none (S m) (word k) ≡ true
  first_fits word k h = (and-true (in_range m (word k)) (in_range m (word (k + last_offset))) h).0

  firsts-fit : (word : ℕ → ℕ) (k : ℕ) → queues_in_range m word k ≡ true → Firsts m word k
  firsts-fit word k h =
      let t = and-true (ends_in_range m word k && ends_in_range m word (k + current_offset)) (ends_in_range m word (k + done_offset)) h in
      let u = and-true (ends_in_range m word k) (ends_in_range m word (k + current_offset)) t.0 in
      (first_fits word k u.0, first_fits word (k + current_offset) u.1, first_fits word (k + done_offset) t.1)

  module _ (engine : engine_legal m ≡ true) (s : TableSaid m) where
    lane-fits : (i : ℕ) → i < lane_total m → Firsts m (lane_word m i) queues_at
    unfolding engine_legal
    lane-fits i b =
        let t = all-below (lane_links_in_range m) (lane_total m) i (every_true _ engine).1.1.0 b in
        firsts-fit (lane_word m i) queues_at (and-true (queues_in_range m (lane_word m i) queues_at) (in_range m (lane_word m i position_at)) t).0

    -- the same by addresses
    end_fits : (i k x : ℕ) → lane_address (sizes m) i + k ≡ x → slot_or_none (S m) (lane_word m i k) ≡ true → slot_or_none (S m) (at m x) ≡ true
    end_fits i k x e h = subst (λ (y : ℕ). slot_or_none (S m) (at m y) ≡ true) e h

    queue-below : (a x : ℕ) → 0 < count x (read_queue m a) → x < S m
    queue-below a x p = queue-below-at m a x p

    retired-fits : (a x : ℕ) → 0 < count x (read_queue m a) → queued_fits m (base m) (S m) Retired x ≡ true
    retired-fits a x p =
        let b = queue-below a x p in
        and_intro (product_in_range m (slot_at x)) (slot_or_none (S m) (at m (slot_at x + chain_link_at))) (s.products x b) (s.chain_links x b)

    chain_fits : (k : ℕ) → k < chain_count → (x : ℕ) → 0 < count x (read_chain m k) → chained_fits m (base m) k x ≡ true
    chain_fits k b x p =
        let l = chain-below m k x p in
        and_intro (eqb (wide m (slot_at x) % chain_count) k && product_in_range m (slot_at x)) (eqb (at m (slot_at x + queue_link_at)) none)
        (and_intro (eqb (wide m (slot_at x) % chain_count) k) (product_in_range m (slot_at x)) (eq-eqb _ _ (s.chained k x b p)) (s.products x l))
        (eq-eqb _ _ (s.rest x l (omega (arith, s.once x l, chain-chained m k x b, p))))

    firsts : Firsts m (at m) global_queues_at
    firsts = firsts-fit (at m) global_queues_at s.global_ends

    said-checks : checks (chain_part m ++ queued_part m) ≡ true
    said-checks =
        both-check (chain_part m) (queued_part m)
        (check-several (chain_steps m (base m) (S m)) 1 0 chain_count (λ j b.
        let e : j ≡ 0 + 1 * j = omega arith in
        subst (λ (k : ℕ). checks (chain_steps m (base m) (S m) k) ≡ true) e
        (told-walks m (base m + chain_link_at) (S m) (chained_fits m (base m) j) (λ x l. link-said chain_link_at x (s.chain_links x l)) (at m (heads_at + j))
        (S m + 1) (s.heads j b)
        (λ x p. chain_fits j b x (subst (λ (xs : List ℕ). 0 < count x xs) (chain-slots m j) p)))))
        (agree-steps m (λ x l. link-said queue_link_at x (s.queue_links x l)) retired-fits (λ x p. s.blank x p)
        (first_fits (at m) free_at s.free_ends) firsts.0 firsts.1 firsts.2
        (λ i b. let f = lane-fits i b in
        (f.0, end_fits i (queues_at + current_offset) _ (omega arith) f.1, end_fits i (queues_at + done_offset) _ (omega arith) f.2))
        s.lasts s.lengths)

  -- ---- tables that pass every check, and in which each slot is met once

  abbrev standing : ℕ → ℕ
  standing i = chained_count m i + (free_count m i + retired_count m i)

  module _ (h : checks (chain_part m ++ queued_part m) ≡ true) (once : (i : ℕ) → i < S m → standing i ≡ 1) where
    parts : (checks (chain_part m) ≡ true) × (checks (queued_part m) ≡ true)
    parts = checks-both (chain_part m) (queued_part m) h

    queued : (checks (free_part m) ≡ true) × (checks (three_steps m global_queues_at ++ lane_part m) ≡ true)
    unfolding queued_steps
    queued = checks-both (free_part m) (three_steps m global_queues_at ++ lane_part m) parts.1

    -- a slot in a queue
    abbrev Fit : Queued → ℕ → Type 0
    Fit kind x = (queued_fits m (base m) (S m) kind x ≡ true) × (slot_or_none (S m) (at m (base m + queue_link_at + slot_length * x)) ≡ true)

    queue-told : (kind : Queued) (a : ℕ) → Told (Fit kind) (queue_steps m (base m) (S m) kind a)
    unfolding slots_of count
    queue-told kind a =
        told-append (Fit kind) (link_steps m (base m) (S m) kind a) _
        (walks-told m (base m + queue_link_at) (S m) (queued_fits m (base m) (S m) kind) (at m a) (S m + 1)) (λ k i b. absurd (omega arith))

    three-told : (a : ℕ) → Told (Fit Retired) (three_steps m a)
    three-told a = told-several (queue_steps m (base m) (S m) Retired) queue_width (Fit Retired) (queue-told Retired) a 3

    free-told : (x : ℕ) → 0 < free_count m x → Fit Free x
    free-told x p =
        told-several (queue_steps m (base m) (S m) Free) queue_width (Fit Free) (queue-told Free) free_at 1 queued.0 x (omega (arith, free-count m x, p))

    retired-told : (x : ℕ) → 0 < retired_count m x → Fit Retired x
    retired-told x p =
        told-append (Fit Retired) (three_steps m global_queues_at) (lane_part m) (three-told global_queues_at)
        (told-several (lane_steps m (base m) (S m)) lane_length (Fit Retired) (λ a. three-told (a + queues_at)) (lanes_body (sizes m)) (lane_total m)) queued.1 x
        (omega (arith, retired-count m x, p))

    -- a slot on a chain
    record Linked (k x : ℕ) : Type 0 where
      number : eqb (wide m (slot_at x) % chain_count) k ≡ true
      product : product_in_range m (slot_at x) ≡ true
      rest : eqb (at m (slot_at x + queue_link_at)) none ≡ true
      link : slot_or_none (S m) (slot_word m chain_link_at x) ≡ true

    chain-told : (k : ℕ) → k < chain_count → (x : ℕ) → 0 < count x (read_chain m k) → Linked k x
    chain-told k b x p =
        let e : 0 + 1 * k ≡ k = omega arith in
        let c : checks (chain_steps m (base m) (S m) k) ≡ true =
        subst (λ (j : ℕ). checks (chain_steps m (base m) (S m) j) ≡ true) e (several-check (chain_steps m (base m) (S m)) 1 0 chain_count parts.0 k b) in
        let t = walks-told m (base m + chain_link_at) (S m) (chained_fits m (base m) k) (at m (heads_at + k)) (S m + 1) c x
        (subst (λ (xs : List ℕ). 0 < count x xs) (sym (chain-slots m k)) p) in
        let u = and-true (eqb (wide m (slot_at x) % chain_count) k && product_in_range m (slot_at x)) (eqb (at m (slot_at x + queue_link_at)) none) t.0 in
        let v = and-true (eqb (wide m (slot_at x) % chain_count) k) (product_in_range m (slot_at x)) u.0 in
        record { number = v.0; product = v.1; rest = u.1; link = said-link chain_link_at x t.1 }

    -- the place of a slot
    data Place (i : ℕ) : Type 0 where
      chained : (k : ℕ) → Linked k i → Place i
      free : 0 < free_count m i → Fit Free i → Place i
      retired : 0 < retired_count m i → Fit Retired i → Place i

    find : (i a n : ℕ) → a + n ≤ chain_count → 0 < count i (concat (map (read_chain m) (from a n))) → Place i
    unfolding count concat from
    find i a zero l p = absurd (omega arith)
    find i a (suc n) l p =
        elim (dec_lt 0 (count i (read_chain m a))) [
          | yes q ↦ chained a (chain-told a (omega arith) i q)
          | no q ↦ find i (suc a) n (omega arith) (omega (arith, p, count-append i (read_chain m a) (concat (map (read_chain m) (from (suc a) n)))))
        ]

    place : (i : ℕ) → i < S m → Place i
    unfolding read_chains
    place i b =
        elim (dec_lt 0 (chained_count m i)) [
          | yes p ↦ find i 0 chain_count (omega arith) p
          | no p ↦ elim (dec_lt 0 (free_count m i)) [
            | yes q ↦ free q (free-told i q)
            | no q ↦ let r : 0 < retired_count m i = omega (arith, once i b) in retired r (retired-told i r)
          ]
        ]

    module _ (i : ℕ) where
      abbrev a : ℕ
      a = slot_at i

      blank-parts : Fit Free i → (wide m a ≡ 0) × (at m (a + deposit_at) ≡ 0) × (at m (a + material_at) ≡ 0) × (eqb (at m (a + chain_link_at)) none ≡ true)
      blank-parts f =
          let t₁ = and-true (eqb (wide m a) 0 && eqb (at m (a + deposit_at)) 0 && eqb (at m (a + material_at)) 0) (eqb (at m (a + chain_link_at)) none) f.0 in
          let t₂ = and-true (eqb (wide m a) 0 && eqb (at m (a + deposit_at)) 0) (eqb (at m (a + material_at)) 0) t₁.0 in
          let t₃ = and-true (eqb (wide m a) 0) (eqb (at m (a + deposit_at)) 0) t₂.0 in
          (eqb-true _ _ t₃.0, eqb-true _ _ t₃.1, eqb-true _ _ t₂.1, t₁.1)

      chain_link : Place i → slot_or_none (S m) (slot_word m chain_link_at i) ≡ true
      chain_link (chained k l) = l.link
      chain_link (free p f) = or_right (ltb (at m (a + chain_link_at)) (S m)) (eqb (at m (a + chain_link_at)) none) (blank-parts f).3
      chain_link (retired p f) = (and-true (product_in_range m a) (slot_or_none (S m) (at m (a + chain_link_at))) f.0).1

      queue-link : Place i → slot_or_none (S m) (slot_word m queue_link_at i) ≡ true
      queue-link (chained k l) = or_right (ltb (at m (a + queue_link_at)) (S m)) (eqb (at m (a + queue_link_at)) none) l.rest
      queue-link (free p f) = said-link queue_link_at i f.1
      queue-link (retired p f) = said-link queue_link_at i f.1

      product-said : Place i → product_in_range m a ≡ true
      product-said (chained k l) = l.product
      product-said (free p f) = let z = blank-parts f in rw (z.0, z.1, z.2)
      product-said (retired p f) = (and-true (product_in_range m a) (slot_or_none (S m) (at m (a + chain_link_at))) f.0).0

      rest-said : free_count m i + retired_count m i ≡ 0 → Place i → slot_word m queue_link_at i ≡ none
      rest-said z (chained k l) = eqb-true _ _ l.rest
      rest-said z (free p f) = absurd (omega arith)
      rest-said z (retired p f) = absurd (omega arith)

    -- a queue's first is where its walk begins, and its last is its last slot or none
    ends-said : (f : Queued) (a : ℕ) → checks (queue_steps m (base m) (S m) f a) ≡ true → ends_in_range m (at m) a ≡ true
    ends-said f a h =
        and_intro (in_range m (at m a)) (in_range m (at m (a + last_offset)))
        (walks-begin m (base m + queue_link_at) (S m) (queued_fits m (base m) (S m) f) (at m a) (S m + 1) (checks-both (link_steps m (base m) (S m) f a) _ h).0)
        (subst (λ (x : ℕ). slot_or_none (S m) x ≡ true) (eqb-true _ _ (queue-last m f a h)) (last_fits (S m) (read_queue m a) (queue-below-at m a)))

    three_said : (a : ℕ) → checks (three_steps m a) ≡ true → queues_in_range m (at m) a ≡ true
    three_said a h =
        and_intro (ends_in_range m (at m) a && ends_in_range m (at m) (a + current_offset)) (ends_in_range m (at m) (a + done_offset))
        (and_intro (ends_in_range m (at m) a) (ends_in_range m (at m) (a + current_offset)) (given 0 a (omega arith) (omega arith))
        (given 1 (a + current_offset) (omega arith) (omega arith)))
        (given 2 (a + done_offset) (omega arith) (omega arith))
      where
        given : (j x : ℕ) → j < queue_count → a + queue_width * j ≡ x → ends_in_range m (at m) x ≡ true
        given j x b e =
            subst (λ (y : ℕ). ends_in_range m (at m) y ≡ true) e
            (ends-said Retired (a + queue_width * j) (several-check (queue_steps m (base m) (S m) Retired) queue_width a queue_count h j b))

    head-said : (k : ℕ) → k < chain_count → slot_or_none (S m) (at m (heads_at + k)) ≡ true
    head-said k b =
        let e : 0 + 1 * k ≡ k = omega arith in
        walks-begin m (base m + chain_link_at) (S m) (chained_fits m (base m) k) (at m (heads_at + k)) (S m + 1)
        (subst (λ (j : ℕ). checks (chain_steps m (base m) (S m) j) ≡ true) e (several-check (chain_steps m (base m) (S m)) 1 0 chain_count parts.0 k b))

    checks-said : distinct (map (code_at m (base m)) (concat (read_chains m))) ≡ true → TableSaid m
    unfolding lasts_agree lengths_agree
    checks-said d = record {
      heads = head-said;
      free_ends = ends-said Free free_at (several-check (queue_steps m (base m) (S m) Free) queue_width free_at 1 queued.0 0 (omega arith));
      global_ends = three_said global_queues_at (checks-both (three_steps m global_queues_at) (lane_part m) queued.1).0;
      chain_links = λ i b. chain_link i (place i b);
      queue_links = λ i b. queue-link i (place i b);
      products = λ i b. product-said i (place i b);
      once = once;
      lasts = steps-agree m last last_offset (queue-last m) parts.1;
      lengths = steps-agree m length length_offset (queue-length m) parts.1;
      chained = λ k i b c. eqb-true _ _ (chain-told k b i c).number;
      codes = d;
      rest = λ i b z. rest-said i z (place i b);
      blank = λ i c. (free-told i c).0;
    }

  -- ---- the ways out of the walks

  module _ (s : List ℕ) (zeros : (i : ℕ) → get_or s i 0 ≡ 0) (room : S m ≤ length s) where
    spoilt-table : engine_legal m ≡ true → run (chain_part m ++ queued_part m) s ≡ spoilt → false ≡ table_legal m
    spoilt-table engine h = refuted (table_legal m) (λ t. never (table-said m t) (spoilt-why (S m) s (steps-right m) room h))
      where
        never : TableSaid m → Spoilt (S m) (chain_part m ++ queued_part m) s → ⊥
        never t (failed f) = clash (said-checks engine t) f
        never t (doubled i b d) = omega (arith, t.once i b, all-count m i, zeros i, d)

    module _ (t : List ℕ) (h : run (chain_part m ++ queued_part m) s ≡ painted t) where
      mark-is : (i : ℕ) → get_or t i 0 ≡ standing i
      mark-is i = omega (arith, marks-are (S m) s t (steps-right m) room h i, zeros i, all-count m i)

      left-table : (n : ℕ) → n ≡ unmarked (S m) t → (n ≡ 0 → ⊥) → false ≡ table_legal m
      left-table n e z =
          refuted (table_legal m) (λ l. let u = unmarked-some (S m) t (λ q. z (e ∙ q)) in
          omega (arith, (table-said m l).once u.0 u.1, mark-is u.0, u.2))

      decided-table : (n : ℕ) → n ≡ unmarked (S m) t → n ≡ 0 → (r : Bool) → r ≡ distinct (map (code_at m (base m)) (concat (read_chains m))) → r ≡ table_legal m
      decided-table n e z true q = sym (said-table m (checks-said (marks-checked (S m) s t (steps-right m) h) once (sym q)))
        where
          once : (i : ℕ) → i < S m → standing i ≡ 1
          once i b =
              let u : 0 < get_or t i 0 = positive (get_or t i 0) (unmarked-none (S m) t (sym e ∙ z) i b) in
              omega (arith, mark-is i, marks-most (S m) s t (steps-right m) room h (λ x. omega (arith, zeros x)) i, u)
            where
              positive : (x : ℕ) → (x ≡ 0 → ⊥) → 0 < x
              positive zero f = absurd (f refl)
              positive (suc x) f = omega arith
      decided-table n e z false q = refuted (table_legal m) (λ l. clash (table-said m l).codes (sym q))

-- ---- the same for the slots that the code hands on, and the marks, the cells and the slots put aside as they are lent

pub record Arrays (S R : ℕ) (s k a : List ℕ) : Type 0 where
  pub marks : (i : ℕ) → get_or s i 0 ≡ 0
  pub cells : (i : ℕ) → get_or k i 0 ≡ 0
  pub aside : a ≡ []
  pub mark_room : S ≤ length s
  pub cell_room : R ≤ length k

module _ (t : Slots) (lane n : ℕ) (y : Table t lane n) (R : ℕ) (c : CellCount R) (s k a : List ℕ) (l : Arrays t.count R s k a) where
  abbrev m : List ℕ
  m = t.memory.now

  abbrev chain_side : List Step
  chain_side = several (chain_of t) 1 0 chain_count

  abbrev queue_side : List Step
  queue_side = queued_steps m t.base lane n t.count

  same-chains : chain_side ≡ chain_part m
  same-chains = ap₂ (λ (x z : ℕ). several (chain_steps m x z) 1 0 chain_count) y.slots y.count

  same-queues : queue_side ≡ queued_part m
  same-queues =
      ap₂ (λ (x z : ℕ). queued_steps m x lane n z) y.slots y.count
      ∙ ap₂ (λ (x z : ℕ). queued_steps m (slots_body (sizes m)) x z (at m slots_at)) y.lanes y.lane_count

  same-steps : chain_side ++ queue_side ≡ chain_part m ++ queued_part m
  same-steps = ap₂ ◌++◌ same-chains same-queues

  -- what the chains ask for
  pub chains-asks : Counted t s t.count × Ready t R k a t.count × (masks_at ≤ length m)
  chains-asks = (
    record { few = y.few; marks = l.mark_room; left = unmarked-all t.count s l.marks },
    record {
      room = record {
        count = c;
        cells = l.cell_room;
        holders = λ q. omega (arith, l.cells q);
        members = λ j b. absurd (omega (arith, b, ap length l.aside));
      };
      most = omega (arith, ap length l.aside);
    },
    omega (arith, y.inside, y.slots),
  )

  spread-below : (x : ℕ) → spread R x < length k
  spread-below x = omega (arith, l.cell_room, c.some, mod-lt ((low x * low_factor + high x * high_factor) / dropped) c.some)

  codes_same : distinct (map (code_of t) (slots_of chain_side)) ≡ distinct (map (code_at m (slots_body (sizes m))) (concat (read_chains m)))
  codes_same =
      ap₂ (λ (x : ℕ) (xs : List ℕ). distinct (map (code_at m x) xs)) y.slots (ap slots_of same-chains ∙ chains-are m)

  left-room : t.count ≤ length s → S m ≤ length s
  left-room h = omega (arith, h, y.count)

  -- from no slot put aside
  from-none : (h : Held) → enters_all t R chain_side k a ≡ h → enters_all t R chain_side k [] ≡ h
  from-none h e = ap (λ (x : List ℕ). enters_all t R chain_side k x) (sym l.aside) ∙ e

  pub table-chains : {u j b : List ℕ} → Enters t R chain_side s k a None u j b → false ≡ table_legal m
  unfolding going
  table-chains (Enters.spoils q) =
      spoilt-table m s l.marks (left-room l.mark_room) y.engine
      (ap (λ (ps : List Step). run ps s) (sym same-steps) ∙ run-append chain_side queue_side s ∙ ap (λ (o : Outcome). going o queue_side) q)
  table-chains (Enters.repeats q) =
      refuted (table_legal m) (λ z. meets-twice (code_of t) (spread R) k l.cells spread-below (slots_of chain_side) (from-none _ q)
      (codes_same ∙ (table-said m z).codes))

  module _ (x : ℕ) (u j b : List ℕ) (w : Enters t R chain_side s k a (Some x) u j b) where
    passed : (run chain_side s ≡ painted u) × (enters_all t R chain_side k a ≡ held j b) × Counted t u x × Ready t R j b x
    passed = go w
      where
        go : Enters t R chain_side s k a (Some x) u j b
            → (run chain_side s ≡ painted u) × (enters_all t R chain_side k a ≡ held j b) × Counted t u x × Ready t R j b x
        go (Enters.passes q f c g) = (q, f, c, g)

    -- what the queues ask for, and the codes put aside
    pub queues-asks : Counted t u x × (masks_at ≤ length m) × (lane + lane_length * n ≤ length m)
    queues-asks = (passed.2, omega (arith, y.inside, y.slots), omega (arith, y.inside, y.slots, y.lanes, y.lane_count))

    pub apart-asks : Listed t b
    apart-asks = record { members = passed.3.room.members; few = omega (arith, passed.2.few, passed.3.most) }

    both : run (chain_part m ++ queued_part m) s ≡ run queue_side u
    unfolding going
    both = ap (λ (ps : List Step). run ps s) (sym same-steps) ∙ run-append chain_side queue_side s ∙ ap (λ (o : Outcome). going o queue_side) passed.0

    pub table-queues : {o : List ℕ} → Runs t queue_side u None o → false ≡ table_legal m
    table-queues (Runs.spoils f) = spoilt-table m s l.marks (left-room l.mark_room) y.engine (both ∙ f)

    module _ (z : ℕ) (o : List ℕ) (q : Runs t queue_side u (Some z) o) where
      ended : (run queue_side u ≡ painted o) × Counted t o z
      ended = go q
        where
          go : Runs t queue_side u (Some z) o → (run queue_side u ≡ painted o) × Counted t o z
          go (Runs.passes f c) = (f, c)

      unmarked-left : z ≡ unmarked (S m) o
      unmarked-left = ended.1.left ∙ ap (λ (i : ℕ). unmarked i o) y.count

      pub table-left : (z ≡ 0 → ⊥) → false ≡ table_legal m
      table-left g = left-table m s l.marks (left-room l.mark_room) o (both ∙ ended.0) z unmarked-left g

      pub table-decided : z ≡ 0 → (d : Bool) → d ≡ distinct (map (code_of t) b) → d ≡ table_legal m
      table-decided g d f =
          decided-table m s l.marks (left-room l.mark_room) o (both ∙ ended.0) z unmarked-left g d
          (f ∙ sym (meets-told (code_of t) (spread R) k l.cells spread-below (slots_of chain_side) j b (from-none _ passed.1)) ∙ codes_same)

-- marks and cells of 0, and none put aside
pub lent-zeros : (S n R : ℕ) (k a : List ℕ) → S ≤ n → k ≡ replicate R 0 → a ≡ [] → Arrays S R (replicate n 0) k a
lent-zeros S n R k a h e f = record {
  marks = get_or-replicate-default 0 n;
  cells = λ i. ap (λ (x : List ℕ). get_or x i 0) e ∙ get_or-replicate-default 0 R i;
  aside = f;
  mark_room = omega (arith, h, length-replicate {A = ℕ} n 0);
  cell_room = omega (arith, ap length e, length-replicate {A = ℕ} R 0);
}
