-- The facts make the Boolean sentences of legality hold. Here alone the list of sentences is put together.
use Prim.Native.Nat.{ℕ, ◌+◌, ◌/◌, ◌%◌, ◌^◌}
use mathlib.Core.Path.{◌≡◌, sym, ap, ◌∙◌}
use mathlib.Core.Logic.{◌⊎◌, inl, inr}
use mathlib.Core.Bool.{Bool, true, false, not, ◌&&◌, ◌||◌}
use mathlib.Core.List.{List, [], ◌∷◌}
use native.Mathlib.Omega.{arith}
use native.Mathlib.Decide.{dec_lt}
use lib.ListN.{length, get_or}
use lib.Dec.{eqb}
use borrow.Author.Tests.{eq-eqb, eqb-true, lt-ltb, not-false}
use Rattle.model.specs.Word.{none, up, down, later}
use Rattle.model.specs.Lists.{every, is_empty, last, concat, count, member}
use Rattle.model.specs.State.{is_running, is_held, Queues, Lane, State}
use Rattle.model.specs.Layout.{last_offset, length_offset, current_offset, done_offset, yard_mask_at, heads_at, free_at, global_queues_at, lookup_bit}
use Rattle.model.specs.Layout.{snapshot_bit, flag_count, flags_at, snapshot_at, queues_at, lookup_at, position_at, chain_link_at, queue_link_at, lane_address}
use Rattle.model.specs.Engine.{fresh_lane, lane_at}
use Rattle.model.specs.Memory.{at, sizes, lane_word, slot_word, mask_word, yard_word, all_queues, flag, is_not_zero}
use Rattle.model.specs.Legal.{implies, ends_in_range, queues_in_range, flags_in_range, masks_in_range, link_sentences, links_in_range, fields_in_range, stands_once}
use Rattle.model.specs.Legal.{agrees_at, queues_agree, lasts_agree, lengths_agree, on_their_chains, no_code_twice, snapshots_at_rest, lookups_at_rest}
use Rattle.model.specs.Legal.{generation_at_rest, generations_at_rest, queue_links_at_rest, none_queued, off_lanes, lookups_in_sections, snapshots_pending, bit_fits, bits_fit, free_blank, lane_generation_fits}
use Rattle.model.specs.Legal.{global_generation_fits, period_runs, largest_agrees, lane_generations, global_generation, sentences}
use Rattle.laws.specs.Tests.{◌&◌, and-true, and_intro, or_left, or_right, or-else-intro, Every, every-intro}
use Rattle.laws.specs.Tests.{all-from-intro, all-below-intro, all-get_or-intro, same, other, decide}
use Rattle.laws.specs.Counts.{all-count-intro, member-true}
use Rattle.representation.proofs.ExtraWords.{extra-hold}
use Rattle.representation.proofs.Sentences.Ranges.{slot_or_none-intro}
use Rattle.representation.proofs.Sentences.Facts.{EndsInRange, QueuesInRange, AgreeAt, Agree, LookupRest, Bare, Near, NearGlobal, Facts}
use Rattle.representation.proofs.Sentences.FactsSaid.{implies-intro}

module _ (m : List ℕ) (s : State) where
  bare-intro : (l : Lane) → Bare l → (not l.reading && none_queued l.queues && not l.pending) ≡ true
  unfolding is_empty
  bare-intro l b = rw (b.reading, b.pending, b.next, b.current, b.done)

  near_intro : (c n : ℕ) (r : Bool) (l : Lane) → (is_empty l.queues.current ≡ false → Near c n r l) → lane_generation_fits c n r l ≡ true
  near_intro c n r l f =
      let g = l.queues.generation in
      let near = eqb g (down c) || eqb g c || eqb g (up c) in
      let waits = implies (eqb g (down c) && r) l.pending in
      or-else-intro (is_empty l.queues.current) (near && not (later g n) && waits)
      (λ e. let k = f e in
      and_intro (near && not (later g n)) waits
      (and_intro near (not (later g n)) (close k.near) (ap not k.not_later))
      (implies-intro (eqb g (down c) && r) l.pending (λ q. let t = and-true (eqb g (down c)) r q in k.awaited (eqb-true g (down c) t.0) t.1)))
    where
      close : {g : ℕ} → (g ≡ down c) ⊎ ((g ≡ c) ⊎ (g ≡ up c)) → (eqb g (down c) || eqb g c || eqb g (up c)) ≡ true
      close {g} (inl p) = or_left (eqb g (down c) || eqb g c) (eqb g (up c)) (or_left (eqb g (down c)) (eqb g c) (eq-eqb g (down c) p))
      close {g} (inr (inl p)) = or_left (eqb g (down c) || eqb g c) (eqb g (up c)) (or_right (eqb g (down c)) (eqb g c) (eq-eqb g c p))
      close {g} (inr (inr p)) = or_right (eqb g (down c) || eqb g c) (eqb g (up c)) (eq-eqb g (up c) p)

  near_global-intro : (c n : ℕ) (q : Queues) → (is_empty q.current ≡ false → NearGlobal c n q) → global_generation_fits c n q ≡ true
  near_global-intro c n q f =
      let g = q.generation in
      or-else-intro (is_empty q.current) ((eqb g c || eqb g (up c)) && not (later g n))
      (λ e. let k = f e in and_intro (eqb g c || eqb g (up c)) (not (later g n)) (close k.near) (ap not k.not_later))
    where
      close : {g : ℕ} → (g ≡ c) ⊎ (g ≡ up c) → (eqb g c || eqb g (up c)) ≡ true
      close {g} (inl p) = or_left (eqb g c) (eqb g (up c)) (eq-eqb g c p)
      close {g} (inr p) = or_right (eqb g c) (eqb g (up c)) (eq-eqb g (up c) p)

  rest-intro : (q : Queues) → (is_empty q.current ≡ true → q.generation ≡ 0) → generation_at_rest q ≡ true
  rest-intro q f = or-else-intro (not (is_empty q.current)) (eqb q.generation 0) (λ e. eq-eqb _ 0 (f (not-false (is_empty q.current) e)))

  bit-intro : (b : Bool) (x : ℕ) → is_not_zero x ≡ b → bit_fits b x ≡ true
  bit-intro b x e =
      elim (decide x 0) [
        | same p q r ↦ let k : b ≡ false = sym e ∙ ap not q in rw k q
        | other p q r ↦ let k : b ≡ true = sym e ∙ ap not q in rw k (lt-ltb 0 x (omega arith))
      ]

  member-rest : (i : ℕ) (xs : List ℕ) (w : ℕ) → (count i xs ≡ 0 → w ≡ none) → (member i xs || eqb w none) ≡ true
  member-rest i xs w f =
      elim (dec_lt 0 (count i xs)) [
        | yes p ↦ or_left (member i xs) (eqb w none) (member-true i xs p)
        | no p ↦ or_right (member i xs) (eqb w none) (eq-eqb w none (f (omega arith)))
      ]

  lookup_rest-intro : (i : ℕ) → LookupRest m i
      → every (eqb (lane_word m i lookup_at) 0 ∷ eqb (lane_word m i (lookup_at + 1)) 0 ∷ eqb (lane_word m i position_at) none ∷ []) ≡ true
  lookup_rest-intro i r = every-intro _ (eq-eqb _ 0 r.low & eq-eqb _ 0 r.high & eq-eqb _ none r.position & tt)

  ends-intro : (word : ℕ → ℕ) (k : ℕ) → EndsInRange (sizes m).slots word k → ends_in_range m word k ≡ true
  ends-intro word k e =
      and_intro _ _ (slot_or_none-intro (sizes m).slots (word k) e.first) (slot_or_none-intro (sizes m).slots (word (k + last_offset)) e.last)

  queues-intro : (word : ℕ → ℕ) (k : ℕ) → QueuesInRange (sizes m).slots word k → queues_in_range m word k ≡ true
  queues-intro word k q =
      and_intro _ _ (and_intro _ _ (ends-intro word k q.next) (ends-intro word (k + current_offset) q.current))
      (ends-intro word (k + done_offset) q.done)

  links-hold : Facts m s → links_in_range m ≡ true
  unfolding links_in_range
  links-hold f =
      every-intro (link_sentences m)
      (all-below-intro _ _ (λ k b. slot_or_none-intro (sizes m).slots (at m (heads_at + k)) (f.heads k b))
      & ends-intro (at m) free_at f.free_ends
      & queues-intro (at m) global_queues_at f.global_ends
      & all-below-intro _ _ (λ i b. and_intro _ _
      (queues-intro (lane_word m i) queues_at (f.lane_ends i b))
      (slot_or_none-intro (sizes m).slots (lane_word m i position_at) (f.positions i b)))
      & all-below-intro _ _ (λ i b. slot_or_none-intro (sizes m).slots (slot_word m chain_link_at i) (f.chain_links i b))
      & all-below-intro _ _ (λ i b. slot_or_none-intro (sizes m).slots (slot_word m queue_link_at i) (f.queue_links i b))
      & tt)

  agree_at-intro : (g : List ℕ → ℕ) (o a : ℕ) (q : Queues) → AgreeAt m g o a q → agrees_at m g o a q ≡ true
  agree_at-intro g o a q l = every-intro _ (eq-eqb _ _ l.next & eq-eqb _ _ l.current & eq-eqb _ _ l.done & tt)

  agree-intro : (g : List ℕ → ℕ) (o : ℕ) → Agree m s g o → queues_agree m g o s ≡ true
  agree-intro g o l =
      every-intro _
      (eq-eqb _ _ l.free
      & agree_at-intro g o global_queues_at s.engine.global l.global
      & all-below-intro _ _ (λ i b. agree_at-intro g o (lane_address (sizes m) i + queues_at) (lane_at s.engine i).queues (l.lanes i b))
      & tt)

  pub sentences-hold : Facts m s → Every (sentences m s)
  unfolding flags_in_range masks_in_range fields_in_range stands_once lasts_agree lengths_agree on_their_chains no_code_twice snapshots_at_rest lookups_at_rest generations_at_rest queue_links_at_rest
      off_lanes lookups_in_sections snapshots_pending bits_fit free_blank largest_agrees lane_generations global_generation
  sentences-hold f =
      all-below-intro _ _ (λ i b. lt-ltb (lane_word m i flags_at) (2 ^ flag_count) (f.flags i b))
      & and_intro _ _
      (and_intro _ _ (lt-ltb (at m yard_mask_at) (2 ^ (sizes m).yards) f.yard_mask)
      (all-below-intro _ _ (λ y b. lt-ltb (yard_word m y) (2 ^ (sizes m).cabinets) (f.cabinet_masks y b))))
      (all-below-intro _ _ (λ c b. lt-ltb (mask_word m c) (2 ^ (sizes m).places) (f.lane_masks c b)))
      & links-hold f
      & and_intro _ _ (all-below-intro _ _ (λ i b. ap not (f.products i b))) (all-below-intro _ _ (λ i b. ap not (f.lookup_codes i b)))
      & all-below-intro _ _ (λ i b. eq-eqb _ 1 (f.once i b))
      & agree-intro last last_offset f.lasts
      & agree-intro length length_offset f.lengths
      & all-below-intro _ _ (λ k b. all-count-intro _ (get_or s.table.chains k []) (λ x c. eq-eqb _ k (f.on_chain k b x c)))
      & f.codes
      & all-below-intro _ _ (λ i b. or-else-intro (flag snapshot_bit (lane_word m i flags_at)) _
      (λ e. all-from-intro _ snapshot_at _ (λ k l. eq-eqb _ 0 (f.snapshots_rest i b e k l))))
      & all-below-intro _ _ (λ i b. or-else-intro (flag lookup_bit (lane_word m i flags_at)) _ (λ e. lookup_rest-intro i (f.lookups_rest i b e)))
      & and_intro _ _ (rest-intro s.engine.global f.global_rest)
      (all-get_or-intro fresh_lane _ s.engine.lanes (λ i. rest-intro (lane_at s.engine i).queues (f.lanes_rest i)))
      & all-below-intro _ _ (λ i b. member-rest i (concat (all_queues s)) (slot_word m queue_link_at i) (f.queue_links_rest i b))
      & all-get_or-intro fresh_lane _ s.engine.lanes
      (λ i. or-else-intro (lane_at s.engine i).online _ (λ e. bare-intro (lane_at s.engine i) (f.off i e)))
      & all-get_or-intro fresh_lane _ s.engine.lanes
      (λ i. implies-intro (is_running (lane_at s.engine i).lookup) (lane_at s.engine i).reading (f.sections i))
      & all-get_or-intro fresh_lane _ s.engine.lanes
      (λ i. implies-intro (is_held (lane_at s.engine i).snapshot) (lane_at s.engine i).pending (f.snapshots i))
      & and_intro _ _
      (all-below-intro _ _ (λ y b. bit-intro (flag y (at m yard_mask_at)) (yard_word m y) (f.yard_bits y b)))
      (all-below-intro _ _
      (λ c b. bit-intro (flag (c % (sizes m).cabinets) (yard_word m (c / (sizes m).cabinets))) (mask_word m c) (f.cabinet_bits c b)))
      & all-count-intro _ s.table.free (λ x b. let k = f.free x b in rw (k.code, k.deposit, k.material, k.link))
      & f.largest
      & all-get_or-intro fresh_lane _ s.engine.lanes
      (λ i. near_intro s.engine.current s.engine.largest (period_runs m) (lane_at s.engine i) (f.lanes_near i))
      & near_global-intro s.engine.current s.engine.largest s.engine.global f.global_near
      & extra-hold m s f.extra
