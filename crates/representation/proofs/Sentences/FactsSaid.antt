-- The Boolean sentences of legality say the facts. Here alone the list of sentences is taken apart.
use Prim.Native.Nat.{ℕ, ◌+◌, ◌/◌, ◌%◌, ◌^◌, ◌<◌}
use mathlib.Core.Path.{◌≡◌, refl, ap}
use mathlib.Core.Logic.{inl, inr}
use mathlib.Core.Bool.{Bool, true, false, not, ◌&&◌, ◌||◌}
use mathlib.Core.List.{List, [], ◌∷◌}
use native.Mathlib.Omega.{arith}
use lib.ListN.{length, get_or}
use lib.Dec.{eqb}
use borrow.Author.Tests.{eq-eqb, eqb-true, ne_eqb, ltb-true, not-true}
use Rattle.model.specs.Word.{none, up, down, later}
use Rattle.model.specs.Lists.{all, every, is_empty, last, concat, member}
use Rattle.model.specs.State.{lane_count, is_running, is_held, Queues, Lane, State}
use Rattle.model.specs.Layout.{last_offset, length_offset, current_offset, done_offset, yard_mask_at, heads_at, free_at, global_queues_at}
use Rattle.model.specs.Layout.{lookup_bit, snapshot_bit, flag_count, flags_at, snapshot_at, queues_at, lookup_at, position_at}
use Rattle.model.specs.Layout.{deposit_at, material_at, chain_link_at, queue_link_at, lane_address, slot_address}
use Rattle.model.specs.Engine.{fresh_lane, lane_at}
use Rattle.model.specs.Rules.{wrong_code, wrong_product}
use Rattle.model.specs.Memory.{at, wide, sizes, lane_word, slot_word, mask_word, yard_word, all_queues, flag, is_not_zero}
use Rattle.model.specs.Legal.{implies, lane_numbers, slot_numbers, yard_numbers, cabinet_numbers, slot_or_none, ends_in_range, queues_in_range, flags_in_range}
use Rattle.model.specs.Legal.{masks_in_range, link_sentences, links_in_range, fields_in_range, stands_once, agrees_at, queues_agree, lasts_agree}
use Rattle.model.specs.Legal.{lengths_agree, on_their_chains, no_code_twice, snapshots_at_rest, lookups_at_rest, generation_at_rest, generations_at_rest, queue_links_at_rest}
use Rattle.model.specs.Legal.{none_queued, off_lanes, lookups_in_sections, snapshots_pending, bit_fits, bits_fit, free_blank, lane_generation_fits}
use Rattle.model.specs.Legal.{global_generation_fits, period_runs, largest_agrees, lane_generations, global_generation, sentences}
use Rattle.laws.specs.Tests.{clash, and-true, and_intro, or_cases, or_else, Every, every_true, all_from, all-below, all_get_d}
use Rattle.laws.specs.Elements.{is_empty-true}
use Rattle.laws.specs.Counts.{all-count, member-false}
use Rattle.representation.proofs.ExtraWords.{extra-said}
use Rattle.representation.proofs.Sentences.Ranges.{slot_or_none-true}
use Rattle.representation.proofs.Sentences.Facts.{EndsInRange, QueuesInRange, AgreeAt, Agree, LookupRest, Bare, Blank, Near, NearGlobal, Facts}

implies_true : (a b : Bool) → implies a b ≡ true → a ≡ true → b ≡ true
implies_true true b h q = h
implies_true false b h q = clash q refl

pub implies-intro : (a b : Bool) → (a ≡ true → b ≡ true) → implies a b ≡ true
implies-intro true b f = f refl
implies-intro false b f = refl

module _ (m : List ℕ) (word : ℕ → ℕ) where
  ends-true : (k : ℕ) → ends_in_range m word k ≡ true → EndsInRange (sizes m).slots word k
  ends-true k h =
      let (first, last) = and-true (slot_or_none m (word k)) (slot_or_none m (word (k + last_offset))) h in
      record { first = slot_or_none-true (sizes m).slots (word k) first; last = slot_or_none-true (sizes m).slots (word (k + last_offset)) last }

  queues-true : (k : ℕ) → queues_in_range m word k ≡ true → QueuesInRange (sizes m).slots word k
  queues-true k h =
      let (first, done) = and-true (ends_in_range m word k && ends_in_range m word (k + current_offset)) (ends_in_range m word (k + done_offset)) h in
      let (next, current) = and-true (ends_in_range m word k) (ends_in_range m word (k + current_offset)) first in
      record { next = ends-true k next; current = ends-true (k + current_offset) current; done = ends-true (k + done_offset) done }

module _ (m : List ℕ) (s : State) where
  agree_at-true : (f : List ℕ → ℕ) (o a : ℕ) (q : Queues) → agrees_at m f o a q ≡ true → AgreeAt m f o a q
  agree_at-true f o a q h =
      let (next, (current, (done, rest))) = every_true _ h in
      record { next = eqb-true _ _ next; current = eqb-true _ _ current; done = eqb-true _ _ done }

  agree-true : (f : List ℕ → ℕ) (o : ℕ) → queues_agree m f o s ≡ true → Agree m s f o
  agree-true f o h =
      let (free, (global, (lanes, rest))) = every_true _ h in
      record {
        free = eqb-true _ _ free;
        global = agree_at-true f o global_queues_at s.engine.global global;
        lanes = λ i b. agree_at-true f o (lane_address (sizes m) i + queues_at) (lane_at s.engine i).queues (all-below _ _ i lanes b);
      }

  lookup_rest-true : (i : ℕ) → every (eqb (lane_word m i lookup_at) 0 ∷ eqb (lane_word m i (lookup_at + 1)) 0 ∷ eqb (lane_word m i position_at) none ∷ []) ≡ true
      → LookupRest m i
  lookup_rest-true i h =
      let (low, (high, (position, rest))) = every_true _ h in
      record { low = eqb-true _ _ low; high = eqb-true _ _ high; position = eqb-true _ _ position }

  bare-true : (l : Lane) → (not l.reading && none_queued l.queues && not l.pending) ≡ true → Bare l
  bare-true l h =
      let q = l.queues in
      let a = and-true (not l.reading && none_queued q) (not l.pending) h in
      let b = and-true (not l.reading) (none_queued q) a.0 in
      let c = and-true (is_empty q.next && is_empty q.current) (is_empty q.done) b.1 in
      let d = and-true (is_empty q.next) (is_empty q.current) c.0 in
      record {
        reading = not-true l.reading b.0;
        pending = not-true l.pending a.1;
        next = is_empty-true q.next d.0;
        current = is_empty-true q.current d.1;
        done = is_empty-true q.done c.1;
      }

  abbrev blank : ℕ → Bool
  blank x =
      let b = slot_address (sizes m) x in
      eqb (wide m b) 0 && eqb (at m (b + deposit_at)) 0 && eqb (at m (b + material_at)) 0 && eqb (at m (b + chain_link_at)) none

  blank-true : (x : ℕ) → blank x ≡ true → Blank m x
  blank-true x h =
      let b = slot_address (sizes m) x in
      let u = and-true (eqb (wide m b) 0 && eqb (at m (b + deposit_at)) 0 && eqb (at m (b + material_at)) 0) (eqb (at m (b + chain_link_at)) none) h in
      let v = and-true (eqb (wide m b) 0 && eqb (at m (b + deposit_at)) 0) (eqb (at m (b + material_at)) 0) u.0 in
      let y = and-true (eqb (wide m b) 0) (eqb (at m (b + deposit_at)) 0) v.0 in
      record { code = eqb-true _ _ y.0; deposit = eqb-true _ _ y.1; material = eqb-true _ _ v.1; link = eqb-true _ _ u.1 }

  near-true : (c n : ℕ) (r : Bool) (l : Lane) → lane_generation_fits c n r l ≡ true → is_empty l.queues.current ≡ false → Near c n r l
  near-true c n r l h e =
      let g = l.queues.generation in
      let near = eqb g (down c) || eqb g c || eqb g (up c) in
      let waits = implies (eqb g (down c) && r) l.pending in
      let a = and-true (near && not (later g n)) waits (or_else (is_empty l.queues.current) (near && not (later g n) && waits) h e) in
      let b = and-true near (not (later g n)) a.0 in
      record {
        near = or_cases (eqb g (down c) || eqb g c) (eqb g (up c)) b.0
            (λ p. or_cases (eqb g (down c)) (eqb g c) p (λ q. inl (eqb-true _ _ q)) (λ q. inr (inl (eqb-true _ _ q))))
            (λ p. inr (inr (eqb-true _ _ p)));
        not_later = not-true (later g n) b.1;
        awaited = λ p q. implies_true (eqb g (down c) && r) l.pending a.1 (and_intro (eqb g (down c)) r (eq-eqb g (down c) p) q);
      }

  near_global-true : (c n : ℕ) (q : Queues) → global_generation_fits c n q ≡ true → is_empty q.current ≡ false → NearGlobal c n q
  near_global-true c n q h e =
      let g = q.generation in
      let a = and-true (eqb g c || eqb g (up c)) (not (later g n)) (or_else (is_empty q.current) ((eqb g c || eqb g (up c)) && not (later g n)) h e) in
      record {
        near = or_cases (eqb g c) (eqb g (up c)) a.0 (λ p. inl (eqb-true _ _ p)) (λ p. inr (eqb-true _ _ p));
        not_later = not-true (later g n) a.1;
      }

  rest-true : (q : Queues) → generation_at_rest q ≡ true → is_empty q.current ≡ true → q.generation ≡ 0
  rest-true q h e = eqb-true _ _ (or_else (not (is_empty q.current)) (eqb q.generation 0) h (ap not e))

  bit-true : (b : Bool) (x : ℕ) → bit_fits b x ≡ true → is_not_zero x ≡ b
  bit-true true x e = ap not (ne_eqb x 0 (λ q. omega (arith, ltb-true 0 x e)))
  bit-true false x e = ap not e

  abbrev product_right : ℕ → Bool
  product_right i = let b = slot_address (sizes m) i in not (wrong_product (wide m b) (at m (b + deposit_at)) (at m (b + material_at)))

  abbrev lookup_right : ℕ → Bool
  lookup_right i = not (wrong_code (wide m (lane_address (sizes m) i + lookup_at)))

  abbrev yard_says : ℕ → Bool
  yard_says y = bit_fits (flag y (at m yard_mask_at)) (yard_word m y)

  abbrev cabinet_says : ℕ → Bool
  cabinet_says c = bit_fits (flag (c % (sizes m).cabinets) (yard_word m (c / (sizes m).cabinets))) (mask_word m c)

  pub facts : Every (sentences m s) → Facts m s
  unfolding flags_in_range masks_in_range links_in_range fields_in_range stands_once lasts_agree lengths_agree on_their_chains no_code_twice snapshots_at_rest lookups_at_rest
      generations_at_rest queue_links_at_rest off_lanes lookups_in_sections snapshots_pending bits_fit free_blank largest_agrees lane_generations global_generation is_empty is_running is_held
  facts said =
      let (flagged, (masked, (linked, (fielded, (once, (lasts, (lengths, (chains, (codes, others))))))))) = said in
      let (snapshots, (lookups, (rests, (lines, (off, (sections, (helds, (bits, (free, (largest, (lanes, (global, extra)))))))))))) = others in
      let (upper, lane_masks) = and-true _ _ masked in
      let (yard_mask, cabinet_masks) = and-true _ _ upper in
      let (yards, cabinets) = and-true (all yard_says (yard_numbers m)) (all cabinet_says (cabinet_numbers m)) bits in
      let (heads, (free_ends, (global_ends, (lane_links, (chain_links, (queue_links, rest)))))) = every_true (link_sentences m) linked in
      let fields = and-true (all product_right (slot_numbers m)) (all lookup_right (lane_numbers m)) fielded in
      let resting = and-true _ _ rests in
      let of_lane : (i : ℕ) → i < lane_count (sizes m) → (queues_in_range m (lane_word m i) queues_at ≡ true) × (slot_or_none m (lane_word m i position_at) ≡ true) =
      λ i b. and-true _ _ (all-below _ _ i lane_links b) in
      record {
        flags = λ i b. ltb-true (lane_word m i flags_at) (2 ^ flag_count) (all-below _ _ i flagged b);
        yard_mask = ltb-true (at m yard_mask_at) (2 ^ (sizes m).yards) yard_mask;
        cabinet_masks = λ y b. ltb-true (yard_word m y) (2 ^ (sizes m).cabinets) (all-below _ _ y cabinet_masks b);
        lane_masks = λ c b. ltb-true (mask_word m c) (2 ^ (sizes m).places) (all-below _ _ c lane_masks b);
        heads = λ k b. slot_or_none-true (sizes m).slots (at m (heads_at + k)) (all-below _ _ k heads b);
        free_ends = ends-true m (at m) free_at free_ends;
        global_ends = queues-true m (at m) global_queues_at global_ends;
        lane_ends = λ i b. queues-true m (lane_word m i) queues_at (of_lane i b).0;
        positions = λ i b. slot_or_none-true (sizes m).slots (lane_word m i position_at) (of_lane i b).1;
        chain_links = λ i b. slot_or_none-true (sizes m).slots (slot_word m chain_link_at i) (all-below _ _ i chain_links b);
        queue_links = λ i b. slot_or_none-true (sizes m).slots (slot_word m queue_link_at i) (all-below _ _ i queue_links b);
        products = λ i b. not-true _ (all-below _ _ i fields.0 b);
        lookup_codes = λ i b. not-true _ (all-below _ _ i fields.1 b);
        once = λ i b. eqb-true _ 1 (all-below _ _ i once b);
        lasts = agree-true last last_offset lasts;
        lengths = agree-true length length_offset lengths;
        on_chain = λ k b x c. eqb-true _ k (all-count _ (get_or s.table.chains k []) (all-below _ _ k chains b) x c);
        codes = codes;
        snapshots_rest =
            λ i b e k l. eqb-true _ 0 (all_from _ snapshot_at _ k (or_else (flag snapshot_bit (lane_word m i flags_at)) _ (all-below _ _ i snapshots b) e) l);
        lookups_rest = λ i b e. lookup_rest-true i (or_else (flag lookup_bit (lane_word m i flags_at)) _ (all-below _ _ i lookups b) e);
        global_rest = rest-true s.engine.global resting.0;
        lanes_rest = λ i. rest-true (lane_at s.engine i).queues (all_get_d fresh_lane _ s.engine.lanes refl resting.1 i);
        queue_links_rest =
            λ i b e. eqb-true _ none (or_else (member i (concat (all_queues s))) _ (all-below _ _ i lines b) (member-false i (concat (all_queues s)) e));
        off = λ i e. bare-true (lane_at s.engine i) (or_else (lane_at s.engine i).online _ (all_get_d fresh_lane _ s.engine.lanes refl off i) e);
        sections =
            λ i. implies_true (is_running (lane_at s.engine i).lookup)
            (lane_at s.engine i).reading (all_get_d fresh_lane _ s.engine.lanes refl sections i);
        snapshots =
            λ i. implies_true (is_held (lane_at s.engine i).snapshot) (lane_at s.engine i).pending (all_get_d fresh_lane _ s.engine.lanes refl helds i);
        yard_bits = λ y b. bit-true (flag y (at m yard_mask_at)) (yard_word m y) (all-below _ _ y yards b);
        cabinet_bits = λ c b. bit-true (flag (c % (sizes m).cabinets) (yard_word m (c / (sizes m).cabinets))) (mask_word m c) (all-below _ _ c cabinets b);
        free = λ x b. blank-true x (all-count _ s.table.free free x b);
        largest = largest;
        lanes_near =
            λ i. near-true s.engine.current s.engine.largest (period_runs m)
            (lane_at s.engine i) (all_get_d fresh_lane _ s.engine.lanes refl lanes i);
        global_near = near_global-true s.engine.current s.engine.largest s.engine.global global;
        extra = extra-said m s extra;
      }
