-- The fields of a legal memory of words are those of the state that it reads as.
use Prim.Native.Nat.{ℕ, suc, ◌+◌, ◌*◌, ◌^◌, ◌≤◌, ◌<◌}
use mathlib.Core.Bool.{Bool, true, false}
use mathlib.Core.Path.{◌≡◌, refl, ap, ap₂, sym, ◌∙◌}
use mathlib.Core.List.{List, [], ◌∷◌, ◌++◌, map}
use native.Mathlib.Omega.{arith}
use lib.ListN.{length, get_or}
use lib.Arith.{digits_lt, digits_div, digits_mod}
use Rattle.model.specs.Lists.{first, last, from, mask as mask_of}
use Rattle.model.specs.State.{Sizes, State, Product, Lane, cabinet_count, lane_count}
use Rattle.model.specs.Layout.{chain_count, count_width, counts_width, current_offset, done_offset, last_offset, length_offset, contents_length, heads_at, free_at}
use Rattle.model.specs.Layout.{global_queues_at, current_generation_at, largest_generation_at, yard_mask_at, online_bit, reading_bit}
use Rattle.model.specs.Layout.{lookup_bit, snapshot_bit, flag_count, flags_at, quiescent_at, snapshot_at, generation_at, queues_at, lookup_at}
use Rattle.model.specs.Layout.{position_at, chain_link_at, queue_link_at, lane_length, slot_length, slot_address, lane_address, total}
use Rattle.model.specs.Memory.{at, wide, flag, flags, is_not_zero, group_mask, lane_bit, cabinet_bit, mask_word, yard_word, lane_mask, cabinet_mask, yard_mask, lane_words}
use Rattle.model.specs.Memory.{lane_word, slot_words, slot_word, low, high, head_of, read_lookup, read_snapshot, snapshot_count, count_words}
use Rattle.model.specs.Memory.{lookup_code, lookup_position, state, sizes, read_product, read_queue, read_lane}
use Rattle.laws.specs.ListLaws.{map-from-alike, get_or-map-below, take-map-from}
use Rattle.laws.specs.Masks.{mask-flags}
use Rattle.representation.proofs.WellFormed.{SlotOrNone}
use Rattle.representation.proofs.Sentences.Facts.{WordsTo, Facts, Legal}
use Rattle.representation.proofs.FromMemory.Reading.{state-lane, state-chain, state-product, is_running-read_lookup, is_held-read_snapshot}
use Rattle.representation.proofs.FromMemory.Walked.{slot_walk-first, chain_link, queue-link}
use Rattle.representation.proofs.Addresses.Fields.{top, head, end, mask, lane, slot, yard, value, ends_length, end_words, top_words}
use Rattle.representation.proofs.Addresses.Writes.{Image}

cons : {x y : ℕ} {xs ys : List ℕ} → x ≡ y → xs ≡ ys → x ∷ xs ≡ y ∷ ys
cons e f = ap₂ (λ (a : ℕ) (r : List ℕ). a ∷ r) e f

module _ (m : List ℕ) (l : Legal m) (w : WordsTo (total (sizes m)) m) where
  abbrev s : State
  s = state m

  abbrev z : Sizes
  z = sizes m

  abbrev f : Facts m s
  f = l.facts

  -- ---- the global body

  head-is : (k : ℕ) → k < chain_count → head_of s.table k ≡ at m (heads_at + k)
  head-is k b = ap first (state-chain m k b) ∙ slot_walk-first m chain_link_at (at m (heads_at + k)) _ (omega arith) (f.heads k b)

  first-is : (a : ℕ) → SlotOrNone z.slots (at m a) → first (read_queue m a) ≡ at m a
  first-is a h = slot_walk-first m queue_link_at (at m a) _ (omega arith) h

  ends-are : end_words s ≡ map (λ (k : ℕ). at m (free_at + k)) (from 0 ends_length)
  unfolding state from
  ends-are =
      cons (first-is free_at f.free_ends.first)
      (cons f.lasts.free
      (cons f.lengths.free
      (cons (first-is global_queues_at f.global_ends.next.first)
      (cons f.lasts.global.next
      (cons f.lengths.global.next
      (cons (first-is (global_queues_at + current_offset) f.global_ends.current.first)
      (cons f.lasts.global.current
      (cons f.lengths.global.current
      (cons (first-is (global_queues_at + done_offset) f.global_ends.done.first)
      (cons f.lasts.global.done
      (cons f.lengths.global.done refl)))))))))))

  -- ---- masks

  -- a mask x of w bits, of which each is the flag f of its place
  mask-by : (f : ℕ → Bool) (w x g : ℕ) → x < 2 ^ w → ((p : ℕ) → p < w → f (g * w + p) ≡ flag p x) → group_mask w f g ≡ x
  mask-by f w x g b h = ap mask_of (map-from-alike _ _ 0 w (λ p u v. h p (omega arith))) ∙ mask-flags x w b

  pending-is : (c p : ℕ) → c < cabinet_count z → p < z.places → lane_bit s (c * z.places + p) ≡ flag p (mask_word m c)
  unfolding read_lane state
  pending-is c p hc hp =
      ap (λ (l : Lane). l.pending) (state-lane m (c * z.places + p) (digits_lt hc hp))
      ∙ ap₂ (λ (x y : ℕ). flag x (mask_word m y)) (digits_mod c hp) (digits_div c hp)

  mask_is : (c : ℕ) → c < cabinet_count z → lane_mask s c ≡ mask_word m c
  unfolding state
  mask_is c b = mask-by (lane_bit s) z.places (mask_word m c) c (f.lane_masks c b) (λ p h. pending-is c p b h)

  cabinet_mask-is : (y : ℕ) → y < z.yards → cabinet_mask s y ≡ yard_word m y
  unfolding state
  cabinet_mask-is y b =
      mask-by (cabinet_bit s) z.cabinets (yard_word m y) y (f.cabinet_masks y b)
      (λ c h. let inside : y * z.cabinets + c < cabinet_count z = digits_lt b h in
      ap is_not_zero (mask_is (y * z.cabinets + c) inside) ∙ f.cabinet_bits (y * z.cabinets + c) inside
      ∙ ap₂ (λ (i j : ℕ). flag i (yard_word m j)) (digits_mod y h) (digits_div y h))

  yard_mask-is : yard_mask s ≡ at m yard_mask_at
  unfolding state
  yard_mask-is =
      mask-by (λ y. is_not_zero (cabinet_mask s y)) z.yards (at m yard_mask_at) 0 f.yard_mask
      (λ y b. let e : 0 * z.yards + y ≡ y = omega arith in
      ap (λ (x : ℕ). is_not_zero (cabinet_mask s x)) e ∙ ap is_not_zero (cabinet_mask-is y b) ∙ f.yard_bits y b)

  top-is : top_words s ≡ map (at m) (from 0 heads_at)
  unfolding state from
  top-is =
      ap (λ (r : List ℕ). r ++ (at m current_generation_at ∷ at m largest_generation_at ∷ yard_mask s ∷ []))
      (sym l.contents.agree ∙ take-map-from m contents_length (omega (arith, l.contents.long)))
      ∙ ap (λ (x : ℕ). map (at m) (from 0 contents_length) ++ (at m current_generation_at ∷ at m largest_generation_at ∷ x ∷ [])) yard_mask-is

  -- ---- a lane's words

  low_wide : (a : ℕ) → a < total z → low (wide m a) ≡ at m a
  low_wide a b = omega (arith, w a b)

  high-wide : (a : ℕ) → a < total z → high (wide m a) ≡ at m (a + 1)
  high-wide a b = omega (arith, w a b)

  module _ (i : ℕ) (b : i < lane_count z) where
    abbrev a : ℕ
    a = lane_address z i

    word : (x k : ℕ) → x ≡ a + k → at m x ≡ lane_word m i k
    word x k e = ap (at m) e

    flags-are : flags (read_lane m i) ≡ lane_word m i flags_at
    unfolding flags read_lane from
    flags-are =
        let v = at m a in
        ap₂ (λ (x y : Bool). mask_of (flag online_bit v ∷ flag reading_bit v ∷ x ∷ y ∷ []))
        (is_running-read_lookup m (a + lookup_at) (flag lookup_bit v)) (is_held-read_snapshot m (a + snapshot_at) (flag snapshot_bit v))
        ∙ mask-flags v flag_count (omega (arith, word a 0 (omega arith), f.flags i b))
        ∙ word a 0 (omega arith)

    flag-clear : (k : ℕ) → flag k (at m a) ≡ false → flag k (lane_word m i flags_at) ≡ false
    flag-clear k e = ap (flag k) (sym (word a 0 (omega arith))) ∙ e

    -- the words of a count, which stand at k of the record, before others
    two : {xs ys : List ℕ} (c k : ℕ) → low c ≡ lane_word m i k → high c ≡ lane_word m i (suc k) → xs ≡ ys
        → low c ∷ high c ∷ xs ≡ lane_word m i k ∷ lane_word m i (suc k) ∷ ys
    two c k d e r = cons d (cons e r)

    read-two : {xs ys : List ℕ} (x k : ℕ) → x ≡ a + k → k + count_width ≤ lane_length → xs ≡ ys
        → low (wide m x) ∷ high (wide m x) ∷ xs ≡ lane_word m i k ∷ lane_word m i (suc k) ∷ ys
    read-two x k e h = two (wide m x) k (low_wide x (omega arith) ∙ word x k e) (high-wide x (omega arith) ∙ word (x + 1) (suc k) (omega arith))

    -- those of the snapshot, before others
    snapshot-are : {xs ys : List ℕ} (c : Bool) → flag snapshot_bit (at m a) ≡ c → xs ≡ ys
        → count_words (snapshot_count (read_snapshot m (a + snapshot_at) c)) ++ xs ≡ map (lane_word m i) (from snapshot_at counts_width) ++ ys
    unfolding snapshot_count from
    snapshot-are true e r =
        read-two _ snapshot_at (omega arith) (omega arith)
        (read-two _ (snapshot_at + count_width) (omega arith) (omega arith)
        (read-two _ (snapshot_at + count_width * 2) (omega arith) (omega arith)
        (read-two _ (snapshot_at + count_width * 3) (omega arith) (omega arith) r)))
    snapshot-are false e r =
        let rest : (k : ℕ) → k < counts_width → 0 ≡ lane_word m i (snapshot_at + k) = λ k h. sym (f.snapshots_rest i b (flag-clear snapshot_bit e) k h) in
        two 0 snapshot_at (rest 0 (omega arith)) (rest 1 (omega arith))
        (two 0 (snapshot_at + 2) (rest 2 (omega arith)) (rest 3 (omega arith))
        (two 0 (snapshot_at + 4) (rest 4 (omega arith)) (rest 5 (omega arith))
        (two 0 (snapshot_at + 6) (rest 6 (omega arith)) (rest 7 (omega arith)) r)))

    record LookupIs (c : Bool) : Type 0 where
      low : low (lookup_code (read_lookup m (a + lookup_at) c)) ≡ lane_word m i lookup_at
      high : high (lookup_code (read_lookup m (a + lookup_at) c)) ≡ lane_word m i (lookup_at + 1)
      position : lookup_position (read_lookup m (a + lookup_at) c) ≡ lane_word m i position_at

    lookup-is : (c : Bool) → flag lookup_bit (at m a) ≡ c → LookupIs c
    unfolding lookup_code lookup_position
    lookup-is true e = record {
      low = low_wide (a + lookup_at) (omega arith);
      high = high-wide (a + lookup_at) (omega arith) ∙ word _ (lookup_at + 1) (omega arith);
      position = word _ position_at (omega arith);
    }
    lookup-is false e = let r = f.lookups_rest i b (flag-clear lookup_bit e) in record { low = sym r.low; high = sym r.high; position = sym r.position }

    end_is : (k : ℕ) → SlotOrNone z.slots (lane_word m i k) → (x : ℕ) → x ≡ a + k → first (read_queue m x) ≡ lane_word m i k
    end_is k h x e = ap (λ (y : ℕ). first (read_queue m y)) e ∙ first-is (a + k) h

    lane-words : lane_words (read_lane m i) ≡ map (lane_word m i) (from 0 lane_length)
    unfolding lane_words read_lane from
    lane-words =
        let v = at m a in
        let q = f.lasts.lanes i b in
        let n = f.lengths.lanes i b in
        let r = f.lane_ends i b in
        let e = state-lane m i b in
        let k = lookup-is (flag lookup_bit v) refl in
        cons flags-are
        (read-two _ quiescent_at (omega arith) (omega arith)
        (read-two _ (quiescent_at + count_width) (omega arith) (omega arith)
        (read-two _ (quiescent_at + count_width * 2) (omega arith) (omega arith)
        (read-two _ (quiescent_at + count_width * 3) (omega arith) (omega arith)
        (snapshot-are (flag snapshot_bit v) refl
        (cons (word _ generation_at (omega arith))
        (cons (end_is queues_at r.next.first _ (omega arith))
        (cons (sym (ap (λ (l : Lane). last l.queues.next) e) ∙ q.next ∙ word _ (queues_at + last_offset) (omega arith))
        (cons (sym (ap (λ (l : Lane). length l.queues.next) e) ∙ n.next ∙ word _ (queues_at + length_offset) (omega arith))
        (cons (end_is (queues_at + current_offset) r.current.first _ (omega arith))
        (cons (sym (ap (λ (l : Lane). last l.queues.current) e) ∙ q.current ∙ word _ (queues_at + current_offset + last_offset) (omega arith))
        (cons (sym (ap (λ (l : Lane). length l.queues.current) e) ∙ n.current ∙ word _ (queues_at + current_offset + length_offset) (omega arith))
        (cons (end_is (queues_at + done_offset) r.done.first _ (omega arith))
        (cons (sym (ap (λ (l : Lane). last l.queues.done) e) ∙ q.done ∙ word _ (queues_at + done_offset + last_offset) (omega arith))
        (cons (sym (ap (λ (l : Lane). length l.queues.done) e) ∙ n.done ∙ word _ (queues_at + done_offset + length_offset) (omega arith))
        (cons k.low
        (cons k.high
        (cons k.position refl))))))))))))))))))

  -- ---- a slot's words

  slot-words : (i : ℕ) → i < z.slots → slot_words s i ≡ map (λ (k : ℕ). slot_word m k i) (from 0 slot_length)
  unfolding from read_product slot_words
  slot-words i b =
      let p = state-product m i b in
      let a = slot_address z i in
      cons (ap (λ (q : Product). low q.code) p ∙ low_wide a (omega arith) ∙ ap (at m) (omega arith))
      (cons (ap (λ (q : Product). high q.code) p ∙ high-wide a (omega arith))
      (cons (ap (λ (q : Product). q.deposit) p)
      (cons (ap (λ (q : Product). q.material) p)
      (cons (chain_link m l i b)
      (cons (queue-link m l i b) refl)))))

  -- ---- all fields

  pub state-image : Image z m (value s)
  state-image (top k) b = sym (ap (λ (r : List ℕ). get_or r k 0) top-is ∙ get_or-map-below (at m) heads_at k 0 b)
  state-image (head k) b = sym (head-is k b)
  state-image (end k) b = sym (ap (λ (r : List ℕ). get_or r k 0) ends-are ∙ get_or-map-below (λ k. at m (free_at + k)) ends_length k 0 b)
  state-image (mask c) b = sym (mask_is c b)
  state-image (yard y) b = sym (cabinet_mask-is y b)
  state-image (lane i k) b =
      sym
      (ap (λ (l : Lane). get_or (lane_words l) k 0) (state-lane m i b.0)
      ∙ ap (λ (r : List ℕ). get_or r k 0) (lane-words i b.0)
      ∙ get_or-map-below (lane_word m i) lane_length k 0 b.1)
  state-image (slot i k) b = sym (ap (λ (r : List ℕ). get_or r k 0) (slot-words i b.0) ∙ get_or-map-below (λ k. slot_word m k i) slot_length k 0 b.1)
