-- A memory that holds the words of a well-formed state: its lanes read as that state's.
use Prim.Native.Nat.{ℕ, zero, suc, ◌+◌, ◌*◌, ◌/◌, ◌%◌, ◌≤◌, ◌<◌}
use mathlib.Core.Path.{◌≡◌, refl, sym, ap, ap₂, ◌∙◌}
use mathlib.Core.Bool.{false}
use mathlib.Core.List.{List, [], ◌∷◌, map}
use native.Mathlib.Omega.{arith}
use lib.ListN.{length, get_or}
use Rattle.model.specs.Lists.{first, from, concat_map}
use Rattle.model.specs.State.{Sizes, cabinet_count, lane_count, Lookup, idle, running, Snapshot, unheld, held, Lane, Engine, Table, is_held, is_running}
use Rattle.model.specs.Layout.{kinds, count_width, current_offset, done_offset, online_bit, reading_bit, lookup_bit, snapshot_bit, quiescent_at}
use Rattle.model.specs.Layout.{snapshot_at, generation_at, queues_at, lookup_at, position_at, lane_length, lane_address}
use Rattle.model.specs.Engine.{lane_at, fresh_lane}
use Rattle.model.specs.Memory.{at, wide, sizes, whole_of, lane_bit, quiescent_count, low, high, flag, flags, lookup_code, lookup_position, snapshot_count, lane_words}
use Rattle.model.specs.Memory.{lane_word, lane_queues, mask_word, read_queues, read_lane, read_lookup, read_counts, read_snapshot}
use Rattle.laws.specs.ListLaws.{map-from-get_or, map-from-alike}
use Rattle.laws.specs.Masks.{flag-mask}
use Rattle.representation.proofs.ExtraWords.{extra_at, extra_count, extra_words, lane-path}
use Rattle.representation.proofs.WellFormed.{WellFormed, SnapshotFits}
use Rattle.representation.proofs.Addresses.Fields.{mask, lane, value}
use Rattle.representation.proofs.Addresses.Writes.{Image}
use Rattle.representation.proofs.FromState.Standing.{fit}
use Rattle.representation.proofs.FromState.Periods.{group-below, flag-of}
use Rattle.representation.proofs.FromState.RereadQueues.{sized, queue-is}

-- where lane i's queues stand among those of all lanes
abbrev triple : ℕ → ℕ
triple zero = zero
triple (suc i) = suc (suc (suc (triple i)))

record Three (ls : List Lane) (i : ℕ) : Type 0 where
  next : get_or (concat_map lane_queues ls) (triple i) [] ≡ (get_or ls i fresh_lane).queues.next
  current : get_or (concat_map lane_queues ls) (suc (triple i)) [] ≡ (get_or ls i fresh_lane).queues.current
  done : get_or (concat_map lane_queues ls) (suc (suc (triple i))) [] ≡ (get_or ls i fresh_lane).queues.done

three : (ls : List Lane) (i : ℕ) → i < length ls → Three ls i
unfolding concat_map
three [] i h = absurd (omega arith)
three (l ∷ ls) zero h = record { next = refl; current = refl; done = refl }
three (l ∷ ls) (suc i) h = let t = three ls i (omega arith) in record { next = t.next; current = t.current; done = t.done }

four-counts : (xs : List ℕ) → length xs ≡ kinds → get_or xs 0 0 ∷ get_or xs 1 0 ∷ get_or xs 2 0 ∷ get_or xs 3 0 ∷ [] ≡ xs
four-counts [] h = absurd (omega arith)
four-counts (a ∷ []) h = absurd (omega arith)
four-counts (a ∷ b ∷ []) h = absurd (omega arith)
four-counts (a ∷ b ∷ c ∷ []) h = absurd (omega arith)
four-counts (a ∷ b ∷ c ∷ d ∷ []) h = refl
four-counts (a ∷ b ∷ c ∷ d ∷ e ∷ xs) h = absurd (omega arith)

pub whole_of-low-high : (c : ℕ) → whole_of (low c) (high c) ≡ c
whole_of-low-high c = omega arith

module _ (e : Engine) (t : Table) (m : List ℕ) where
  abbrev z : Sizes
  z = sizes m

  module _ (w : WellFormed (sized e t m)) (holds : Image z m (value (sized e t m))) where
    module _ (i : ℕ) (b : i < lane_count z) where
      abbrev l : Lane
      l = lane_at e i

      abbrev a : ℕ
      a = lane_address z i

      word : (k : ℕ) → k < lane_length → (x : ℕ) → x ≡ a + k → at m x ≡ get_or (lane_words l) k 0
      word k h x p = ap (at m) p ∙ holds (lane i k) (b, h)

      queues-are : read_queues m (a + generation_at) (a + queues_at) ≡ l.queues
      unfolding lane_words
      queues-are =
          let there = three e.lanes i (omega (arith, w.lanes)) in
          λ j. record {
            next =
                (queue-is e t m w holds (a + queues_at) (suc (suc (suc (suc (triple i)))))
                (word queues_at (omega arith) _ (omega arith) ∙ ap first (sym there.next)) ∙ there.next) j;
            current =
                (queue-is e t m w holds (a + queues_at + current_offset) (suc (suc (suc (suc (suc (triple i))))))
                (word (queues_at + current_offset) (omega arith) _ (omega arith) ∙ ap first (sym there.current)) ∙ there.current) j;
            done =
                (queue-is e t m w holds (a + queues_at + done_offset) (suc (suc (suc (suc (suc (suc (triple i)))))))
                (word (queues_at + done_offset) (omega arith) _ (omega arith) ∙ ap first (sym there.done)) ∙ there.done) j;
            generation = word generation_at (omega arith) (a + generation_at) refl j;
          }

      pub flag_is : (k : ℕ) → flag k (at m a) ≡ get_or (l.online ∷ l.reading ∷ is_running l.lookup ∷ is_held l.snapshot ∷ []) k false
      unfolding lane_words flags
      flag_is k = ap (flag k) (word 0 (omega arith) a (omega arith)) ∙ flag-mask (l.online ∷ l.reading ∷ is_running l.lookup ∷ is_held l.snapshot ∷ []) k

      -- a count whose words stand at k of the record
      count_at : (k x c : ℕ) → k + count_width ≤ lane_length → x ≡ a + k → get_or (lane_words l) k 0 ≡ low c → get_or (lane_words l) (k + 1) 0 ≡ high c → wide m x ≡ c
      count_at k x c h p u v =
          ap₂ whole_of (word k (omega arith) x p ∙ u) (word (k + 1) (omega arith) (x + 1) (omega arith) ∙ v) ∙ whole_of-low-high c

      counts-are : read_counts m (a + quiescent_at) ≡ l.quiescent
      unfolding lane_words
      counts-are =
          (λ j. count_at quiescent_at _ (quiescent_count l 0) (omega arith) refl refl refl j
          ∷ count_at (quiescent_at + count_width) (a + quiescent_at + count_width) (quiescent_count l 1) (omega arith) (omega arith) refl refl j
          ∷ count_at (quiescent_at + count_width * 2) (a + quiescent_at + count_width * 2) (quiescent_count l 2) (omega arith) (omega arith) refl refl j
          ∷ count_at (quiescent_at + count_width * 3) (a + quiescent_at + count_width * 3) (quiescent_count l 3) (omega arith) (omega arith) refl refl j ∷ [])
          ∙ four-counts l.quiescent (w.fits i).counts.four

      lookup-is : (k : Lookup) → l.lookup ≡ k → read_lookup m (a + lookup_at) (is_running k) ≡ k
      unfolding is_running lane_words lookup_code lookup_position
      lookup-is idle q = refl
      lookup-is (running c p) q =
          ap₂ running
          (ap₂ whole_of (word lookup_at (omega arith) (a + lookup_at) refl ∙ ap (λ (k : Lookup). low (lookup_code k)) q)
          (word (lookup_at + 1) (omega arith) (a + lookup_at + 1) (omega arith) ∙ ap (λ (k : Lookup). high (lookup_code k)) q)
          ∙ whole_of-low-high c)
          (word position_at (omega arith) (a + lookup_at + 2) (omega arith) ∙ ap lookup_position q)

      snapshot-is : (k : Snapshot) → l.snapshot ≡ k → SnapshotFits l.pending k → read_snapshot m (a + snapshot_at) (is_held k) ≡ k
      unfolding is_held lane_words snapshot_count
      snapshot-is unheld q f = refl
      snapshot-is (held c) q f =
          ap held
          ((λ j. kept 0 (a + snapshot_at) (omega arith) (omega arith) refl refl j
          ∷ kept 1 (a + snapshot_at + count_width) (omega arith) (omega arith) refl refl j
          ∷ kept 2 (a + snapshot_at + count_width * 2) (omega arith) (omega arith) refl refl j
          ∷ kept 3 (a + snapshot_at + count_width * 3) (omega arith) (omega arith) refl refl j ∷ [])
          ∙ four-counts c f.1.four)
        where
          kept : (k x : ℕ) → k < kinds → x ≡ a + (snapshot_at + count_width * k) → get_or (lane_words l) (snapshot_at + count_width * k) 0 ≡ low (snapshot_count l.snapshot k)
              → get_or (lane_words l) (snapshot_at + count_width * k + 1) 0 ≡ high (snapshot_count l.snapshot k) → wide m x ≡ get_or c k 0
          kept k x h p u v = count_at (snapshot_at + count_width * k) x (snapshot_count l.snapshot k) (omega arith) p u v ∙ ap (λ (y : Snapshot). snapshot_count y k) q

      pending-is : flag (i % z.places) (mask_word m (i / z.places)) ≡ l.pending
      pending-is =
          let some = (fit (sized e t m) w).some_places in
          ap (flag (i % z.places)) (holds (mask (i / z.places)) (group-below z.places (cabinet_count z) some i b))
          ∙ flag-of z.places (lane_bit (sized e t m)) some i

      extra-are : extra_words (read_lane m i) ≡ extra_words l
      unfolding read_lane lane_words from
      extra-are = map-from-alike (lane_word m i) (λ (k : ℕ). get_or (lane_words l) k 0) extra_at extra_count (λ k u v. word k (omega arith) (a + k) refl)

      lane-is : read_lane m i ≡ l
      unfolding read_lane
      lane-is =
          lane-path (flag_is online_bit) (flag_is reading_bit)
          (ap (read_lookup m (a + lookup_at)) (flag_is lookup_bit) ∙ lookup-is l.lookup refl)
          counts-are
          (ap (read_snapshot m (a + snapshot_at)) (flag_is snapshot_bit) ∙ snapshot-is l.snapshot refl (w.fits i).snapshot)
          pending-is queues-are extra-are

    pub lanes-are : map (read_lane m) (from 0 (lane_count z)) ≡ e.lanes
    lanes-are = map-from-get_or (read_lane m) fresh_lane e.lanes (lane_count z) w.lanes lane-is
