-- A memory that holds the words of a well-formed state: its contents, and its ends and lanes as legality asks.
use Prim.Native.Nat.{ℕ, ◌+◌, ◌≤◌, ◌<◌}
use mathlib.Core.Path.{◌≡◌, refl, sym, ap, ap₂, ◌∙◌, subst}
use mathlib.Core.Bool.{Bool, true, false}
use mathlib.Core.List.{List, [], ◌∷◌}
use native.Mathlib.Omega.{arith}
use lib.ListN.{length, get_or, drop, get_or-append}
use Rattle.model.specs.State.{Sizes, lane_count, Lookup, idle, running, is_running, Snapshot, unheld, held, is_held, Queues, Lane, Engine, Table, State}
use Rattle.model.specs.Layout.{max_code, counts_width, chain_count, contents_length, last_offset, current_offset, done_offset, queue_width, heads_at, free_at}
use Rattle.model.specs.Layout.{global_queues_at, flags_at, snapshot_at, generation_at, queues_at, lookup_at, position_at, lane_length, lane_address, total}
use Rattle.model.specs.Engine.{lane_at}
use Rattle.model.specs.Memory.{at, low as low_word, high as high_word, sizes, wide, whole_of, flag, flags, contents, count_words, quiescent_count}
use Rattle.model.specs.Memory.{lookup_code, lookup_position, snapshot_count, yard_mask, lane_words, lane_word}
use Rattle.laws.specs.Tests.{clash}
use Rattle.laws.specs.ListLaws.{take-map-from, map-from-get_or, get_or-right, get_or-replicate-default}
use Rattle.representation.proofs.WellFormed.{WellFormed, LookupFits, SnapshotFits, SlotOrNone}
use Rattle.representation.proofs.Sentences.Facts.{ContentsFit, EndsInRange, QueuesInRange, LookupRest, Bare}
use Rattle.representation.proofs.Addresses.Fields.{top, head, end, lane, value, ends_length, end_words}
use Rattle.representation.proofs.Addresses.Writes.{Image}
use Rattle.representation.proofs.FromState.Standing.{head-range, free-ends, global-ends, lane-ends}
use Rattle.representation.proofs.FromState.RereadQueues.{sized}
use Rattle.representation.proofs.FromState.RereadLanes.{flag_is, whole_of-low-high}

module _ (e : Engine) (t : Table) (m : List ℕ) (w : WellFormed (sized e t m)) (holds : Image (sizes m) m (value (sized e t m)))
    (long : total (sizes m) ≤ length m) where
  abbrev z : Sizes
  z = sizes m

  abbrev s : State
  s = sized e t m

  pub contents-fit : ContentsFit m
  unfolding contents
  contents-fit = record {
    in_range = w.sizes;
    agree =
        take-map-from m contents_length (omega arith)
        ∙ map-from-get_or (at m) 0 (contents z) contents_length refl
        (λ i b. holds (top i) (omega arith) ∙ get_or-append (contents z) (e.current ∷ e.largest ∷ yard_mask s ∷ []) 0 i b);
    long = long;
  }

  -- ---- ranges

  -- word k of the ends of the free and the global queues
  end-range : (k : ℕ) → k < ends_length → SlotOrNone z.slots (get_or (end_words s) k 0) → SlotOrNone z.slots (at m (free_at + k))
  end-range k b h = subst (SlotOrNone z.slots) (sym (holds (end k) b)) h

  pub heads : (k : ℕ) → k < chain_count → SlotOrNone z.slots (at m (heads_at + k))
  heads k b = subst (SlotOrNone z.slots) (sym (holds (head k) b)) (head-range s w k)

  pub free_ends : EndsInRange z.slots (at m) free_at
  free_ends = record { first = end-range 0 (omega arith) (free-ends s w).first; last = end-range last_offset (omega arith) (free-ends s w).last }

  pub global_ends : QueuesInRange z.slots (at m) global_queues_at
  global_ends =
      let q = global-ends s w in
      record {
        next = record { first = end-range queue_width (omega arith) q.next.first; last = end-range (queue_width + last_offset) (omega arith) q.next.last };
        current = record {
          first = end-range (queue_width + current_offset) (omega arith) q.current.first;
          last = end-range (queue_width + current_offset + last_offset) (omega arith) q.current.last;
        };
        done = record {
          first = end-range (queue_width + done_offset) (omega arith) q.done.first;
          last = end-range (queue_width + done_offset + last_offset) (omega arith) q.done.last;
        };
      }

  module _ (i : ℕ) (b : i < lane_count z) where
    abbrev l : Lane
    l = lane_at e i

    pub word : (k : ℕ) → k < lane_length → lane_word m i k ≡ get_or (lane_words l) k 0
    word k h = holds (lane i k) (b, h)

    end-word : (k : ℕ) → k < lane_length → SlotOrNone z.slots (get_or (lane_words l) k 0) → SlotOrNone z.slots (lane_word m i k)
    end-word k h r = subst (SlotOrNone z.slots) (sym (word k h)) r

    pub lane_ends : QueuesInRange z.slots (lane_word m i) queues_at
    unfolding lane_words
    lane_ends =
        let q = lane-ends s w i in
        record {
          next = record { first = end-word queues_at (omega arith) q.next.first; last = end-word (queues_at + last_offset) (omega arith) q.next.last };
          current = record {
            first = end-word (queues_at + current_offset) (omega arith) q.current.first;
            last = end-word (queues_at + current_offset + last_offset) (omega arith) q.current.last;
          };
          done = record {
            first = end-word (queues_at + done_offset) (omega arith) q.done.first;
            last = end-word (queues_at + done_offset + last_offset) (omega arith) q.done.last;
          };
        }

    pub lookup-code : wide m (lane_address z i + lookup_at) ≡ lookup_code l.lookup
    unfolding lane_words
    lookup-code =
        ap₂ whole_of (word lookup_at (omega arith)) (ap (at m) (omega arith) ∙ word (lookup_at + 1) (omega arith)) ∙ whole_of-low-high (lookup_code l.lookup)

    pub code_fits : lookup_code l.lookup ≤ max_code
    unfolding lookup_code
    code_fits = go l.reading l.lookup (w.fits i).lookup
      where
        go : (r : Bool) (k : Lookup) → LookupFits z.slots r k → lookup_code k ≤ max_code
        go r idle f = omega arith
        go r (running c p) f = f.1

    pub flag_word : (k : ℕ) → flag k (lane_word m i flags_at) ≡ get_or (l.online ∷ l.reading ∷ is_running l.lookup ∷ is_held l.snapshot ∷ []) k false
    flag_word k = ap (λ (a : ℕ). flag k (at m a)) (omega arith) ∙ flag_is e t m w holds i b k

    snapshot-word : (k : ℕ) → k < counts_width → get_or (lane_words l) (snapshot_at + k) 0 ≡ get_or (count_words (snapshot_count l.snapshot)) k 0
    unfolding lane_words
    snapshot-word k h =
        get_or-right (flags l ∷ count_words (quiescent_count l)) (drop snapshot_at (lane_words l)) (snapshot_at + k) k refl
        ∙ get_or-append (count_words (snapshot_count l.snapshot)) (drop generation_at (lane_words l)) 0 k h

    pub snapshot-rest : is_held l.snapshot ≡ false → (k : ℕ) → k < counts_width → lane_word m i (snapshot_at + k) ≡ 0
    unfolding is_held snapshot_count
    snapshot-rest h k b = word (snapshot_at + k) (omega arith) ∙ snapshot-word k b ∙ go l.snapshot h
      where
        go : (x : Snapshot) → is_held x ≡ false → get_or (count_words (snapshot_count x)) k 0 ≡ 0
        go (held c) h = clash refl h
        go unheld h = get_or-replicate-default 0 counts_width k

    pub lookup-rest : is_running l.lookup ≡ false → LookupRest m i
    unfolding is_running lane_words lookup_code lookup_position
    lookup-rest h = go l.lookup refl h
      where
        go : (k : Lookup) → l.lookup ≡ k → is_running k ≡ false → LookupRest m i
        go (running c p) q h = clash refl h
        go idle q h = record {
          low = word lookup_at (omega arith) ∙ ap (λ (k : Lookup). low_word (lookup_code k)) q;
          high = word (lookup_at + 1) (omega arith) ∙ ap (λ (k : Lookup). high_word (lookup_code k)) q;
          position = word position_at (omega arith) ∙ ap lookup_position q;
        }

  pub bare : (i : ℕ) → (lane_at e i).online ≡ false → Bare (lane_at e i)
  bare i h =
      let o = (w.fits i).off h in
      record {
        reading = o.reading;
        pending = o.pending;
        next = ap (λ (q : Queues). q.next) o.queues;
        current = ap (λ (q : Queues). q.current) o.queues;
        done = ap (λ (q : Queues). q.done) o.queues;
      }

  pub in-section : (r : Bool) (k : Lookup) → LookupFits z.slots r k → is_running k ≡ true → r ≡ true
  unfolding is_running
  in-section r idle f h = clash h refl
  in-section r (running c p) f h = f.0

  pub with-bit : (b : Bool) (k : Snapshot) → SnapshotFits b k → is_held k ≡ true → b ≡ true
  unfolding is_held
  with-bit b unheld f h = clash h refl
  with-bit b (held c) f h = f.0
