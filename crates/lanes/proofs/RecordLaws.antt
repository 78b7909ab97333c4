-- Laws of the lane record: it is read from its words alone, and it is the model's lane in its words, before a change and after it.
use Rattle.std.proofs.Common.{◌≡◌, ℕ, ◌+◌, Bool, false, List, [], ◌∷◌, map, length, set, sym, refl, ap, ◌∙◌, ap₂, arith}
use native.Mathlib.Numerals.{unary_clauses}
use lib.Seq.{sets}
use Rattle.model.specs.Word.{up_to}
use Rattle.model.specs.Lists.{from, update}
use Rattle.model.specs.State.{Lane, unheld, held, is_held, is_running}
use Rattle.model.specs.Layout.{kinds, count_limit, quiescent_at, snapshot_at, generation_at, queues_at, current_offset, done_offset, lookup_at, online_bit, snapshot_bit}
use Rattle.model.specs.Engine.{counted, set_pending, set_online}
use Rattle.model.specs.Memory.{at, whole_of, low, high, flags, count_words, read_counts, lane_words, quiescent_count, snapshot_count}
use Rattle.laws.specs.ListLaws.{length-update, map-from-get_or}
use Rattle.masks.proofs.BitLaws.{with_bit-mask, without_bit-mask}
use Rattle.lanes.proofs.Offsets.{plus-after}
use Rattle.lanes.specs.Record.{queue_at, queue_words, lookup_words_at, lookup_words, record_at, record_with, record_words, record_length}
use Rattle.lanes.specs.Record.{record_stored, record_of, with_snapshot, counted_record, sampled_record, dropped_record, offline_record}
use Rattle.lanes.specs.declared.LaneRecord.{LaneRecord}

-- ---- the words of a record

-- the n words of m from a on
abbrev pub words_at : List ℕ → ℕ → ℕ → List ℕ
words_at m a n = map (at m) (from a n)

-- a record is read from its words alone
pub record_at-words : (m : List ℕ) (a : ℕ) → record_at m a ≡ record_at (words_at m a record_length) 0
unfolding record_at from
record_at-words m a = simp (unary_clauses, plus-after snapshot_at, plus-after generation_at, plus-after queues_at, plus-after lookup_at)

-- and written part by part
pub record_stored-parts : (m : List ℕ) (a : ℕ) (r : LaneRecord) (x y n c d l : List ℕ) → x ≡ sets (set m a r.flags) (a + quiescent_at)
    (count_words (at r.quiescent))
    → y ≡ sets x (a + snapshot_at) (count_words (at r.snapshot))
    → n ≡ sets (set y (a + generation_at) r.generation) (a + queues_at) (queue_words r.next)
    → c ≡ sets n (a + queues_at + current_offset) (queue_words r.current)
    → d ≡ sets c (a + queues_at + done_offset) (queue_words r.done)
    → l ≡ sets d (a + lookup_at) (lookup_words r.lookup)
    → l ≡ record_stored m a r
unfolding record_words
record_stored-parts m a r x y n c d l hx hy hn hc hd hl = rw (hl, hd, hc, hn, hy, hx) (simp (unary_clauses, plus-after snapshot_at, plus-after generation_at, plus-after queues_at, plus-after lookup_at))

-- ---- the record of a lane

-- where the words of a lane stand, its record is read
pub record_at-lane : (m : List ℕ) (a : ℕ) (l : Lane) → words_at m a record_length ≡ words_at (lane_words l) 0 record_length → record_at m a ≡ record_of l
record_at-lane m a l e = record_at-words m a ∙ ap (λ (ws : List ℕ). record_at ws 0) e ∙ sym (record_at-words (lane_words l) 0)

-- four counts, one by one
abbrev pub four : (ℕ → ℕ) → List ℕ
four c = c 0 ∷ c 1 ∷ c 2 ∷ c 3 ∷ []

pub four-back : (c : List ℕ) → length c ≡ kinds → four (at c) ≡ c
unfolding from
four-back c h = map-from-get_or (at c) 0 c kinds h (λ i b. refl)

-- their words, read
whole_back : (c : ℕ) → whole_of (low c) (high c) ≡ c
whole_back c = omega arith

wholes-back : (c : ℕ → ℕ) → read_counts (count_words c) 0 ≡ four c
wholes-back c = λ j. whole_back (c 0) j ∷ whole_back (c 1) j ∷ whole_back (c 2) j ∷ whole_back (c 3) j ∷ []

-- the record of lane l with these counts and snapshot counts
abbrev pub of_lane : Lane → List ℕ → List ℕ → LaneRecord
of_lane l q s = record_with (lane_words l) 0 q s (queue_at (lane_words l) queues_at) (queue_at (lane_words l) (queues_at + current_offset))
    (queue_at (lane_words l) (queues_at + done_offset)) (lookup_words_at (lane_words l) lookup_at)

pub record_of-is : (l : Lane) → record_of l ≡ of_lane l (four (quiescent_count l)) (four (snapshot_count l.snapshot))
unfolding record_at lane_words
record_of-is l = ap₂ (of_lane l) (wholes-back (quiescent_count l)) (wholes-back (snapshot_count l.snapshot))

-- its words are the lane's
pub record_words-record_of : (l : Lane) → record_words (record_of l) ≡ words_at (lane_words l) 0 record_length
unfolding record_words lane_words from
record_words-record_of l = ap record_words (record_of-is l)

-- the flags of a lane, bit 0 first
abbrev lane_flags : Lane → List Bool
lane_flags l = l.online ∷ l.reading ∷ is_running l.lookup ∷ is_held l.snapshot ∷ []

module _ (l : Lane) where
  pub record_of-counted : (k : ℕ) → length l.quiescent ≡ kinds → record_of (counted k l) ≡ counted_record (record_of l) k
  unfolding counted_record lane_words counted flags
  record_of-counted k h =
      record_of-is (counted k l)
      ∙ ap (λ (q : List ℕ). of_lane l q (four (snapshot_count l.snapshot)))
      (four-back (update l.quiescent k (up_to count_limit)) (length-update l.quiescent k (up_to count_limit) ∙ h)
      ∙ ap (λ (q : List ℕ). update q k (up_to count_limit)) (sym (four-back l.quiescent h)))
      ∙ sym (ap (λ (r : LaneRecord). counted_record r k) (record_of-is l))

  -- with these flags and snapshot counts
  abbrev marked : (w : ℕ) (c : List ℕ) → LaneRecord
  marked w c = with_snapshot w c (of_lane l (four (quiescent_count l)) [])

  pub record_of-sampled : (b : Bool) → record_of (set_pending b (held l.quiescent) l) ≡ sampled_record (record_of l)
  unfolding sampled_record lane_words snapshot_count is_held flags
  record_of-sampled b =
      record_of-is (set_pending b (held l.quiescent) l)
      ∙ ap (λ (w : ℕ). marked w (four (quiescent_count l)))
      (sym (with_bit-mask (lane_flags l) (omega arith) snapshot_bit (omega arith)))
      ∙ sym (ap sampled_record (record_of-is l))

  pub record_of-dropped : (b : Bool) → record_of (set_pending b unheld l) ≡ dropped_record (record_of l)
  unfolding dropped_record lane_words snapshot_count is_held flags
  record_of-dropped b =
      record_of-is (set_pending b unheld l)
      ∙ ap (λ (w : ℕ). marked w (0 ∷ 0 ∷ 0 ∷ 0 ∷ [])) (sym (without_bit-mask (lane_flags l) (omega arith) snapshot_bit (omega arith)))
      ∙ sym (ap dropped_record (record_of-is l))

  pub record_of-offline : record_of (set_online false l) ≡ offline_record (record_of l)
  unfolding offline_record lane_words is_held flags
  record_of-offline =
      record_of-is (set_online false l)
      ∙ ap (λ (w : ℕ). marked w (four (snapshot_count l.snapshot))) (sym (without_bit-mask (lane_flags l) (omega arith) online_bit (omega arith)))
      ∙ sym (ap offline_record (record_of-is l))
