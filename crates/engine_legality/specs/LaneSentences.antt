-- One lane's part of legality's sentences, for a lane whose word k is w k in a memory of S slots, pending or not; then masks by groups, and the global
-- words. An empty queue is one whose first is no slot's number.
use Rattle.std.specs.Prelude.{ℕ, ◌+◌, ◌*◌, ◌^◌, Bool, not, ◌&&◌, ◌||◌, List, [], ◌∷◌, leb, ltb, eqb}
use Rattle.model.specs.Word.{none, up, down, later}
use Rattle.model.specs.Lists.{all, every, from}
use Rattle.model.specs.Layout.{current_generation_at, largest_generation_at, yard_mask_at, global_queues_at, global_generation_at, masks_at, online_bit, reading_bit}
use Rattle.model.specs.Layout.{lookup_bit, snapshot_bit, flag_count}
use Rattle.model.specs.Layout.{counts_width, flags_at, snapshot_at, generation_at, queues_at, current_offset, done_offset, last_offset, lookup_at, position_at, lane_length}
use Rattle.model.specs.Rules.{wrong_code}
use Rattle.model.specs.Memory.{at, whole_of, lane_word, mask_word, flag}
use Rattle.model.specs.Legal.{implies, bit_fits, largest_fits, period_runs}
use Rattle.words.specs.Links.{slot_or_none}
use Rattle.engine_legality.specs.declared.generations.Generations.{Generations}

module _ (w : ℕ → ℕ) (S a : ℕ) where
  -- first and last of the queue whose ends stand at a are in range
  abbrev pub ends_fit : Bool
  ends_fit = slot_or_none S (w a) && slot_or_none S (w (a + last_offset))

-- those of the next, current and done queues, whose ends stand from a on
abbrev pub queues_fit : (ℕ → ℕ) → ℕ → ℕ → Bool
queues_fit w S a = ends_fit w S a && ends_fit w S (a + current_offset) && ends_fit w S (a + done_offset)

-- the queue whose first is x is empty
abbrev pub empty_first : ℕ → ℕ → Bool
empty_first S x = leb S x

-- ---- a lane

module _ (w : ℕ → ℕ) (S : ℕ) where
  -- flags and links are in range
  abbrev pub lane_in_range : Bool
  lane_in_range = ltb (w flags_at) (2 ^ flag_count) && queues_fit w S queues_at && slot_or_none S (w position_at)

  -- the lane's queues are empty
  abbrev pub none_queued_at : Bool
  none_queued_at =
      empty_first S (w queues_at) && empty_first S (w (queues_at + current_offset)) && empty_first S (w (queues_at + done_offset))

module _ (w : ℕ → ℕ) where
  -- the lookup code is in range
  abbrev pub lookup_in_range : Bool
  lookup_in_range = not (wrong_code (whole_of (w lookup_at) (w (lookup_at + 1))))

  -- the words of the snapshot's counts, and the lookup's, hold their rest value
  abbrev pub snapshot_blank : Bool
  snapshot_blank = all (λ (k : ℕ). eqb (w k) 0) (from snapshot_at counts_width)

  abbrev pub lookup_blank : Bool
  lookup_blank = eqb (w lookup_at) 0 && eqb (w (lookup_at + 1)) 0 && eqb (w position_at) none

  -- those that are not used do
  abbrev pub lane_at_rest : Bool
  lane_at_rest = (flag snapshot_bit (w flags_at) || snapshot_blank) && (flag lookup_bit (w flags_at) || lookup_blank)

-- the same of lane i, a test a sentence
abbrev pub lane_rests : List ℕ → List (ℕ → Bool)
lane_rests m =
    (λ (i : ℕ). flag snapshot_bit (lane_word m i flags_at) || all (λ (k : ℕ). eqb (lane_word m i k) 0) (from snapshot_at counts_width))
    ∷ (λ (i : ℕ). flag lookup_bit (lane_word m i flags_at)
    || every (eqb (lane_word m i lookup_at) 0 ∷ eqb (lane_word m i (lookup_at + 1)) 0 ∷ eqb (lane_word m i position_at) none ∷ []))
    ∷ []

module _ (w : ℕ → ℕ) (S : ℕ) (pending : Bool) where
  -- an off lane has no section, no queues and no bit; a lookup runs in a section; a snapshot is held with the bit
  abbrev pub lane_agrees : Bool
  lane_agrees =
      (flag online_bit (w flags_at) || (not (flag reading_bit (w flags_at)) && none_queued_at w S && not pending))
      && implies (flag lookup_bit (w flags_at)) (flag reading_bit (w flags_at))
      && implies (flag snapshot_bit (w flags_at)) pending

-- ---- generations

-- the current one, the largest requested, and whether a period runs
abbrev pub generations_in : List ℕ → Generations
generations_in m = record { current = at m current_generation_at; largest = at m largest_generation_at; runs = period_runs m }

module _ (h : Generations) where
  -- generation g of a lane's current queue, empty or not
  abbrev pub generation_fits : ℕ → Bool → Bool → Bool
  generation_fits g empty pending =
      (not empty || eqb g 0)
      && (empty
      || ((eqb g (down h.current) || eqb g h.current || eqb g (up h.current)) && not (later g h.largest) && implies (eqb g (down h.current) && h.runs) pending))

  -- the same of the global queues
  abbrev pub global_fits : ℕ → Bool → Bool
  global_fits g empty =
      (not empty || eqb g 0) && (empty || ((eqb g h.current || eqb g (up h.current)) && not (later g h.largest)))

  -- ---- lanes

  module _ (w : ℕ → ℕ) (S : ℕ) (pending : Bool) where
    unfoldable pub lane_fits : Bool
    lane_fits =
        lane_in_range w S
        && lookup_in_range w
        && lane_at_rest w
        && lane_agrees w S pending
        && generation_fits (w generation_at) (empty_first S (w (queues_at + current_offset))) pending

  -- the lanes of a cabinet: P of them, the first at b, with this lane mask
  unfoldable pub cabinet_lanes : List ℕ → ℕ → ℕ → ℕ → ℕ → Bool
  cabinet_lanes m S P b mask = all (λ (p : ℕ). lane_fits (λ (k : ℕ). at m (b + lane_length * p + k)) S (flag p mask)) (from 0 P)

  -- the lanes of N cabinets, the first lane at b
  unfoldable pub all_lanes : List ℕ → ℕ → ℕ → ℕ → ℕ → Bool
  all_lanes m S N P b = all (λ (c : ℕ). cabinet_lanes m S P (b + lane_length * P * c) (mask_word m c)) (from 0 N)

-- ---- masks

-- a mask of W bits is in range, and its bit of the mask above is set exactly when it is not 0
unfoldable pub mask_fits : ℕ → ℕ → Bool → Bool
mask_fits W mask bit = ltb mask (2 ^ W) && bit_fits bit mask

-- a group of N masks of W bits each, the first at a: their bits are those of the mask above
unfoldable pub group_fits : List ℕ → ℕ → ℕ → ℕ → ℕ → Bool
group_fits m bits a N W = all (λ (p : ℕ). mask_fits W (at m (a + p)) (flag p bits)) (from 0 N)

module _ (m : List ℕ) (Y C P b : ℕ) where
  -- the cabinets of Y yards, a group a yard, whose masks begin at b
  unfoldable pub all_cabinets : Bool
  all_cabinets = all (λ (y : ℕ). group_fits m (at m (b + y)) (masks_at + C * y) C P) (from 0 Y)

  -- the yards, one group, and the cabinets
  unfoldable pub all_masks : Bool
  all_masks = group_fits m (at m yard_mask_at) b Y C && all_cabinets

-- ---- global words

-- the global words, for Y yards
unfoldable pub global_words_fit : List ℕ → ℕ → ℕ → Bool
global_words_fit m Y S =
    ltb (at m yard_mask_at) (2 ^ Y)
    && largest_fits (at m current_generation_at) (at m largest_generation_at) (period_runs m)
    && global_fits (generations_in m) (at m global_generation_at) (empty_first S (at m (global_queues_at + current_offset)))
