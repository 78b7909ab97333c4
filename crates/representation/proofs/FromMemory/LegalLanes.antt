-- The lanes of a legal memory are as a well-formed state has them.
use Prim.Native.Nat.{ℕ, zero, suc, ◌+◌, ◌*◌, ◌≤◌, ◌<◌}
use mathlib.Core.Path.{◌≡◌, refl, sym, ap, ◌∙◌}
use mathlib.Core.Bool.{Bool, true, false}
use mathlib.Core.List.{List}
use native.Mathlib.Omega.{arith}
use native.Mathlib.Decide.{dec_lt}
use lib.ListN.{get_or, get_or-eq_default}
use Rattle.model.specs.Lists.{is_empty}
use Rattle.model.specs.State.{Sizes, lane_count, is_running, is_held, Lane, Engine, State}
use Rattle.model.specs.Layout.{lookup_bit, snapshot_bit, quiescent_at, snapshot_at, lookup_at, position_at, count_width, count_limit, counts_width, lane_length, lane_address, total}
use Rattle.model.specs.Engine.{fresh_lane, lane_at}
use Rattle.model.specs.Memory.{at, wide, flag, sizes, read_lane, read_lookup, read_snapshot, read_counts, state}
use Rattle.representation.proofs.WellFormed.{LaneFits, Counts, LookupFits, SnapshotFits, Off}
use Rattle.representation.proofs.Sentences.Ranges.{code_fits}
use Rattle.representation.proofs.Sentences.Facts.{WordsTo, Facts, Legal}
use Rattle.representation.proofs.FromMemory.Reading.{state-lanes, state-lane}
use Rattle.representation.proofs.CallsWellFormed.Fresh.{fresh-fits}

module _ (m : List ℕ) (l : Legal m) (word : WordsTo (total (sizes m)) m) where
  abbrev s : State
  s = state m

  abbrev e : Engine
  e = s.engine

  abbrev z : Sizes
  z = sizes m

  abbrev f : Facts m s
  f = l.facts

  -- ---- lanes

  over-lanes : (P : Lane → Type 0) → P fresh_lane → ((i : ℕ) → i < lane_count z → lane_at e i ≡ read_lane m i → P (read_lane m i)) → (i : ℕ) → P (lane_at e i)
  over-lanes P d h i =
      elim (dec_lt i (lane_count z)) [
        | yes b ↦ rw (state-lane m i b) (h i b (state-lane m i b))
        | no b ↦ rw (get_or-eq_default e.lanes fresh_lane {n = i} (omega (arith, state-lanes m))) d
      ]

  -- counts that stand at k in lane i's record
  counts-fit : (i : ℕ) → i < lane_count z → (k : ℕ) → k + counts_width ≤ lane_length → Counts (read_counts m (lane_address z i + k))
  counts-fit i b k h = record { four = refl; words = words }
    where
      a : ℕ
      a = lane_address z i + k

      two : (j : ℕ) → j + count_width ≤ counts_width → wide m (a + j) < count_limit
      two j c = omega (arith, word (a + j) (omega arith), word (a + j + 1) (omega arith))

      words : (j : ℕ) → get_or (read_counts m (lane_address z i + k)) j 0 < count_limit
      words zero = omega (arith, word a (omega arith), word (a + 1) (omega arith))
      words (suc zero) = two count_width (omega arith)
      words (suc (suc zero)) = two (count_width * 2) (omega arith)
      words (suc (suc (suc zero))) = two (count_width * 3) (omega arith)
      words (suc (suc (suc (suc j)))) = omega arith

  lookup-fits : (i : ℕ) → LookupFits z.slots (lane_at e i).reading (lane_at e i).lookup
  unfolding read_lane is_running
  lookup-fits = over-lanes (λ (l : Lane). LookupFits z.slots l.reading l.lookup) tt (λ i b q.
      go i b (flag lookup_bit (at m (lane_address z i))) (read_lane m i).reading
      (λ h. sym (ap (λ (l : Lane). l.reading) q) ∙ f.sections i (ap (λ (l : Lane). is_running l.lookup) q ∙ h)))
    where
      go : (i : ℕ) → i < lane_count z → (c r : Bool) → (is_running (read_lookup m (lane_address z i + lookup_at) c) ≡ true → r ≡ true)
          → LookupFits z.slots r (read_lookup m (lane_address z i + lookup_at) c)
      go i b false r h = tt
      go i b true r h = (
        h refl,
        code_fits (wide m (lane_address z i + lookup_at)) (f.lookup_codes i b),
        let a : lane_address z i + lookup_at + 2 ≡ lane_address z i + position_at = omega arith in rw a (f.positions i b),
      )

  snapshot-fits : (i : ℕ) → SnapshotFits (lane_at e i).pending (lane_at e i).snapshot
  unfolding read_lane is_held
  snapshot-fits = over-lanes (λ (l : Lane). SnapshotFits l.pending l.snapshot) tt (λ i b q.
      go i b (flag snapshot_bit (at m (lane_address z i))) (read_lane m i).pending
      (λ h. sym (ap (λ (l : Lane). l.pending) q) ∙ f.snapshots i (ap (λ (l : Lane). is_held l.snapshot) q ∙ h)))
    where
      go : (i : ℕ) → i < lane_count z → (c p : Bool) → (is_held (read_snapshot m (lane_address z i + snapshot_at) c) ≡ true → p ≡ true)
          → SnapshotFits p (read_snapshot m (lane_address z i + snapshot_at) c)
      go i b false p h = tt
      go i b true p h = (h refl, counts-fit i b snapshot_at (omega arith))

  off_of : (i : ℕ) → (lane_at e i).online ≡ false → Off (lane_at e i)
  unfolding is_empty
  off_of i h =
      let b = f.off i h in
      record {
        reading = b.reading;
        pending = b.pending;
        queues = λ j. record { next = b.next j; current = b.current j; done = b.done j; generation = f.lanes_rest i (ap is_empty b.current) j };
      }

  pub lane-fits : (i : ℕ) → LaneFits z.slots (lane_at e i)
  unfolding read_lane
  lane-fits i = record {
    counts = over-lanes (λ (l : Lane). Counts l.quiescent) (fresh-fits z.slots).counts (λ i b q. counts-fit i b quiescent_at (omega arith)) i;
    lookup = lookup-fits i;
    snapshot = snapshot-fits i;
    off = off_of i;
    extra = f.extra i;
  }
