-- What compare reads of the state: `moved_on` is the model's `quiesced`.
use Prim.Native.Nat.{ℕ, ◌+◌, ◌<◌}
use mathlib.Core.Bool.{Bool, not, ◌&&◌}
use mathlib.Core.Path.{◌≡◌, refl, ap, ap₂, ◌∙◌}
use mathlib.Core.List.{List, [], ◌∷◌}
use native.Mathlib.Omega.{arith}
use lib.ListN.{length}
use Rattle.model.specs.Lists.{same}
use Rattle.model.specs.State.{lane_count, is_running, Snapshot, unheld, held, is_held, Lane, State}
use Rattle.model.specs.Layout.{kinds, lane_address, snapshot_bit}
use Rattle.model.specs.Engine.{lane_at, differs, quiesced}
use Rattle.model.specs.Memory.{at, flag, flags, snapshot_count, lane_words}
use Rattle.laws.specs.Masks.{flag-mask}
use Rattle.representation.proofs.Addresses.Fields.{lane}
use Rattle.representation.proofs.WellFormed.{SnapshotFits, LaneFits}
use Rattle.changes.proofs.Shows.{Shows}
use Rattle.changes.proofs.OfLanes.LaneRecords.{record-shown}
use Rattle.lanes.proofs.RecordLaws.{four, four-back, record_of-is}
use Rattle.lanes.specs.Record.{record_at, same_counts, moved_on}

-- the counts differ from the snapshot's where they differ from the snapshot
differs-counts : (pending : Bool) (x : Snapshot) (q : List ℕ) → length q ≡ kinds → SnapshotFits pending x
    → (is_held x && not (same_counts q (four (snapshot_count x)))) ≡ differs x q
unfolding is_held differs snapshot_count same
differs-counts pending unheld q h f = refl
differs-counts pending (held c) q h f = ap₂ (λ (x y : List ℕ). not (same x y)) (four-back q h) (four-back c f.1.four)

-- ---- what the words of a lane show

module _ (s : State) (m : List ℕ) (shows : Shows m s) (i : ℕ) (h : i < lane_count s.sizes) where
  abbrev l : Lane
  l = lane_at s.engine i

  abbrev a : ℕ
  a = lane_address s.sizes i

  -- the flag of a held snapshot
  pub held-shown : flag snapshot_bit (at m a) ≡ is_held l.snapshot
  unfolding lane_words flags
  held-shown =
      let e : a ≡ a + 0 = omega arith in
      ap (λ (x : ℕ). flag snapshot_bit (at m x)) e
      ∙ ap (flag snapshot_bit) (shows.image (lane i 0) (h, omega arith))
      ∙ flag-mask (l.online ∷ l.reading ∷ is_running l.lookup ∷ is_held l.snapshot ∷ []) snapshot_bit

  -- the lane went through a quiescent state since its snapshot
  pub moved-quiesced : LaneFits s.sizes.slots l → moved_on (record_at m a) ≡ quiesced l
  unfolding lane_words flags
  moved-quiesced w =
      ap moved_on (record-shown s m shows i h ∙ record_of-is l)
      ∙ ap (λ (b : Bool). b && not (same_counts l.quiescent (four (snapshot_count l.snapshot))))
      (flag-mask (l.online ∷ l.reading ∷ is_running l.lookup ∷ is_held l.snapshot ∷ []) snapshot_bit)
      ∙ differs-counts l.pending l.snapshot l.quiescent w.counts.four w.snapshot
