-- Pass: the count that is stored in the lane's cabinet is that of the lane's own record.
use Prim.Native.Nat.{ℕ}
use mathlib.Core.Path.{◌≡◌, ap, ◌∙◌}
use mathlib.Core.List.{List}
use Rattle.model.specs.Rules.{pass, zeros, refusal, result}
use Rattle.model.specs.Memory.{state}
use Rattle.model.specs.Calls.{on_state}
use Rattle.words.specs.Lent.{sizes_of}
use Rattle.lanes.specs.declared.Place.{Place}
use Rattle.lanes.specs.declared.LaneRecord.{LaneRecord}
use Rattle.lanes.specs.Record.{counted_record}
use Rattle.lanes.specs.RecordChanges.{changed_at}
use Rattle.lanes.specs.Cabinet.{LaneLent}
use Rattle.changes.proofs.OfLanes.LaneCalls.{pass-stored}
use Rattle.access.specs.declared.Answer.{Answer}
use Rattle.access.specs.declared.Lane.{Lane}
use Rattle.access.specs.Contract.{five, Does}
use Rattle.access.specs.Lanes.{LaneIn, Placed}
use Rattle.access.proofs.Ways.{performs, passed, shown, well_formed}
use Rattle.access.proofs.LaneLaws.{place-lent, place-address}

module _ (m : List ℕ) (l : Lane) (k : LaneIn m l) (p : Place) (ep : Placed l p) where
  pub pass-place : LaneLent m (sizes_of l.sizes) p
  pass-place = place-lent m l p k ep.place

  pub pass-done : (n : ℕ) → 0 ≡ refusal (state m) (pass l.number n) → (r : Answer) (w : List ℕ) → five r ≡ zeros
      → w ≡ changed_at m p.address (λ (x : LaneRecord). counted_record x n) → Does (on_state (pass l.number n)) m r w
  unfolding result state
  pass-done n e r w er ew =
      let v = k.named.sound in
      performs m (pass l.number n) v e r w er
      (ew
      ∙ ap (λ (a : ℕ). changed_at m a (λ (x : LaneRecord). counted_record x n)) (place-address m l p k.named ep.place ∙ k.named.address)
      ∙ pass-stored (state m) m (shown m v) (well_formed m v) l.number n (passed m (pass l.number n) e))
