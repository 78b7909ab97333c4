-- States that differ in few words: masks stay where pending bits stay.
use Prim.Native.Nat.{ℕ, ◌+◌, ◌*◌}
use mathlib.Core.Bool.{Bool}
use mathlib.Core.Path.{◌≡◌, ap}
use Rattle.model.specs.Lists.{mask as mask_of}
use Rattle.model.specs.State.{Engine, Table, State}
use Rattle.model.specs.Engine.{lane_at}
use Rattle.model.specs.Rules.{with}
use Rattle.model.specs.Memory.{is_not_zero, group_mask, lane_mask, cabinet_mask, yard_mask}
use Rattle.laws.specs.ListLaws.{map-from-alike}
use Rattle.representation.proofs.Addresses.Fields.{top, value}

-- masks of like flags
pub group_mask-alike : (w : ℕ) (f h : ℕ → Bool) → ((j : ℕ) → f j ≡ h j) → (g : ℕ) → group_mask w f g ≡ group_mask w h g
group_mask-alike w f h k g = ap mask_of (map-from-alike _ _ 0 w (λ p a b. k (g * w + p)))

-- ---- pending bits as they were

module _ (s : State) (e : Engine) (t : Table) (k : (j : ℕ) → (lane_at e j).pending ≡ (lane_at s.engine j).pending) where
  pub lane_mask-kept : (c : ℕ) → lane_mask (with s e t) c ≡ lane_mask s c
  lane_mask-kept = group_mask-alike s.sizes.places _ _ k

  pub cabinet_mask-kept : (y : ℕ) → cabinet_mask (with s e t) y ≡ cabinet_mask s y
  cabinet_mask-kept = group_mask-alike s.sizes.cabinets _ _ (λ c. ap is_not_zero (lane_mask-kept c))

  pub yard_mask-kept : yard_mask (with s e t) ≡ yard_mask s
  yard_mask-kept = group_mask-alike s.sizes.yards _ _ (λ y. ap is_not_zero (cabinet_mask-kept y)) 0

  -- then the words before the chain heads change by the two generations alone
  pub top_kept : (j : ℕ) → e.current ≡ s.engine.current → e.largest ≡ s.engine.largest → value (with s e t) (top j) ≡ value s (top j)
  top_kept j c l = rw (c, l, yard_mask-kept)
