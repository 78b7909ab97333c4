-- Legality's sentences about the global words, the masks and the lanes. Those of the chains and of the queues that are no lane's, with their heads and
-- ends, are decided by the walks (crate `legality`).
use Rattle.std.specs.Prelude.{ℕ, ◌+◌, Bool, not, List, [], ◌∷◌, map}
use Rattle.model.specs.Lists.{all, every}
use Rattle.model.specs.Layout.{lookup_at, lane_address}
use Rattle.model.specs.Rules.{wrong_code}
use Rattle.model.specs.Memory.{wide, sizes, state}
use Rattle.model.specs.Legal.{lane_numbers, lane_links_in_range, flags_in_range, masks_in_range, generations_at_rest, off_lanes, lookups_in_sections}
use Rattle.model.specs.Legal.{snapshots_pending, bits_fit, largest_agrees, lane_generations, global_generation}
use Rattle.engine_legality.specs.LaneSentences.{lane_rests}

module _ (m : List ℕ) where
  abbrev pub lookup_codes_in_range : Bool
  lookup_codes_in_range = all (λ (i : ℕ). not (wrong_code (wide m (lane_address (sizes m) i + lookup_at)))) (lane_numbers m)

  -- the sentences about the global words, the masks and the lanes; those of words at rest are all lanes' tests (`lane_rests`)
  unfoldable pub engine_legal : Bool
  engine_legal =
      every
      (flags_in_range m ∷ masks_in_range m ∷ all (lane_links_in_range m) (lane_numbers m) ∷ lookup_codes_in_range
      ∷ every (map (λ (f : ℕ → Bool). all f (lane_numbers m)) (lane_rests m)) ∷ generations_at_rest (state m)
      ∷ off_lanes (state m) ∷ lookups_in_sections (state m) ∷ snapshots_pending (state m) ∷ bits_fit m
      ∷ largest_agrees m (state m) ∷ lane_generations m (state m) ∷ global_generation (state m) ∷ [])
