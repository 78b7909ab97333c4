-- The global words, the masks and the lanes: the check's three tests are the engine's part of legality. Both say the same record of facts, the check
-- group by group and legality sentence by sentence.
use Prim.Native.Nat.{ℕ, ◌+◌, ◌*◌, ◌/◌, ◌%◌, ◌^◌, ◌<◌}
use mathlib.Core.Bool.{Bool, true, ◌&&◌}
use mathlib.Core.Path.{◌≡◌, refl, ap, sym, ◌∙◌}
use mathlib.Core.List.{List}
use native.Mathlib.Omega.{arith}
use native.Mathlib.Nat.{mul_assoc}
use lib.Dec.{ltb}
use Rattle.model.specs.State.{Sizes, cabinet_count}
use Rattle.model.specs.Lists.{all, from}
use Rattle.model.specs.Layout.{yards_at, cabinets_at, places_at, slots_at, current_offset, current_generation_at, largest_generation_at, yard_mask_at, global_queues_at}
use Rattle.model.specs.Layout.{global_generation_at, masks_at, lane_length, lane_address, lanes_body, yards_body}
use Rattle.model.specs.Memory.{at, flag, sizes, mask_word, yard_word, state, read_lane, read_queues}
use Rattle.model.specs.Legal.{lane_numbers, flags_in_range, masks_in_range, generation_at_rest, generations_at_rest, off_lanes, lookups_in_sections, snapshots_pending}
use Rattle.model.specs.Legal.{bit_fits, bits_fit, largest_fits, global_generation_fits, period_runs, largest_agrees, lane_generations, global_generation}
use Rattle.laws.specs.Tests.{◌&◌, Every, and_assoc, iff-eq, every_true, every-intro, and-true, and_intro, all-below, all-below-intro, all-map-below}
use Rattle.laws.specs.Tests.{all-map-intro, every-all}
use Rattle.engine_legality.specs.LaneSentences.{lane_rests, empty_first, generations_in, lane_fits, cabinet_lanes, all_lanes, mask_fits, group_fits, all_cabinets}
use Rattle.engine_legality.specs.LaneSentences.{all_masks, global_fits, global_words_fit}
use Rattle.engine_legality.specs.WordSentences.{engine_legal}
use Rattle.engine_legality.proofs.LaneLoops.{member-number, groups-each, each-groups}
use Rattle.engine_legality.proofs.LaneTests.{lane_sentences, empty-queue, lane_test, lane-said, said-lane}

-- ---- the lanes cabinet by cabinet, and the cabinets yard by yard

module _ (m : List ℕ) where
  abbrev Y : ℕ
  Y = at m yards_at

  abbrev C : ℕ
  C = at m cabinets_at

  abbrev P : ℕ
  P = at m places_at

  abbrev S : ℕ
  S = at m slots_at

  -- the lane at place p of cabinet c
  abbrev place_test : ℕ → ℕ → Bool
  place_test c p =
      lane_fits (generations_in m) (λ (k : ℕ). at m (lanes_body (sizes m) + lane_length * P * c + lane_length * p + k)) S (flag p (mask_word m c))

  place-test : (i : ℕ) → place_test (i / P) (i % P) ≡ lane_test m i
  place-test i =
      let a : lanes_body (sizes m) + lane_length * P * (i / P) + lane_length * (i % P) ≡ lane_address (sizes m) i =
      omega (arith, mul_assoc lane_length P (i / P), member-number P i) in
      ap (λ (x : ℕ). lane_fits (generations_in m) (λ (k : ℕ). at m (x + k)) S (flag (i % P) (mask_word m (i / P)))) a

  lanes-each : all_lanes (generations_in m) m S (Y * C) P (lanes_body (sizes m)) ≡ true → (i : ℕ) → i < Y * C * P → lane_test m i ≡ true
  unfolding all_lanes cabinet_lanes
  lanes-each h i b = sym (place-test i) ∙ groups-each place_test (Y * C) P h i b

  each-lanes : ((i : ℕ) → i < Y * C * P → lane_test m i ≡ true) → all_lanes (generations_in m) m S (Y * C) P (lanes_body (sizes m)) ≡ true
  unfolding all_lanes cabinet_lanes
  each-lanes h = each-groups place_test (Y * C) P (λ i b. place-test i ∙ h i b)

  -- the tests of yard y and of cabinet c of yard y; the bit and the test of cabinet c of all
  abbrev yard_test : ℕ → Bool
  yard_test y = mask_fits C (yard_word m y) (flag y (at m yard_mask_at))

  abbrev member_test : ℕ → ℕ → Bool
  member_test y c = mask_fits P (at m (masks_at + C * y + c)) (flag c (yard_word m y))

  abbrev cabinet_set : ℕ → Bool
  cabinet_set c = flag (c % C) (yard_word m (c / C))

  abbrev cabinet_test : ℕ → Bool
  cabinet_test c = mask_fits P (mask_word m c) (cabinet_set c)

  member-test : (c : ℕ) → member_test (c / C) (c % C) ≡ cabinet_test c
  member-test c =
      let a : masks_at + C * (c / C) + c % C ≡ masks_at + c = omega (arith, member-number C c) in
      ap (λ (x : ℕ). mask_fits P (at m x) (cabinet_set c)) a

  yards-each : group_fits m (at m yard_mask_at) (yards_body (sizes m)) Y C ≡ true → (y : ℕ) → y < Y → yard_test y ≡ true
  unfolding group_fits
  yards-each h y b = all-below yard_test Y y h b

  each-yards : ((y : ℕ) → y < Y → yard_test y ≡ true) → group_fits m (at m yard_mask_at) (yards_body (sizes m)) Y C ≡ true
  unfolding group_fits
  each-yards h = all-below-intro yard_test Y h

  cabinets-each : all_cabinets m Y C P (yards_body (sizes m)) ≡ true → (c : ℕ) → c < Y * C → cabinet_test c ≡ true
  unfolding all_cabinets group_fits
  cabinets-each h c b = sym (member-test c) ∙ groups-each member_test Y C h c b

  each-cabinets : ((c : ℕ) → c < Y * C → cabinet_test c ≡ true) → all_cabinets m Y C P (yards_body (sizes m)) ≡ true
  unfolding all_cabinets group_fits
  each-cabinets h = each-groups member_test Y C (λ c b. member-test c ∙ h c b)

-- a mask's two tests
mask-split : (W mask : ℕ) (bit : Bool) → mask_fits W mask bit ≡ true → (ltb mask (2 ^ W) ≡ true) × (bit_fits bit mask ≡ true)
unfolding mask_fits
mask-split W mask bit h = and-true _ _ h

-- ---- what the engine's sentences say

pub record EngineSaid (m : List ℕ) : Type 0 where
  pub lanes : (i : ℕ) → i < Y m * C m * P m → Every (lane_sentences m i)
  pub mask : ltb (at m yard_mask_at) (2 ^ Y m) ≡ true
  pub yards : (y : ℕ) → y < Y m → yard_test m y ≡ true
  pub cabinets : (c : ℕ) → c < Y m * C m → cabinet_test m c ≡ true
  pub rest : generation_at_rest (read_queues m global_generation_at global_queues_at) ≡ true
  pub largest : largest_fits (at m current_generation_at) (at m largest_generation_at) (period_runs m) ≡ true
  pub generation : global_generation_fits (at m current_generation_at) (at m largest_generation_at) (read_queues m global_generation_at global_queues_at) ≡ true

module _ (m : List ℕ) where
  -- a yard's bit against its cabinet mask, and a cabinet's against its lane mask
  abbrev yard_fits : ℕ → Bool
  yard_fits y = bit_fits (flag y (at m yard_mask_at)) (yard_word m y)

  abbrev cabinet_fits : ℕ → Bool
  cabinet_fits c = bit_fits (cabinet_set m c) (mask_word m c)

  -- in the model's sentences
  engine-said : engine_legal m ≡ true → EngineSaid m
  unfolding
      engine_legal
      flags_in_range
      masks_in_range
      generations_at_rest
      off_lanes
      lookups_in_sections
      snapshots_pending
      bits_fit
      largest_agrees
      lane_generations
      global_generation
      state
      mask_fits
  engine-said h =
      let (flagged, (masked, (linked, (coded, (words, (rested, rest₆)))))) = every_true _ h in
      let (off, (sections, (held, (bits, (largest, (aged, (global, _))))))) = rest₆ in
      let masks = and-true _ _ masked in
      let masks₁ = and-true _ _ masks.0 in
      let set = and-true (all yard_fits (from 0 (Y m))) (all cabinet_fits (from 0 (Y m * C m))) bits in
      let rests = and-true _ _ rested in
      record {
        lanes = λ i b.
            all-below _ _ i flagged b
            & all-below _ _ i linked b
            & all-below _ _ i coded b
            & all-below _ _ i (sym (every-all (lane_numbers m) (lane_rests m)) ∙ words) b
            & all-map-below _ (read_lane m) _ i off b
            & all-map-below _ (read_lane m) _ i sections b
            & all-map-below _ (read_lane m) _ i held b
            & all-map-below _ (read_lane m) _ i rests.1 b
            & all-map-below _ (read_lane m) _ i aged b
            & tt;
        mask = masks₁.0;
        yards = λ y b. and_intro _ _ (all-below _ _ y masks₁.1 b) (all-below yard_fits _ y set.0 b);
        cabinets = λ c b. and_intro _ _ (all-below _ _ c masks.1 b) (all-below cabinet_fits _ c set.1 b);
        rest = rests.0;
        largest = largest;
        generation = global;
      }

  said-engine : EngineSaid m → engine_legal m ≡ true
  unfolding
      engine_legal
      flags_in_range
      masks_in_range
      generations_at_rest
      off_lanes
      lookups_in_sections
      snapshots_pending
      bits_fit
      largest_agrees
      lane_generations
      global_generation
      state
  said-engine s =
      let l = s.lanes in
      let yards = all-below-intro _ _ (λ y b. (mask-split _ _ _ (s.yards y b)).0) in
      every-intro _ (
      all-below-intro _ _ (λ i b. (l i b).0)
      & and_intro _ _ (and_intro _ _ s.mask yards) (all-below-intro _ _ (λ c b. (mask-split _ _ _ (s.cabinets c b)).0))
      & all-below-intro _ _ (λ i b. (l i b).1.0)
      & all-below-intro _ _ (λ i b. (l i b).1.1.0)
      & (every-all (lane_numbers m) (lane_rests m) ∙ all-below-intro _ _ (λ i b. (l i b).1.1.1.0))
      & and_intro _ _ s.rest (all-map-intro _ (read_lane m) _ (λ i b. (l i b).1.1.1.1.1.1.1.0))
      & all-map-intro _ (read_lane m) _ (λ i b. (l i b).1.1.1.1.0)
      & all-map-intro _ (read_lane m) _ (λ i b. (l i b).1.1.1.1.1.0)
      & all-map-intro _ (read_lane m) _ (λ i b. (l i b).1.1.1.1.1.1.0)
      & and_intro _ _ (all-below-intro _ _ (λ y b. (mask-split _ _ _ (s.yards y b)).1)) (all-below-intro _ _ (λ c b. (mask-split _ _ _ (s.cabinets c b)).1))
      & s.largest
      & all-map-intro _ (read_lane m) _ (λ i b. (l i b).1.1.1.1.1.1.1.1.0)
      & s.generation
      & tt
      )

  -- in the check's tests
  abbrev global : Bool → Bool
  global empty = global_fits (generations_in m) (at m global_generation_at) empty

  global-eq : global (empty_first (S m) (at m (global_queues_at + current_offset)))
      ≡ (generation_at_rest (read_queues m global_generation_at global_queues_at)
      && global_generation_fits (at m current_generation_at) (at m largest_generation_at) (read_queues m global_generation_at global_queues_at))
  global-eq = ap global (sym (empty-queue m (global_queues_at + current_offset) _ refl))

  -- the tests of the lanes, of the masks and lanes, and of all
  abbrev lanes_test : Bool
  lanes_test = all_lanes (generations_in m) m (S m) (Y m * C m) (P m) (lanes_body (sizes m))

  abbrev masks_test : Bool
  masks_test = all_masks m (Y m) (C m) (P m) (yards_body (sizes m)) && lanes_test

  abbrev tests : Bool
  tests = global_words_fit m (Y m) (S m) && masks_test

  said-tests : EngineSaid m → tests ≡ true
  unfolding global_words_fit all_masks
  said-tests s =
      let words = and_intro _ _ (and_intro _ _ s.mask s.largest) (global-eq ∙ and_intro _ _ s.rest s.generation) in
      let masks = and_intro _ _ (each-yards m s.yards) (each-cabinets m s.cabinets) in
      and_intro _ _ words (and_intro _ _ masks (each-lanes m (λ i b. said-lane m i (s.lanes i b))))

  tests-said : tests ≡ true → EngineSaid m
  unfolding global_words_fit all_masks
  tests-said h =
      let t = and-true _ _ h in
      let u = and-true _ _ t.1 in
      let k = and-true _ _ u.0 in
      let g = and-true _ _ t.0 in
      let g₁ = and-true _ _ g.0 in
      let q = and-true _ _ (sym global-eq ∙ g.1) in
      record {
        lanes = λ i b. lane-said m i (lanes-each m u.1 i b);
        mask = g₁.0;
        yards = yards-each m k.0;
        cabinets = cabinets-each m k.1;
        rest = q.0;
        largest = g₁.1;
        generation = q.1;
      }

  pub engine-eq : tests ≡ engine_legal m
  engine-eq = iff-eq tests (engine_legal m) (λ h. said-engine (tests-said h)) (λ h. said-tests (engine-said h))

  -- by the sizes that were read
  abbrev pub tests_by : Sizes → Bool
  tests_by z =
      global_words_fit m z.yards z.slots
      && all_masks m z.yards z.cabinets z.places (yards_body z)
      && all_lanes (generations_in m) m z.slots (cabinet_count z) z.places (lanes_body z)

  pub engine_by : (z : Sizes) → z ≡ sizes m → engine_legal m ≡ tests_by z
  engine_by z e =
      let masks = all_masks m (Y m) (C m) (P m) (yards_body (sizes m)) in
      sym (ap tests_by e ∙ and_assoc (global_words_fit m (Y m) (S m)) masks lanes_test ∙ engine-eq)
