-- One lane: the tests of the check are the sentences of legality, for the lane that a memory reads. Each test is its sentence, since both look at the
-- same words; together they are all of them in a row.
use Prim.Native.Nat.{ℕ, ◌+◌, ◌/◌, ◌%◌, ◌^◌}
use mathlib.Core.Bool.{Bool, true, false, not, cond, ◌&&◌, ◌||◌}
use mathlib.Core.Path.{◌≡◌, refl, ap, ap₂, sym, ◌∙◌}
use mathlib.Core.List.{List, [], ◌∷◌, map}
use native.Mathlib.Omega.{arith}
use lib.Dec.{leb, ltb, eqb}
use Rattle.model.specs.Word.{up, down, later}
use Rattle.model.specs.Lists.{all, every, from, is_empty}
use Rattle.model.specs.State.{is_running, is_held}
use Rattle.model.specs.Layout.{places_at, slots_at, current_offset, current_generation_at, largest_generation_at}
use Rattle.model.specs.Layout.{online_bit, reading_bit, lookup_bit, snapshot_bit, flag_count, flags_at, generation_at, queues_at, lookup_at, position_at, lane_address}
use Rattle.model.specs.Rules.{wrong_code}
use Rattle.model.specs.Memory.{at, wide, whole_of, flag, sizes, mask_word, lane_word, walk, read_queue, read_lookup, read_snapshot, read_lane}
use Rattle.model.specs.Legal.{implies, slot_or_none, lane_links_in_range, generation_at_rest, none_queued, lane_generation_fits, period_runs}
use Rattle.laws.specs.Tests.{Every, and_assoc, and-true-right, every_true, every-intro}
use Rattle.laws.specs.ListLaws.{length-map-from}
use Rattle.engine_legality.specs.LaneSentences.{queues_fit, lane_in_range, lookup_in_range, lane_at_rest, lane_rests, empty_first, none_queued_at, generations_in, lane_fits}

-- ---- an empty queue

empty-cond : (b : Bool) (x : ℕ) (xs : List ℕ) → is_empty (cond b [] (x ∷ xs)) ≡ b
unfolding is_empty
empty-cond true x xs = refl
empty-cond false x xs = refl

-- a queue is empty when its first is no slot's number
pub empty-queue : (m : List ℕ) (a c : ℕ) → a ≡ c → is_empty (read_queue m a) ≡ empty_first (at m slots_at) (at m c)
unfolding walk
empty-queue m a c e =
    empty-cond _ (at m a) _ ∙ ap₂ (λ (n x : ℕ). leb n x) (length-map-from _ 0 (at m slots_at)) (ap (at m) e)

running-flag : (m : List ℕ) (a : ℕ) (b : Bool) → is_running (read_lookup m a b) ≡ b
unfolding is_running
running-flag m a true = refl
running-flag m a false = refl

held-flag : (m : List ℕ) (a : ℕ) (b : Bool) → is_held (read_snapshot m a b) ≡ b
unfolding is_held
held-flag m a true = refl
held-flag m a false = refl

-- ---- the sentences of lane i

module _ (m : List ℕ) (i : ℕ) where
  abbrev pub flags_said : Bool
  flags_said = ltb (lane_word m i flags_at) (2 ^ flag_count)

  abbrev pub lookup_code_said : Bool
  lookup_code_said = not (wrong_code (wide m (lane_address (sizes m) i + lookup_at)))

  abbrev pub words_said : Bool
  words_said = every (map (λ (f : ℕ → Bool). f i) (lane_rests m))

  abbrev pub generation_rest_said : Bool
  generation_rest_said = generation_at_rest (read_lane m i).queues

  abbrev pub off_said : Bool
  off_said = (read_lane m i).online || (not (read_lane m i).reading && none_queued (read_lane m i).queues && not (read_lane m i).pending)

  abbrev pub section_said : Bool
  section_said = implies (is_running (read_lane m i).lookup) (read_lane m i).reading

  abbrev pub pending_said : Bool
  pending_said = implies (is_held (read_lane m i).snapshot) (read_lane m i).pending

  abbrev pub generation_said : Bool
  generation_said = lane_generation_fits (at m current_generation_at) (at m largest_generation_at) (period_runs m) (read_lane m i)

  -- in the order of the check
  abbrev pub lane_sentences : List Bool
  lane_sentences =
      flags_said ∷ lane_links_in_range m i ∷ lookup_code_said ∷ words_said
      ∷ off_said ∷ section_said ∷ pending_said ∷ generation_rest_said ∷ generation_said ∷ []

  -- ---- each as the check tests it

  abbrev w : ℕ → ℕ
  w = lane_word m i

  abbrev S : ℕ
  S = at m slots_at

  abbrev bit : Bool
  bit = flag (i % at m places_at) (mask_word m (i / at m places_at))

  -- the flags stand first
  flags-eq : w flags_at ≡ at m (lane_address (sizes m) i)
  flags-eq = ap (at m) (omega arith)

  range-eq : lane_in_range w S ≡ (flags_said && lane_links_in_range m i)
  range-eq = and_assoc flags_said (queues_fit w S queues_at) (slot_or_none m (w position_at))

  code-eq : lookup_in_range w ≡ lookup_code_said
  code-eq = ap (λ (x : ℕ). not (wrong_code (whole_of (w lookup_at) (at m x)))) (omega arith)

  words-eq : lane_at_rest w ≡ words_said
  unfolding all every from
  words-eq = simp (and_assoc, and-true-right)

  -- the generation, and whether the current queue is empty
  abbrev g : ℕ
  g = w generation_at

  abbrev no_current : Bool
  no_current = empty_first S (w (queues_at + current_offset))

  current-eq : is_empty (read_queue m (lane_address (sizes m) i + queues_at + current_offset)) ≡ no_current
  current-eq = empty-queue m _ _ (omega arith)

  rest_eq : (not no_current || eqb g 0) ≡ generation_rest_said
  unfolding read_lane
  rest_eq = ap (λ (x : Bool). not x || eqb g 0) (sym current-eq)

  queues-eq : none_queued_at w S ≡ none_queued (read_lane m i).queues
  unfolding read_lane
  queues-eq = ap₂ ◌&&◌ (ap₂ ◌&&◌ (sym (empty-queue m _ _ refl)) (sym current-eq)) (sym (empty-queue m _ _ (omega arith)))

  off-eq : (flag online_bit (w flags_at) || (not (flag reading_bit (w flags_at)) && none_queued_at w S && not bit)) ≡ off_said
  unfolding read_lane
  off-eq = ap₂ (λ (x : ℕ) (y : Bool). flag online_bit x || (not (flag reading_bit x) && y && not bit)) flags-eq queues-eq

  section-eq : implies (flag lookup_bit (w flags_at)) (flag reading_bit (w flags_at)) ≡ section_said
  unfolding read_lane
  section-eq =
      ap (λ (x : ℕ). implies (flag lookup_bit x) (flag reading_bit x)) flags-eq
      ∙ ap (λ (b : Bool). implies b (read_lane m i).reading) (sym (running-flag m _ _))

  pending-eq : implies (flag snapshot_bit (w flags_at)) bit ≡ pending_said
  unfolding read_lane
  pending-eq = ap (λ (x : ℕ). implies (flag snapshot_bit x) bit) flags-eq ∙ ap (λ (b : Bool). implies b bit) (sym (held-flag m _ _))

  abbrev aged : ℕ → Bool
  aged now =
      (eqb g (down now) || eqb g now || eqb g (up now))
      && not (later g (at m largest_generation_at))
      && implies (eqb g (down now) && period_runs m) bit

  generation-eq : (no_current || aged (at m current_generation_at)) ≡ generation_said
  unfolding read_lane
  generation-eq = ap (λ (x : Bool). x || aged (at m current_generation_at)) (sym current-eq)

-- ---- together

-- the tests, grouped as the check groups them, in a row
in_a_row : (a b c d e f g h i : Bool) → ((((a && b) && c) && d) && ((e && f) && g) && (h && i)) ≡ every (a ∷ b ∷ c ∷ d ∷ e ∷ f ∷ g ∷ h ∷ i ∷ [])
unfolding every
in_a_row a b c d e f g h i = simp (and_assoc, and-true-right)

module _ (m : List ℕ) (i : ℕ) where
  -- the check's test of lane i
  abbrev pub lane_test : Bool
  lane_test = lane_fits (generations_in m) (lane_word m i) (at m slots_at) (flag (i % at m places_at) (mask_word m (i / at m places_at)))

  lane-eq : lane_test ≡ every (lane_sentences m i)
  unfolding lane_fits every
  lane-eq =
      let agrees = ap₂ ◌&&◌ (ap₂ ◌&&◌ (off-eq m i) (section-eq m i)) (pending-eq m i) in
      ap₂ ◌&&◌ (ap₂ ◌&&◌ (ap₂ ◌&&◌ (ap₂ ◌&&◌ (range-eq m i) (code-eq m i)) (words-eq m i)) agrees) (ap₂ ◌&&◌ (rest_eq m i) (generation-eq m i))
      ∙ in_a_row (flags_said m i) (lane_links_in_range m i) (lookup_code_said m i) (words_said m i)
      (off_said m i) (section_said m i) (pending_said m i) (generation_rest_said m i) (generation_said m i)

  pub lane-said : lane_test ≡ true → Every (lane_sentences m i)
  lane-said t = every_true _ (sym lane-eq ∙ t)

  pub said-lane : Every (lane_sentences m i) → lane_test ≡ true
  said-lane s = lane-eq ∙ every-intro _ s
