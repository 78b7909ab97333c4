-- The words of a fresh table are those of the fresh state, and so is the memory once they are written, body after body.
use Prim.Native.Nat.{ℕ, zero, suc, ◌+◌, ◌*◌, ◌-◌, ◌≤◌, ◌<◌}
use mathlib.Core.Path.{◌≡◌, refl, ap, ap₂, sym, ◌∙◌}
use mathlib.Core.Bool.{Bool, false}
use mathlib.Core.List.{List, [], ◌∷◌, ◌++◌}
use native.Mathlib.Omega.{arith}
use lib.ListN.{length, drop, replicate, length-append, length-replicate}
use borrow.Author.Tests.{lt-ltb, le-ltb}
use Rattle.model.specs.Word.{none}
use Rattle.model.specs.Lists.{first, last, from, successor, successor_in}
use Rattle.model.specs.State.{Sizes, cabinet_count, lane_count, Lane}
use Rattle.model.specs.Layout.{chain_count, total, contents_length, global_body, global_length, masks_at, lane_length, lanes_body, slot_length, slots_body, yards_body}
use Rattle.model.specs.Engine.{fresh_lane, lane_at}
use Rattle.model.specs.Table.{blank, link_of}
use Rattle.model.specs.Rules.{fresh}
use Rattle.model.specs.Memory.{words, contents, queue_words, global_words, is_not_zero, group_mask, standing, lane_bit, cabinet_bit, yard_bit}
use Rattle.model.specs.Memory.{lane_mask, lane_masks, cabinet_mask, cabinet_masks, yard_mask, lane_words, lane_words_at, all_queues, slot_words}
use Rattle.model.specs.Calls.{stored}
use Rattle.laws.specs.Tests.{same, other, decide}
use Rattle.laws.specs.ListLaws.{length_from, get_or-replicate-default, map-constant, last-from}
use Rattle.laws.specs.Masks.{mask-from-none}
use Rattle.representation.proofs.Addresses.Writes.{length-words}
use Rattle.set_up.specs.Written.{Written, rows}
use Rattle.set_up.specs.FreshWords.{fresh_generation, empty_queues, all_free, fresh_global, fresh_lane_words, link_after, fresh_slot_words}
use Rattle.set_up.proofs.WrittenLaws.{after, renamed, written-front, rows_alike, length-rows}

first-from : (a n : ℕ) → first (from (suc a) n) ≡ link_after (a + suc n) a
unfolding first from
first-from a zero = rw (le-ltb (a + 1) (a + 1) (omega arith))
first-from a (suc n) = rw (lt-ltb (a + 1) (a + suc (suc n)) (omega arith)) (omega arith)

-- in a run of numbers, what follows i is i + 1 below the last, and none at the last
successor-from : (a n i d : ℕ) → a ≤ i → i < a + n → successor (from a n) i d ≡ link_after (a + n) i
unfolding successor from
successor-from a zero i d h k = absurd (omega arith)
successor-from a (suc n) i d h k =
    elim (decide a i) [
      | same e t u ↦ rw t (first-from a n ∙ ap (link_after (a + suc n)) e)
      | other e t u ↦
          let q : suc a + n ≡ a + suc n = omega arith in
          rw t (successor-from (suc a) n i d (omega arith) (omega arith) ∙ ap (λ (x : ℕ). link_after x i) q)
    ]

-- where no flag stands, none of the level above does
no-group : (w : ℕ) (f : ℕ → Bool) → ((i : ℕ) → f i ≡ false) → (g : ℕ) → group_mask w f g ≡ 0
no-group w f h g = mask-from-none (λ (p : ℕ). f (g * w + p)) w (λ p b. h (g * w + p))

none-standing : (w : ℕ) (f : ℕ → Bool) → ((i : ℕ) → f i ≡ false) → (g : ℕ) → standing w f g ≡ false
none-standing w f h g = ap is_not_zero (no-group w f h g)

module _ (z : Sizes) where
  lane-is : (i : ℕ) → lane_at (fresh z).engine i ≡ fresh_lane
  unfolding fresh
  lane-is = get_or-replicate-default fresh_lane (lane_count z)

  no-lane : (i : ℕ) → lane_bit (fresh z) i ≡ false
  no-lane i = ap (λ (l : Lane). l.pending) (lane-is i)

  no-cabinet : (c : ℕ) → cabinet_bit (fresh z) c ≡ false
  no-cabinet = none-standing (fresh z).sizes.places (lane_bit (fresh z)) no-lane

  no-yard : (y : ℕ) → yard_bit (fresh z) y ≡ false
  no-yard = none-standing (fresh z).sizes.cabinets (cabinet_bit (fresh z)) no-cabinet

  masks-are : replicate (cabinet_count z) 0 ≡ lane_masks (fresh z)
  unfolding fresh
  masks-are = map-constant (lane_mask (fresh z)) 0 (cabinet_count z) 0 (no-group z.places (lane_bit (fresh z)) no-lane)

  yards-are : replicate z.yards 0 ≡ cabinet_masks (fresh z)
  unfolding fresh
  yards-are = map-constant (cabinet_mask (fresh z)) 0 z.yards 0 (no-group z.cabinets (cabinet_bit (fresh z)) no-cabinet)

  no-mask : yard_mask (fresh z) ≡ 0
  no-mask = no-group (fresh z).sizes.yards (yard_bit (fresh z)) no-yard 0

  lanes-are : rows fresh_lane_words (lane_count z) ≡ rows (lane_words_at (fresh z)) (lane_count z)
  unfolding fresh_lane_words
  lanes-are = rows_alike fresh_lane_words (lane_words_at (fresh z)) (lane_count z) (λ i b. sym (ap lane_words (lane-is i)))

  unlinked : (i : ℕ) → link_of (fresh z).table i ≡ none
  unfolding fresh successor_in successor
  unlinked i = get_or-replicate-default none z.slots i

  queued-link : (i : ℕ) → i < z.slots → successor_in (all_queues (fresh z)) i none ≡ link_after z.slots i
  unfolding fresh successor_in
  queued-link i b =
      let e : 0 + z.slots ≡ z.slots = omega arith in
      successor-from 0 z.slots i _ (omega arith) (omega arith) ∙ ap (λ (n : ℕ). link_after n i) e

  slot_is : (i : ℕ) → i < z.slots → fresh_slot_words z.slots i ≡ slot_words (fresh z) i
  unfolding fresh_slot_words slot_words fresh
  slot_is i b = rw (get_or-replicate-default blank z.slots i, unlinked i, queued-link i b)

  slots-are : rows (fresh_slot_words z.slots) z.slots ≡ rows (slot_words (fresh z)) z.slots
  slots-are = rows_alike (fresh_slot_words z.slots) (slot_words (fresh z)) z.slots slot_is

  free-words : (n : ℕ) → 1 ≤ n → all_free n ≡ queue_words (from 0 n)
  unfolding all_free first from
  free-words zero h = absurd (omega arith)
  free-words (suc n) h =
      let e : suc n - 1 ≡ last (from 0 (suc n)) = omega (arith, last-from 0 n) in
      ap₂ (λ (l k : ℕ). 0 ∷ l ∷ k ∷ []) e (sym (length_from 0 (suc n)))

  global-is : 1 ≤ z.slots → fresh_global z.slots ≡ global_words (fresh z)
  unfolding empty_queues fresh_global global_words fresh from first last
  global-is h =
      ap₂
      (λ (c : ℕ) (ws : List ℕ). (fresh_generation ∷ 0 ∷ c ∷ []) ++ replicate chain_count none ++ ws ++ empty_queues ++ (0 ∷ []))
      (sym no-mask)
      (free-words z.slots h)

  -- the words of the fresh state, one body after another
  pub fresh-words : 1 ≤ z.slots
      → contents z
      ++ fresh_global z.slots
      ++ replicate (cabinet_count z) 0
      ++ rows fresh_lane_words (lane_count z)
      ++ rows (fresh_slot_words z.slots) z.slots
      ++ replicate z.yards 0
      ≡ words (fresh z)
  unfolding words fresh
  fresh-words h = ap₂ ◌++◌ (ap₂ ◌++◌ (ap₂ ◌++◌ (ap₂ ◌++◌ (ap (λ (ws : List ℕ). contents z ++ ws) (global-is h)) masks-are) lanes-are) slots-are) yards-are

  pub length-contents : length (contents z) ≡ contents_length
  unfolding contents
  length-contents = refl

pub length-global : (n : ℕ) → length (fresh_global n) ≡ global_length
unfolding empty_queues all_free fresh_global
length-global n = refl

pub length-lane : (i : ℕ) → length (fresh_lane_words i) ≡ lane_length
unfolding fresh_lane_words lane_words
length-lane i = refl

pub length-slot : (n i : ℕ) → length (fresh_slot_words n i) ≡ slot_length
unfolding fresh_slot_words
length-slot n i = refl

-- the fresh table, once its words are written
pub set-up-done : {m n : List ℕ} (z : Sizes) → Written m 0 (words (fresh z)) n → total z ≤ length m → n ≡ stored (fresh z) m
unfolding fresh
set-up-done {m} {n} z w h =
    let e : length (words (fresh z)) ≡ total z = length-words (fresh z) in
    written-front w (omega arith) ∙ ap (λ (k : ℕ). words (fresh z) ++ drop k m) e

-- the bodies, written one after another: the number of lane masks as it was counted, and where the cabinet masks begin
pub all-written : {m n₁ n₂ n₃ n₄ n₅ n₆ : List ℕ} (z : Sizes) (masks first_yard : ℕ) → masks ≡ cabinet_count z → first_yard ≡ yards_body z
    → 1 ≤ z.slots → total z ≤ length m
    → Written m 0 (contents z) n₁
    → Written n₁ global_body (fresh_global z.slots) n₂
    → Written n₂ masks_at (replicate masks 0) n₃
    → Written n₃ (lanes_body z) (rows fresh_lane_words (lane_count z)) n₄
    → Written n₄ (slots_body z) (rows (fresh_slot_words z.slots) z.slots) n₅
    → Written n₅ first_yard (replicate z.yards 0) n₆
    → n₆ ≡ stored (fresh z) m
all-written z masks first_yard e ey some long w₁ w₂ w₃ w₄ w₅ w₆ =
    set-up-done z (renamed (after (after (after (after (after w₁ w₂ l₁) w₃ l₂) w₄ l₃) w₅ l₄) w₆ l₅) (rw e (fresh-words z some))) long
  where
    l₁ : global_body ≡ 0 + length (contents z)
    l₁ = omega (arith, length-contents z)

    l₂ : masks_at ≡ 0 + length (contents z ++ fresh_global z.slots)
    l₂ = omega (arith, length-contents z, length-global z.slots, length-append (contents z) (fresh_global z.slots))

    l₃ : lanes_body z ≡ 0 + length (contents z ++ fresh_global z.slots ++ replicate masks 0)
    l₃ = omega (arith, e, l₂, length-append (contents z ++ fresh_global z.slots) (replicate masks 0), length-replicate {A = ℕ} masks 0)

    lanes : List ℕ
    lanes = rows fresh_lane_words (lane_count z)

    l₄ : slots_body z ≡ 0 + length (contents z ++ fresh_global z.slots ++ replicate masks 0 ++ lanes)
    l₄ =
        let front = length-append (contents z ++ fresh_global z.slots ++ replicate masks 0) lanes in
        omega (arith, l₃, front, length-rows fresh_lane_words lane_length (lane_count z) length-lane)

    slots : List ℕ
    slots = rows (fresh_slot_words z.slots) z.slots

    l₅ : first_yard ≡ 0 + length (contents z ++ fresh_global z.slots ++ replicate masks 0 ++ lanes ++ slots)
    l₅ =
        let front = length-append (contents z ++ fresh_global z.slots ++ replicate masks 0 ++ lanes) slots in
        omega (arith, ey, l₄, front, length-rows (fresh_slot_words z.slots) slot_length z.slots (length-slot z.slots))
