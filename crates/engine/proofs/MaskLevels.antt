-- The masks of a table as a tree of levels: a memory that shows a state shows the tree of its lanes' bits, and a memory that shows another tree in place of it,
-- and is the same elsewhere, is that of the state with those bits.
use Prim.Native.Nat.{ℕ, zero, suc, ◌+◌, ◌*◌, ◌<◌, ◌≤◌}
use mathlib.Core.Bool.{Bool, cond}
use mathlib.Core.Path.{◌≡◌, refl, ap, sym, ◌∙◌}
use mathlib.Core.List.{List, ◌∷◌}
use native.Mathlib.Omega.{arith}
use native.Mathlib.Nat.{one-mul}
use lib.ListN.{length}
use Rattle.model.specs.Lists.{concat_map}
use Rattle.model.specs.State.{Sizes, cabinet_count, lane_count, Lane, State}
use Rattle.model.specs.Layout.{yard_mask_at, heads_at, free_at, lane_address, slot_address, total}
use Rattle.model.specs.Engine.{lane_at}
use Rattle.model.specs.Memory.{at, contents, group_mask, lane_bit, yard_bit, yard_mask, lane_words, lane_queues}
use Rattle.model.specs.Calls.{stored}
use Rattle.laws.specs.Tests.{same, other, decide}
use Rattle.laws.specs.Elements.{Each}
use Rattle.representation.proofs.Addresses.Fields.{top, head, end, mask, lane, slot, yard, value}
use Rattle.representation.proofs.Addresses.Writes.{Image, by-fields}
use Rattle.mask_tree.specs.Tree.{Level, Masked, Apart, Inside, Stacked}
use Rattle.mask_tree.proofs.TreeLaws.{Off}
use Rattle.changes.proofs.Shows.{Shows}
use Rattle.changes.proofs.OfLanes.EngineWords.{with_pending, masked_value, value-with_pending}
use Rattle.lanes.proofs.CabinetLaws.{row_within}
use Rattle.engine.specs.Levels.{lane_level, upper_levels}

-- place p of cabinet c is a lane
pub within-lanes : (z : Sizes) (c p : ℕ) → c < cabinet_count z → p < z.places → c * z.places + p < lane_count z
within-lanes z c p h k = omega (arith, row_within c (cabinet_count z) z.places h)

module _ (z : Sizes) where
  abbrev pub all_levels : List Level
  all_levels = lane_level z ∷ upper_levels z

  -- a word that is no mask
  abbrev pub NoMask : ℕ → Type 0
  NoMask a = Each (Off a) all_levels

  pub stacked : Stacked (lane_level z) (upper_levels z)
  stacked = (refl, (one-mul z.yards, tt))

  pub apart : Apart all_levels
  apart = (
    ((λ g h a b e. omega arith), ((λ g h a b e. omega arith), tt)),
    (((λ g h a b e. omega arith), tt), (tt, tt)),
  )

  pub inside : (m : List ℕ) → total z ≤ length m → Inside m all_levels
  inside m long = (omega arith, (omega arith, (omega arith, tt)))

module _ (s : State) (m : List ℕ) (shows : Shows m s) where
  pub shows-masked : Masked m (all_levels s.sizes) (lane_bit s)
  unfolding contents
  shows-masked = ((λ c b. shows.image (mask c) b), ((λ y b. shows.image (yard y) b), (the-yards, tt)))
    where
      the-yards : (g : ℕ) → g < 1 → at m (yard_mask_at + g) ≡ group_mask s.sizes.yards (yard_bit s) g
      the-yards zero b = ap (at m) (omega arith) ∙ shows.image (top yard_mask_at) (omega arith)
      the-yards (suc g) b = absurd (omega arith)

  -- lanes that differ in their bits alone
  module _ (ls : List Lane) (words : (j : ℕ) → lane_words (lane_at (with_pending s ls).engine j) ≡ lane_words (lane_at s.engine j))
      (queues : concat_map lane_queues ls ≡ concat_map lane_queues s.engine.lanes) where
    abbrev t : State
    t = with_pending s ls

    abbrev z : Sizes
    z = s.sizes

    pub masked-stored : (n : List ℕ) → length n ≡ length m → Masked n (all_levels z) (lane_bit t) → ((a : ℕ) → NoMask z a → at n a ≡ at m a) → n ≡ stored t m
    masked-stored n l k kept =
        by-fields t m n shows.long l (λ f b. image f b ∙ sym (value-with_pending s ls words queues f))
        (λ a h. kept a ((λ g b e. omega arith), ((λ g b e. omega arith), ((λ g b e. omega arith), tt))))
      where
        image : Image z n (masked_value s ls)
        image (top j) b =
            elim (decide j yard_mask_at) [
              | same e q u ↦
                  ap (at n) (let r : j ≡ yard_mask_at + 0 = omega arith in r) ∙ k.1.1.0 0 (omega arith)
                  ∙ sym (ap (λ (d : Bool). cond d (yard_mask t) (value s (top j))) q)
              | other e q u ↦
                  kept j ((λ g c r. omega arith), ((λ g c r. omega arith), ((λ g c r. e (omega arith)), tt)))
                  ∙ shows.image (top j) b
                  ∙ sym (ap (λ (d : Bool). cond d (yard_mask t) (value s (top j))) q)
            ]
        image (head j) b =
            kept (heads_at + j) ((λ g c e. omega arith), ((λ g c e. omega arith), ((λ g c e. omega arith), tt))) ∙ shows.image (head j) b
        image (end j) b =
            kept (free_at + j) ((λ g c e. omega arith), ((λ g c e. omega arith), ((λ g c e. omega arith), tt))) ∙ shows.image (end j) b
        image (mask c) b = k.0 c b
        image (yard y) b = k.1.0 y b
        image (lane i j) b =
            kept (lane_address z i + j) ((λ g c e. omega arith), ((λ g c e. omega arith), ((λ g c e. omega arith), tt))) ∙ shows.image (lane i j) b
        image (slot i j) b =
            kept (slot_address z i + j) ((λ g c e. omega arith), ((λ g c e. omega arith), ((λ g c e. omega arith), tt))) ∙ shows.image (slot i j) b
