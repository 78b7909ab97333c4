-- The lanes still awaited, by the masks: their count is the ones of the lane masks, and the lowest is found by the lowest bit of the yard mask, of that yard's
-- cabinet mask and of that cabinet's lane mask.
use Prim.Native.Nat.{ℕ, suc, ◌+◌, ◌*◌}
use mathlib.Core.Path.{◌≡◌, refl, sym, ap, ◌∙◌}
use mathlib.Core.Bool.{Bool, true, false, cond}
use mathlib.Core.List.{List, [], ◌∷◌, map}
use native.Mathlib.Omega.{arith}
use lib.ListN.{length}
use lib.Count.{ones}
use Rattle.model.specs.Word.{none}
use Rattle.model.specs.Lists.{bit, first, any, from}
use Rattle.model.specs.State.{cabinet_count, lane_count, Lane, State}
use Rattle.model.specs.Engine.{is_pending, runs}
use Rattle.model.specs.Rules.{pending_from}
use Rattle.model.specs.Memory.{lane_bit, lane_mask}
use Rattle.laws.specs.Tests.{◌&◌}
use Rattle.laws.specs.Sums.{sum}
use Rattle.laws.specs.Masks.{some}
use Rattle.laws.specs.MaskFlags.{trues, first_true}
use Rattle.laws.specs.MaskTree.{span, trues-leaves, Narrow, lowest, lowest-first}
use Rattle.representation.proofs.Sentences.Facts.{SizesFit}
use Rattle.representation.proofs.FromState.Periods.{widths, span-cabinets, leaves-lanes, some_lanes, raised-runs}

-- ---- the list of pending lanes, by their flags

length-pending_from : (a : ℕ) (ls : List Lane) → length (pending_from a ls) ≡ trues (map is_pending ls)
unfolding pending_from bit
length-pending_from a [] = refl
length-pending_from a (l ∷ ls) = go l.pending (length-pending_from (suc a) ls)
  where
    go : (b : Bool) → length (pending_from (suc a) ls) ≡ trues (map is_pending ls)
        → length (cond b (a ∷ pending_from (suc a) ls) (pending_from (suc a) ls)) ≡ bit b + trues (map is_pending ls)
    go true h = omega arith
    go false h = omega arith

first-pending_from : (a : ℕ) (ls : List Lane) → first (pending_from a ls) ≡ cond (some (map is_pending ls)) (a + first_true (map is_pending ls)) none
unfolding any first first_true pending_from
first-pending_from a [] = refl
first-pending_from a (l ∷ ls) = go l.pending (first-pending_from (suc a) ls)
  where
    go : (b : Bool) → first (pending_from (suc a) ls) ≡ cond (some (map is_pending ls)) (suc a + first_true (map is_pending ls)) none
        → first (cond b (a ∷ pending_from (suc a) ls) (pending_from (suc a) ls)) ≡ cond (some (b ∷ map is_pending ls)) (a + first_true (b ∷ map is_pending ls)) none
    go true h = omega arith
    go false h = h ∙ ap (λ (x : ℕ). cond (some (map is_pending ls)) x none) (omega arith)

-- ---- by the masks

sum_alike : (f g : ℕ → ℕ) (xs : List ℕ) → ((x : ℕ) → f x ≡ g x) → sum f xs ≡ sum g xs
sum_alike f g [] h = refl
sum_alike f g (x ∷ xs) h = omega (arith, h x, sum_alike f g xs h)

module _ (s : State) (l : length s.engine.lanes ≡ lane_count s.sizes) where
  abbrev lanes : List Lane
  lanes = s.engine.lanes

  -- the count of lanes still awaited
  pub awaited-count : length (pending_from 0 lanes) ≡ sum (λ (c : ℕ). ones (lane_mask s c)) (from 0 (cabinet_count s.sizes))
  awaited-count =
      let ws = s.sizes.cabinets ∷ s.sizes.yards ∷ [] in
      length-pending_from 0 lanes
      ∙ ap trues (sym (leaves-lanes s l))
      ∙ trues-leaves s.sizes.places ws (lane_bit s) 0
      ∙ sum_alike _ (λ (c : ℕ). ones (lane_mask s c)) (from 0 (span ws))
      (λ c. ap (λ (k : ℕ). ones (lane_mask s k)) (let e : 0 * span ws + c ≡ c = omega arith in e))
      ∙ ap (λ (n : ℕ). sum (λ (c : ℕ). ones (lane_mask s c)) (from 0 n)) (span-cabinets s.sizes)

  -- the first of them, by whether a period runs
  awaited-first : (b : Bool) → runs s.engine ≡ b → first (pending_from 0 lanes) ≡ cond b (0 + first_true (map is_pending lanes)) none
  awaited-first b h = first-pending_from 0 lanes ∙ ap (λ (d : Bool). cond d (0 + first_true (map is_pending lanes)) none) (some_lanes s l ∙ h)

  -- none where no period runs
  pub awaited-none : runs s.engine ≡ false → first (pending_from 0 lanes) ≡ none
  awaited-none h = awaited-first false h

  -- and else the lowest
  pub awaited-lowest : SizesFit s.sizes → runs s.engine ≡ true → first (pending_from 0 lanes) ≡ lowest (widths s.sizes) (lane_bit s) 0
  awaited-lowest fit h =
      awaited-first true h
      ∙ sym
      (lowest-first (widths s.sizes) narrow (lane_bit s) 0 (raised-runs s l ∙ h)
      ∙ ap (λ (bs : List Bool). 0 * span (widths s.sizes) + first_true bs) (leaves-lanes s l)
      ∙ omega arith)
    where
      narrow : Narrow (widths s.sizes)
      narrow = omega (arith, fit.few_places) & omega (arith, fit.few_cabinets) & omega (arith, fit.few_yards) & tt
