-- Masks and pending bits: a lane's bit stands in its cabinet's mask, a cabinet's in its yard's, a yard's in the yard mask, which is 0 exactly when no period runs.
use Prim.Native.Nat.{ℕ, ◌+◌, ◌*◌, ◌/◌, ◌%◌, ◌<◌, ◌≤◌}
use mathlib.Core.Path.{◌≡◌, refl, sym, ap, ◌∙◌}
use mathlib.Core.Bool.{Bool, true, false, not, cond}
use mathlib.Core.List.{List, [], ◌∷◌, map}
use native.Mathlib.Omega.{arith}
use native.Mathlib.Nat.{mod-lt, div-add-mod', div-lt_iff_lt-mul, one-mul}
use lib.ListN.{length, length-map, get_or-map}
use lib.Dec.{eqb}
use Rattle.model.specs.Lists.{from, mask, bit}
use Rattle.model.specs.State.{Sizes, State, Lane, cabinet_count, lane_count}
use Rattle.model.specs.Engine.{fresh_lane, is_pending, runs}
use Rattle.model.specs.Memory.{flag, is_not_zero, group_mask, lane_bit, yard_bit, cabinet_mask, yard_mask}
use Rattle.laws.specs.Tests.{not-not}
use Rattle.laws.specs.ListLaws.{map-from-alike, map-from-get_or}
use Rattle.laws.specs.Elements.{any-map}
use Rattle.laws.specs.Masks.{is_true, some, flag-mask-from}
use Rattle.laws.specs.MaskTree.{span, raised, leaves, raised-some}

-- bit p of group g is its flag
pub flag-group : (w : ℕ) (f : ℕ → Bool) (g p : ℕ) → p < w → flag p (group_mask w f g) ≡ f (g * w + p)
flag-group w f g p h = flag-mask-from (λ (k : ℕ). f (g * w + k)) w p h

-- flag i in its group
pub flag-of : (w : ℕ) (f : ℕ → Bool) → 1 ≤ w → (i : ℕ) → flag (i % w) (group_mask w f (i / w)) ≡ f i
flag-of w f some i = flag-group w f (i / w) (i % w) (mod-lt i some) ∙ ap f (div-add-mod' i w)

-- the group of flag i, of n
pub group-below : (w n : ℕ) → 1 ≤ w → (i : ℕ) → i < n * w → i / w < n
group-below w n some i b = (div-lt_iff_lt-mul some).1 b

-- ---- the three levels

abbrev pub widths : Sizes → List ℕ
widths z = z.places ∷ z.cabinets ∷ z.yards ∷ []

pub span-cabinets : (z : Sizes) → span (z.cabinets ∷ z.yards ∷ []) ≡ cabinet_count z
unfolding span
span-cabinets z = ap (λ (y : ℕ). y * z.cabinets) (one-mul z.yards)

pub span-lanes : (z : Sizes) → span (widths z) ≡ lane_count z
unfolding span
span-lanes z = ap (λ (c : ℕ). c * z.places) (span-cabinets z)

module _ (s : State) (l : length s.engine.lanes ≡ lane_count s.sizes) where
  abbrev z : Sizes
  z = s.sizes

  abbrev lanes : List Lane
  lanes = s.engine.lanes

  -- below the yard mask stand all lanes
  pub leaves-lanes : leaves (widths z) (lane_bit s) 0 ≡ map is_pending lanes
  leaves-lanes =
      map-from-alike _ (lane_bit s) 0 (span (widths z)) (λ p a b. ap (lane_bit s) (let e : 0 * span (widths z) + p ≡ p = omega arith in e))
      ∙ ap (λ (n : ℕ). map (lane_bit s) (from 0 n)) (span-lanes z)
      ∙ map-from-get_or (lane_bit s) false (map is_pending lanes) (lane_count z) (length-map lanes is_pending ∙ l) (λ i b. sym (get_or-map is_pending lanes i fresh_lane))

  pub some_lanes : some (map is_pending lanes) ≡ runs s.engine
  some_lanes = any-map is_true is_pending lanes

  pub raised-runs : raised (widths z) (lane_bit s) 0 ≡ runs s.engine
  raised-runs = raised-some (widths z) (lane_bit s) 0 ∙ ap some leaves-lanes ∙ some_lanes

  -- a period runs while the yard mask is not 0
  pub yard_mask-runs : eqb (yard_mask s) 0 ≡ not (runs s.engine)
  unfolding raised
  yard_mask-runs = sym (not-not (eqb (yard_mask s) 0)) ∙ ap not raised-runs

-- ---- one yard

-- the yard mask is 1 or 0 as the cabinet mask is not 0 or 0
pub one-yard : (s : State) → s.sizes.yards ≡ 1 → yard_mask s ≡ cond (is_not_zero (cabinet_mask s 0)) 1 0
unfolding from mask bit
one-yard s h = ap (λ (n : ℕ). group_mask n (yard_bit s) 0) h ∙ go (yard_bit s 0)
  where
    go : (b : Bool) → group_mask 1 (λ y. cond (eqb y 0) b (yard_bit s y)) 0 ≡ cond b 1 0
    go true = refl
    go false = refl
