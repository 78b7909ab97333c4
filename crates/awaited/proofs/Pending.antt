-- The pending lanes by the words of a legal memory: their count, and the lowest of them.
use Prim.Native.Nat.{ℕ, ◌+◌, ◌-◌, ◌*◌, ◌≤◌, ◌<◌}
use mathlib.Core.Path.{◌≡◌, refl, ap, ap₂, sym, subst, ◌∙◌}
use mathlib.Core.Bool.{Bool, true, false, not}
use mathlib.Core.List.{List, [], ◌∷◌, map}
use native.Mathlib.Omega.{arith}
use native.Mathlib.Nat.{le_of_lt, mul-le-mul_right}
use lib.ListN.{length, get_or, take, drop}
use lib.Arith.{digits_lt}
use lib.Count.{ones, count_trailing_zeros}
use lib.Dec.{eqb}
use borrow.Author.Tests.{eq-eqb, ne_eqb, not-true, not-false}
use Rattle.std.specs.List.{sum_by}
use Rattle.std.proofs.lemmas.List.{length-take, length-drop, get_or-take, get_or-drop}
use Rattle.std.proofs.lemmas.List.Sums.{sum_by-cons}
use Rattle.model.specs.Word.{none, word_limit}
use Rattle.model.specs.Lists.{bit, first, from}
use Rattle.model.specs.State.{Sizes as TableSizes, cabinet_count, lane_count, State}
use Rattle.model.specs.Layout.{masks_at, yard_mask_at, yards_body}
use Rattle.model.specs.Engine.{runs}
use Rattle.model.specs.Rules.{pending_from}
use Rattle.model.specs.Memory.{at, flag, contents, mask_word, yard_word, is_not_zero, group_mask, standing, sizes, state}
use Rattle.model.specs.Memory.{cabinet_bit, yard_bit, lane_mask, cabinet_mask, yard_mask}
use Rattle.laws.specs.ListLaws.{length-map-from, get_or-map-below, map-from-get_or}
use Rattle.laws.specs.Sums.{sum, sum-of-map}
use Rattle.laws.specs.Masks.{some}
use Rattle.laws.specs.Loops.{sum_below, sum_below-alike, sum_below-few}
use Rattle.laws.specs.MaskFlags.{trues, first_true, first_true-lt, get_or-first_true}
use Rattle.laws.specs.MaskTree.{group, standing-some, lowest}
use Rattle.masks.specs.Bits.{width, bits}
use Rattle.masks.proofs.BitLaws.{ones-trues, trailing-first_true, first_true-mask}
use Rattle.representation.proofs.Addresses.Fields.{top, mask, yard}
use Rattle.representation.proofs.FromMemory.Reading.{state-lanes}
use Rattle.representation.proofs.FromState.Periods.{yard_mask-runs}
use Rattle.representation.proofs.FromState.Awaited.{awaited-count, awaited-none, awaited-lowest}
use Rattle.representation.specs.Sound.{Sound}
use Rattle.words.specs.declared.sizes.Sizes.{Sizes}
use Rattle.words.specs.Lent.{sizes_of}
use Rattle.access.specs.TableSizes.{TableIn}
use Rattle.access.proofs.Ways.{shown, in_range, long}
use Rattle.awaited.specs.Lowest.{lowest_in, MaskAt}

-- ---- bits

trues-le : (bs : List Bool) → trues bs ≤ length bs
unfolding bit
trues-le [] = omega arith
trues-le (true ∷ bs) = omega (arith, trues-le bs)
trues-le (false ∷ bs) = omega (arith, trues-le bs)

first_true-le : (bs : List Bool) → first_true bs ≤ length bs
unfolding first_true
first_true-le [] = omega arith
first_true-le (true ∷ bs) = omega arith
first_true-le (false ∷ bs) = omega (arith, first_true-le bs)

length-bits : (w : ℕ) → length (bits w) ≡ width
length-bits w = length-map-from (λ (k : ℕ). flag k w) 0 width

pub lowest-few : (w p : ℕ) → p ≡ first_true (bits w) → p ≤ width
lowest-few w p e = omega (arith, e, first_true-le (bits w), length-bits w)

-- the lowest set bit of a mask that is not 0 is a flag of it, which stands
module _ (w : ℕ) (f : ℕ → Bool) (g : ℕ) (fits : w ≤ width) (h : standing w f g ≡ true) where
  abbrev flags : List Bool
  flags = group w f g

  abbrev lowest_bit : ℕ
  lowest_bit = first_true (bits (group_mask w f g))

  flags-each : length flags ≡ w
  flags-each = length-map-from (λ (p : ℕ). f (g * w + p)) 0 w

  flags-some : some flags ≡ true
  flags-some = sym (standing-some w f g) ∙ h

  lowest-flag : lowest_bit ≡ first_true flags
  lowest-flag = first_true-mask flags (omega (arith, flags-each)) flags-some

  lowest-below : lowest_bit < w
  lowest-below = omega (arith, lowest-flag, first_true-lt flags flags-some, flags-each)

  lowest-stands : f (g * w + lowest_bit) ≡ true
  lowest-stands =
      sym (get_or-map-below (λ (p : ℕ). f (g * w + p)) w lowest_bit false lowest-below)
      ∙ ap (λ (p : ℕ). get_or flags p false) lowest-flag
      ∙ get_or-first_true flags flags-some

-- ---- the masks of a legal memory

-- the set bits of the lane mask of cabinet c
abbrev pending_of : List ℕ → ℕ → ℕ
pending_of m c = trues (bits (mask_word m c))

mask-few : (m : List ℕ) (c : ℕ) → pending_of m c ≤ width
mask-few m c = omega (arith, trues-le (bits (mask_word m c)), length-bits (mask_word m c))

-- of the first n lane masks
sum_by-sum : (f : ℕ → ℕ) (xs : List ℕ) → sum_by f xs ≡ sum f xs
sum_by-sum f [] = refl
sum_by-sum f (x ∷ xs) = sum_by-cons f x xs ∙ ap (λ (n : ℕ). f x + n) (sum_by-sum f xs)

abbrev masks_of : List ℕ → ℕ → List ℕ
masks_of m n = take (masks_at + n - masks_at) (drop masks_at m)

masks-are : (m : List ℕ) (n : ℕ) → masks_at + n ≤ length m → masks_of m n ≡ map (mask_word m) (from 0 n)
masks-are m n h =
    let part = drop masks_at m in
    sym (map-from-get_or (mask_word m) 0 (masks_of m n) n (omega (arith, length-take (masks_at + n - masks_at) part, length-drop masks_at m))
    (λ i b. sym (get_or-take (masks_at + n - masks_at) part i 0 (omega arith) ∙ get_or-drop masks_at m i 0)))

abbrev pending_in : List ℕ → ℕ
pending_in = sum_by (λ (w : ℕ). trues (bits w))

masks-sum : (m : List ℕ) (n : ℕ) → masks_at + n ≤ length m → pending_in (masks_of m n) ≡ sum_below (pending_of m) n
masks-sum m n h =
    sum_by-sum _ (masks_of m n)
    ∙ ap (sum (λ (w : ℕ). trues (bits w))) (masks-are m n h)
    ∙ sum-of-map (λ (w : ℕ). trues (bits w)) (mask_word m) (from 0 n)

module _ (m : List ℕ) (z : Sizes) (table : TableIn m z) where
  abbrev s : State
  s = state m

  v : Sound m
  v = table.sound

  abbrev pending : List ℕ
  pending = pending_from 0 s.engine.lanes

  lanes-each : length s.engine.lanes ≡ lane_count s.sizes
  unfolding state
  lanes-each = state-lanes m

  -- the masks of the three levels
  mask-shown : (c : ℕ) → c < cabinet_count (sizes m) → mask_word m c ≡ lane_mask s c
  unfolding state
  mask-shown c h = (shown m v).image (mask c) h

  yard-shown : (y : ℕ) → y < (sizes m).yards → yard_word m y ≡ cabinet_mask s y
  unfolding state
  yard-shown y h = (shown m v).image (yard y) h

  yards-shown : at m yard_mask_at ≡ yard_mask s
  unfolding state contents
  yards-shown = (shown m v).image (top yard_mask_at) (omega arith)

  -- of b cabinets, as they were counted
  module _ (b : ℕ) (eb : b ≡ cabinet_count (sizes_of z)) where
    cabinets-are : b ≡ cabinet_count (sizes m)
    cabinets-are = eb ∙ ap cabinet_count table.sizes

    masks-inside : masks_at + b ≤ length m
    masks-inside = omega (arith, cabinets-are, long m v)

    pub pending-few : pending_in (masks_of m b) < word_limit
    pending-few =
        omega (arith, masks-sum m b masks-inside, sum_below-few (pending_of m) width b (λ c h. mask-few m c), cabinets-are, (in_range m v).all_cabinets)

    pub pending-shown : pending_in (masks_of m b) ≡ length pending
    unfolding state
    pending-shown =
        masks-sum m b masks-inside
        ∙ ap (sum_below (pending_of m)) cabinets-are
        ∙ sum_below-alike (pending_of m) (λ (c : ℕ). ones (lane_mask s c)) (cabinet_count (sizes m))
        (λ c h. sym (ones-trues (mask_word m c) (v.words (masks_at + c))) ∙ ap ones (mask-shown c h))
        ∙ sym (awaited-count s lanes-each)

  runs-shown : eqb (at m yard_mask_at) 0 ≡ not (runs s.engine)
  runs-shown = ap (λ (w : ℕ). eqb w 0) yards-shown ∙ yard_mask-runs s lanes-each

  pub none-shown : at m yard_mask_at ≡ 0 → none ≡ first pending
  none-shown h = sym (awaited-none s lanes-each (not-true (runs s.engine) (sym runs-shown ∙ eq-eqb (at m yard_mask_at) 0 h)))

  -- a yard's bit is set, and y is the lowest
  module _ (h : at m yard_mask_at ≡ 0 → ⊥) (y : ℕ) (ey : y ≡ first_true (bits (at m yard_mask_at))) where
    running : runs s.engine ≡ true
    running = not-false (runs s.engine) (sym runs-shown ∙ ne_eqb (at m yard_mask_at) 0 h)

    some-yard : standing (sizes m).yards (yard_bit s) 0 ≡ true
    unfolding state
    some-yard = ap is_not_zero (sym yards-shown) ∙ ap not (ne_eqb (at m yard_mask_at) 0 h)

    yard-is : y ≡ first_true (bits (group_mask (sizes m).yards (yard_bit s) 0))
    unfolding state
    yard-is = ey ∙ ap (λ (w : ℕ). first_true (bits w)) yards-shown

    yard-below : y < (sizes m).yards
    yard-below = omega (arith, yard-is, lowest-below (sizes m).yards (yard_bit s) 0 (omega (arith, (in_range m v).few_yards)) some-yard)

    yard-stands : yard_bit s y ≡ true
    yard-stands =
        ap (yard_bit s) (let e : y ≡ 0 * (sizes m).yards + first_true (bits (group_mask (sizes m).yards (yard_bit s) 0)) = omega (arith, yard-is) in e)
        ∙ lowest-stands (sizes m).yards (yard_bit s) 0 (omega (arith, (in_range m v).few_yards)) some-yard

    yard-of-table : y < z.yards
    yard-of-table = subst (λ (x : TableSizes). y < x.yards) (sym table.sizes) yard-below

    -- the cabinet masks stand from a on
    module _ (a : ℕ) (ea : a ≡ yards_body (sizes_of z)) where
      begins : a ≡ yards_body (sizes m)
      begins = ea ∙ ap yards_body table.sizes

      pub yard-lent : MaskAt m a y z.cabinets
      yard-lent = record {
        inside = omega (arith, begins, yard-below, long m v);
        few = omega (arith, mul-le-mul_right z.cabinets (le_of_lt yard-of-table), table.lent.few.all_cabinets);
      }

      -- and c is the lowest cabinet of the yard
      module _ (c : ℕ) (ec : c ≡ lowest_in m a y z.cabinets) where
        cabinet-is : c ≡ y * (sizes m).cabinets + first_true (bits (yard_word m y))
        cabinet-is = ec ∙ ap₂ (λ (x : TableSizes) (b : ℕ). y * x.cabinets + first_true (bits (at m (b + y)))) table.sizes begins

        cabinet-below : c < cabinet_count (sizes m)
        unfolding state
        cabinet-below =
            let place = lowest-below (sizes m).cabinets (cabinet_bit s) y (omega (arith, (in_range m v).few_cabinets)) yard-stands in
            let here = cabinet-is ∙ ap (λ (w : ℕ). y * (sizes m).cabinets + first_true (bits w)) (yard-shown y yard-below) in
            omega (arith, here, digits_lt yard-below place)

        cabinet-of-table : c < cabinet_count (sizes_of z)
        cabinet-of-table = subst (λ (x : TableSizes). c < cabinet_count x) (sym table.sizes) cabinet-below

        pub cabinet-lent : MaskAt m masks_at c z.places
        cabinet-lent = record {
          inside = omega (arith, cabinet-below, long m v);
          few = omega (arith, mul-le-mul_right z.places (le_of_lt cabinet-of-table), table.lent.few.lanes);
        }

        -- by the lowest bits of the masks
        lowest-yard : lowest ((sizes m).yards ∷ []) (yard_bit s) 0 ≡ y
        unfolding lowest state
        lowest-yard = omega (arith, ey, sym (ap (count_trailing_zeros width) yards-shown) ∙ trailing-first_true (at m yard_mask_at) (v.words yard_mask_at))

        lowest-cabinet : lowest ((sizes m).cabinets ∷ (sizes m).yards ∷ []) (cabinet_bit s) 0 ≡ c
        unfolding lowest state
        lowest-cabinet =
            ap (λ (k : ℕ). k * (sizes m).cabinets + count_trailing_zeros width (cabinet_mask s k)) lowest-yard
            ∙ ap (λ (p : ℕ). y * (sizes m).cabinets + p)
            (sym (ap (count_trailing_zeros width) (yard-shown y yard-below)) ∙ trailing-first_true (yard_word m y) (v.words (yards_body (sizes m) + y)))
            ∙ sym cabinet-is

        pub lowest-shown : (n : ℕ) → n ≡ lowest_in m masks_at c z.places → n ≡ first pending
        unfolding lowest state
        lowest-shown n en =
            en
            ∙ ap (λ (x : TableSizes). c * x.places + first_true (bits (mask_word m c))) table.sizes
            ∙ sym
            (awaited-lowest s lanes-each (in_range m v) running
            ∙ ap (λ (k : ℕ). k * (sizes m).places + count_trailing_zeros width (lane_mask s k)) lowest-cabinet
            ∙ ap (λ (p : ℕ). c * (sizes m).places + p)
            (sym (ap (count_trailing_zeros width) (mask-shown c cabinet-below)) ∙ trailing-first_true (mask_word m c) (v.words (masks_at + c))))
