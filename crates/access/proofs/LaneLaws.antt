-- A lane of a legal memory: what the code's tests of its number say, and where it stands in its cabinet.
use Prim.Native.Nat.{ℕ, suc, ◌+◌, ◌*◌, ◌/◌, ◌%◌, ◌≤◌, ◌<◌}
use native.Mathlib.Nat.{div-add-mod', mod-lt, div-lt_iff_lt-mul, mul-le-mul_right, mul_assoc, mul-pos}
use mathlib.Core.Path.{◌≡◌, ap, ap₂, sym, subst, ◌∙◌}
use mathlib.Core.List.{List}
use native.Mathlib.Omega.{arith}
use Rattle.model.specs.State.{Sizes, cabinet_count, lane_count}
use Rattle.model.specs.Memory.{at, sizes, state}
use Rattle.model.specs.Layout.{heads_at, lane_address}
use Rattle.model.specs.Lists.{first}
use Rattle.model.specs.Table.{chain_number, chain_of}
use Rattle.laws.specs.Subtractions.{Split as Subtracted, split, subtracted, subtracted-few, subtracted-divides, group-divides, rest-divides, rest-left}
use Rattle.representation.specs.Sound.{Sound}
use Rattle.words.specs.declared.sizes.NamedSizes as words
use Rattle.words.specs.Lent.{sizes_of, named, sizes_in, Few, Lent}
use Rattle.lanes.specs.declared.Place.{Place}
use Rattle.lanes.specs.Cabinet.{stand, LaneLent}
use Rattle.lanes.proofs.CabinetLaws.{cabinet_at-lane, lane-lent}
use Rattle.changes.proofs.OfChains.ChainChanges.{head-shown}
use Rattle.access.specs.declared.Lane.{Lane}
use Rattle.access.specs.declared.Split.{Split}
use Rattle.access.specs.Lanes.{Named, LaneIn, place_of, Standing, most_subtractions, split_of, yard_size, yard_split, bay_split, Placed}
use Rattle.access.proofs.Ways.{shown, in_range, long}

-- ---- a legal memory

module _ (m : List ℕ) (v : Sound m) where
  pub few : Few (sizes m)
  few = record {
    yards = (in_range m v).few_yards;
    cabinets = (in_range m v).few_cabinets;
    places = (in_range m v).few_places;
    all_cabinets = (in_range m v).all_cabinets;
    lanes = (in_range m v).few_lanes;
    slots = (in_range m v).few_slots;
  }

  pub lent : Lent m (sizes m)
  lent = record { few = few; long = long m v }

  -- what the code reads of the sizes
  pub few-read : (z : words.NamedSizes) → z ≡ sizes_in m → Few (named z)
  few-read z e = subst (λ (x : words.NamedSizes). Few (named x)) (sym e) few

  -- the head of a code's chain
  pub chain_head : (c : ℕ) → at m (heads_at + chain_number c) ≡ first (chain_of (state m).table c)
  chain_head c = head-shown (state m) m (shown m v) (chain_number c) (omega arith)

  pub head-by : (c a : ℕ) → a ≡ heads_at + chain_number c → at m a ≡ first (chain_of (state m).table c)
  head-by c a e = ap (at m) e ∙ chain_head c

-- a lane by what was read and worked out
pub named_by : (m : List ℕ) → Sound m → (l : Lane) (n : words.NamedSizes) → n ≡ sizes_in m → sizes_of l.sizes ≡ named n
    → l.address ≡ lane_address (sizes_of l.sizes) l.number → Named m l
named_by m v l n en ez ea =
    let e : sizes_of l.sizes ≡ sizes m = ez ∙ ap named en in
    record { sound = v; address = ea ∙ ap (λ (z : Sizes). lane_address z l.number) e; sizes = e; lent = subst (Lent m) (sym e) (lent m v) }

-- ---- what the tests of a lane say

module _ (m : List ℕ) (l : Lane) (k : Named m l) where
  -- as many lanes as the memory has
  pub count-is : lane_count (sizes_of l.sizes) ≡ lane_count (sizes m)
  count-is = ap lane_count k.sizes

  -- by the state
  pub counted : lane_count (state m).sizes ≡ lane_count (sizes_of l.sizes)
  unfolding state
  counted = sym count-is

  pub lane-known : l.number < lane_count (state m).sizes → LaneIn m l
  unfolding state
  lane-known h = record { named = k; known = h; inside = omega (arith, k.address, long m k.sound) }

-- a lane of the memory is one of every other of the same sizes
pub lane-again : (m n : List ℕ) (l : Lane) → LaneIn m l → Sound n → sizes n ≡ sizes m → LaneIn n l
unfolding state
lane-again m n l k v e =
    let here : sizes_of l.sizes ≡ sizes n = k.named.sizes ∙ sym e in
    lane-known n l (record {
      sound = v;
      address = k.named.address ∙ ap (λ (z : Sizes). lane_address z l.number) (sym e);
      sizes = here;
      lent = subst (Lent n) (sym here) (lent n v);
    })
    (subst (λ (z : Sizes). l.number < lane_count z) (sym e) k.known)

-- ---- its cabinet and its place there

module _ (m : List ℕ) (l : Lane) (k : LaneIn m l) where
  pub standing : Standing l
  standing = record {
    some_cabinets = subst (λ (z : Sizes). 1 ≤ z.cabinets) (sym k.named.sizes) (in_range m k.named.sound).some_cabinets;
    some_places = subst (λ (z : Sizes). 1 ≤ z.places) (sym k.named.sizes) (in_range m k.named.sound).some_places;
    known = subst (λ (z : Sizes). l.number < lane_count z) (sym k.named.sizes) k.known;
  }

module _ (l : Lane) (k : Standing l) where
  abbrev z : Sizes
  z = sizes_of l.sizes

  -- the number of its cabinet
  abbrev cabinet : ℕ
  cabinet = l.number / z.places

  -- the cabinet is one of the table's
  pub cabinet-of : cabinet < cabinet_count z
  cabinet-of = (div-lt_iff_lt-mul {k = z.places} {x = l.number} {y = cabinet_count z} k.some_places).1 k.known

  -- and its yard
  yard-of : cabinet / z.cabinets < z.yards
  yard-of = (div-lt_iff_lt-mul {k = z.cabinets} {x = cabinet} {y = z.yards} k.some_cabinets).1 cabinet-of

  -- few enough subtractions: of a yard's size, and of a cabinet's from what is left
  yards-few : l.number < suc most_subtractions * yard_size z
  yards-few = omega (arith, k.known, mul_assoc z.yards z.cabinets z.places, mul-le-mul_right (yard_size z) l.sizes.few.yards)

  bays-few : l.number % yard_size z < suc most_subtractions * z.places
  bays-few = omega (arith, mod-lt l.number (mul-pos k.some_cabinets k.some_places), mul-le-mul_right z.places l.sizes.few.cabinets)

-- by the subtractions that were made
module _ (l : Lane) (k : Standing l) (y b : Split) (size : ℕ) (es : size ≡ yard_size (sizes_of l.sizes))
    (ey : split_of y ≡ subtracted most_subtractions size l.number) (eb : split_of b ≡ subtracted most_subtractions l.sizes.places y.left) where
  yards-split : split_of y ≡ yard_split l
  yards-split = ey ∙ ap (λ (n : ℕ). subtracted most_subtractions n l.number) es

  bays-split : split_of b ≡ bay_split l
  bays-split = eb ∙ ap (λ (x : Subtracted). subtracted most_subtractions l.sizes.places x.left) yards-split

  yards-divided : split_of y ≡ split (l.number / yard_size (z l k)) (l.number % yard_size (z l k))
  yards-divided = yards-split ∙ subtracted-divides most_subtractions (yard_size (z l k)) l.number (yards-few l k)

  bays-divided : split_of b ≡ split (cabinet l k % l.sizes.cabinets) (l.number % l.sizes.places)
  bays-divided =
      eb
      ∙ ap (λ (x : Subtracted). subtracted most_subtractions l.sizes.places x.left) yards-divided
      ∙ subtracted-divides most_subtractions l.sizes.places (l.number % yard_size (z l k)) (bays-few l k)
      ∙ ap₂ split (rest-divides l.sizes.cabinets l.sizes.places l.number k.some_cabinets k.some_places)
      (rest-left l.sizes.cabinets l.sizes.places l.number k.some_cabinets k.some_places)

  yard-is : y.times ≡ cabinet l k / l.sizes.cabinets
  yard-is = ap (λ (x : Subtracted). x.times) yards-divided ∙ group-divides l.sizes.cabinets l.sizes.places l.number

  bay-is : b.times ≡ cabinet l k % l.sizes.cabinets
  bay-is = ap (λ (x : Subtracted). x.times) bays-divided

  pub yard-known : y.times < l.sizes.yards
  yard-known = omega (arith, yard-is, yard-of l k)

  pub bay-known : b.times < l.sizes.cabinets
  bay-known = omega (arith, bay-is, mod-lt (cabinet l k) k.some_cabinets)

  -- yard × cabinets + bay is the cabinet's number
  cabinet-is : y.times * l.sizes.cabinets + b.times ≡ cabinet l k
  cabinet-is = ap₂ (λ (i j : ℕ). i * l.sizes.cabinets + j) yard-is bay-is ∙ div-add-mod' (cabinet l k) l.sizes.cabinets

  pub placed : (p : Place) → p ≡ stand (sizes_of l.sizes) (y.times * l.sizes.cabinets + b.times) b.left → Placed l p
  placed p f =
      let here : p ≡ place_of (z l k) l.number = f ∙ ap₂ (stand (z l k)) cabinet-is (ap (λ (x : Subtracted). x.left) bays-divided) in
      let yard : p.yard ≡ (yard_split l).times = ap (λ (x : Place). x.yard) here ∙ sym yard-is ∙ ap (λ (x : Subtracted). x.times) yards-split in
      let bay : p.bay ≡ (bay_split l).times = ap (λ (x : Place). x.bay) here ∙ sym bay-is ∙ ap (λ (x : Subtracted). x.times) bays-split in
      record {
        place = here;
        yard = yard;
        bay = bay;
        few_yards = omega (arith, yard, subtracted-few most_subtractions (yard_size (z l k)) l.number);
        few_bays = omega (arith, bay, subtracted-few most_subtractions l.sizes.places (yard_split l).left);
      }

-- cabinet × places + place is the lane's number
pub lane_of : (z : Sizes) (i : ℕ) → i / z.places * z.places + i % z.places ≡ i
lane_of z i = div-add-mod' i z.places

-- of a legal memory
pub cabinet-known : (m : List ℕ) (l : Lane) → LaneIn m l → l.number / (sizes m).places < cabinet_count (sizes m)
cabinet-known m l k =
    subst (λ (z : Sizes). l.number / z.places < cabinet_count z) k.named.sizes (cabinet-of l (standing m l k))

-- what the engine asks for
pub place-lent : (m : List ℕ) (l : Lane) (p : Place) → LaneIn m l → p ≡ place_of (sizes_of l.sizes) l.number → LaneLent m (sizes_of l.sizes) p
place-lent m l p k e =
    let s = standing m l k in
    subst (LaneLent m (sizes_of l.sizes)) (sym e)
    (lane-lent m (sizes_of l.sizes) _ _ k.named.lent s.some_cabinets (cabinet-of l s) (mod-lt l.number s.some_places))

-- and its record is the lane's
pub place-address : (m : List ℕ) (l : Lane) (p : Place) → Named m l → p ≡ place_of (sizes_of l.sizes) l.number → p.address ≡ l.address
place-address m l p k e =
    let z = sizes_of l.sizes in
    ap (λ (q : Place). q.address) e
    ∙ cabinet_at-lane z (l.number / z.places) (l.number % z.places)
    ∙ ap (lane_address z) (lane_of z l.number)
    ∙ ap (λ (y : Sizes). lane_address y l.number) k.sizes
    ∙ sym k.address
