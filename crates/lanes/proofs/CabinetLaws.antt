-- Laws of a cabinet's work: what is done to the cabinet's part, put back in its place, is done to the whole memory at the lane's address.
use Rattle.std.proofs.Common.{◌≡◌, ℕ, zero, suc, ◌+◌, ◌-◌, ◌*◌, ◌<◌, ◌≤◌, List, ◌∷◌, ◌++◌, map, take, drop, sym, refl, ap, subst, ◌∙◌, ap₂, mul-le-mul_right, mod-lt, suc-mul, div-lt_iff_lt-mul, div-add-mod', arith}
use Rattle.model.specs.Lists.{from, mask}
use Rattle.model.specs.State.{Sizes, cabinet_count}
use Rattle.model.specs.Layout.{lane_length, lane_address, online_bit}
use Rattle.model.specs.Memory.{at, flag}
use Rattle.laws.specs.ListLaws.{map-from-alike}
use Rattle.laws.specs.Stores.{get_or_part, part-sets}
use Rattle.words.specs.Lent.{Lent}
use Rattle.lanes.specs.declared.LaneRecord.{LaneRecord}
use Rattle.lanes.specs.declared.Place.{Place}
use Rattle.lanes.specs.Record.{record_at, record_words, record_stored, record_length}
use Rattle.lanes.proofs.RecordLaws.{words_at, record_at-words}
use Rattle.lanes.specs.RecordChanges.{changed_at, Changed}
use Rattle.lanes.specs.Cabinet.{place_at, cabinet_at, stand, LaneLent, online_at, online_mask}

-- the lane of place p of cabinet c stands where the model has it
pub cabinet_at-lane : (z : Sizes) (c p : ℕ) → cabinet_at z c + place_at p ≡ lane_address z (c * z.places + p)
cabinet_at-lane z c p = omega arith

-- row c of n rows, of k each, ends within all
pub row_within : (c n k : ℕ) → c < n → c * k + k ≤ n * k
row_within c n k h = let e = mul-le-mul_right {m = suc c} {n = n} k (omega arith) in omega (arith, e, suc-mul c k)

-- a lane of a table that is lent
pub lane-lent : (m : List ℕ) (z : Sizes) (c p : ℕ) → Lent m z → 1 ≤ z.cabinets → c < cabinet_count z → p < z.places → LaneLent m z (stand z c p)
lane-lent m z c p l some hc hp = record {
  lent = l;
  yard = (div-lt_iff_lt-mul some).1 hc;
  bay = mod-lt c some;
  number = sym (div-add-mod' c z.cabinets);
  cabinet = hc;
  place = hp;
  start = refl;
  address = refl;
  part = omega (arith, row_within c (cabinet_count z) z.places hc, l.long);
}

-- ---- a cabinet's part of n words from a on, in its place again

module _ (m : List ℕ) (a n : ℕ) where
  abbrev part : List ℕ
  part = take n (drop a m)

  -- k words of the part
  part-words : (k b : ℕ) → b + k ≤ n → words_at part b k ≡ words_at m (a + b) k
  unfolding from
  part-words zero b h = refl
  part-words (suc k) b h =
      let e : a + suc b ≡ suc (a + b) = omega arith in
      ap₂ ◌∷◌ (get_or_part m a n b 0 (omega arith)) (part-words k (suc b) (omega arith) ∙ ap (λ (i : ℕ). words_at m i k) e)

  module _ (p : ℕ) (h : place_at p + lane_length ≤ n) where
    -- a lane's record is read from the part
    pub part-record : record_at part (place_at p) ≡ record_at m (a + place_at p)
    part-record =
        record_at-words part (place_at p)
        ∙ ap (λ (ws : List ℕ). record_at ws 0) (part-words record_length (place_at p) (omega arith))
        ∙ sym (record_at-words m (a + place_at p))

    -- and what is written to it in the part is written to it in the whole
    pub part-stored : (r : LaneRecord) (l : List ℕ) → l ≡ record_stored part (place_at p) r → take a m ++ (l ++ drop n (drop a m)) ≡ record_stored m (a + place_at p) r
    unfolding record_words
    part-stored r l e =
        ap (λ (ys : List ℕ). take a m ++ (ys ++ drop n (drop a m))) e
        ∙ part-sets (record_words r) m a n (place_at p) (omega arith)

    -- so what changes it in the part changes it in the whole
    pub part-changed : (x : LaneRecord → LaneRecord) (l : List ℕ) → l ≡ changed_at part (place_at p) x → take a m ++ (l ++ drop n (drop a m)) ≡ changed_at m (a + place_at p) x
    part-changed x l e = part-stored (x (record_at part (place_at p))) l e ∙ ap (λ (r : LaneRecord). record_stored m (a + place_at p) (x r)) part-record

  -- the lanes of the part that are on
  pub part-online : (k : ℕ) → lane_length * k ≤ n → mask (map (online_at part 0) (from 0 k)) ≡ mask (map (online_at m a) (from 0 k))
  part-online k h =
      let inner : (p : ℕ) → a + (0 + place_at p) ≡ a + place_at p = λ p. omega arith in
      ap mask
      (map-from-alike (online_at part 0) (online_at m a) 0 k
      (λ p x y. ap (flag online_bit) (get_or_part m a n (0 + place_at p) 0 (omega arith) ∙ ap (at m) (inner p))))

-- ---- by what the code worked out: the part has i places, of which the lane's is j

module _ (m : List ℕ) (z : Sizes) (l : Place) (lane : LaneLent m z l) (i j : ℕ) (ei : i ≡ z.places) (ej : j ≡ l.place) where
  abbrev n : ℕ
  n = l.start + lane_length * i - l.start

  at-lane : l.start + place_at j ≡ l.address
  at-lane = omega (arith, lane.address)

  pub lane-record-by : (r : LaneRecord) → r ≡ record_at (part m l.start n) (place_at j) → r ≡ record_at m l.address
  lane-record-by r e = e ∙ part-record m l.start n j (omega (arith, lane.place)) ∙ ap (record_at m) at-lane

  pub lane-changed-by : (gives : LaneRecord → LaneRecord → Type 0) (w : List ℕ) → Changed gives (part m l.start n) (place_at j) w
      → Changed gives m l.address (take l.start m ++ (w ++ drop n (drop l.start m)))
  lane-changed-by gives w k = record {
    record_after = k.record_after;
    given = subst (λ (r : LaneRecord). gives r k.record_after) (lane-record-by _ refl) k.given;
    stored =
        part-changed m l.start n j (omega (arith, lane.place)) (λ (r : LaneRecord). k.record_after) w k.stored
        ∙ ap (λ (a : ℕ). record_stored m a k.record_after) at-lane;
  }

-- the part of cabinet c begins at a
pub online-by : (m : List ℕ) (z : Sizes) (c a i r : ℕ) → a ≡ cabinet_at z c → i ≡ z.places
    → r ≡ mask (map (online_at (part m a (a + lane_length * i - a)) 0) (from 0 i)) → r ≡ online_mask m z c
unfolding online_mask
online-by m z c a i r ea ei e =
    e ∙ part-online m a (a + lane_length * i - a) i (omega arith)
    ∙ ap₂ (λ (b k : ℕ). mask (map (online_at m b) (from 0 k))) ea ei
