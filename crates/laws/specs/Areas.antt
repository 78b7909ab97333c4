-- Words laid out in areas, one after another, each a number of rows of one width: every word has one place, and a store at a place changes that place alone.
use Prim.Native.Nat.{ℕ, zero, suc, ◌+◌, ◌*◌, ◌-◌, ◌/◌, ◌%◌, ◌≤◌, ◌<◌}
use Rattle.std.specs.Prelude.{◌≡◌, refl, get_or}
use Rattle.std.proofs.Common.{ap, sym, ◌∙◌, mul_comm, mul-le-mul_left, div-add-mod', mod-lt, div-lt_iff_lt-mul, get_or-append-add}
use mathlib.Core.List.{List, [], ◌∷◌, ◌++◌, map, append_assoc}
use native.Mathlib.Omega.{arith}
use Rattle.std.proofs.Math.Decide.{dec_lt}
use Rattle.std.proofs.Math.Nat.{mul-suc}
use Rattle.std.proofs.Math.ListN.{length, length-append, get_or-append}
use Rattle.std.proofs.Math.Arith.{digits_div}
use Rattle.model.specs.Lists.{concat_map, from}
use Rattle.laws.specs.ListLaws.{length_from, get_or-from, get_or-right}

pub record Extent : Type 0 where
  pub width : ℕ
  pub count : ℕ

abbrev pub rows : ℕ → ℕ → Extent
rows n w = record { width = w; count = n }

abbrev pub size : Extent → ℕ
size x = x.width * x.count

abbrev pub extent : List Extent → ℕ
extent [] = 0
extent (x ∷ xs) = size x + extent xs

-- word k of row i of area a
abbrev pub address : List Extent → ℕ → ℕ → ℕ → ℕ
address [] a i k = 0
address (x ∷ xs) zero i k = x.width * i + k
address (x ∷ xs) (suc a) i k = size x + address xs a i k

abbrev pub extent_at : List Extent → ℕ → Extent
extent_at xs a = get_or xs a (rows 0 0)

pub record Within (xs : List Extent) (a i k : ℕ) : Type 0 where
  pub row : i < (extent_at xs a).count
  pub column : k < (extent_at xs a).width

-- ---- one area

row_within : (w n i k : ℕ) → i < n → k < w → w * i + k < w * n
row_within w n i k h l = let q : w * suc i ≤ w * n = mul-le-mul_left w h in omega (arith, mul-suc w i)

row-unique : (w i j k l : ℕ) → k < w → l < w → w * i + k ≡ w * j + l → i ≡ j
row-unique w i j k l h m e =
    sym (digits_div i h) ∙ ap (λ (x : ℕ). (x + k) / w) (mul_comm i w) ∙ ap (λ (x : ℕ). x / w) e ∙ ap (λ (x : ℕ). (x + l) / w) (mul_comm w j) ∙ digits_div j m

-- ---- every place is one word, below the extent

pub address-lt : (xs : List Extent) (a i k : ℕ) → Within xs a i k → address xs a i k < extent xs
address-lt [] a i k h = absurd (omega arith)
address-lt (x ∷ xs) zero i k h = omega (arith, row_within x.width x.count i k h.row h.column)
address-lt (x ∷ xs) (suc a) i k h = omega (arith, address-lt xs a i k (record { row = h.row; column = h.column }))

pub record SamePlace (a b i j k l : ℕ) : Type 0 where
  pub area : a ≡ b
  pub row : i ≡ j
  pub column : k ≡ l

pub address-injective : (xs : List Extent) (a b i j k l : ℕ) → Within xs a i k → Within xs b j l → address xs a i k ≡ address xs b j l → SamePlace a b i j k l
address-injective [] a b i j k l h m e = absurd (omega arith)
address-injective (x ∷ xs) zero zero i j k l h m e =
    let q = row-unique x.width i j k l h.column m.column e in
    record { area = refl; row = q; column = let e' : x.width * j + k ≡ x.width * j + l = rw q at e in omega arith }
address-injective (x ∷ xs) zero (suc b) i j k l h m e = absurd (omega (arith, row_within x.width x.count i k h.row h.column))
address-injective (x ∷ xs) (suc a) zero i j k l h m e = absurd (omega (arith, row_within x.width x.count j l m.row m.column))
address-injective (x ∷ xs) (suc a) (suc b) i j k l h m e =
    let r = address-injective xs a b i j k l (record { row = h.row; column = h.column }) (record { row = m.row; column = m.column }) (omega arith) in
    record { area = ap suc r.area; row = r.row; column = r.column }

pub record Spot (xs : List Extent) (n : ℕ) : Type 0 where
  pub area : ℕ
  pub row : ℕ
  pub column : ℕ
  pub within : Within xs area row column
  pub there : n ≡ address xs area row column

pub address-onto : (xs : List Extent) (n : ℕ) → n < extent xs → Spot xs n
address-onto [] n h = absurd (omega arith)
address-onto (x ∷ xs) n h =
    elim (dec_lt n (size x)) [
      | yes p ↦
          let w = x.width in
          let some : 0 < w =
          elim (dec_lt 0 w) [ yes q ↦ q | no q ↦ absurd (let z : w ≡ 0 = omega arith in let y : n < 0 * x.count = rw z at p in omega arith) ] in
          record {
            area = 0;
            row = n / w;
            column = n % w;
            within = record { row = (div-lt_iff_lt-mul some).1 (let c : n < x.count * w = omega (arith, mul_comm w x.count) in c); column = mod-lt n some };
            there = sym (div-add-mod' n w) ∙ ap (λ (y : ℕ). y + n % w) (mul_comm (n / w) w);
          }
      | no p ↦
          let r = address-onto xs (n - size x) (omega arith) in
          record {
            area = suc r.area;
            row = r.row;
            column = r.column;
            within = record { row = r.within.row; column = r.within.column };
            there = omega (arith, r.there);
          }
    ]

-- ---- blocks of one width

module _ {A : Type 0} (f : A → List ℕ) (n : ℕ) (d : A) where
  -- blocks of n words each
  length-blocks : (xs : List A) → ((i : ℕ) → i < length xs → length (f (get_or xs i d)) ≡ n) → length (concat_map f xs) ≡ n * length xs
  unfolding concat_map
  length-blocks [] h = omega arith
  length-blocks (x ∷ xs) h =
      omega (arith, length-append (f x) (concat_map f xs), length-blocks xs (λ i k. h (suc i) (omega arith)), h 0 (omega arith), mul-suc n (length xs))

  get_or-blocks : (xs : List A) → ((i : ℕ) → i < length xs → length (f (get_or xs i d)) ≡ n)
      → (i k : ℕ) → i < length xs → k < n → get_or (concat_map f xs) (n * i + k) 0 ≡ get_or (f (get_or xs i d)) k 0
  unfolding concat_map
  get_or-blocks [] h i k p q = absurd (omega arith)
  get_or-blocks (x ∷ xs) h zero k p q =
      let e : n * 0 + k ≡ k = omega arith in
      rw e (get_or-append (f x) (concat_map f xs) 0 k (omega (arith, h 0 (omega arith))))
  get_or-blocks (x ∷ xs) h (suc i) k p q =
      let e : n * suc i + k ≡ length (f x) + (n * i + k) = omega (arith, h 0 (omega arith), mul-suc n i) in
      rw e (get_or-append-add (f x) (concat_map f xs) (n * i + k) 0 ∙ get_or-blocks xs (λ i k. h (suc i) (omega arith)) i k (omega arith) q)

-- ---- the words

-- an area with its rows' words
pub record Area : Type 0 where
  pub place : Extent
  pub row : ℕ → List ℕ
  pub filled : (i : ℕ) → length (row i) ≡ place.width

abbrev pub places : List Area → List Extent
places xs = map (λ (x : Area). x.place) xs

abbrev pub no_area : Area
no_area = record { place = rows 0 0; row = λ i. []; filled = λ i. refl }

abbrev pub area_words : Area → List ℕ
area_words x = concat_map x.row (from 0 x.place.count)

abbrev pub laid_out : List Area → List ℕ
laid_out [] = []
laid_out (x ∷ xs) = area_words x ++ laid_out xs

pub laid_out-append : (xs ys : List Area) → laid_out (xs ++ ys) ≡ laid_out xs ++ laid_out ys
laid_out-append [] ys = refl
laid_out-append (x ∷ xs) ys = ap (λ (r : List ℕ). area_words x ++ r) (laid_out-append xs ys) ∙ sym (append_assoc (area_words x) (laid_out xs) (laid_out ys))

length-area : (x : Area) → length (area_words x) ≡ size x.place
length-area x =
    length-blocks x.row x.place.width 0 (from 0 x.place.count) (λ i h. x.filled _)
    ∙ ap (λ (n : ℕ). x.place.width * n) (length_from 0 x.place.count)

pub length-laid_out : (xs : List Area) → length (laid_out xs) ≡ extent (places xs)
length-laid_out [] = refl
length-laid_out (x ∷ xs) = omega (arith, length-append (area_words x) (laid_out xs), length-area x, length-laid_out xs)

pub get_or-laid_out : (xs : List Area) (a i k : ℕ) → Within (places xs) a i k
    → get_or (laid_out xs) (address (places xs) a i k) 0 ≡ get_or ((get_or xs a no_area).row i) k 0
get_or-laid_out [] a i k h = absurd (omega arith)
get_or-laid_out (x ∷ xs) zero i k h =
    let w = x.place.width in
    let n = x.place.count in
    get_or-append (area_words x) (laid_out xs) 0 (w * i + k) (omega (arith, length-area x, row_within w n i k h.row h.column))
    ∙ get_or-blocks x.row w 0 (from 0 n) (λ j l. x.filled _) i k (omega (arith, length_from 0 n)) h.column
    ∙ ap (λ (j : ℕ). get_or (x.row j) k 0) (get_or-from 0 n i 0 h.row ∙ omega arith)
get_or-laid_out (x ∷ xs) (suc a) i k h =
    get_or-right (area_words x) (laid_out xs) (size x.place + address (places xs) a i k) (address (places xs) a i k) (omega (arith, length-area x))
    ∙ get_or-laid_out xs a i k (record { row = h.row; column = h.column })
