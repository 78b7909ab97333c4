-- Masks of any width: bits, the mask built from a list of flags, a mask built flag by flag, and no flag.
use Rattle.std.specs.Prelude.{ℕ, zero, suc, ◌+◌, ◌*◌, ◌/◌, ◌%◌, ◌^◌, ◌<◌, Bool, true, false, not, cond, ◌≡◌, refl, List, [], ◌∷◌, ◌++◌, map, length, get_or, eqb, ltb}
use Rattle.std.proofs.Common.{ap, ap₂, sym, ◌∙◌, arith, div-one, mod-eq_of_lt, mul_assoc, div-lt_iff_lt-mul, pow-add, pow_pos, shr-shr, eq-eqb, ne_eqb, lt-ltb, le-ltb}
use Rattle.std.proofs.Math.Decide.{dec_lt}
use Rattle.std.proofs.Math.Nat.{zero-div, div-eq_of_lt}
use Rattle.std.proofs.Math.ListN.{get_or-eq_default}
use Rattle.std.proofs.lemmas.Nat.{mod-pow-add}
use Rattle.std.specs.Int.Bits.{bit_or, or_shifted_r}
use Rattle.model.specs.Lists.{any, from, mask, bit}
use Rattle.model.specs.Memory.{flag}
use Rattle.laws.specs.Tests.{clash, same, other, decide}
use Rattle.laws.specs.ListLaws.{get_or-map-below, length-map-from, map-from-suc}
use Rattle.laws.specs.Elements.{any-false-intro}

-- ---- bits

bit-lt : (b : Bool) → bit b < 2
unfolding bit
bit-lt true = omega arith
bit-lt false = omega arith

bit-eqb : (b : Bool) → eqb (bit b) 1 ≡ b
unfolding bit
bit-eqb true = refl
bit-eqb false = refl

pub bit-flag : (k w : ℕ) → bit (flag k w) ≡ w / 2 ^ k % 2
unfolding bit
bit-flag k w =
    elim (decide (w / 2 ^ k % 2) 1) [
      | same e t u ↦ ap bit t ∙ sym e
      | other e t u ↦ ap bit t ∙ let b : w / 2 ^ k % 2 < 2 = omega arith in omega arith
    ]

pub flag-zero : (p : ℕ) → flag p 0 ≡ false
flag-zero p = ap (λ (x : ℕ). eqb (x % 2) 1) (zero-div (2 ^ p))

pub pow-twice : (p : ℕ) → 2 ^ suc p ≡ 2 * 2 ^ p
pow-twice p = ap (λ (x : ℕ). 2 ^ x) (omega arith) ∙ pow-add 2 1 p

pub bit-pow : (b : Bool) (p : ℕ) → bit b * 2 ^ suc p ≡ 2 * (bit b * 2 ^ p)
unfolding bit
bit-pow true p = omega (arith, pow-twice p)
bit-pow false p = omega arith

-- a word is below 2 ^ n where a shift by n leaves nothing of it
pub shr_zero : (w n : ℕ) → eqb (w / 2 ^ n) 0 ≡ ltb w (2 ^ n)
shr_zero w n =
    elim (dec_lt w (2 ^ n)) [
      | yes h ↦ eq-eqb _ _ (div-eq_of_lt h) ∙ sym (lt-ltb _ _ h)
      | no h ↦
          ne_eqb (w / 2 ^ n) 0 (λ e. h (omega (arith, (div-lt_iff_lt-mul {k = 2 ^ n} {x = w} {y = 1} (pow_pos n)).0 (omega arith))))
          ∙ sym (le-ltb w (2 ^ n) (omega arith))
    ]

-- ---- the mask of a list of flags

-- its lowest digit, and the rest
pub mask-mod : (b : Bool) (bs : List Bool) → mask (b ∷ bs) % 2 ≡ bit b
unfolding mask
mask-mod b bs = omega (arith, bit-lt b)

pub mask-div : (b : Bool) (bs : List Bool) → mask (b ∷ bs) / 2 ≡ mask bs
unfolding mask
mask-div b bs = omega (arith, bit-lt b)

-- bit p of the mask is flag p
pub flag-mask : (bs : List Bool) (p : ℕ) → flag p (mask bs) ≡ get_or bs p false
unfolding mask
flag-mask [] p = flag-zero p
flag-mask (b ∷ bs) zero = ap (λ (x : ℕ). eqb (x % 2) 1) (div-one (mask (b ∷ bs))) ∙ ap (λ (x : ℕ). eqb x 1) (mask-mod b bs) ∙ bit-eqb b
flag-mask (b ∷ bs) (suc p) =
    let w = mask (b ∷ bs) in
    let f : w / 2 ^ suc p ≡ mask bs / 2 ^ p = ap (λ (k : ℕ). w / 2 ^ k) (omega arith) ∙ sym (shr-shr w 1 p) ∙ ap (λ (x : ℕ). x / 2 ^ p) (mask-div b bs) in
    ap (λ (x : ℕ). eqb (x % 2) 1) f ∙ flag-mask bs p

-- the same for a function's flags
pub flag-mask-from : (g : ℕ → Bool) (n p : ℕ) → p < n → flag p (mask (map g (from 0 n))) ≡ g p
flag-mask-from g n p h = flag-mask (map g (from 0 n)) p ∙ get_or-map-below g n p false h

pub mask_lt : (bs : List Bool) → mask bs < 2 ^ length bs
unfolding mask
mask_lt [] = omega arith
mask_lt (b ∷ bs) = omega (arith, pow-twice (length bs), bit-lt b, mask_lt bs)

-- the same for a function's flags
pub mask-from-lt : (g : ℕ → Bool) (n : ℕ) → mask (map g (from 0 n)) < 2 ^ n
mask-from-lt g n = let h = mask_lt (map g (from 0 n)) in rw (length-map-from g 0 n) at h

mask-flags-from : (w a n : ℕ) → mask (map (λ (k : ℕ). flag k w) (from a n)) ≡ w / 2 ^ a % 2 ^ n
unfolding from mask
mask-flags-from w a zero = omega arith
mask-flags-from w a (suc n) =
    let v = w / 2 ^ a in
    let h : w / 2 ^ suc a ≡ v / 2 = sym (shr-shr w a 1 ∙ ap (λ (k : ℕ). w / 2 ^ k) (omega arith)) in
    let p : v % 2 ^ suc n ≡ (v / 2 % 2 ^ n) * 2 + v % 2 = ap (λ (k : ℕ). v % 2 ^ k) (omega arith) ∙ mod-pow-add v n 1 in
    ap₂ (λ (x y : ℕ). x + 2 * y) (bit-flag a w) (mask-flags-from w (suc a) n ∙ ap (λ (x : ℕ). x % 2 ^ n) h)
    ∙ let e : v % 2 + 2 * (v / 2 % 2 ^ n) ≡ (v / 2 % 2 ^ n) * 2 + v % 2 = omega arith in e ∙ sym p

-- a number of n digits is the mask of its bits
pub mask-flags : (w n : ℕ) → w < 2 ^ n → mask (map (λ (k : ℕ). flag k w) (from 0 n)) ≡ w
mask-flags w n h = mask-flags-from w 0 n ∙ ap (λ (x : ℕ). x % 2 ^ n) (div-one w) ∙ mod-eq_of_lt h

-- ---- a mask built flag by flag

pub mask_append : (xs ys : List Bool) → mask (xs ++ ys) ≡ mask xs + 2 ^ length xs * mask ys
unfolding mask
mask_append [] ys = omega arith
mask_append (x ∷ xs) ys =
    let d : 2 ^ suc (length xs) * mask ys ≡ 2 * (2 ^ length xs * mask ys) =
    ap (λ (k : ℕ). k * mask ys) (pow-twice (length xs)) ∙ mul_assoc 2 (2 ^ length xs) (mask ys) in
    omega (arith, mask_append xs ys, d)

-- one flag more: `mask | (1 << n)` where it is set
pub mask-from-suc : (g : ℕ → Bool) (n : ℕ) → mask (map g (from 0 (suc n))) ≡ cond (g n) (bit_or (mask (map g (from 0 n))) (2 ^ n)) (mask (map g (from 0 n)))
unfolding bit mask
mask-from-suc g n =
    ap mask (map-from-suc g n) ∙ mask_append bs (g n ∷ []) ∙ ap (λ (k : ℕ). mask bs + 2 ^ k * mask (g n ∷ [])) (length-map-from g 0 n) ∙ go (g n)
  where
    bs : List Bool
    bs = map g (from 0 n)

    go : (b : Bool) → mask bs + 2 ^ n * mask (b ∷ []) ≡ cond b (bit_or (mask bs) (2 ^ n)) (mask bs)
    go true = omega (arith, or_shifted_r 1 n (mask bs) (mask-from-lt g n), ap (bit_or (mask bs)) (let e : 1 * 2 ^ n ≡ 2 ^ n = omega arith in e))
    go false = omega arith

-- ---- no flag

abbrev pub is_true : Bool → Bool
is_true b = b

-- some flag is set
abbrev pub some : List Bool → Bool
some bs = any is_true bs

pub mask-none : (bs : List Bool) → some bs ≡ false → mask bs ≡ 0
unfolding any bit mask
mask-none [] h = refl
mask-none (true ∷ bs) h = clash refl h
mask-none (false ∷ bs) h = omega (arith, mask-none bs h)

pub mask-some : (bs : List Bool) → some bs ≡ true → 0 < mask bs
unfolding any bit mask
mask-some [] h = clash h refl
mask-some (true ∷ bs) h = omega arith
mask-some (false ∷ bs) h = omega (arith, mask-some bs h)

pub mask-from-none : (g : ℕ → Bool) (n : ℕ) → ((k : ℕ) → k < n → g k ≡ false) → mask (map g (from 0 n)) ≡ 0
mask-from-none g n h = mask-none (map g (from 0 n)) (any-false-intro false is_true (map g (from 0 n)) (λ i.
    elim (dec_lt i n) [
      | yes b ↦ get_or-map-below g n i false b ∙ h i b
      | no b ↦ get_or-eq_default (map g (from 0 n)) false (omega (arith, length-map-from g 0 n))
    ]))

-- a mask is 0 exactly when no flag is set
pub mask-zero : (bs : List Bool) → eqb (mask bs) 0 ≡ not (some bs)
mask-zero bs = go (some bs) refl
  where
    go : (b : Bool) → some bs ≡ b → eqb (mask bs) 0 ≡ not (some bs)
    go true e = ne_eqb (mask bs) 0 (λ q. omega (arith, mask-some bs e)) ∙ sym (ap not e)
    go false e = eq-eqb (mask bs) 0 (mask-none bs e) ∙ sym (ap not e)
