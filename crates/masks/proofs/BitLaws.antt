-- Words as masks: what `|`, `&`, `<<`, `!`, `count_ones` and `trailing_zeros` do to them, and the same for masks of any width up to 32.
use Rattle.std.proofs.Common.{◌≡◌, ℕ, suc, ◌+◌, ◌-◌, ◌*◌, ◌/◌, ◌%◌, ◌^◌, ◌<◌, ◌≤◌, Bool, true, false, cond, eqb, List, [], ◌∷◌, map, length, set, sym, refl, ap, ◌∙◌, ap₂, ⊎_elim, arith, pow_pos, pow_mono}
use lib.Bits.{bit_and, bit_or, and_zero_l}
use lib.Count.{ones, count_trailing_zeros}
use Rattle.model.specs.Lists.{any, from, mask, bit}
use Rattle.model.specs.Memory.{flag}
use Rattle.laws.specs.Tests.{bool_cases, clash}
use Rattle.laws.specs.ListLaws.{length-map-from, map-from-set}
use Rattle.laws.specs.Masks.{mask-flags, mask_lt, mask-from-lt, mask-from-suc, some}
use Rattle.laws.specs.MaskFlags.{shl-bit, shr_and_one, or_set, and-clear, trues, first_true, ones-mask, trailing-mask, trailing-none}
use Rattle.masks.specs.Bits.{width, bits, with_bit, without_bit}

length-bits : (w : ℕ) → length (bits w) ≡ width
length-bits w = length-map-from (λ (k : ℕ). flag k w) 0 width

first_true-none : (bs : List Bool) → some bs ≡ false → first_true bs ≡ length bs
unfolding any first_true
first_true-none [] h = refl
first_true-none (true ∷ bs) h = clash refl h
first_true-none (false ∷ bs) h = ap suc (first_true-none bs h)

-- ---- the operations on a word

module _ (w p : ℕ) (hw : w < 2 ^ width) (hp : p < width) where
  pub or-with_bit : bit_or w ((1 * 2 ^ p) % 2 ^ width) ≡ with_bit p w
  unfolding with_bit
  or-with_bit =
      ap (bit_or w) (shl-bit p hp)
      ∙ ap (λ (x : ℕ). bit_or x (2 ^ p)) (sym (mask-flags w width hw))
      ∙ or_set (bits w) p (omega (arith, length-bits w))

  pub and-without_bit : bit_and w ((2 ^ width - 1) - (1 * 2 ^ p) % 2 ^ width) ≡ without_bit p w
  unfolding without_bit
  and-without_bit =
      ap (λ (x : ℕ). bit_and w ((2 ^ width - 1) - x)) (shl-bit p hp)
      ∙ ap (λ (x : ℕ). bit_and x ((2 ^ width - 1) - 2 ^ p)) (sym (mask-flags w width hw))
      ∙ and-clear width (bits w) p (omega (arith, length-bits w)) (omega (arith, length-bits w))

-- 0 has no bit to clear
pub without_bit-zero : (p : ℕ) → p < width → without_bit p 0 ≡ 0
without_bit-zero p h = sym (and-without_bit 0 p (pow_pos width) h) ∙ and_zero_l ((2 ^ width - 1) - (1 * 2 ^ p) % 2 ^ width)

module _ (w : ℕ) (hw : w < 2 ^ width) where
  pub ones-trues : ones w ≡ trues (bits w)
  ones-trues = ap ones (sym (mask-flags w width hw)) ∙ ones-mask (bits w)

  -- the lowest set bit; 32 where no bit is set
  pub trailing-first_true : count_trailing_zeros width w ≡ first_true (bits w)
  trailing-first_true = ap (count_trailing_zeros width) (sym (mask-flags w width hw)) ∙ ⊎_elim set none (bool_cases (some (bits w)))
    where
      set : some (bits w) ≡ true → count_trailing_zeros width (mask (bits w)) ≡ first_true (bits w)
      set h = trailing-mask width (bits w) (omega (arith, length-bits w)) h

      none : some (bits w) ≡ false → count_trailing_zeros width (mask (bits w)) ≡ first_true (bits w)
      none h = trailing-none width (bits w) h ∙ sym (first_true-none (bits w) h ∙ length-bits w)

-- ---- masks of any width up to 32

module _ (bs : List Bool) (fits : length bs ≤ width) where
  mask_word : mask bs < 2 ^ width
  mask_word = omega (arith, mask_lt bs, pow_mono fits)

  pub with_bit-mask : (p : ℕ) → p < length bs → with_bit p (mask bs) ≡ mask (set bs p true)
  with_bit-mask p h =
      sym (or-with_bit (mask bs) p mask_word (omega arith)) ∙ ap (bit_or (mask bs)) (shl-bit p (omega arith)) ∙ or_set bs p h

  pub without_bit-mask : (p : ℕ) → p < length bs → without_bit p (mask bs) ≡ mask (set bs p false)
  without_bit-mask p h =
      sym (and-without_bit (mask bs) p mask_word (omega arith))
      ∙ ap (λ (x : ℕ). bit_and (mask bs) ((2 ^ width - 1) - x)) (shl-bit p (omega arith))
      ∙ and-clear width bs p fits h

  pub first_true-mask : some bs ≡ true → first_true (bits (mask bs)) ≡ first_true bs
  first_true-mask h = sym (trailing-first_true (mask bs) mask_word) ∙ trailing-mask width bs fits h

-- the same for a function's flags
module _ (g h : ℕ → Bool) (n p : ℕ) (fits : n ≤ width) (inside : p < n) where
  length-flags : length (map g (from 0 n)) ≡ n
  length-flags = length-map-from g 0 n

  set-flags : (b : Bool) → ((k : ℕ) → h k ≡ cond (eqb k p) b (g k)) → set (map g (from 0 n)) p b ≡ map h (from 0 n)
  set-flags b e = sym (map-from-set g h 0 n p b inside (λ k. e k ∙ ap (λ (x : ℕ). cond (eqb k x) b (g k)) (let z : p ≡ 0 + p = omega arith in z)))

  pub without_bit-from : ((k : ℕ) → h k ≡ cond (eqb k p) false (g k)) → without_bit p (mask (map g (from 0 n))) ≡ mask (map h (from 0 n))
  without_bit-from e = without_bit-mask (map g (from 0 n)) (omega (arith, length-flags)) p (omega (arith, length-flags)) ∙ ap mask (set-flags false e)

-- ---- a mask built bit by bit

-- one bit more
pub mask-more : (g : ℕ → Bool) (p : ℕ) → p < width → cond (g p) (with_bit p (mask (map g (from 0 p)))) (mask (map g (from 0 p))) ≡ mask (map g (from 0 (suc p)))
mask-more g p h =
    let w : ℕ = mask (map g (from 0 p)) in
    let below : w < 2 ^ width = omega (arith, mask-from-lt g p, pow_mono {i = p} {j = width} (omega arith)) in
    ap (λ (x : ℕ). cond (g p) x w) (sym (or-with_bit w p below h) ∙ ap (bit_or w) (shl-bit p h)) ∙ sym (mask-from-suc g p)

-- the same for a flag that was tested: it is set, or not
module _ (g : ℕ → Bool) (p w x : ℕ) (h : p < width) (e : w ≡ mask (map g (from 0 p))) (b : Bool) (f : b ≡ g p) where
  next : cond b (with_bit p w) w ≡ mask (map g (from 0 (p + 1)))
  next =
      let s : suc p ≡ p + 1 = omega arith in
      ap₂ (λ (d : Bool) (y : ℕ). cond d (with_bit p y) y) f e ∙ mask-more g p h ∙ ap (λ (n : ℕ). mask (map g (from 0 n))) s

  pub mask-set : b ≡ true → x ≡ with_bit p w → x ≡ mask (map g (from 0 (p + 1)))
  mask-set t q = q ∙ ap (λ (d : Bool). cond d (with_bit p w) w) (sym t) ∙ next

  pub mask-clear : b ≡ false → x ≡ w → x ≡ mask (map g (from 0 (p + 1)))
  mask-clear t q = q ∙ ap (λ (d : Bool). cond d (with_bit p w) w) (sym t) ∙ next
