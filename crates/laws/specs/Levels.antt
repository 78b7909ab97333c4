-- A level of masks: rows of flags, and above them a flag a row. Flags counted and the first of them, row by row; MaskTree goes from level to level.
use Prim.Native.Nat.{ℕ, zero, suc, ◌+◌, ◌*◌, ◌<◌}
use Rattle.std.specs.Prelude.{Bool, true, false, ◌||◌, ◌≡◌, refl, length, get_or}
use Rattle.std.proofs.Math.Path.{ap, sym}
use Rattle.std.proofs.Common.{◌∙◌, mul-suc, suc-mul, ext_get_or}
use mathlib.Core.List.{List, [], ◌∷◌, ◌++◌, map, append-nil, append_assoc}
use native.Mathlib.Omega.{arith}
use Rattle.std.specs.Int.Count.{ones}
use Rattle.model.specs.Lists.{any, concat, from, mask, bit}
use Rattle.laws.specs.Tests.{clash}
use Rattle.laws.specs.ListLaws.{get_or-map-below, length-map-from, map-from-suc, get_or-map-from}
use Rattle.laws.specs.Elements.{Each, any_append}
use Rattle.laws.specs.Sums.{sum, sum-append}
use Rattle.laws.specs.Masks.{is_true, some}
use Rattle.laws.specs.MaskFlags.{trues, first_true, ones-mask}

-- ---- rows, one after another

concat-snoc : {A : Type 0} (xss : List (List A)) (ys : List A) → concat (xss ++ (ys ∷ [])) ≡ concat xss ++ ys
unfolding concat
concat-snoc [] ys = append-nil ys
concat-snoc (xs ∷ xss) ys = ap (λ r. xs ++ r) (concat-snoc xss ys) ∙ sym (append_assoc xs (concat xss) ys)

module _ {A : Type 0} (h : ℕ → A) where
  map-from-shift : (a n : ℕ) → map h (from a n) ≡ map (λ (p : ℕ). h (a + p)) (from 0 n)
  map-from-shift a n =
      ext_get_or (h 0) (map h (from a n)) (map (λ (p : ℕ). h (a + p)) (from 0 n)) (length-map-from h a n ∙ sym (length-map-from (λ (p : ℕ). h (a + p)) 0 n))
      (λ i b. let c : i < n = omega (arith, length-map-from h a n) in get_or-map-from h a n i (h 0) c ∙ sym (get_or-map-below (λ (p : ℕ). h (a + p)) n i (h 0) c))

  map-from-add : (a n : ℕ) → map h (from 0 (a + n)) ≡ map h (from 0 a) ++ map (λ (p : ℕ). h (a + p)) (from 0 n)
  unfolding from
  map-from-add a n =
      let e : 0 + a ≡ a = omega arith in go 0 a ∙ ap (λ (r : List A). map h (from 0 a) ++ r) (ap (λ (k : ℕ). map h (from k n)) e ∙ map-from-shift a n)
    where
      go : (b a : ℕ) → map h (from b (a + n)) ≡ map h (from b a) ++ map h (from (b + a) n)
      go b zero =
          let e : 0 + n ≡ n = omega arith in
          let f : b + 0 ≡ b = omega arith in
          rw (e, f)
      go b (suc a) =
          let e : suc a + n ≡ suc (a + n) = omega arith in
          let f : suc b + a ≡ b + suc a = omega arith in
          rw e (ap (λ (r : List A). h b ∷ r) (go (suc b) a ∙ ap (λ (k : ℕ). map h (from (suc b) a) ++ map h (from k n)) f))

  -- rows of n, one after another
  pub concat-rows : (n k : ℕ) → concat (map (λ (c : ℕ). map (λ (p : ℕ). h (c * n + p)) (from 0 n)) (from 0 k)) ≡ map h (from 0 (k * n))
  unfolding concat from
  concat-rows n zero = let e : 0 * n ≡ 0 = omega arith in rw e
  concat-rows n (suc k) =
      ap concat (map-from-suc (λ (c : ℕ). map (λ (p : ℕ). h (c * n + p)) (from 0 n)) k)
      ∙ concat-snoc (map (λ (c : ℕ). map (λ (p : ℕ). h (c * n + p)) (from 0 n)) (from 0 k)) (map (λ (p : ℕ). h (k * n + p)) (from 0 n))
      ∙ ap (λ (r : List A). r ++ map (λ (p : ℕ). h (k * n + p)) (from 0 n)) (concat-rows n k)
      ∙ sym (ap (λ (x : ℕ). map h (from 0 x)) (suc-mul k n) ∙ map-from-add (k * n) n)

-- ---- a level of masks over the next

-- a flag a row, set while the row has one
abbrev pub upper : List (List Bool) → List Bool
upper rows = map some rows

pub some-concat : (rows : List (List Bool)) → some (concat rows) ≡ some (upper rows)
unfolding any concat
some-concat [] = refl
some-concat (r ∷ rows) = any_append is_true r (concat rows) ∙ ap (λ (b : Bool). some r || b) (some-concat rows)

-- all flags, counted mask by mask
pub trues-concat : (rows : List (List Bool)) → trues (concat rows) ≡ sum (λ (r : List Bool). ones (mask r)) rows
unfolding concat
trues-concat [] = refl
trues-concat (r ∷ rows) = omega (arith, sum-append bit r (concat rows), ones-mask r, trues-concat rows)

first_true-left : (xs ys : List Bool) → some xs ≡ true → first_true (xs ++ ys) ≡ first_true xs
unfolding any first_true
first_true-left [] ys h = clash h refl
first_true-left (true ∷ xs) ys h = refl
first_true-left (false ∷ xs) ys h = ap suc (first_true-left xs ys h)

first_true-right : (xs ys : List Bool) → some xs ≡ false → first_true (xs ++ ys) ≡ length xs + first_true ys
unfolding any first_true
first_true-right [] ys h = omega arith
first_true-right (true ∷ xs) ys h = clash refl h
first_true-right (false ∷ xs) ys h = omega (arith, first_true-right xs ys h)

-- the first of all, by the first row that has one; rows of n flags
pub first_true-concat : (n : ℕ) (rows : List (List Bool)) → Each (λ r. length r ≡ n) rows → some (upper rows) ≡ true
    → first_true (concat rows) ≡ n * first_true (upper rows) + first_true (get_or rows (first_true (upper rows)) [])
unfolding any concat first_true
first_true-concat n [] e h = clash h refl
first_true-concat n (r ∷ rows) e h = go (some r) refl (λ q. first_true-concat n rows e.1 q)
  where
    go : (b : Bool) → some r ≡ b
        → (some (upper rows) ≡ true → first_true (concat rows) ≡ n * first_true (upper rows) + first_true (get_or rows (first_true (upper rows)) []))
        → first_true (concat (r ∷ rows)) ≡ n * first_true (upper (r ∷ rows)) + first_true (get_or (r ∷ rows) (first_true (upper (r ∷ rows))) [])
    go true q ih = rw q (omega (arith, first_true-left r (concat rows) q))
    go false q ih = rw q (omega (arith, first_true-right r (concat rows) q, e.0, ih (rw q at h), mul-suc n (first_true (upper rows))))
