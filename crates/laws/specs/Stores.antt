-- Laws of lists: runs of stores (the library's `sets`), and stores in a part.
use Rattle.std.specs.Prelude.{ℕ, zero, suc, ◌+◌, ◌<◌, ◌≤◌, ◌≡◌, refl, List, [], ◌∷◌, ◌++◌, length, get_or, set, take, drop}
use Rattle.std.proofs.Common.{ap, ap₂, sym, ◌∙◌, arith, take-append-drop, length-set, set-set, drop-set-lt, get_or-take, get_or-drop}
use Rattle.std.proofs.lemmas.List.Edits.{sets}
use Rattle.std.proofs.lemmas.List.{set_comm, take-set-le, drop-set-add}
use Rattle.std.proofs.Math.Seq.{take-set-lt}

module _ {A : Type 0} where
  -- ---- runs of stores

  -- a run, then the run after it
  pub sets-append : (xs ys m : List A) (a : ℕ) → sets (sets m a xs) (a + length xs) ys ≡ sets m a (xs ++ ys)
  sets-append [] ys m a = let e : a + 0 ≡ a = omega arith in rw e
  sets-append (x ∷ xs) ys m a =
      let e : a + suc (length xs) ≡ suc a + length xs = omega arith in
      ap (λ (i : ℕ). sets (sets (set m a x) (suc a) xs) i ys) e ∙ sets-append xs ys (set m a x) (suc a)

  -- a store below a run of stores
  pub set-sets-below : (ys m : List A) (i b : ℕ) (x : A) → i < b → set (sets m b ys) i x ≡ sets (set m i x) b ys
  set-sets-below [] m i b x h = refl
  set-sets-below (y ∷ ys) m i b x h =
      set-sets-below ys (set m b y) i (suc b) x (omega arith)
      ∙ ap (λ (l : List A). sets l (suc b) ys) (set_comm m b i y x (λ e. omega arith))

  -- a store within a run of stores
  pub set-sets : (xs m : List A) (a k : ℕ) (x : A) → k < length xs → set (sets m a xs) (a + k) x ≡ sets m a (set xs k x)
  set-sets [] m a k x h = absurd (omega arith)
  set-sets (y ∷ ys) m a zero x h =
      let e : a + 0 ≡ a = omega arith in
      rw e (set-sets-below ys (set m a y) a (suc a) x (omega arith) ∙ ap (λ (l : List A). sets l (suc a) ys) (set-set m a y x))
  set-sets (y ∷ ys) m a (suc k) x h =
      let e : a + suc k ≡ suc a + k = omega arith in
      rw e (set-sets ys (set m a y) (suc a) k x (omega arith))

  -- a run of stores within a run of stores
  pub sets-sets : (ys xs m : List A) (a k : ℕ) → k + length ys ≤ length xs → sets (sets m a xs) (a + k) ys ≡ sets m a (sets xs k ys)
  sets-sets [] xs m a k h = refl
  sets-sets (y ∷ ys) xs m a k h =
      let e : suc (a + k) ≡ a + suc k = omega arith in
      ap (λ (l : List A). sets l (suc (a + k)) ys) (set-sets xs m a k y (omega arith))
      ∙ ap (λ (i : ℕ). sets (sets m a (set xs k y)) i ys) e
      ∙ sets-sets ys (set xs k y) m a (suc k) (let l = length-set xs k y in omega arith)

  -- ---- a part: the k elements from a on, changed, in their place again

  pub get_or_part : (m : List A) (a k p : ℕ) (d : A) → p < k → get_or (take k (drop a m)) p d ≡ get_or m (a + p) d
  get_or_part m a k p d h = get_or-take k (drop a m) p d h ∙ get_or-drop a m p d

  -- the part of a list with a store in the part
  part-of-set : (m : List A) (a k p : ℕ) (x : A) → p < k → take k (drop a (set m (a + p) x)) ≡ set (take k (drop a m)) p x
  part-of-set m a k p x h = ap (take k) (drop-set-add a m p x) ∙ take-set-lt k (drop a m) p x h

  rest-of-set : (m : List A) (a k p : ℕ) (x : A) → p < k → drop k (drop a (set m (a + p) x)) ≡ drop k (drop a m)
  rest-of-set m a k p x h = ap (drop k) (drop-set-add a m p x) ∙ drop-set-lt k (drop a m) p x h

  pub part-sets : (xs m : List A) (a k p : ℕ) → p + length xs ≤ k → take a m ++ (sets (take k (drop a m)) p xs ++ drop k (drop a m)) ≡ sets m (a + p) xs
  part-sets [] m a k p h = ap (λ (l : List A). take a m ++ l) (take-append-drop k (drop a m)) ∙ take-append-drop a m
  part-sets (x ∷ xs) m a k p h =
      let e : a + suc p ≡ suc (a + p) = omega arith in
      ap₂ ◌++◌ (sym (take-set-le a m (a + p) x (omega arith)))
      (ap₂ ◌++◌ (ap (λ (l : List A). sets l (suc p) xs) (sym (part-of-set m a k p x (omega arith)))) (sym (rest-of-set m a k p x (omega arith))))
      ∙ part-sets xs (set m (a + p) x) a k (suc p) (omega arith) ∙ ap (λ (i : ℕ). sets (set m (a + p) x) i xs) e
