-- Lists by their elements: `update`, `from`, and lists made of blocks.
use Prim.Native.Nat.{ℕ, zero, suc, ◌+◌, ◌≤◌, ◌<◌}
use Rattle.std.specs.Prelude.{cond, ◌≡◌, ◌≢◌, get_or, length, set, take, replicate, eqb}
use Rattle.std.proofs.Math.Path.{refl, ap}
use Rattle.std.proofs.Common.{sym, ◌∙◌, get_or-append-add, get_or-set_same, get_or-set_other, get_or-take, ext_get_or, length-take-le, eq-eqb, ne_eqb}
use mathlib.Core.List.{List, [], ◌∷◌, ◌++◌, map}
use native.Mathlib.Omega.{arith}
use Rattle.std.proofs.lemmas.List.{length-map}
use Rattle.model.specs.Lists.{update, concat_map, from, last}
use Rattle.laws.specs.Tests.{same, other, decide}
use Rattle.laws.specs.Elements.{get_or_map}

-- ---- update

module _ {A : Type 0} where
  pub length-update : (xs : List A) (i : ℕ) (f : A → A) → length (update xs i f) ≡ length xs
  unfolding update
  length-update [] i f = refl
  length-update (x ∷ xs) zero f = refl
  length-update (x ∷ xs) (suc i) f = ap suc (length-update xs i f)

  -- what holds of each element, and of the j-th once changed, holds of each after the change
  pub update-cases : (d : A) (P : ℕ → A → Type 0) (xs : List A) (j : ℕ) (f : A → A)
      → ((i : ℕ) → P i (get_or xs i d)) → P j (f (get_or xs j d)) → (i : ℕ) → P i (get_or (update xs j f) i d)
  unfolding update
  update-cases d P [] j f h k i = h i
  update-cases d P (x ∷ xs) zero f h k zero = k
  update-cases d P (x ∷ xs) zero f h k (suc i) = h (suc i)
  update-cases d P (x ∷ xs) (suc j) f h k zero = h zero
  update-cases d P (x ∷ xs) (suc j) f h k (suc i) = update-cases d (λ (n : ℕ). P (suc n)) xs j f (λ n. h (suc n)) k i

  pub get_or-update-same : (d : A) (xs : List A) (j : ℕ) (f : A → A) → j < length xs → get_or (update xs j f) j d ≡ f (get_or xs j d)
  unfolding update
  get_or-update-same d [] j f h = absurd (omega arith)
  get_or-update-same d (x ∷ xs) zero f h = refl
  get_or-update-same d (x ∷ xs) (suc j) f h = get_or-update-same d xs j f (omega arith)

  pub get_or-update-other : (d : A) (xs : List A) (j : ℕ) (f : A → A) (i : ℕ) → i ≢ j → get_or (update xs j f) i d ≡ get_or xs i d
  get_or-update-other d xs j f = update-cases d (λ (i : ℕ) (x : A). i ≢ j → x ≡ get_or xs i d) xs j f (λ i n. refl) (λ n. absurd (n refl))

  pub get_or-update : (xs : List A) (i j : ℕ) (f : A → A) (d : A) → i < length xs → get_or (update xs i f) j d ≡ cond (eqb j i) (f (get_or xs i d)) (get_or xs j d)
  get_or-update xs i j f d h =
      elim (decide j i) [
        | same e t u ↦ rw (t, e) (get_or-update-same d xs i f h)
        | other e t u ↦ rw t (get_or-update-other d xs i f j e)
      ]

  pub get_or_set : (xs : List A) (i j : ℕ) (v d : A) → i < length xs → get_or (set xs i v) j d ≡ cond (eqb j i) v (get_or xs j d)
  get_or_set xs i j v d h =
      elim (decide j i) [
        | same e t u ↦ rw (t, e) (get_or-set_same xs i v d h)
        | other e t u ↦ rw t (get_or-set_other xs i j v d e)
      ]

  -- what holds of each element, and of v at j, holds of each once v is set at j
  pub set_cases : (d : A) (P : ℕ → A → Type 0) (xs : List A) (j : ℕ) (v : A) → ((i : ℕ) → P i (get_or xs i d)) → P j v → (i : ℕ) → P i (get_or (set xs j v) i d)
  set_cases d P [] j v h k i = h i
  set_cases d P (x ∷ xs) zero v h k zero = k
  set_cases d P (x ∷ xs) zero v h k (suc i) = h (suc i)
  set_cases d P (x ∷ xs) (suc j) v h k zero = h zero
  set_cases d P (x ∷ xs) (suc j) v h k (suc i) = set_cases d (λ (n : ℕ). P (suc n)) xs j v (λ n. h (suc n)) k i

  pub update-update : (xs : List A) (i : ℕ) (f g : A → A) → update (update xs i f) i g ≡ update xs i (λ (x : A). g (f x))
  unfolding update
  update-update [] i f g = refl
  update-update (x ∷ xs) zero f g = refl
  update-update (x ∷ xs) (suc i) f g = ap (λ (r : List A). x ∷ r) (update-update xs i f g)

  pub get_or-replicate-default : (x : A) (n i : ℕ) → get_or (replicate n x) i x ≡ x
  get_or-replicate-default x zero i = refl
  get_or-replicate-default x (suc n) zero = refl
  get_or-replicate-default x (suc n) (suc i) = get_or-replicate-default x n i

  -- a change that commutes with g
  pub map-update : (g f : A → A) (xs : List A) (j : ℕ) → ((a : A) → g (f a) ≡ f (g a)) → map g (update xs j f) ≡ update (map g xs) j f
  unfolding update
  map-update g f [] j h = refl
  map-update g f (x ∷ xs) zero h = ap (λ (a : A). a ∷ map g xs) (h x)
  map-update g f (x ∷ xs) (suc j) h = ap (λ (r : List A). g x ∷ r) (map-update g f xs j h)

-- ---- from

pub length_from : (a n : ℕ) → length (from a n) ≡ n
unfolding from
length_from a zero = refl
length_from a (suc n) = ap suc (length_from (suc a) n)

pub get_or-from : (a n i d : ℕ) → i < n → get_or (from a n) i d ≡ a + i
unfolding from
get_or-from a zero i d h = absurd (omega arith)
get_or-from a (suc n) zero d h = omega arith
get_or-from a (suc n) (suc i) d h = omega (arith, get_or-from (suc a) n i d (omega arith))

-- the last of n + 1 numbers
pub last-from : (a n : ℕ) → last (from a (suc n)) ≡ a + n
unfolding last from
last-from a zero = omega arith
last-from a (suc n) = last-from (suc a) n ∙ omega arith

module _ {A : Type 0} where
  pub map-constant : (g : ℕ → A) (a n : ℕ) (v : A) → ((k : ℕ) → g k ≡ v) → replicate n v ≡ map g (from a n)
  unfolding from
  map-constant g a zero v h = refl
  map-constant g a (suc n) v h = rw (h a) (ap (λ (r : List A). v ∷ r) (map-constant g (suc a) n v h))

  pub length-map-from : (g : ℕ → A) (a n : ℕ) → length (map g (from a n)) ≡ n
  length-map-from g a n = length-map (from a n) g ∙ length_from a n

  pub get_or-map-from : (g : ℕ → A) (a n i : ℕ) (d : A) → i < n → get_or (map g (from a n)) i d ≡ g (a + i)
  get_or-map-from g a n i d h = get_or_map 0 d g (from a n) i (omega (arith, length_from a n)) ∙ ap g (get_or-from a n i 0 h)

  -- the same from 0 on
  pub get_or-map-below : (g : ℕ → A) (n i : ℕ) (d : A) → i < n → get_or (map g (from 0 n)) i d ≡ g i
  get_or-map-below g n i d h = get_or-map-from g 0 n i d h ∙ ap g (omega arith)

  pub map-from-suc : (g : ℕ → A) (n : ℕ) → map g (from 0 (suc n)) ≡ map g (from 0 n) ++ (g n ∷ [])
  unfolding from
  map-from-suc g n = go 0 n ∙ ap (λ (k : ℕ). map g (from 0 n) ++ (g k ∷ [])) (omega arith)
    where
      go : (a n : ℕ) → map g (from a (suc n)) ≡ map g (from a n) ++ (g (a + n) ∷ [])
      go a zero = ap (λ (k : ℕ). g k ∷ []) (omega arith)
      go a (suc n) = ap (λ (r : List A). g a ∷ r) (go (suc a) n ∙ ap (λ (k : ℕ). map g (from (suc a) n) ++ (g k ∷ [])) (omega arith))

  -- two functions that agree there
  pub map-from-alike : (f g : ℕ → A) (a n : ℕ) → ((k : ℕ) → a ≤ k → k < a + n → f k ≡ g k) → map f (from a n) ≡ map g (from a n)
  unfolding from
  map-from-alike f g a zero e = refl
  map-from-alike f g a (suc n) e = rw (e a (omega arith) (omega arith), map-from-alike f g (suc a) n (λ k p q. e k (omega arith) (omega arith)))

  pub map-map-from : {B : Type 0} (h : A → B) (g : ℕ → A) (a n : ℕ) → map h (map g (from a n)) ≡ map (λ (k : ℕ). h (g k)) (from a n)
  unfolding from
  map-map-from h g a zero = refl
  map-map-from h g a (suc n) = rw (map-map-from h g (suc a) n)

  -- a list is what is read of it, element by element
  pub map-from-get_or : (f : ℕ → A) (d : A) (xs : List A) (n : ℕ) → length xs ≡ n → ((i : ℕ) → i < n → f i ≡ get_or xs i d) → map f (from 0 n) ≡ xs
  map-from-get_or f d xs n l h =
      ext_get_or d (map f (from 0 n)) xs (length-map-from f 0 n ∙ sym l)
      (λ i b. let c : i < n = omega (arith, length-map-from f 0 n) in get_or-map-below f n i d c ∙ h i c)

  -- two functions that differ at one place
  pub map-from-set : (g g' : ℕ → A) (a n h : ℕ) (v : A) → h < n → ((k : ℕ) → g' k ≡ cond (eqb k (a + h)) v (g k))
      → map g' (from a n) ≡ set (map g (from a n)) h v
  unfolding from
  map-from-set g g' a zero h v b e = absurd (omega arith)
  map-from-set g g' a (suc n) zero v b e =
      let p : g' a ≡ v = e a ∙ rw (eq-eqb a (a + 0) (omega arith)) in
      rw p (ap (λ (r : List A). v ∷ r) (map-from-alike g' g (suc a) n (λ k l m. e k ∙ rw (ne_eqb k (a + 0) (λ q. omega arith)))))
  map-from-set g g' a (suc n) (suc h) v b e =
      let p : g' a ≡ g a = e a ∙ rw (ne_eqb a (a + suc h) (λ q. omega arith)) in
      let q : a + suc h ≡ suc a + h = omega arith in
      rw (p, map-from-set g g' (suc a) n h v (omega arith) (λ k. e k ∙ rw q))

pub take-map-from : (m : List ℕ) (n : ℕ) → n ≤ length m → take n m ≡ map (λ (i : ℕ). get_or m i 0) (from 0 n)
take-map-from m n h = sym (map-from-get_or (λ (i : ℕ). get_or m i 0) 0 (take n m) n (length-take-le n m h) (λ i b. sym (get_or-take n m i 0 b)))

-- ---- lists made of parts

-- an element of the second of two parts, by an equation on its place
pub get_or-right : (xs ys : List ℕ) (k i : ℕ) → k ≡ length xs + i → get_or (xs ++ ys) k 0 ≡ get_or ys i 0
get_or-right xs ys k i e = rw e (get_or-append-add xs ys i 0)

pub concat_map-single : {A : Type 0} (f : A → ℕ) (xs : List A) → concat_map (λ (x : A). f x ∷ []) xs ≡ map f xs
unfolding concat_map
concat_map-single f [] = refl
concat_map-single f (x ∷ xs) = ap (λ (r : List ℕ). f x ∷ r) (concat_map-single f xs)
