-- How often a number stands in a list: "in" is a count above 0, "not in" a count of 0, so that omega combines them.
use Rattle.std.specs.Prelude.{ℕ, zero, suc, ◌+◌, ◌≤◌, ◌<◌, Bool, true, false, cond, ◌≡◌, refl, ◌⊎◌, ◌≢◌, List, [], ◌∷◌, ◌++◌, map, get_or, length, eqb}
use Rattle.std.proofs.Common.{ap, ap₂, ◌∙◌, inl, inr, arith, ne_eqb}
use Rattle.std.proofs.Math.Decide.{dec_lt}
use Rattle.model.specs.Lists.{all, update, is_empty, first, tail, concat, from, count, member, without, swapped}
use Rattle.laws.specs.Tests.{clash, and-true, and_intro, same, other, decide, eqb-self}
use Rattle.laws.specs.Elements.{Each}
use Rattle.laws.specs.Sums.{sum, sum-update, sum-get_or}

-- ---- one element

-- y's share in the count of x
abbrev pub mark : ℕ → ℕ → ℕ
mark x y = cond (eqb x y) 1 0

pub mark-self : (x : ℕ) → mark x x ≡ 1
mark-self x = rw (eqb-self x)

pub mark-other : (x y : ℕ) → x ≢ y → mark x y ≡ 0
mark-other x y h = rw (ne_eqb x y h)

pub count-self : (x : ℕ) (xs : List ℕ) → count x (x ∷ xs) ≡ 1 + count x xs
unfolding count
count-self x xs = rw (eqb-self x)

-- what is in a list is its first or in the rest
pub count-cons : (x y : ℕ) (xs : List ℕ) → 0 < count x (y ∷ xs) → (x ≡ y) ⊎ (0 < count x xs)
unfolding count
count-cons x y xs h =
    elim (decide x y) [
      | same e t u ↦ inl e
      | other e t u ↦ inr (let k : 0 < 0 + count x xs = rw t at h in omega arith)
    ]

pub count-first : (x : ℕ) (xs : List ℕ) → is_empty xs ≡ false → count x xs ≡ mark x (first xs) + count x (tail xs)
unfolding count first is_empty tail
count-first x [] h = clash refl h
count-first x (y ∷ xs) h = refl

pub count-empty : (x : ℕ) (xs : List ℕ) → is_empty xs ≡ true → count x xs ≡ 0
unfolding count is_empty
count-empty x [] h = refl
count-empty x (y ∷ xs) h = clash h refl

-- ---- lists joined and changed

pub count-append : (x : ℕ) (xs ys : List ℕ) → count x (xs ++ ys) ≡ count x xs + count x ys
unfolding count
count-append x [] ys = omega arith
count-append x (y ∷ xs) ys = omega (arith, count-append x xs ys)

pub count-without : (x o : ℕ) (xs : List ℕ) → 0 < count o xs → count x (without o xs) + mark x o ≡ count x xs
unfolding count without
count-without x o [] h = absurd (omega arith)
count-without x o (y ∷ xs) h =
    elim (decide o y) [
      | same e t u ↦ rw (u, e) (omega arith)
      | other e t u ↦ rw u (omega (arith, count-without x o xs (omega (arith, rw t at h))))
    ]

pub count-swapped : (x o s : ℕ) (xs : List ℕ) → 0 < count o xs → count x (swapped o s xs) + mark x o ≡ count x xs + mark x s
unfolding count swapped
count-swapped x o s [] h = absurd (omega arith)
count-swapped x o s (y ∷ xs) h =
    elim (decide o y) [
      | same e t u ↦ rw (u, e) (omega arith)
      | other e t u ↦ rw u (omega (arith, count-swapped x o s xs (omega (arith, rw t at h))))
    ]

-- ---- lists of lists

pub count-concat : (x : ℕ) (xss : List (List ℕ)) → count x (concat xss) ≡ sum (count x) xss
unfolding concat count
count-concat x [] = refl
count-concat x (xs ∷ xss) = omega (arith, count-append x xs (concat xss), count-concat x xss)

pub count-concat-update : (xss : List (List ℕ)) (k x : ℕ) (f : List ℕ → List ℕ) → k < length xss
    → count x (concat (update xss k f)) + count x (get_or xss k []) ≡ count x (concat xss) + count x (f (get_or xss k []))
count-concat-update xss k x f h = omega (arith, count-concat x xss, count-concat x (update xss k f), sum-update (count x) [] xss k f h)

pub count-concat-get_or : (xss : List (List ℕ)) (k x : ℕ) → count x (get_or xss k []) ≤ count x (concat xss)
unfolding count
count-concat-get_or xss k x = omega (arith, count-concat x xss, sum-get_or (count x) [] xss k refl)

pub each_below : (n : ℕ) (xss : List (List ℕ)) → Each (λ xs. (x : ℕ) → 0 < count x xs → x < n) xss → (x : ℕ) → 0 < count x (concat xss) → x < n
unfolding concat count
each_below n [] e x h = absurd (omega arith)
each_below n (xs ∷ xss) e x h =
    elim (dec_lt 0 (count x xs)) [
      | yes p ↦ e.0 x p
      | no p ↦ each_below n xss e.1 x (omega (arith, count-append x xs (concat xss)))
    ]

-- ---- from

count-from-before : (x a n : ℕ) → x < a → count x (from a n) ≡ 0
unfolding count from
count-from-before x a zero h = refl
count-from-before x a (suc n) h = rw (ne_eqb x a (λ q. omega arith)) (omega (arith, count-from-before x (suc a) n (omega arith)))

pub count-from : (x a n : ℕ) → a ≤ x → x < a + n → count x (from a n) ≡ 1
unfolding count from
count-from x a zero h k = absurd (omega arith)
count-from x a (suc n) h k =
    elim (decide x a) [
      | same e t u ↦ rw t (omega (arith, count-from-before x (suc a) n (omega arith)))
      | other e t u ↦ rw t (omega (arith, count-from x (suc a) n (omega arith) (omega arith)))
    ]

pub count-from-below : (x a n : ℕ) → 0 < count x (from a n) → x < a + n
unfolding count from
count-from-below x a zero h = absurd (omega arith)
count-from-below x a (suc n) h =
    elim (decide x a) [
      | same e t u ↦ omega arith
      | other e t u ↦ let k : 0 < 0 + count x (from (suc a) n) = rw t at h in omega (arith, count-from-below x (suc a) n (omega arith))
    ]

-- ---- tests of members

pub member-true : (x : ℕ) (xs : List ℕ) → 0 < count x xs → member x xs ≡ true
unfolding count member
member-true x [] h = absurd (omega arith)
member-true x (y ∷ xs) h =
    elim (decide x y) [
      | same e t u ↦ rw t
      | other e t u ↦ rw t (member-true x xs (let k : 0 < 0 + count x xs = rw t at h in omega arith))
    ]

pub member-false : (x : ℕ) (xs : List ℕ) → count x xs ≡ 0 → member x xs ≡ false
unfolding count member
member-false x [] h = refl
member-false x (y ∷ xs) h =
    elim (decide x y) [
      | same e t u ↦ absurd (let k : 1 + count x xs ≡ 0 = rw t at h in omega arith)
      | other e t u ↦ rw t (member-false x xs (let k : 0 + count x xs ≡ 0 = rw t at h in omega arith))
    ]

pub all-count : (p : ℕ → Bool) (xs : List ℕ) → all p xs ≡ true → (x : ℕ) → 0 < count x xs → p x ≡ true
unfolding all count
all-count p [] h x b = absurd (omega arith)
all-count p (y ∷ xs) h x b = go (count-cons x y xs b) (λ k. all-count p xs (and-true (p y) (all p xs) h).1 x k)
  where
    go : (x ≡ y) ⊎ (0 < count x xs) → (0 < count x xs → p x ≡ true) → p x ≡ true
    go (inl e) ih = ap p e ∙ (and-true (p y) (all p xs) h).0
    go (inr k) ih = ih k

pub all-count-intro : (p : ℕ → Bool) (xs : List ℕ) → ((x : ℕ) → 0 < count x xs → p x ≡ true) → all p xs ≡ true
unfolding all count
all-count-intro p [] h = refl
all-count-intro p (x ∷ xs) h = and_intro (p x) (all p xs) (h x (omega (arith, count-self x xs))) (all-count-intro p xs (λ y b. h y (omega arith)))

-- two functions that agree on the members of a list
pub map-alike : (f g : ℕ → ℕ) (xs : List ℕ) → ((x : ℕ) → 0 < count x xs → f x ≡ g x) → map f xs ≡ map g xs
unfolding count
map-alike f g [] h = refl
map-alike f g (x ∷ xs) h = ap₂ ◌∷◌ (h x (rw (eqb-self x) (omega arith))) (map-alike f g xs (λ y b. h y (omega arith)))
