-- First, last and successor of the elements of lists without repetition: what links hold, and what they hold after lists are joined.
use Rattle.std.specs.Prelude.{ℕ, zero, suc, ◌+◌, ◌≤◌, ◌<◌, cond, ◌≡◌, refl, ◌≢◌, List, [], ◌∷◌, ◌++◌, get_or, length, eqb}
use Rattle.std.proofs.Common.{ap, sym, ◌∙◌, arith, length-append, ne_eqb}
use Rattle.std.proofs.Math.Decide.{dec_lt}
use Rattle.model.specs.Word.{none}
use Rattle.model.specs.Lists.{update, is_empty, first, last, count, successor, successor_in, concat}
use Rattle.laws.specs.Tests.{same, other, decide, eqb-self}
use Rattle.laws.specs.Elements.{Each}
use Rattle.laws.specs.Counts.{count-append, count-concat-get_or}

-- ---- one list

pub successor-out : (xs : List ℕ) (i d : ℕ) → count i xs ≡ 0 → successor xs i d ≡ d
unfolding count successor
successor-out [] i d h = refl
successor-out (x ∷ xs) i d h =
    elim (decide x i) [
      | same e t u ↦ absurd (let k : 1 + count i xs ≡ 0 = rw u at h in omega arith)
      | other e t u ↦ rw t (successor-out xs i d (let k : 0 + count i xs ≡ 0 = rw u at h in omega arith))
    ]

-- the default does not matter where i is in xs
pub successor-in : (xs : List ℕ) (i d e : ℕ) → 0 < count i xs → successor xs i d ≡ successor xs i e
unfolding count successor
successor-in [] i d e h = absurd (omega arith)
successor-in (x ∷ xs) i d e h =
    elim (decide x i) [
      | same q t u ↦ rw t
      | other q t u ↦ rw t (successor-in xs i d e (let k : 0 < 0 + count i xs = rw u at h in omega arith))
    ]

pub count-last-cons : (x : ℕ) (xs : List ℕ) → 0 < count (last (x ∷ xs)) (x ∷ xs)
unfolding count last
count-last-cons x [] = rw (eqb-self x) (omega arith)
count-last-cons x (y ∷ xs) = omega (arith, count-last-cons y xs)

pub count-last : (xs : List ℕ) (i : ℕ) → i ≢ none → i ≡ last xs → 0 < count i xs
unfolding last
count-last [] i n e = absurd (n e)
count-last (x ∷ xs) i n e = rw e (count-last-cons x xs)

-- ---- lists joined

pub first-append : (xs ys : List ℕ) → first (xs ++ ys) ≡ cond (is_empty xs) (first ys) (first xs)
unfolding first is_empty
first-append [] ys = refl
first-append (x ∷ xs) ys = refl

pub last-append : (xs ys : List ℕ) → last (xs ++ ys) ≡ cond (is_empty ys) (last xs) (last ys)
unfolding is_empty last
last-append [] [] = refl
last-append [] (y ∷ ys) = refl
last-append (x ∷ []) [] = refl
last-append (x ∷ []) (y ∷ ys) = refl
last-append (x ∷ (z ∷ xs)) ys = last-append (z ∷ xs) ys

pub last_snoc : (xs : List ℕ) (o : ℕ) → last (xs ++ (o ∷ [])) ≡ o
unfolding is_empty last
last_snoc xs o = last-append xs (o ∷ [])

-- i of the first list, or of neither
pub successor-append : (xs ys : List ℕ) (i d : ℕ) → i ≢ none → count i xs ≤ 1 → count i ys ≡ 0
    → successor (xs ++ ys) i d ≡ cond (eqb i (last xs)) (first ys) (successor xs i d)
unfolding count first last successor
successor-append [] ys i d n u v = successor-out ys i d v ∙ sym (rw (ne_eqb i none n))
successor-append (x ∷ []) ys i d n u v =
    elim (decide x i) [
      | same e t t' ↦ rw (t, t')
      | other e t t' ↦ rw (t, t') (successor-out ys i d v)
    ]
successor-append (x ∷ (y ∷ xs)) ys i d n u v =
    elim (decide x i) [
      | same e t t' ↦
          let u' : 1 + count i (y ∷ xs) ≤ 1 = rw t' at u in
          rw (t, ne_eqb i (last (y ∷ xs)) (λ r. let k : 0 < count i (y ∷ xs) = count-last (y ∷ xs) i n r in omega arith))
      | other e t t' ↦ rw t (successor-append (y ∷ xs) ys i d n (let u' : 0 + count i (y ∷ xs) ≤ 1 = rw t' at u in omega arith) v)
    ]

-- i not of the first list
pub successor-append-right : (xs ys : List ℕ) (i d : ℕ) → count i xs ≡ 0 → successor (xs ++ ys) i d ≡ successor ys i d
unfolding count successor
successor-append-right [] ys i d h = refl
successor-append-right (x ∷ xs) ys i d h =
    elim (decide x i) [
      | same e t u ↦ absurd (let k : 1 + count i xs ≡ 0 = rw u at h in omega arith)
      | other e t u ↦ rw t (successor-append-right xs ys i d (omega arith))
    ]

-- ---- lists of lists

-- where the changed list answers for i as before, so do all
pub successor_in-update : (xss : List (List ℕ)) (k i : ℕ) (f : List ℕ → List ℕ) (d : ℕ)
    → ((e : ℕ) → successor (f (get_or xss k [])) i e ≡ successor (get_or xss k []) i e) → successor_in (update xss k f) i d ≡ successor_in xss i d
unfolding successor_in update
successor_in-update [] k i f d h = refl
successor_in-update (xs ∷ xss) zero i f d h = h _
successor_in-update (xs ∷ xss) (suc k) i f d h = ap (successor xs i) (successor_in-update xss k i f d h)

-- i is in list k alone: that list answers
pub successor_in-one : (xss : List (List ℕ)) (k i d : ℕ) → 0 < count i (get_or xss k []) → count i (concat xss) ≤ 1
    → successor_in xss i d ≡ successor (get_or xss k []) i none
unfolding concat count successor_in
successor_in-one [] k i d h u = absurd (omega arith)
successor_in-one (xs ∷ xss) zero i d h u = successor-in xs i _ none h
successor_in-one (xs ∷ xss) (suc k) i d h u =
    successor-out xs i _ (omega (arith, count-append i xs (concat xss), count-concat-get_or xss k i))
    ∙ successor_in-one xss k i d h (omega (arith, count-append i xs (concat xss)))

pub successor_in-out : (xss : List (List ℕ)) (i d : ℕ) → count i (concat xss) ≡ 0 → successor_in xss i d ≡ d
unfolding concat successor_in
successor_in-out [] i d h = refl
successor_in-out (xs ∷ xss) i d h =
    successor-out xs i _ (omega (arith, count-append i xs (concat xss))) ∙ successor_in-out xss i d (omega (arith, count-append i xs (concat xss)))

-- lists that answer by f, while they are not too long
pub successor_in-each : (f : ℕ → ℕ) (n : ℕ) (xss : List (List ℕ)) → Each (λ xs. length xs ≤ n → (i d : ℕ) → 0 < count i xs → successor xs i d ≡ f i) xss
    → length (concat xss) ≤ n → (i d : ℕ) → 0 < count i (concat xss) → successor_in xss i d ≡ f i
unfolding concat count successor_in
successor_in-each f n [] e l i d h = absurd (omega arith)
successor_in-each f n (xs ∷ xss) e l i d h =
    elim (dec_lt 0 (count i xs)) [
      | yes p ↦ e.0 (omega (arith, length-append xs (concat xss))) i _ p
      | no p ↦
          successor-out xs i _ (omega arith)
          ∙ successor_in-each f n xss e.1 (omega (arith, length-append xs (concat xss))) i d (omega (arith, count-append i xs (concat xss)))
    ]
