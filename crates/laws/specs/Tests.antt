-- Tests: Booleans by cases, tests of numbers, and tests of all elements of a list.
use Prim.Native.Nat.{ℕ, zero, suc, ◌+◌, ◌<◌}
use Rattle.std.specs.Prelude.{◌≡◌, ◌⊎◌, ◌≢◌, Bool, not, cond, ◌&&◌, ◌||◌, get_or, T, eqb}
use Rattle.std.proofs.Math.Path.{refl, sym, ap}
use Rattle.std.proofs.Common.{ap₂, ◌∙◌, inl, inr, arith, eq-eqb, ne_eqb, eqb-true}
use Rattle.std.proofs.Math.Bool.{true, false}
use mathlib.Core.List.{List, [], ◌∷◌, map}
use Rattle.std.proofs.lemmas.Bool.{eqb-false}
use Rattle.model.specs.Lists.{all, every, same as same_list, from}

infixr 3 ◌&◌
-- a pair: a long list of facts, one a line
pub ◌&◌ : {A B : Type 0} → A → B → A × B
a & b = (a, b)

-- ---- Booleans

pub bool_cases : (b : Bool) → (b ≡ true) ⊎ (b ≡ false)
bool_cases true = inl refl
bool_cases false = inr refl

-- a test does not hold and fail
pub clash {ℓ} : {C : Type ℓ} {b : Bool} → b ≡ true → b ≡ false → C
clash p q = let z : ◌≡◌ {A = ℕ} 0 1 = cc in absurd (omega arith)

pub unlike : false ≡ true → ⊥
unlike e = clash e refl

-- a test that cannot hold fails
pub refuted : (b : Bool) → (b ≡ true → ⊥) → false ≡ b
refuted true h = absurd (h refl)
refuted false h = refl

-- two tests that hold together are equal
pub iff-eq : (a b : Bool) → (a ≡ true → b ≡ true) → (b ≡ true → a ≡ true) → a ≡ b
iff-eq true b f g = sym (f refl)
iff-eq false true f g = g refl
iff-eq false false f g = refl

pub true-T : (b : Bool) → b ≡ true → T b
true-T true h = tt
true-T false h = clash h refl

pub not-not : (b : Bool) → not (not b) ≡ b
not-not true = refl
not-not false = refl

pub and-true : (a b : Bool) → (a && b) ≡ true → (a ≡ true) × (b ≡ true)
and-true true b h = (refl, h)
and-true false b h = clash h refl

pub and_intro : (a b : Bool) → a ≡ true → b ≡ true → (a && b) ≡ true
and_intro true b p q = q
and_intro false b p q = p

pub and_assoc : (a b c : Bool) → ((a && b) && c) ≡ (a && (b && c))
and_assoc true b c = refl
and_assoc false b c = refl

pub and-true-right : (a : Bool) → (a && true) ≡ a
and-true-right true = refl
and-true-right false = refl

pub and-false-right : (a : Bool) → (a && false) ≡ false
and-false-right true = refl
and-false-right false = refl

pub or_cases : (a b : Bool) {A : Type 0} → (a || b) ≡ true → (a ≡ true → A) → (b ≡ true → A) → A
or_cases true b e f g = f refl
or_cases false b e f g = g e

pub or_left : (a b : Bool) → a ≡ true → (a || b) ≡ true
or_left true b p = refl
or_left false b p = clash p refl

pub or_right : (a b : Bool) → b ≡ true → (a || b) ≡ true
or_right true b p = refl
or_right false b p = p

-- the second where the first fails
pub or_else : (a b : Bool) → (a || b) ≡ true → a ≡ false → b ≡ true
or_else true b h e = clash refl e
or_else false b h e = h

pub or-else-intro : (a b : Bool) → (a ≡ false → b ≡ true) → (a || b) ≡ true
or-else-intro true b f = refl
or-else-intro false b f = f refl

module _ {ℓ κ} {A : Type ℓ} (P : A → Type κ) where
  -- what holds of both branches, each with its test, holds of the choice
  pub cond_cases : (b : Bool) {x y : A} → (b ≡ true → P x) → (b ≡ false → P y) → P (cond b x y)
  cond_cases true f g = f refl
  cond_cases false f g = g refl

-- ---- two numbers, equal or not, with what the test says either way round

pub data Same (a b : ℕ) : Type 0 where
  same : a ≡ b → eqb a b ≡ true → eqb b a ≡ true → Same a b
  other : a ≢ b → eqb a b ≡ false → eqb b a ≡ false → Same a b

pub decide : (a b : ℕ) → Same a b
decide a b = go (eqb a b) refl
  where
    go : (t : Bool) → eqb a b ≡ t → Same a b
    go true e = let q = eqb-true a b e in same q e (eq-eqb b a (sym q))
    go false e = let q = eqb-false a b e in other q e (ne_eqb b a (λ r. q (sym r)))

-- the same as a sum
pub same_or : (a b : ℕ) → (a ≡ b) ⊎ ((a ≢ b) × (eqb a b ≡ false))
same_or a b =
    elim (decide a b) [
      | same e t u ↦ inl e
      | other e t u ↦ inr (e, t)
    ]

pub eqb-self : (n : ℕ) → eqb n n ≡ true
eqb-self n = eq-eqb n n refl

-- ---- every, all

-- what `every` says, a field a test
abbrev pub Every : List Bool → Type 0
Every [] = Unit {0}
Every (b ∷ bs) = (b ≡ true) × Every bs

pub every_true : (bs : List Bool) → every bs ≡ true → Every bs
unfolding every
every_true [] e = tt
every_true (b ∷ bs) e = let s = and-true b (every bs) e in (s.0, every_true bs s.1)

pub every-intro : (bs : List Bool) → Every bs → every bs ≡ true
unfolding every
every-intro [] h = refl
every-intro (b ∷ bs) h = and_intro b (every bs) h.0 (every-intro bs h.1)

pub all_from : (p : ℕ → Bool) (a n i : ℕ) → all p (from a n) ≡ true → i < n → p (a + i) ≡ true
unfolding all from
all_from p a zero i e h = absurd (omega arith)
all_from p a (suc n) zero e h = ap p (omega arith) ∙ (and-true (p a) (all p (from (suc a) n)) e).0
all_from p a (suc n) (suc i) e h = ap p (omega arith) ∙ all_from p (suc a) n i (and-true (p a) (all p (from (suc a) n)) e).1 (omega arith)

pub all-below : (p : ℕ → Bool) (n i : ℕ) → all p (from 0 n) ≡ true → i < n → p i ≡ true
all-below p n i e h = ap p (omega arith) ∙ all_from p 0 n i e h

pub all-from-intro : (p : ℕ → Bool) (a n : ℕ) → ((i : ℕ) → i < n → p (a + i) ≡ true) → all p (from a n) ≡ true
unfolding all from
all-from-intro p a zero h = refl
all-from-intro p a (suc n) h =
    and_intro (p a) (all p (from (suc a) n)) (ap p (omega arith) ∙ h 0 (omega arith))
    (all-from-intro p (suc a) n (λ i b. ap p (omega arith) ∙ h (suc i) (omega arith)))

pub all-below-intro : (p : ℕ → Bool) (n : ℕ) → ((i : ℕ) → i < n → p i ≡ true) → all p (from 0 n) ≡ true
all-below-intro p n h = all-from-intro p 0 n (λ i b. ap p (omega arith) ∙ h i b)

module _ {A : Type 0} (d : A) (p : A → Bool) where
  pub all_get_d : (xs : List A) → p d ≡ true → all p xs ≡ true → (i : ℕ) → p (get_or xs i d) ≡ true
  unfolding all
  all_get_d [] z h i = z
  all_get_d (x ∷ xs) z h zero = (and-true (p x) (all p xs) h).0
  all_get_d (x ∷ xs) z h (suc i) = all_get_d xs z (and-true (p x) (all p xs) h).1 i

  pub all-get_or-intro : (xs : List A) → ((i : ℕ) → p (get_or xs i d) ≡ true) → all p xs ≡ true
  unfolding all
  all-get_or-intro [] h = refl
  all-get_or-intro (x ∷ xs) h = and_intro (p x) (all p xs) (h 0) (all-get_or-intro xs (λ i. h (suc i)))

-- of a mapped list
module _ {A : Type 0} (p : A → Bool) (f : ℕ → A) where
  all_map : (xs : List ℕ) → all p (map f xs) ≡ all (λ (i : ℕ). p (f i)) xs
  unfolding all
  all_map [] = refl
  all_map (x ∷ xs) = ap (λ (b : Bool). p (f x) && b) (all_map xs)

  pub all-map-below : (n i : ℕ) → all p (map f (from 0 n)) ≡ true → i < n → p (f i) ≡ true
  all-map-below n i h = all-below (λ (i : ℕ). p (f i)) n i (sym (all_map (from 0 n)) ∙ h)

  pub all-map-intro : (n : ℕ) → ((i : ℕ) → i < n → p (f i) ≡ true) → all p (map f (from 0 n)) ≡ true
  all-map-intro n h = all_map (from 0 n) ∙ all-below-intro (λ (i : ℕ). p (f i)) n h

-- tests of each number: all tests of each, and each test of all
module _ (is : List ℕ) where
  all-and : (f g : ℕ → Bool) → (all f is && all g is) ≡ all (λ (i : ℕ). f i && g i) is
  unfolding all
  all-and f g = go is
    where
      turn : (a b c d : Bool) → ((a && b) && (c && d)) ≡ ((a && c) && (b && d))
      turn true true c d = refl
      turn true false true d = refl
      turn true false false d = refl
      turn false b c d = refl

      go : (is : List ℕ) → (all f is && all g is) ≡ all (λ (i : ℕ). f i && g i) is
      go [] = refl
      go (i ∷ is) = turn (f i) (all f is) (g i) (all g is) ∙ ap (λ (b : Bool). (f i && g i) && b) (go is)

  all_true : all (λ (i : ℕ). true) is ≡ true
  unfolding all
  all_true = go is
    where
      go : (is : List ℕ) → all (λ (i : ℕ). true) is ≡ true
      go [] = refl
      go (i ∷ is) = go is

  pub every-all : (fs : List (ℕ → Bool)) → every (map (λ (f : ℕ → Bool). all f is) fs) ≡ all (λ (i : ℕ). every (map (λ (f : ℕ → Bool). f i) fs)) is
  unfolding every
  every-all [] = sym all_true
  every-all (f ∷ fs) = ap (λ (b : Bool). all f is && b) (every-all fs) ∙ all-and f (λ (i : ℕ). every (map (λ (f : ℕ → Bool). f i) fs))

-- ---- equal lists

pub same_true : (xs ys : List ℕ) → same_list xs ys ≡ true → xs ≡ ys
unfolding same_list
same_true [] [] e = refl
same_true [] (y ∷ ys) e = clash e refl
same_true (x ∷ xs) [] e = clash e refl
same_true (x ∷ xs) (y ∷ ys) e =
    let s = and-true (eqb x y) (same_list xs ys) e in
    ap₂ (λ (a : ℕ) (r : List ℕ). a ∷ r) (eqb-true x y s.0) (same_true xs ys s.1)

pub same_self : (xs : List ℕ) → same_list xs xs ≡ true
unfolding same_list
same_self [] = refl
same_self (x ∷ xs) = rw (eqb-self x) (same_self xs)
