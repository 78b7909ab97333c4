-- What steps mark and check, joined from parts: lists one after the other, several, and a walk, whose links are in range exactly where its last is
-- none.
use Prim.Native.Nat.{ℕ, zero, suc, ◌+◌, ◌*◌, ◌<◌}
use mathlib.Core.Bool.{Bool, true, false, cond, ◌&&◌}
use mathlib.Core.Path.{◌≡◌, refl, ap, sym, ◌∙◌, subst}
use mathlib.Core.List.{List, [], ◌∷◌, ◌++◌}
use native.Mathlib.Omega.{arith}
use native.Mathlib.Decide.{dec_lt}
use native.Mathlib.Nat.{mul-suc}
use lib.Dec.{ltb, eqb}
use borrow.Author.Tests.{eq-eqb, le-leb, lt-leb, lt-ltb, le-ltb}
use Rattle.model.specs.Word.{none}
use Rattle.model.specs.Lists.{count}
use Rattle.model.specs.Layout.{slot_length}
use Rattle.model.specs.Memory.{at}
use Rattle.laws.specs.Tests.{same, other, decide, and-true, and_intro, or_cases, or_left, or_right, clash}
use Rattle.laws.specs.Counts.{count-append}
use Rattle.words.specs.Links.{slot_or_none}
use Rattle.slot_places.specs.WalkSteps.{Step, put, check, slots_of, several, walks}
use Rattle.slot_places.proofs.WalkStepLaws.{slots_of-append}
use Rattle.slot_places.proofs.Marked.{checks, Right, stop, mark, look}

-- ---- two lists of steps, one after the other

pub slots-append : (i : ℕ) (ps qs : List Step) → count i (slots_of (ps ++ qs)) ≡ count i (slots_of ps) + count i (slots_of qs)
slots-append i ps qs = ap (count i) (slots_of-append ps qs) ∙ count-append i (slots_of ps) (slots_of qs)

pub checks-append : (ps qs : List Step) → checks (ps ++ qs) ≡ (checks ps && checks qs)
unfolding checks
checks-append [] qs = refl
checks-append (put j ∷ ps) qs = checks-append ps qs
checks-append (check true ∷ ps) qs = checks-append ps qs
checks-append (check false ∷ ps) qs = refl

pub checks-both : (ps qs : List Step) → checks (ps ++ qs) ≡ true → (checks ps ≡ true) × (checks qs ≡ true)
checks-both ps qs h = and-true (checks ps) (checks qs) (sym (checks-append ps qs) ∙ h)

pub both-check : (ps qs : List Step) → checks ps ≡ true → checks qs ≡ true → checks (ps ++ qs) ≡ true
both-check ps qs h k = checks-append ps qs ∙ and_intro (checks ps) (checks qs) h k

pub right-append : {n : ℕ} {ps qs : List Step} → Right n ps → Right n qs → Right n (ps ++ qs)
right-append stop s = s
right-append (mark b r) s = mark b (right-append r s)
right-append (look r) s = look (right-append r s)

-- what the checks say of each slot marked
abbrev pub Told : (ℕ → Type 0) → List Step → Type 0
Told P ps = checks ps ≡ true → (i : ℕ) → 0 < count i (slots_of ps) → P i

pub told-append : (P : ℕ → Type 0) (ps qs : List Step) → Told P ps → Told P qs → Told P (ps ++ qs)
told-append P ps qs f g h i b =
    let k = checks-both ps qs h in
    elim (dec_lt 0 (count i (slots_of ps))) [
      | yes p ↦ f k.0 i p
      | no p ↦ g k.1 i (omega (arith, b, slots-append i ps qs))
    ]

-- ---- several

module _ (g : ℕ → List Step) (d : ℕ) where
  pub right-several : {s : ℕ} → ((a : ℕ) → Right s (g a)) → (a n : ℕ) → Right s (several g d a n)
  unfolding several
  right-several r a zero = stop
  right-several r a (suc n) = right-append (r a) (right-several r (a + d) n)

  pub told-several : (P : ℕ → Type 0) → ((a : ℕ) → Told P (g a)) → (a n : ℕ) → Told P (several g d a n)
  unfolding several slots_of count
  told-several P f a zero = λ h i b. absurd (omega arith)
  told-several P f a (suc n) = told-append P (g a) (several g d (a + d) n) (f a) (told-several P f (a + d) n)

  pub check-several : (a n : ℕ) → ((j : ℕ) → j < n → checks (g (a + d * j)) ≡ true) → checks (several g d a n) ≡ true
  unfolding several checks
  check-several a zero h = refl
  check-several a (suc n) h =
      let e : a + d * 0 ≡ a = omega arith in
      both-check (g a) (several g d (a + d) n) (subst (λ (x : ℕ). checks (g x) ≡ true) e (h 0 (omega arith)))
      (check-several (a + d) n (λ j b. subst (λ (x : ℕ). checks (g x) ≡ true) (shift j) (h (suc j) (omega arith))))
    where
      shift : (j : ℕ) → a + d * suc j ≡ a + d + d * j
      shift j = omega (arith, mul-suc d j)

  pub several-check : (a n : ℕ) → checks (several g d a n) ≡ true → (j : ℕ) → j < n → checks (g (a + d * j)) ≡ true
  unfolding several
  several-check a zero h j b = absurd (omega arith)
  several-check a (suc n) h zero b =
      let e : a ≡ a + d * 0 = omega arith in subst (λ (x : ℕ). checks (g x) ≡ true) e (checks-both (g a) (several g d (a + d) n) h).0
  several-check a (suc n) h (suc j) b =
      let e : a + d + d * j ≡ a + d * suc j = omega (arith, mul-suc d j) in
      subst (λ (x : ℕ). checks (g x) ≡ true) e (several-check (a + d) n (checks-both (g a) (several g d (a + d) n) h).1 j (omega arith))

-- ---- a walk

module _ (m : List ℕ) (field slots : ℕ) (fits : ℕ → Bool) where
  -- its slots are in range
  pub right-walks : (i n : ℕ) → Right slots (walks m field slots fits i n)
  unfolding walks
  right-walks i zero = look stop
  right-walks i (suc n) =
      elim (dec_lt i slots) [
        | yes b ↦ rw (lt-leb slots i b, walks) (mark b (look (right-walks (at m (field + slot_length * i)) n)))
        | no b ↦ rw (le-leb slots i (omega arith), walks) (look stop)
      ]

  -- the link of slot i is in range
  abbrev link_fits : ℕ → Bool
  link_fits i = slot_or_none slots (at m (field + slot_length * i))

  -- the steps from i on hold, so i is a slot's number or none
  pub walks-begin : (i n : ℕ) → checks (walks m field slots fits i n) ≡ true → slot_or_none slots i ≡ true
  unfolding walks checks
  walks-begin i zero h = (and-true (slot_or_none slots i) true h).0
  walks-begin i (suc n) h =
      elim (dec_lt i slots) [
        | yes b ↦ or_left (ltb i slots) (eqb i none) (lt-ltb i slots b)
        | no b ↦ or_right (ltb i slots) (eqb i none) (and-true (eqb i none) true (rw (le-leb slots i (omega arith), walks) at h)).0
      ]

  pub walks-told : (i n : ℕ) → Told (λ (x : ℕ). (fits x ≡ true) × (link_fits x ≡ true)) (walks m field slots fits i n)
  unfolding walks checks slots_of count
  walks-told i zero h x p = absurd (omega arith)
  walks-told i (suc n) h x p =
      elim (dec_lt i slots) [
        | yes b ↦
            let k : (fits i && checks (walks m field slots fits (at m (field + slot_length * i)) n)) ≡ true = rw (lt-leb slots i b, walks) at h in
            let q : 0 < count x (i ∷ slots_of (walks m field slots fits (at m (field + slot_length * i)) n)) = rw (lt-leb slots i b, walks) at p in
            let t = and-true (fits i) (checks (walks m field slots fits (at m (field + slot_length * i)) n)) k in
            elim (decide x i) [
              | same e u v ↦ subst (λ (y : ℕ). (fits y ≡ true) × (link_fits y ≡ true)) (sym e) (t.0, walks-begin _ n t.1)
              | other e u v ↦ walks-told (at m (field + slot_length * i)) n t.1 x (omega (arith, q, ap {B = ℕ} (λ (c : Bool). cond c 1 0) u))
            ]
        | no b ↦ absurd (let q : 0 < 0 = rw (le-leb slots i (omega arith), walks) at p in omega arith)
      ]

  pub told-walks : ((x : ℕ) → x < slots → link_fits x ≡ true) → (i n : ℕ) → slot_or_none slots i ≡ true
      → ((x : ℕ) → 0 < count x (slots_of (walks m field slots fits i n)) → fits x ≡ true)
      → checks (walks m field slots fits i n) ≡ true
  unfolding walks checks slots_of count
  told-walks l i zero h f = and_intro (slot_or_none slots i) true h refl
  told-walks l i (suc n) h f =
      elim (dec_lt i slots) [
        | yes b ↦
            rw (lt-leb slots i b, walks)
            (and_intro (fits i) (checks (walks m field slots fits (at m (field + slot_length * i)) n)) (f i (first b))
            (told-walks l (at m (field + slot_length * i)) n (l i b) (λ x p. f x (later b x p))))
        | no b ↦
            rw (le-leb slots i (omega arith), walks)
            (and_intro (eqb i none) true (or_cases (ltb i slots) (eqb i none) h (λ u. clash u (le-ltb i slots (omega arith))) (λ u. u)) refl)
      ]
    where
      onward : i < slots → slots_of (walks m field slots fits i (suc n)) ≡ i ∷ slots_of (walks m field slots fits (at m (field + slot_length * i)) n)
      onward b = rw (lt-leb slots i b, walks)

      first : i < slots → 0 < count i (slots_of (walks m field slots fits i (suc n)))
      first b = omega (arith, ap (count i) (onward b), ap {B = ℕ} (λ (c : Bool). cond c 1 0) (eq-eqb i i refl))

      later : i < slots → (x : ℕ) → 0 < count x (slots_of (walks m field slots fits (at m (field + slot_length * i)) n))
          → 0 < count x (slots_of (walks m field slots fits i (suc n)))
      later b x p = omega (arith, ap (count x) (onward b), p)
