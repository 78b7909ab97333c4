-- The steps of the walks, for the loops that make them: the marks, a walk on its way, and steps one after the other.
use Prim.Native.Nat.{ℕ, zero, suc, ◌+◌, ◌*◌, ◌-◌, ◌≤◌, ◌<◌}
use mathlib.Core.Bool.{Bool, true, false}
use mathlib.Core.Path.{◌≡◌, refl, ap, ap₂, sym, ◌∙◌, subst}
use mathlib.Core.List.{List, [], ◌∷◌, ◌++◌}
use native.Mathlib.Omega.{arith}
use lib.ListN.{get_or, set, length, length-set}
use lib.Dec.{eqb}
use lib.Seq.{get_or-set_same, get_or-set_other}
use borrow.Author.Tests.{eq-eqb, ne_eqb, le-leb, lt-leb}
use Rattle.model.specs.Word.{none}
use Rattle.model.specs.Layout.{slot_length}
use Rattle.model.specs.Memory.{at}
use Rattle.laws.specs.Tests.{same, other, decide}
use Rattle.distinct_codes.specs.declared.slots.Slots.{Slots}
use Rattle.slot_places.specs.WalkSteps.{Step, put, check, Outcome, spoilt, painted, met, run, slots_of, several, walks, unmarked}
use Rattle.slot_places.specs.Walks.{Counted}

-- ---- how many slots have no mark

unmarked-above : (n : ℕ) (s : List ℕ) (i v : ℕ) → n ≤ i → unmarked n (set s i v) ≡ unmarked n s
unfolding unmarked
unmarked-above zero s i v h = refl
unmarked-above (suc n) s i v h = rw (get_or-set_other s i n v 0 (λ e. omega arith), unmarked-above n s i v (omega arith))

pub unmarked-set : (n : ℕ) (s : List ℕ) (i : ℕ) → i < n → i < length s → get_or s i 0 ≡ 0 → unmarked n (set s i met) + 1 ≡ unmarked n s
unfolding unmarked
unmarked-set zero s i b l z = absurd (omega arith)
unmarked-set (suc n) s i b l z =
    elim (decide n i) [
      | same e t u ↦
          let new : get_or (set s i met) n 0 ≡ 1 = ap (λ (j : ℕ). get_or (set s i met) j 0) e ∙ get_or-set_same s i met 0 l in
          let old : get_or s n 0 ≡ 0 = ap (λ (j : ℕ). get_or s j 0) e ∙ z in
          rw (new, old) (omega (arith, unmarked-above n s i met (omega arith)))
      | other e t u ↦
          let new : get_or (set s i met) n 0 ≡ get_or s n 0 = get_or-set_other s i n met 0 e in
          rw new (omega (arith, unmarked-set n s i (omega arith) l z))
    ]

pub unmarked_most : (n : ℕ) (s : List ℕ) → unmarked n s ≤ n
unfolding unmarked
unmarked_most zero s = omega arith
unmarked_most (suc n) s =
    elim (decide (get_or s n 0) 0) [
      | same e t u ↦ rw t (omega (arith, unmarked_most n s))
      | other e t u ↦ rw t (omega (arith, unmarked_most n s))
    ]

-- where none is unmarked each has a mark
pub unmarked-none : (n : ℕ) (s : List ℕ) → unmarked n s ≡ 0 → (i : ℕ) → i < n → get_or s i 0 ≡ 0 → ⊥
unfolding unmarked
unmarked-none zero s h i b z = omega arith
unmarked-none (suc n) s h i b z =
    elim (decide i n) [
      | same e t u ↦
          let q : get_or s n 0 ≡ 0 = ap (λ (j : ℕ). get_or s j 0) (sym e) ∙ z in
          let k : 1 + unmarked n s ≡ 0 = rw q at h in
          omega arith
      | other e t u ↦ unmarked-none n s (omega (arith, h)) i (omega arith) z
    ]

-- otherwise one has none
pub unmarked-some : (n : ℕ) (s : List ℕ) → (unmarked n s ≡ 0 → ⊥) → (i : ℕ) × (i < n) × (get_or s i 0 ≡ 0)
unfolding unmarked
unmarked-some zero s h = absurd (h refl)
unmarked-some (suc n) s h =
    elim (decide (get_or s n 0) 0) [
      | same e t u ↦ (n, omega arith, e)
      | other e t u ↦ let w = unmarked-some n s (λ z. h (rw t (omega (arith, z)))) in (w.0, omega (arith, w.1), w.2)
    ]

-- marks that are all 0
pub unmarked-all : (n : ℕ) (s : List ℕ) → ((i : ℕ) → get_or s i 0 ≡ 0) → n ≡ unmarked n s
unfolding unmarked
unmarked-all zero s h = refl
unmarked-all (suc n) s h = rw (h n) (omega (arith, unmarked-all n s h))

-- ---- one list of steps after the other

unfoldable pub going : Outcome → List Step → Outcome
going spoilt ps = spoilt
going (painted s) ps = run ps s

pub run-append : (ps qs : List Step) (s : List ℕ) → run (ps ++ qs) s ≡ going (run ps s) qs
unfolding run going
run-append [] qs s = refl
run-append (put i ∷ ps) qs s =
    elim (decide (get_or s i 0) 0) [
      | same e t u ↦ rw (t, run) (run-append ps qs (set s i met))
      | other e t u ↦ rw (t, run)
    ]
run-append (check true ∷ ps) qs s = run-append ps qs s
run-append (check false ∷ ps) qs s = refl

pub slots_of-append : (ps qs : List Step) → slots_of (ps ++ qs) ≡ slots_of ps ++ slots_of qs
unfolding slots_of
slots_of-append [] qs = refl
slots_of-append (put i ∷ ps) qs = ap (λ (xs : List ℕ). i ∷ xs) (slots_of-append ps qs)
slots_of-append (check b ∷ ps) qs = slots_of-append ps qs

module _ (g : ℕ → List Step) (d a n : ℕ) where
  pub several-on : 0 < n → several g d a n ≡ g a ++ several g d (a + d) (n - 1)
  unfolding several
  several-on h = go n h
    where
      go : (n : ℕ) → 0 < n → several g d a n ≡ g a ++ several g d (a + d) (n - 1)
      go zero h = absurd (omega arith)
      go (suc n) h = let e : suc n - 1 ≡ n = omega arith in rw e

  pub several-done : n ≤ 0 → several g d a n ≡ []
  unfolding several
  several-done h = let e : n ≡ 0 = omega arith in rw e

-- those from the i-th on
module _ (g : ℕ → List Step) (d a n i : ℕ) where
  abbrev pub several_from : List Step
  several_from = several g d (a + d * i) (n - i)

module _ (g : ℕ → List Step) (d a n : ℕ) where
  pub several-start : several_from g d a n 0 ≡ several g d a n
  several-start =
      let e : a + d * 0 ≡ a = omega arith in
      let f : n - 0 ≡ n = omega arith in
      ap₂ (λ (x y : ℕ). several g d x y) e f

  pub several-next : (i : ℕ) → i < n → several_from g d a n i ≡ g (a + d * i) ++ several_from g d a n (i + 1)
  several-next i h =
      let e : a + d * i + d ≡ a + d * (i + 1) = omega arith in
      let f : n - i - 1 ≡ n - (i + 1) = omega arith in
      several-on g d (a + d * i) (n - i) (omega arith) ∙ ap₂ (λ (x y : ℕ). g (a + d * i) ++ several g d x y) e f

-- ---- a walk on its way

module _ (m : List ℕ) (field slots : ℕ) (fits : ℕ → Bool) (i n : ℕ) (h : 0 < n) where
  walks-end : slots ≤ i → walks m field slots fits i n ≡ check (eqb i none) ∷ []
  unfolding walks
  walks-end b = go n h
    where
      go : (n : ℕ) → 0 < n → walks m field slots fits i n ≡ check (eqb i none) ∷ []
      go zero h = absurd (omega arith)
      go (suc n) h = rw (le-leb slots i b, walks)

  walks-on : i < slots → walks m field slots fits i n ≡ put i ∷ check (fits i) ∷ walks m field slots fits (at m (field + slot_length * i)) (n - 1)
  unfolding walks
  walks-on b = go n h
    where
      go : (n : ℕ) → 0 < n → walks m field slots fits i n ≡ put i ∷ check (fits i) ∷ walks m field slots fits (at m (field + slot_length * i)) (n - 1)
      go zero h = absurd (omega arith)
      go (suc n) h = let e : suc n - 1 ≡ n = omega arith in rw (lt-leb slots i b, e, walks)

-- the steps from cur on lead to the outcome o, and Q holds of their slots; there are more of them than slots without a mark
module _ (t : Slots) (field : ℕ) (fits : ℕ → Bool) where
  abbrev m : List ℕ
  m = t.memory.now

  abbrev slots : ℕ
  slots = t.count

  pub record Going (Q : List ℕ → Type 0) (o : Outcome) (cur : ℕ) (s : List ℕ) (rest : ℕ) : Type 0 where
    pub fuel : ℕ
    pub more : rest < fuel
    pub counted : Counted t s rest
    pub runs : run (walks m field slots fits cur fuel) s ≡ o
    pub onward : Q (slots_of (walks m field slots fits cur fuel))

  module _ (Q : List ℕ → Type 0) where
    pub going_start : (cur : ℕ) (s : List ℕ) (left : ℕ) → Counted t s left → Q (slots_of (walks m field slots fits cur (slots + 1)))
        → Going Q (run (walks m field slots fits cur (slots + 1)) s) cur s left
    going_start cur s left c q = record {
      fuel = slots + 1;
      more = omega (arith, unmarked_most slots s, c.left);
      counted = c;
      runs = refl;
      onward = q;
    }

    module _ (o : Outcome) (cur : ℕ) (s : List ℕ) (rest : ℕ) (w : Going Q o cur s rest) where
      positive : 0 < w.fuel
      positive = omega (arith, w.more)

      pub going-ends : slots ≤ cur → cur ≡ none → (o ≡ painted s) × Q []
      unfolding run slots_of
      going-ends b e =
          let q = walks-end m field slots fits cur w.fuel positive b in
          (sym w.runs ∙ ap (λ (ps : List Step). run ps s) q ∙ rw (eq-eqb cur none e), subst (λ (ps : List Step). Q (slots_of ps)) q w.onward)

      pub going-astray : slots ≤ cur → (cur ≡ none → ⊥) → o ≡ spoilt
      unfolding run
      going-astray b e =
          let q = walks-end m field slots fits cur w.fuel positive b in
          sym w.runs ∙ ap (λ (ps : List Step). run ps s) q ∙ rw (ne_eqb cur none e)

      module _ (b : cur < slots) where
        abbrev rest_of : List Step
        rest_of = walks m field slots fits (at m (field + slot_length * cur)) (w.fuel - 1)

        on : walks m field slots fits cur w.fuel ≡ put cur ∷ check (fits cur) ∷ rest_of
        on = walks-on m field slots fits cur w.fuel positive b

        first : run (put cur ∷ check (fits cur) ∷ rest_of) s ≡ o
        first = sym (ap (λ (ps : List Step). run ps s) on) ∙ w.runs

        pub going-twice : (get_or s cur 0 ≡ 0 → ⊥) → o ≡ spoilt
        unfolding run
        going-twice e = sym first ∙ rw (ne_eqb _ _ e, run)

        -- the slots from here on
        pub going_next : (xs : List ℕ) × Q (cur ∷ xs)
        unfolding slots_of
        going_next = (slots_of rest_of, subst (λ (ps : List Step). Q (slots_of ps)) on w.onward)

        module _ (z : get_or s cur 0 ≡ 0) where
          tested : run (check (fits cur) ∷ rest_of) (set s cur met) ≡ o
          unfolding run
          tested = sym (sym first ∙ rw (eq-eqb _ _ z, run))

          pub going-unfit : (r : Bool) → r ≡ fits cur → r ≡ false → o ≡ spoilt
          unfolding run
          going-unfit r q e = sym tested ∙ ap (λ (b : Bool). run (check b ∷ rest_of) (set s cur met)) (sym q ∙ e)

          pub going-left : unmarked slots (set s cur met) + 1 ≡ rest
          going-left = unmarked-set slots s cur b (omega (arith, w.counted.marks)) z ∙ sym w.counted.left

          pub going_on : (r : Bool) → r ≡ fits cur → r ≡ true → (x : ℕ) → x ≡ at m (field + slot_length * cur) → (Q' : List ℕ → Type 0)
              → ((xs : List ℕ) → Q (cur ∷ xs) → Q' xs)
              → Going Q' o x (set s cur met) (rest - 1)
          unfolding run slots_of
          going_on r q e x y Q' f = record {
            fuel = w.fuel - 1;
            more = omega (arith, w.more, going-left);
            counted = record {
              few = w.counted.few;
              marks = omega (arith, w.counted.marks, length-set s cur met);
              left = omega (arith, going-left);
            };
            runs =
                ap (λ (j : ℕ). run (walks m field slots fits j (w.fuel - 1)) (set s cur met)) y
                ∙ sym (ap (λ (b : Bool). run (check b ∷ rest_of) (set s cur met)) (sym q ∙ e)) ∙ tested;
            onward =
                subst (λ (j : ℕ). Q' (slots_of (walks m field slots fits j (w.fuel - 1)))) (sym y)
                (f (slots_of rest_of) (subst (λ (ps : List Step). Q (slots_of ps)) on w.onward));
          }
