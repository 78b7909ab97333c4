-- What the marks say after the steps: how often each slot was marked, and that each check held; or why the steps are spoilt.
use Prim.Native.Nat.{ℕ, zero, suc, ◌+◌, ◌≤◌, ◌<◌}
use mathlib.Core.Bool.{Bool, true, false, cond, ◌&&◌}
use mathlib.Core.Path.{◌≡◌, refl, ap, sym, ◌∙◌}
use mathlib.Core.List.{List, [], ◌∷◌}
use native.Mathlib.Omega.{arith}
use lib.ListN.{get_or, set, length, length-set}
use lib.Dec.{eqb}
use borrow.Author.Tests.{eq-eqb}
use Rattle.model.specs.Lists.{count}
use Rattle.laws.specs.Tests.{same, other, decide}
use Rattle.laws.specs.ListLaws.{get_or_set}
use Rattle.slot_places.specs.WalkSteps.{Step, put, check, spoilt, painted, met, run, slots_of}

unfoldable pub checks : List Step → Bool
checks [] = true
checks (put i ∷ ps) = checks ps
checks (check b ∷ ps) = b && checks ps

-- slots below n
pub data Right (n : ℕ) : List Step → Type 0 where
  stop : Right n []
  mark : {i : ℕ} {ps : List Step} → i < n → Right n ps → Right n (put i ∷ ps)
  look : {b : Bool} {ps : List Step} → Right n ps → Right n (check b ∷ ps)

never : {t : List ℕ} → spoilt ≡ painted t → ⊥
never h = let z : ◌≡◌ {A = ℕ} 0 1 = cc in omega arith

nor : {t : List ℕ} → painted t ≡ spoilt → ⊥
nor h = never (sym h)

-- a slot marked that had no mark
mark_set : (s : List ℕ) (i j : ℕ) → j < length s → get_or s j 0 ≡ 0 → get_or (set s j met) i 0 ≡ get_or s i 0 + cond (eqb i j) 1 0
mark_set s i j b e =
    get_or_set s j i met 0 b
    ∙ elim (decide i j) [
      | same z u v ↦ rw u (omega (arith, ap (λ (x : ℕ). get_or s x 0) z))
      | other z u v ↦ rw u (omega arith)
    ]

module _ (n : ℕ) where
  -- each slot's mark is how often it was marked
  pub marks-are : {ps : List Step} (s t : List ℕ) → Right n ps → n ≤ length s → run ps s ≡ painted t → (i : ℕ) → get_or t i 0 ≡ get_or s i 0 + count i (slots_of ps)
  unfolding run slots_of count
  marks-are s t stop l h i = let e : s ≡ t = cc in omega (arith, ap (λ (x : List ℕ). get_or x i 0) e)
  marks-are s t (mark {i = j} {ps = ps} b r) l h i =
      elim (decide (get_or s j 0) 0) [
        | same e u v ↦ omega (arith, marks-are (set s j met) t r (omega (arith, length-set s j met)) (rw (u, run) at h) i, mark_set s i j (omega arith) e)
        | other e u v ↦ absurd (never (rw (u, run) at h))
      ]
  marks-are s t (look {b = true} r) l h i = marks-are s t r l h i
  marks-are s t (look {b = false} r) l h i = absurd (never h)

  -- and that is once at most
  pub marks-most : {ps : List Step} (s t : List ℕ) → Right n ps → n ≤ length s → run ps s ≡ painted t → ((i : ℕ) → get_or s i 0 ≤ 1) → (i : ℕ) → get_or t i 0 ≤ 1
  unfolding run
  marks-most s t stop l h m i = let e : s ≡ t = cc in omega (arith, ap (λ (x : List ℕ). get_or x i 0) e, m i)
  marks-most s t (mark {i = j} {ps = ps} b r) l h m i =
      elim (decide (get_or s j 0) 0) [
        | same e u v ↦ marks-most (set s j met) t r (omega (arith, length-set s j met)) (rw (u, run) at h) (λ x. few x e) i
        | other e u v ↦ absurd (never (rw (u, run) at h))
      ]
    where
      few : (x : ℕ) → get_or s j 0 ≡ 0 → get_or (set s j met) x 0 ≤ 1
      few x e =
          elim (decide x j) [
            | same z u v ↦ omega (arith, mark_set s x j (omega arith) e, ap (λ (y : ℕ). get_or s y 0) z, ap {B = ℕ} (λ (c : Bool). cond c 1 0) u)
            | other z u v ↦ omega (arith, mark_set s x j (omega arith) e, m x, ap {B = ℕ} (λ (c : Bool). cond c 1 0) u)
          ]
  marks-most s t (look {b = true} r) l h m i = marks-most s t r l h m i
  marks-most s t (look {b = false} r) l h m i = absurd (never h)

  -- and each check held
  pub marks-checked : {ps : List Step} (s t : List ℕ) → Right n ps → run ps s ≡ painted t → checks ps ≡ true
  unfolding run checks
  marks-checked s t stop h = refl
  marks-checked s t (mark {i = j} {ps = ps} b r) h =
      elim (decide (get_or s j 0) 0) [
        | same e u v ↦ marks-checked (set s j met) t r (rw (u, run) at h)
        | other e u v ↦ absurd (never (rw (u, run) at h))
      ]
  marks-checked s t (look {b = true} r) h = marks-checked s t r h
  marks-checked s t (look {b = false} r) h = absurd (never h)

  -- otherwise a check failed or a slot was marked twice
  pub data Spoilt (ps : List Step) (s : List ℕ) : Type 0 where
    failed : checks ps ≡ false → Spoilt ps s
    doubled : (i : ℕ) → i < n → 2 ≤ get_or s i 0 + count i (slots_of ps) → Spoilt ps s

  pub spoilt-why : {ps : List Step} (s : List ℕ) → Right n ps → n ≤ length s → run ps s ≡ spoilt → Spoilt ps s
  unfolding run checks slots_of count
  spoilt-why s stop l h = absurd (nor h)
  spoilt-why s (mark {i = j} {ps = ps} b r) l h =
      elim (decide (get_or s j 0) 0) [
        | same e u v ↦
            elim (spoilt-why (set s j met) r (omega (arith, length-set s j met)) (rw (u, run) at h)) [
              | failed f ↦ failed f
              | doubled i g d ↦ doubled i g (omega (arith, mark_set s i j (omega arith) e))
            ]
        | other e u v ↦ doubled j b (rw (eq-eqb j j refl) (omega (arith, positive (get_or s j 0) e)))
      ]
    where
      positive : (x : ℕ) → (x ≡ 0 → ⊥) → 0 < x
      positive zero f = absurd (f refl)
      positive (suc x) f = omega arith
  spoilt-why s (look {b = true} r) l h =
      elim (spoilt-why s r l h) [
        | failed f ↦ failed f
        | doubled i g d ↦ doubled i g d
      ]
  spoilt-why s (look {b = false} r) l h = failed refl
