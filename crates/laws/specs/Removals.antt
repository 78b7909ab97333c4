-- What links hold after an element is taken out of a list without repetition.
use Rattle.std.specs.Prelude.{ℕ, ◌+◌, ◌≤◌, ◌<◌, true, cond, ◌≡◌, ◌≢◌, List, [], ◌∷◌, eqb}
use Rattle.std.proofs.Common.{sym, ◌∙◌, arith, eq-eqb, ne_eqb}
use Rattle.model.specs.Lists.{first, count, successor, without}
use Rattle.laws.specs.Tests.{same, other, decide, eqb-self}

-- ---- an element taken out

-- what stands before the first o in xs; e where o is the first
abbrev pub before_in : ℕ → List ℕ → ℕ → ℕ
before_in o [] e = e
before_in o (x ∷ xs) e = cond (eqb x o) e (before_in o xs x)

pub before_in-not : (xs : List ℕ) (o x y : ℕ) → x ≢ y → count x xs ≡ 0 → x ≡ before_in o xs y → ⊥
unfolding count
before_in-not [] o x y h k q = h q
before_in-not (z ∷ xs) o x y h k q =
    elim (decide z o) [
      | same e t u ↦ h (rw t at q)
      | other e t u ↦
          before_in-not xs o x z (λ r. absurd (let v : eqb x z ≡ true = eq-eqb x z r in let w : 1 + count x xs ≡ 0 = rw v at k in omega arith))
          (omega arith) (rw t at q)
    ]

-- what stands before o is not o
pub before_in-self : (xs : List ℕ) (o e : ℕ) → e ≢ o → before_in o xs e ≡ o → ⊥
before_in-self [] o e n q = n q
before_in-self (x ∷ xs) o e n q =
    elim (decide x o) [
      | same r t u ↦ n (rw t at q)
      | other r t u ↦ before_in-self xs o x r (rw t at q)
    ]

-- and it is in xs unless o is the first
pub before_in-in : (xs : List ℕ) (o e p : ℕ) → before_in o xs e ≡ p → e ≢ p → 0 < count o xs → 0 < count p xs
unfolding count
before_in-in [] o e p q n h = absurd (omega arith)
before_in-in (x ∷ xs) o e p q n h =
    elim (decide x o) [
      | same r t u ↦ absurd (n (rw t at q))
      | other r t u ↦
          elim (decide p x) [
            | same r' t' u' ↦ rw t' (omega arith)
            | other r' t' u' ↦ omega (arith, before_in-in xs o x p (rw t at q) (λ b. r' (sym b)) (let k : 0 < 0 + count o xs = rw u at h in omega arith))
          ]
    ]

pub first-without : (xs : List ℕ) (o e d : ℕ) → count o xs ≡ 1 → count e xs ≡ 0
    → first (without o xs) ≡ cond (eqb e (before_in o xs e)) (successor xs o d) (first xs)
unfolding count first successor without
first-without [] o e d h k = absurd (omega arith)
first-without (x ∷ xs) o e d h k =
    elim (decide x o) [
      | same q t u ↦ rw (t, eqb-self e)
      | other q t u ↦
          let n : e ≡ x → ⊥ = λ r. let v : eqb e x ≡ true = eq-eqb e x r in let w : 1 + count e xs ≡ 0 = rw v at k in omega arith in
          rw (t, ne_eqb e (before_in o xs x) (before_in-not xs o e x n (omega arith)))
    ]

pub successor-without : (xs : List ℕ) (o i e d : ℕ) → i ≢ o → i ≢ e → count o xs ≡ 1 → count i xs ≤ 1
    → successor (without o xs) i d ≡ cond (eqb i (before_in o xs e)) (successor xs o d) (successor xs i d)
unfolding count successor without
successor-without [] o i e d n f h k = absurd (omega arith)
successor-without (x ∷ xs) o i e d n f h k =
    elim (decide x o) [
      | same q t u ↦ rw (t, ne_eqb i e f) (rw (ne_eqb x i (λ r. n (sym r ∙ q))))
      | other q t u ↦
          let h' : 0 + count o xs ≡ 1 = rw u at h in
          rw t
          (elim (decide x i) [
            | same r v w ↦
                let k' : 1 + count i xs ≤ 1 = rw w at k in
                rw (v, ← r) (first-without xs o x d (omega arith) (rw r (omega arith)))
            | other r v w ↦ let k' : 0 + count i xs ≤ 1 = rw w at k in rw v (successor-without xs o i x d n (λ p. r (sym p)) (omega arith) (omega arith))
          ])
    ]
