-- A slot that is met, by what the code finds in its cell.
use Prim.Native.Nat.{ℕ, zero, suc, ◌+◌, ◌-◌, ◌≤◌, ◌<◌}
use mathlib.Core.Bool.{Bool, true, false, cond}
use mathlib.Core.Path.{◌≡◌, refl, ap, sym, ◌∙◌}
use mathlib.Core.List.{List, [], ◌∷◌, ◌++◌}
use native.Mathlib.Omega.{arith}
use lib.ListN.{get_or, set, length, length-set, length-append}
use lib.Seq.{get_or-set_same, get_or-set_other}
use borrow.Author.Tests.{eq-eqb, ne_eqb}
use Rattle.laws.specs.Tests.{same, other, decide}
use Rattle.distinct_codes.specs.declared.slots.Slots.{Slots}
use Rattle.distinct_codes.specs.Cells.{spread, clash, held, meet_cell, meet}
use Rattle.distinct_codes.specs.Met.{code_of, Room, Meets}

unlike : false ≡ true → ⊥
unlike e = let z : ◌≡◌ {A = ℕ} 0 1 = cc in omega arith

-- one more at the end
members_on : (P : ℕ → Type 0) (a : List ℕ) (i : ℕ) → ((j : ℕ) → j < length a → P (get_or a j 0)) → P i → (j : ℕ) → j < length (a ++ (i ∷ []))
    → P (get_or (a ++ (i ∷ [])) j 0)
members_on P [] i h p zero b = p
members_on P [] i h p (suc j) b = absurd (omega arith)
members_on P (x ∷ a) i h p zero b = h 0 (omega arith)
members_on P (x ∷ a) i h p (suc j) b = members_on P a i (λ k c. h (suc k) (omega arith)) p j (omega arith)

module _ (t : Slots) (R i : ℕ) (k a : List ℕ) (r : Room t R k a) (p v : ℕ)
    (e : p ≡ spread R (code_of t i)) (h : v ≡ get_or k p 0) where
  abbrev f : ℕ → ℕ
  f = code_of t

  at-cell : (x : ℕ) → v ≡ x → meet f (spread R) i (held k a) ≡ meet_cell f (spread R) x i k a
  unfolding meet
  at-cell x q = ap (λ (y : ℕ). meet_cell f (spread R) y i k a) (ap (λ (c : ℕ). get_or k c 0) (sym e) ∙ sym h ∙ q)

  pub meet-free : v ≡ 0 → p < length k → i < t.count → Meets t R i k a true (set k p (i + 1)) a
  unfolding meet_cell
  meet-free z b s = record {
    good = λ y. at-cell 0 z ∙ ap (λ (c : ℕ). held (set k c (i + 1)) a) (sym e);
    bad = λ y. absurd (unlike (sym y));
    room = record { count = r.count; cells = omega (arith, r.cells, length-set k p (i + 1)); holders = holders; members = r.members };
    most = omega arith;
  }
    where
      holders : (q : ℕ) → get_or (set k p (i + 1)) q 0 ≤ t.count
      holders q =
          elim (decide q p) [
            | same z t u ↦ omega (arith, ap (λ (x : ℕ). get_or (set k p (i + 1)) x 0) z, get_or-set_same k p (i + 1) 0 b)
            | other z t u ↦ omega (arith, get_or-set_other k p q (i + 1) 0 z, r.holders q)
          ]

  module _ (pos : v ≡ 0 → ⊥) where
    holder : v ≡ suc (v - 1)
    holder = go v pos
      where
        go : (v : ℕ) → (v ≡ 0 → ⊥) → v ≡ suc (v - 1)
        go zero g = absurd (g refl)
        go (suc v) g = omega arith

    pub meet-clash : f (v - 1) ≡ f i → Meets t R i k a false k a
    unfolding meet_cell
    meet-clash q = record {
      good = λ y. absurd (unlike y);
      bad = λ y. at-cell (suc (v - 1)) holder ∙ ap (λ (b : Bool). cond b clash (held k (a ++ (i ∷ [])))) (eq-eqb _ _ q);
      room = r;
      most = omega arith;
    }

    pub meet-aside : (f (v - 1) ≡ f i → ⊥) → i < t.count → Meets t R i k a true k (a ++ (i ∷ []))
    unfolding meet_cell
    meet-aside q b = record {
      good = λ y.
          at-cell (suc (v - 1)) holder ∙ ap (λ (b : Bool). cond b clash (held k (a ++ (i ∷ [])))) (ne_eqb _ _ q);
      bad = λ y. absurd (unlike (sym y));
      room = record {
        count = r.count;
        cells = r.cells;
        holders = r.holders;
        members = members_on (λ (x : ℕ). x < t.count) a i r.members b;
      };
      most = omega (arith, length-append a (i ∷ []));
    }
