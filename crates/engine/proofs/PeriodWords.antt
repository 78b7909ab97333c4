-- Laws of the words of Period: what the lane masks leave, and what the code's steps give.
use Prim.Native.Nat.{ℕ, zero, suc, ◌+◌, ◌<◌, ◌≤◌}
use mathlib.Core.Path.{◌≡◌, refl, ap, ap₂, sym, ◌∙◌}
use mathlib.Core.List.{List}
use native.Mathlib.Omega.{arith}
use lib.ListN.{length, set, length-set}
use lib.Seq.{get_or-set_same, get_or-set_other}
use native.Mathlib.Numerals.{add-one}
use Rattle.model.specs.Lists.{mask}
use Rattle.model.specs.State.{Sizes, cabinet_count}
use Rattle.model.specs.Layout.{masks_at, online_bit}
use Rattle.model.specs.Memory.{at, flag}
use Rattle.laws.specs.Tests.{same, other, decide}
use Rattle.laws.specs.ListLaws.{map-from-alike}
use Rattle.mask_tree.proofs.TreeLaws.{length-raised_up}
use Rattle.lanes.specs.Cabinet.{place_at, cabinet_at, online_at, online_mask}
use Rattle.engine.specs.Levels.{lane_level, upper_levels}
use Rattle.engine.specs.Period.{masks_set, started_words}

module _ (m : List ℕ) (z : Sizes) where
  pub length-masks_set : (n : ℕ) → length (masks_set m z n) ≡ length m
  unfolding masks_set
  length-masks_set zero = refl
  length-masks_set (suc n) =
      length-set (masks_set m z n) (masks_at + n) (online_mask m z n) ∙ length-masks_set n

  -- words other than the first n lane masks stay
  pub masks_set-else : (n a : ℕ) → ((k : ℕ) → k < n → a ≡ masks_at + k → ⊥) → at (masks_set m z n) a ≡ at m a
  unfolding masks_set
  masks_set-else zero a h = refl
  masks_set-else (suc n) a h =
      get_or-set_other (masks_set m z n) (masks_at + n) a (online_mask m z n) 0 (λ e. h n (omega arith) e)
      ∙ masks_set-else n a (λ k b e. h k (omega arith) e)

  -- each of the first n is that of the lanes that are on
  pub masks_set-there : (n k : ℕ) → k < n → masks_at + n ≤ length m → at (masks_set m z n) (masks_at + k) ≡ online_mask m z k
  unfolding masks_set
  masks_set-there zero k h l = absurd (omega arith)
  masks_set-there (suc n) k h l = go (masks_set-there n k)
    where
      x : List ℕ
      x = masks_set m z n

      go : (k < n → masks_at + n ≤ length m → at x (masks_at + k) ≡ online_mask m z k)
          → at (set x (masks_at + n) (online_mask m z n)) (masks_at + k) ≡ online_mask m z k
      go ih =
          elim (decide k n) [
            | same e t u ↦
                ap (λ (j : ℕ). at (set x (masks_at + n) (online_mask m z n)) (masks_at + j)) e
                ∙ get_or-set_same x (masks_at + n) (online_mask m z n) 0 (omega (arith, length-masks_set n))
                ∙ ap (online_mask m z) (sym e)
            | other e t u ↦
                get_or-set_other x (masks_at + n) (masks_at + k) (online_mask m z n) 0 (λ q. e (omega arith)) ∙ ih (omega arith) (omega arith)
          ]

  -- which lanes are on stays
  online-masks_set : (n c : ℕ) → n ≤ cabinet_count z → online_mask (masks_set m z n) z c ≡ online_mask m z c
  unfolding online_mask
  online-masks_set n c h =
      ap mask
      (map-from-alike (online_at (masks_set m z n) (cabinet_at z c)) (online_at m (cabinet_at z c)) 0 z.places
      (λ p a b. ap (flag online_bit) (masks_set-else n (cabinet_at z c + place_at p) (λ k q e. omega arith))))

  -- one round of the loop: the lanes of cabinet n that are on
  pub one_more : (n v : ℕ) → n < cabinet_count z → (x : List ℕ) → x ≡ masks_set m z n → v ≡ online_mask x z n → set x (masks_at + n) v ≡ masks_set m z (n + 1)
  unfolding masks_set
  one_more n v h x e g =
      let o : v ≡ online_mask m z n = g ∙ ap (λ (l : List ℕ). online_mask l z n) e ∙ online-masks_set n n (omega arith) in
      ap₂ (λ (l : List ℕ) (w : ℕ). set l (masks_at + n) w) e o ∙ ap (masks_set m z) (sym (add-one n))

  pub length-started_words : length (started_words m z) ≡ length m
  unfolding started_words
  length-started_words = length-raised_up (masks_set m z (cabinet_count z)) (lane_level z) (upper_levels z) ∙ length-masks_set (cabinet_count z)
