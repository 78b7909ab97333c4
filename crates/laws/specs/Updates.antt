-- Laws of lists: one element changed.
use Prim.Native.Nat.{ℕ, zero, suc}
use Rattle.std.specs.Prelude.{◌≡◌, ◌≢◌, get_or, set}
use Rattle.std.proofs.Math.Path.{refl, ap}
use mathlib.Core.List.{List, [], ◌∷◌}
use Rattle.model.specs.Lists.{update}

module _ {A : Type 0} where
  -- a change that changes nothing
  pub update_same : (d : A) (xs : List A) (i : ℕ) (f : A → A) → f (get_or xs i d) ≡ get_or xs i d → update xs i f ≡ xs
  unfolding update
  update_same d [] i f e = refl
  update_same d (x ∷ xs) zero f e = ap (λ (y : A). y ∷ xs) e
  update_same d (x ∷ xs) (suc i) f e = ap (λ (r : List A). x ∷ r) (update_same d xs i f e)

  -- two changes alike there
  pub update_alike : (d : A) (xs : List A) (i : ℕ) (f g : A → A) → f (get_or xs i d) ≡ g (get_or xs i d) → update xs i f ≡ update xs i g
  unfolding update
  update_alike d [] i f g e = refl
  update_alike d (x ∷ xs) zero f g e = ap (λ (y : A). y ∷ xs) e
  update_alike d (x ∷ xs) (suc i) f g e = ap (λ (r : List A). x ∷ r) (update_alike d xs i f g e)

  -- a change is a store of the changed element
  pub update-set : (d : A) (xs : List A) (i : ℕ) (f : A → A) → update xs i f ≡ set xs i (f (get_or xs i d))
  unfolding update
  update-set d [] i f = refl
  update-set d (x ∷ xs) zero f = refl
  update-set d (x ∷ xs) (suc i) f = ap (λ (r : List A). x ∷ r) (update-set d xs i f)

  -- changes at two places, in either order
  pub update-commutes : (xs : List A) (i j : ℕ) (f g : A → A) → i ≢ j → update (update xs i f) j g ≡ update (update xs j g) i f
  unfolding update
  update-commutes [] i j f g n = refl
  update-commutes (x ∷ xs) zero zero f g n = absurd (n refl)
  update-commutes (x ∷ xs) zero (suc j) f g n = refl
  update-commutes (x ∷ xs) (suc i) zero f g n = refl
  update-commutes (x ∷ xs) (suc i) (suc j) f g n = ap (λ (r : List A). x ∷ r) (update-commutes xs i j f g (λ e. n (ap suc e)))
