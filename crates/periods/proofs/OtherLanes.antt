-- The lanes as if one were off: what the code reads of each, and whether one of them is on.
use Prim.Native.Nat.{ℕ, suc, ◌+◌, ◌<◌}
use mathlib.Core.Path.{◌≡◌, refl, ap, ap₂, sym, ◌∙◌}
use mathlib.Core.Bool.{Bool, false, ◌||◌}
use mathlib.Core.List.{List, [], ◌∷◌}
use native.Mathlib.Omega.{arith}
use lib.ListN.{length, get_or}
use denote.Param.Members.{Mut, Called}
use Rattle.std.specs.List.{list_any, range_with_len}
use Rattle.std.specs.Iterator.{ChecksAny}
use Rattle.std.specs.declared.ops.Range.{Range}
use Rattle.std.proofs.iter.Yields.{nat_range_steps}
use Rattle.std.proofs.lemmas.Iterator.{YieldsList-from_range}
use Rattle.std.proofs.lemmas.Iterator.Search.{any_from_yields_List}
use Rattle.model.specs.Lists.{any}
use Rattle.model.specs.State.{lane_count}
use Rattle.model.specs.Engine.{fresh_lane, set_online}
use Rattle.model.specs.Rules.{is_online, lane_of}
use Rattle.model.specs.Memory.{sizes, state}
use Rattle.laws.specs.ListLaws.{get_or-update-same, get_or-update-other, length-update}
use Rattle.words.specs.Lent.{sizes_of}
use Rattle.access.specs.declared.Lane.{Lane}
use Rattle.access.specs.Lanes.{Named, LaneIn}
use Rattle.access.proofs.Ways.{well_formed}
use Rattle.access.proofs.LaneLaws.{count-is, lane-known}
use Rattle.periods.specs.Others.{others}

module _ (m : List ℕ) (l : Lane) (k : LaneIn m l) where
  abbrev i : ℕ
  i = l.number

  -- as many as the lane's sizes say
  pub others-length : length (others (state m) i) ≡ lane_count (sizes_of l.sizes)
  unfolding state
  others-length = length-update (state m).engine.lanes i (set_online false) ∙ (well_formed m k.named.sound).lanes ∙ sym (count-is m l k.named)

  pub itself : (j : ℕ) → j ≡ i → false ≡ is_online (get_or (others (state m) i) j fresh_lane)
  unfolding state
  itself j e =
      sym (ap (λ (x : ℕ). is_online (get_or (others (state m) i) x fresh_lane)) e
      ∙ ap is_online (get_or-update-same fresh_lane (state m).engine.lanes i (set_online false) (omega (arith, k.known, (well_formed m k.named.sound).lanes))))

  -- another lane, by its number
  module _ (j : ℕ) (r : Lane) (v : Named m r) (e : r.number ≡ j) where
    pub other-in : j < lane_count (sizes m) → LaneIn m r
    unfolding state
    other-in h = lane-known m r v (rw e h)

    pub another : (j ≡ i → ⊥) → (b : Bool) → b ≡ (lane_of (state m) r.number).online → b ≡ is_online (get_or (others (state m) i) j fresh_lane)
    another n b q =
        q ∙ ap (λ (x : ℕ). (lane_of (state m) x).online) e
        ∙ sym (ap is_online (get_or-update-other fresh_lane (state m).engine.lanes i (set_online false) j n))

-- ---- whether one of them has a property

module _ {A : Type 0} (p : A → Bool) (d : A) where
  list-any : (xs : List A) (test : ℕ → Bool) (a : ℕ) → ((k : ℕ) → k < length xs → test (a + k) ≡ p (get_or xs k d)) → list_any test (range_with_len a (length xs)) ≡ any p xs
  unfolding any
  list-any [] test a h = refl
  list-any (x ∷ xs) test a h =
      let e : a + 0 ≡ a = omega arith in
      let first : test a ≡ p x = sym (ap test e) ∙ h 0 (omega arith) in
      let rest : list_any test (range_with_len (a + 1) (length xs)) ≡ any p xs =
      list-any xs test (a + 1) (λ k b. ap test (omega arith) ∙ h (suc k) (omega arith)) in
      ap₂ (λ (b c : Bool). b || c) first rest

  -- r is what `(0..n).any(f)` answers, n being as many as there are, and each call of f tells of the element at its argument
  pub range-any : {F : Type 0} {g : Mut F (ℕ × Unit {0}) Bool} (xs : List A) (n : ℕ) (u : Range ℕ) (f : F) (r : Bool) → length xs ≡ n
      → ChecksAny nat_range_steps g (record { start = 0; end = n }) f r u
      → ((x : ℕ) (b : Bool) (q : F) → Called g f (x, tt) b q → (q ≡ f) × (b ≡ p (get_or xs x d))) → r ≡ any p xs
  range-any xs n u f r e ran calls =
      let test : ℕ → Bool = λ x. p (get_or xs x d) in
      any_from_yields_List test u f r ran (YieldsList-from_range 0 n n refl (omega arith)) calls
      ∙ ap (λ (k : ℕ). list_any test (range_with_len 0 k)) (sym e)
      ∙ list-any xs test 0 (λ k b. ap test (omega arith))
