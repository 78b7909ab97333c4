-- What a command asks for with its arguments: with as many as it takes, each below its limit, and with others nothing.
use Prim.Native.Nat.{ℕ, zero, suc, ◌≤◌, ◌<◌}
use mathlib.Core.Bool.{Bool, true, false, cond, ◌&&◌}
use mathlib.Core.List.{List, [], ◌∷◌, ◌++◌}
use mathlib.Core.Path.{◌≡◌, refl, sym, ap, ◌∙◌}
use native.Mathlib.Nat.{le_trans}
use native.Mathlib.Omega.{arith}
use lib.ListN.{length, get_or}
use lib.Dec.{leb, ltb}
use borrow.Author.Tests.{lt-ltb, le-ltb, leb-true}
use Rattle.model.specs.Lists.{all}
use Rattle.std.specs.Prelude.{None, Some, SomeIff}
use Rattle.std.specs.declared.option.Option.{Option}
use Rattle.listing_text.specs.Call.{bad, word, code, Takes, taken}
use Rattle.listing_text.specs.Arguments.{TakesLane}
use Rattle.listing_text.proofs.Bools.{true-false, and_left, and_right, and-false}

-- as many numbers as limits, each below its own
unfoldable pub fit : List ℕ → List ℕ → Bool
fit [] [] = true
fit [] (n ∷ ns) = false
fit (l ∷ ls) [] = false
fit (l ∷ ls) (n ∷ ns) = ltb n l && fit ls ns

-- those that do not fit ask for nothing
pub taken-unfit : (ls : List ℕ) (k : Takes ls) (ns : List ℕ) → fit ls ns ≡ false → taken ls k ns ≡ bad
unfolding fit taken
taken-unfit [] k [] h = absurd (true-false true refl h)
taken-unfit [] k (n ∷ ns) h = refl
taken-unfit (l ∷ ls) k [] h = refl
taken-unfit (l ∷ ls) k (n ∷ ns) h = go (ltb n l) h (taken-unfit ls (k n) ns)
  where
    go : (t : Bool) → t && fit ls ns ≡ false → (fit ls ns ≡ false → taken ls (k n) ns ≡ bad) → cond t (taken ls (k n) ns) bad ≡ bad
    go true e ih = ih e
    go false e ih = refl

-- more or fewer numbers than limits
pub fit_count : (ls ns : List ℕ) → (length ns ≡ length ls → ⊥) → fit ls ns ≡ false
unfolding fit
fit_count [] [] h = absurd (h refl)
fit_count [] (n ∷ ns) h = refl
fit_count (l ∷ ls) [] h = refl
fit_count (l ∷ ls) (n ∷ ns) h = and-false (ltb n l) (fit_count ls ns (λ e. h (ap suc e)))

-- a number that is not below its limit
fit-above : (ls ns : List ℕ) (i : ℕ) → length ns ≡ length ls → i < length ls → get_or ls i 0 ≤ get_or ns i 0 → fit ls ns ≡ false
unfolding fit
fit-above [] ns i e h a = absurd (omega arith)
fit-above (l ∷ ls) [] i e h a = refl
fit-above (l ∷ ls) (n ∷ ns) zero e h a = rw (le-ltb n l a)
fit-above (l ∷ ls) (n ∷ ns) (suc i) e h a = and-false (ltb n l) (fit-above ls ns i (omega arith) (omega arith) a)

-- a number of more than 64 bits fits nowhere
abbrev pub is_narrow : ℕ → Bool
is_narrow l = leb l code

pub fit_wide : (ls us : List ℕ) (v : ℕ) (ws : List ℕ) → all is_narrow ls ≡ true → code ≤ v → fit ls (us ++ v ∷ ws) ≡ false
unfolding fit all
fit_wide [] [] v ws h k = refl
fit_wide [] (u ∷ us) v ws h k = refl
fit_wide (l ∷ ls) [] v ws h k =
    let e : l ≤ code = leb-true l code (and_left (is_narrow l) (all is_narrow ls) h) in
    rw (le-ltb v l (le_trans e k))
fit_wide (l ∷ ls) (u ∷ us) v ws h k = and-false (ltb u l) (fit_wide ls us v ws (and_right (is_narrow l) (all is_narrow ls) h) k)

-- ---- arguments by their places

module _ (ls : List ℕ) (k : Takes ls) (vs : List ℕ) where
  pub other_count : (length vs ≡ length ls → ⊥) → bad ≡ taken ls k vs
  other_count h = sym (taken-unfit ls k vs (fit_count ls vs h))

  pub too_wide : (i : ℕ) → length vs ≡ length ls → i < length ls → get_or ls i 0 ≤ get_or vs i 0 → bad ≡ taken ls k vs
  too_wide i e h a = sym (taken-unfit ls k vs (fit-above ls vs i e h a))

pub none_taken : (k : Takes []) (vs : List ℕ) → length vs ≡ 0 → k ≡ taken [] k vs
unfolding taken
none_taken k [] e = refl
none_taken k (a ∷ vs) e = absurd (omega arith)

pub one-taken : {l : ℕ} (k : Takes (l ∷ [])) (vs : List ℕ) → length vs ≡ 1 → get_or vs 0 0 < l → k (get_or vs 0 0) ≡ taken (l ∷ []) k vs
unfolding taken
one-taken {l} k [] e h = absurd (omega arith)
one-taken {l} k (a ∷ []) e h = rw (lt-ltb a l h)
one-taken {l} k (a ∷ b ∷ vs) e h = absurd (omega arith)

pub two_taken : {l m : ℕ} (k : Takes (l ∷ m ∷ [])) (vs : List ℕ) → length vs ≡ 2 → get_or vs 0 0 < l → get_or vs 1 0 < m
    → k (get_or vs 0 0) (get_or vs 1 0) ≡ taken (l ∷ m ∷ []) k vs
unfolding taken
two_taken {l} {m} k [] e h j = absurd (omega arith)
two_taken {l} {m} k (a ∷ vs) e h j = rw (lt-ltb a l h) (one-taken {l = m} (k a) vs (omega arith) j)

pub four_taken : {l m n o : ℕ} (k : Takes (l ∷ m ∷ n ∷ o ∷ [])) (vs : List ℕ) → length vs ≡ 4 → get_or vs 0 0 < l → get_or vs 1 0 < m → get_or vs 2 0 < n
    → get_or vs 3 0 < o → k (get_or vs 0 0) (get_or vs 1 0) (get_or vs 2 0) (get_or vs 3 0) ≡ taken (l ∷ m ∷ n ∷ o ∷ []) k vs
unfolding taken
four_taken {l} {m} {n} {o} k [] e h i j q = absurd (omega arith)
four_taken {l} {m} {n} {o} k (a ∷ []) e h i j q = absurd (omega arith)
four_taken {l} {m} {n} {o} k (a ∷ b ∷ vs) e h i j q = rw (lt-ltb a l h, lt-ltb b m i) (two_taken {l = n} {m = o} (k a b) vs (omega arith) j q)

-- ---- a lane alone

pub lane-read : (vs : List ℕ) (r : Option ℕ) → length vs ≡ 1 → SomeIff r (get_or vs 0 0 < word) (get_or vs 0 0) → TakesLane vs r
lane-read vs None e h k = too_wide (word ∷ []) k vs 0 e (omega arith) (omega arith)
lane-read vs (Some n) e h k = ap k h.1 ∙ one-taken k vs e h.0
