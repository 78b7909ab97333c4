-- The order of generations (document 01, "Generations and passes", first lines): for words it is irreflexive and asymmetric, and tells a generation, the one
-- before and the one after apart, at the wrap too.
use Rattle.std.specs.Prelude.{ℕ, ◌-◌, ◌≤◌, ◌<◌, ◌≡◌, refl, true, false, leb}
use native.Mathlib.Omega.{arith}
use Rattle.std.proofs.Common.{leb-true}
use Rattle.std.proofs.lemmas.Bool.{lt-leb}
use Rattle.model.specs.Word.{word_limit, up, down, less, farthest, later}
use Rattle.laws.specs.Tests.{and-true, and-false-right}

-- ---- the neighbours

pub up_word : (c : ℕ) → up c < word_limit
up_word c = omega arith

module _ {c : ℕ} (h : c < word_limit) where
  pub up-down : up (down c) ≡ c
  up-down = omega arith

-- ---- the order

-- the generation after the largest word is 0, and it is later
pub wrapped-later : later 0 (word_limit - 1) ≡ true
unfolding later
wrapped-later = refl

module _ {c : ℕ} (h : c < word_limit) where
  -- none is later than itself
  pub later-self : later c c ≡ false
  unfolding later
  later-self = let e : less c c ≡ 0 = omega arith in rw e

  pub later-up : later c (up c) ≡ false
  unfolding later
  later-up = let e : less c (up c) ≡ word_limit - 1 = omega arith in rw e

  pub up-later : later (up c) c ≡ true
  unfolding later
  up-later = let e : less (up c) c ≡ 1 = omega arith in rw e

  -- two generations on
  pub up-up-later : later (up (up c)) c ≡ true
  unfolding later
  up-up-later = let e : less (up (up c)) c ≡ 2 = omega arith in rw e

  pub later-up-up : later c (up (up c)) ≡ false
  unfolding later
  later-up-up = let e : less c (up (up c)) ≡ 4294967294 = omega arith in rw e

  pub later-down : later c (down c) ≡ true
  unfolding later
  later-down = let e : less c (down c) ≡ 1 = omega arith in rw e

pub later-asym : {a b : ℕ} → a < word_limit → b < word_limit → later a b ≡ true → later b a ≡ false
unfolding later
later-asym {a} {b} ha hb e =
    let t = and-true (leb 1 (less a b)) (leb (less a b) farthest) e in
    let p : 1 ≤ less a b = leb-true 1 (less a b) t.0 in
    let q : less a b ≤ farthest = leb-true (less a b) farthest t.1 in
    let r : farthest < less b a = omega arith in
    rw (lt-leb (less b a) farthest r) (and-false-right (leb 1 (less b a)))
