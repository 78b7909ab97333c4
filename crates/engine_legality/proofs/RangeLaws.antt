-- `all` over the numbers below n, as a chain of the library asks it, is the model's `all`.
use Prim.Native.Nat.{ℕ, zero, suc, ◌+◌, ◌≤◌, ◌<◌}
use mathlib.Core.Bool.{Bool, true, ◌&&◌}
use mathlib.Core.Path.{◌≡◌, refl, ap, sym, ◌∙◌}
use mathlib.Core.List.{List, [], ◌∷◌}
use lib.ListN.{length, take, drop}
use lib.Dec.{eqb}
use Rattle.std.proofs.Common.{drop-cons}
use Rattle.model.specs.Memory.{at}
use Rattle.laws.specs.Tests.{and_assoc, and-true-right}
use native.Mathlib.Omega.{arith}
use denote.Param.Members.{Mut, Called}
use Rattle.std.specs.List.{list_all, range_with_len, fold}
use Rattle.std.specs.Iterator.{ChecksAll}
use Rattle.std.specs.declared.ops.Range.{Range}
use Rattle.std.proofs.iter.Yields.{nat_range_steps}
use Rattle.std.proofs.lemmas.Iterator.{YieldsList-from_range}
use Rattle.std.proofs.lemmas.Iterator.Search.{all_from_yields_List}
use Rattle.model.specs.Lists.{all, from}

list-all : (test : ℕ → Bool) (a n : ℕ) → list_all test (range_with_len a n) ≡ all test (from a n)
unfolding all from
list-all test a zero = refl
list-all test a (suc n) =
    let e : a + 1 ≡ suc a = omega arith in
    ap (λ (x : ℕ). test a && list_all test (range_with_len x n)) e ∙ ap (λ (b : Bool). test a && b) (list-all test (suc a) n)

-- r is what `(0..n).all(f)` answers, and each call of f answers test
pub range-all : {F : Type 0} {g : Mut F (ℕ × Unit {0}) Bool} (test : ℕ → Bool) (n : ℕ) (u : Range ℕ) (f : F) (r : Bool)
    → ChecksAll nat_range_steps g (record { start = 0; end = n }) f r u
    → ((x : ℕ) (b : Bool) (q : F) → Called g f (x, tt) b q → (q ≡ f) × (b ≡ test x)) → r ≡ all test (from 0 n)
range-all test n u f r ran calls = all_from_yields_List test u f r ran (YieldsList-from_range 0 n n refl (omega arith)) calls ∙ list-all test 0 n

-- ---- the words of a part, all of them blank

-- a fold by `&&` is `all`
fold-all : (p : ℕ → Bool) (b : Bool) (xs : List ℕ) → fold (λ (a : Bool) (x : ℕ). a && p x) b xs ≡ (b && all p xs)
unfolding all
fold-all p b [] = sym (and-true-right b)
fold-all p b (x ∷ xs) = fold-all p (b && p x) xs ∙ and_assoc b (p x) (all p xs)

part-all : (p : ℕ → Bool) (ws : List ℕ) (a n : ℕ) → a + n ≤ length ws → all p (take n (drop a ws)) ≡ all (λ (k : ℕ). p (at ws k)) (from a n)
unfolding all from
part-all p ws a zero h = refl
part-all p ws a (suc n) h =
    let l : a < length ws = omega arith in
    rw (drop-cons ws a 0 l) (ap (λ (b : Bool). p (at ws a) && b) (part-all p ws (suc a) n (omega arith)))

-- r is what the fold answers over n words from a on
pub part-blank : (ws : List ℕ) (a n : ℕ) (r : Bool) → a + n ≤ length ws → r ≡ fold (λ (b : Bool) (x : ℕ). b && eqb x 0) true (take n (drop a ws))
    → r ≡ all (λ (k : ℕ). eqb (at ws k) 0) (from a n)
part-blank ws a n r h e =
    e ∙ fold-all (λ (x : ℕ). eqb x 0) true (take n (drop a ws)) ∙ part-all (λ (x : ℕ). eqb x 0) ws a n h
