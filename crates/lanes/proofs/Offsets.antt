-- An offset as successors: the form in which `sets` and `from` count.
use Rattle.std.proofs.Common.{◌≡◌, ℕ, zero, suc, ◌+◌, arith}

abbrev pub after : ℕ → ℕ → ℕ
after zero x = x
after (suc n) x = suc (after n x)

pub plus-after : (n x : ℕ) → x + n ≡ after n x
plus-after zero x = omega arith
plus-after (suc n) x = omega (arith, plus-after n x)
