-- What is lent stays lent: `Lent` asks for the length of a memory, which no store changes. Sizes that fit are not too large.
use Rattle.std.proofs.Common.{◌≡◌, ℕ, Bool, true, List, length, set, sym, ◌∙◌, mul-le-mul, arith, length-set, leb-true}
use Rattle.model.specs.State.{Sizes}
use Rattle.model.specs.Legal.{sizes_fit}
use Rattle.laws.specs.Tests.{every_true}
use Rattle.words.specs.Lent.{Few, Lent}

module _ (m : List ℕ) (z : Sizes) (lent : Lent m z) where
  pub lent_same : (n : List ℕ) → length n ≡ length m → Lent n z
  lent_same n e = record { few = lent.few; long = omega (arith, lent.long) }

  pub lent-set : (i v : ℕ) → Lent (set m i v) z
  lent-set i v = lent_same (set m i v) (length-set m i v)

-- ---- sizes that fit

pub few-fits : (z : Sizes) → sizes_fit z ≡ true → Few z
unfolding sizes_fit
few-fits z h =
    let e = every_true _ h in
    let y = leb-true _ _ e.1.0 in
    let c = leb-true _ _ e.1.1.1.0 in
    let p = leb-true _ _ e.1.1.1.1.1.0 in
    let a = mul-le-mul y c in
    record { yards = y; cabinets = c; places = p; all_cabinets = a; lanes = mul-le-mul a p; slots = leb-true _ _ e.1.1.1.1.1.1.1.0 }

-- by the test r
pub few-tested : (z : Sizes) (r : Bool) → r ≡ sizes_fit z → r ≡ true → Few z
few-tested z r e t = few-fits z (sym e ∙ t)
