-- Set-up leaves a well-formed state.
use Prim.Native.Nat.{ℕ, zero, suc, ◌<◌}
use mathlib.Core.Path.{◌≡◌, refl, ap}
use mathlib.Core.Logic.{inr}
use mathlib.Core.Bool.{true}
use mathlib.Core.List.{List, [], ◌∷◌}
use native.Mathlib.Omega.{arith}
use lib.ListN.{get_or, replicate, length-replicate}
use Rattle.model.specs.Word.{none}
use Rattle.model.specs.Lists.{count, is_empty}
use Rattle.model.specs.State.{Sizes, lane_count, Engine}
use Rattle.model.specs.Layout.{count_limit, chain_count}
use Rattle.model.specs.Engine.{fresh_lane, is_pending, lane_at}
use Rattle.model.specs.Table.{blank, product_at}
use Rattle.model.specs.Rules.{fresh}
use Rattle.model.specs.Legal.{sizes_fit}
use Rattle.laws.specs.Tests.{clash}
use Rattle.laws.specs.ListLaws.{get_or-replicate-default}
use Rattle.laws.specs.Elements.{any-false-intro}
use Rattle.laws.specs.Sums.{sum}
use Rattle.laws.specs.Counts.{count-from, count-from-below}
use Rattle.representation.proofs.Discipline.Frame.{in_lane}
use Rattle.representation.proofs.Discipline.Ages.{none as none_a, rests}
use Rattle.representation.proofs.ExtraWords.{extra-fresh}
use Rattle.representation.proofs.WellFormed.{WellFormed, LaneFits, chained}

nothing-queued : (x n : ℕ) → sum (in_lane x) (replicate n fresh_lane) ≡ 0
unfolding count
nothing-queued x zero = refl
nothing-queued x (suc n) = omega (arith, nothing-queued x n)

pub fresh-fits : (n : ℕ) → LaneFits n fresh_lane
fresh-fits n = record { counts = record { four = refl; words = zeros }; lookup = tt; snapshot = tt; off = λ x. clash refl x; extra = extra-fresh }
  where
    zeros : (k : ℕ) → get_or (0 ∷ 0 ∷ 0 ∷ 0 ∷ []) k 0 < count_limit
    zeros zero = omega arith
    zeros (suc zero) = omega arith
    zeros (suc (suc zero)) = omega arith
    zeros (suc (suc (suc zero))) = omega arith
    zeros (suc (suc (suc (suc k)))) = omega arith

module _ (z : Sizes) where
  abbrev e : Engine
  e = (fresh z).engine

  lane-is : (i : ℕ) → lane_at e i ≡ fresh_lane
  unfolding fresh
  lane-is = get_or-replicate-default fresh_lane (lane_count z)

  product_is : (x : ℕ) → product_at (fresh z).table.products x ≡ blank
  unfolding fresh
  product_is = get_or-replicate-default blank z.slots

  unchained : (x : ℕ) → chained x (fresh z).table ≡ 0
  unfolding count fresh
  unchained x = refl

  pub fresh-well_formed : sizes_fit z ≡ true → WellFormed (fresh z)
  unfolding count fresh is_empty
  fresh-well_formed h = record {
    sizes = h;
    lanes = length-replicate (lane_count z) fresh_lane;
    fits = λ i. rw (lane-is i) (fresh-fits z.slots);
    table = record {
      chains = refl;
      products = length-replicate z.slots blank;
      links = length-replicate z.slots none;
      on_chain = λ k x b. absurd (let d : 0 < count x [] = rw (get_or-replicate-default {A = List ℕ} [] chain_count k) at b in omega arith);
      distinct = λ x y a b q. absurd (omega (arith, unchained x));
      in_range = λ x. rw (product_is x) (record { code = omega arith; deposit = omega arith; material = omega arith });
      link_range = λ x. inr (get_or-replicate-default none z.slots x);
      blanks = λ x b. product_is x;
    };
    once = λ x b. omega (arith, unchained x, count-from x 0 z.slots (omega arith) (omega arith), nothing-queued x (lane_count z));
    range = λ x b. omega (arith, unchained x, count-from-below x 0 z.slots (omega (arith, unchained x, nothing-queued x (lane_count z))));
    unlinked = λ x b. get_or-replicate-default none z.slots x;
    generations = record {
      word = omega arith;
      largest = rests (any-false-intro fresh_lane is_pending e.lanes (λ i. ap is_pending (lane-is i))) (omega arith) refl;
      lanes = λ i. rw (lane-is i) (none_a refl refl);
      global = none_a refl refl;
    };
  }
