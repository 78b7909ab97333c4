-- Groups of the same size: a loop over the members of each, in a loop over the groups, asks of all members, and each group lies within them.
-- A lane's words are the memory's from its first on.
use Prim.Native.Nat.{ℕ, zero, suc, ◌+◌, ◌*◌, ◌-◌, ◌/◌, ◌%◌, ◌<◌, ◌≤◌}
use mathlib.Core.Bool.{Bool, true}
use mathlib.Core.Path.{◌≡◌, ap, ap₂, sym, ◌∙◌, fun_ext}
use mathlib.Core.List.{List}
use native.Mathlib.Omega.{arith}
use native.Mathlib.Nat.{suc-mul, mul-le-mul_right, mul-add-mod_self_right, mul-add-div_right, mod-eq_of_lt, div-eq_of_lt, mul_comm, mul_assoc}
use native.Mathlib.Nat.{mod-lt, div-lt_iff_lt-mul, div-add-mod'}
use lib.ListN.{length, take, drop}
use Rattle.std.proofs.lemmas.List.{get_or-drop, take_rest}
use Rattle.model.specs.Lists.{all, from}
use Rattle.model.specs.Layout.{lane_length}
use Rattle.model.specs.Memory.{at}
use Rattle.laws.specs.Tests.{all-below, all-below-intro}

-- ---- groups: N of them, of P members each; member p of group g is number g × P + p

-- the number of a member by its group and its place there
pub member-number : (P i : ℕ) → P * (i / P) + i % P ≡ i
member-number P i = omega (arith, mul_comm P (i / P), div-add-mod' i P)

-- group g lies within all
pub group-within : (N P g : ℕ) → g < N → P * g + P ≤ N * P
group-within N P g h = let q : suc g * P ≤ N * P = mul-le-mul_right P h in omega (arith, suc-mul g P, mul_comm P g)

-- of lanes
pub lanes-within : (N P g : ℕ) → g < N → lane_length * P * g + lane_length * P ≤ lane_length * (N * P)
lanes-within N P g h = omega (arith, group-within N P g h, mul_assoc lane_length P g)

module _ (g p P N : ℕ) (hp : p < P) (hg : g < N) where
  member-lt : g * P + p < N * P
  member-lt = let q : suc g * P ≤ N * P = mul-le-mul_right P hg in omega (arith, suc-mul g P)

  member-mod : (g * P + p) % P ≡ p
  member-mod = mul-add-mod_self_right g P p ∙ mod-eq_of_lt hp

  member-div : (g * P + p) / P ≡ g
  member-div = mul-add-div_right (omega arith) g p ∙ ap (λ (x : ℕ). g + x) (div-eq_of_lt hp) ∙ omega arith

-- f asks of a group and a place
module _ (f : ℕ → ℕ → Bool) (N P : ℕ) where
  pub groups-each : all (λ (g : ℕ). all (f g) (from 0 P)) (from 0 N) ≡ true → (i : ℕ) → i < N * P → f (i / P) (i % P) ≡ true
  groups-each h i b =
      let q : 0 < P = some P b in
      all-below (f (i / P)) P (i % P) (all-below (λ (g : ℕ). all (f g) (from 0 P)) N (i / P) h ((div-lt_iff_lt-mul q).1 b)) (mod-lt i q)
    where
      some : (P : ℕ) → i < N * P → 0 < P
      some zero b = omega arith
      some (suc P) b = omega arith

  pub each-groups : ((i : ℕ) → i < N * P → f (i / P) (i % P) ≡ true) → all (λ (g : ℕ). all (f g) (from 0 P)) (from 0 N) ≡ true
  each-groups h =
      all-below-intro (λ (g : ℕ). all (f g) (from 0 P)) N (λ g hg. all-below-intro (f g) P (λ p hp.
      sym (ap₂ f (member-div g p P N hp hg) (member-mod g p P N hp hg)) ∙ h (g * P + p) (member-lt g p P N hp hg)))

-- ---- a lane's words, which begin at a

pub words-from : (m : List ℕ) (a : ℕ) → at (take (length m - a) (drop a m)) ≡ (λ (k : ℕ). at m (a + k))
words-from m a = fun_ext (λ (k : ℕ). ap (λ (ws : List ℕ). at ws k) (take_rest m a) ∙ get_or-drop a m k 0)
