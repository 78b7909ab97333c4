-- Causes tested one after another: the number that the code answers is that of the first that applies. `refusals` is what the tests of
-- any function need for that, where the causes of its call and `first_cause` are unfolded. Where the causes of a lane are tested together before the
-- others and one of them applies, it is handed on.
use Prim.Native.Nat.{ℕ, ◌≤◌, ◌<◌}
use mathlib.Core.Path.{◌≡◌, refl, sym, ◌∙◌}
use mathlib.Core.Bool.{Bool, true, false, cond}
use mathlib.Core.List.{List, [], ◌∷◌, ◌++◌}
use native.Mathlib.Omega.{arith}
use Rattle.std.specs.Prelude.{Result}
use Rattle.std.specs.Result.{IsErrAnd}
use Rattle.std.proofs.lemmas.Result.{err_from_is_err_and}
use Rattle.model.specs.State.{State}
use Rattle.model.specs.Rules.{Cause, first_cause, of_lane, of_entry}
use Rattle.representation.proofs.Causes.Passed.{Numbered, Clear, clear}
use Rattle.access.specs.declared.causes.Cause.{Cause as Refusal}
use Rattle.access.specs.Causes.{number_of, refusal_of}
use Rattle.access.proofs.Numbers.{numbered}
use Rattle.access.proofs.LaneLaws.{counted}

pub ruleset refusals = (numbered, counted)

-- the first of some causes, before others
first-of-some : (cs ds : List Cause) (x : ℕ) → x ≡ first_cause cs → 0 < x → x ≡ first_cause (cs ++ ds)
unfolding first_cause
first-of-some [] ds x e h = absurd (omega arith)
first-of-some (c ∷ cs) ds x e h = go c.applies (λ q. first-of-some cs ds x q h) e
  where
    go : (b : Bool) → (x ≡ first_cause cs → x ≡ first_cause (cs ++ ds)) → x ≡ cond b c.number (first_cause cs) → x ≡ cond b c.number (first_cause (cs ++ ds))
    go true ih q = q
    go false ih q = ih q

handed-on : {T : Type 0} → (cs ds : List Cause) (e : Refusal) (r : Result T Refusal) → number_of e ≡ first_cause cs → IsErrAnd r (λ d. d ≡ e) → refusal_of r ≡ first_cause (cs ++ ds)
handed-on cs ds e r q h = let p = err_from_is_err_and r h in rw (p.1, p.2) (first-of-some cs ds (number_of e) q (numbered e))

-- those of a lane
pub lane-stops : {T : Type 0} → (s : State) (i : ℕ) (cs : List Cause) (e : Refusal) (r : Result T Refusal) → number_of e ≡ first_cause (of_lane s i []) → IsErrAnd r (λ d. d ≡ e)
    → refusal_of r ≡ first_cause (of_lane s i cs)
lane-stops s i cs = handed-on (of_lane s i []) cs

-- those of an entry of the office
pub entry-stops : {T : Type 0} → (s : State) (i c d m : ℕ) (cs : List Cause) (e : Refusal) (r : Result T Refusal) → number_of e ≡ first_cause (of_entry s i c d m [])
    → IsErrAnd r (λ x. x ≡ e) → refusal_of r ≡ first_cause (of_entry s i c d m cs)
entry-stops s i c d m cs = handed-on (of_entry s i c d m []) cs

-- where none of them applies, the others decide
skipped : (cs ds : List Cause) → Clear cs → first_cause (cs ++ ds) ≡ first_cause ds
unfolding first_cause
skipped [] ds h = refl
skipped (c ∷ cs) ds h = rw h.0 (skipped cs ds h.1)

first-of-others : (cs ds : List Cause) (x : ℕ) → Numbered cs → x ≡ first_cause cs → (n : ℕ) → x ≤ 0 → n ≡ first_cause ds → n ≡ first_cause (cs ++ ds)
first-of-others cs ds x k e n h q = let z : x ≡ 0 = omega arith in q ∙ sym (skipped cs ds (clear cs k (sym e ∙ z)))

-- so for a lane, and for an entry of the office
pub lane-goes-by : (s : State) (i : ℕ) (cs : List Cause) (x : ℕ) → x ≡ first_cause (of_lane s i []) → (n : ℕ) → x ≤ 0 → n ≡ first_cause cs
    → n ≡ first_cause (of_lane s i cs)
lane-goes-by s i cs x e = first-of-others (of_lane s i []) cs x (omega arith) e

pub entry-goes-by : (s : State) (i c d m : ℕ) (cs : List Cause) (x : ℕ) → x ≡ first_cause (of_entry s i c d m []) → (n : ℕ) → x ≤ 0 → n ≡ first_cause cs
    → n ≡ first_cause (of_entry s i c d m cs)
entry-goes-by s i c d m cs x e = first-of-others (of_entry s i c d m []) cs x (omega arith) e
