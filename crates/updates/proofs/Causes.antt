-- The causes of an update, tested one after another: where none of those of its lane or of an entry applies, the others decide.
use mathlib.Core.Path.{◌≡◌, refl, sym, subst}
use mathlib.Core.List.{List, []}
use native.Mathlib.Omega.{arith}
use Prim.Native.Nat.{ℕ}
use Rattle.std.specs.Prelude.{Option, Some, None, Result, Err}
use Rattle.std.specs.Option.{ok_or}
use Rattle.std.specs.Result.{IsErrAnd}
use Rattle.model.specs.State.{State}
use Rattle.model.specs.Rules.{Cause, first_cause, of_lane, of_entry}
use Rattle.access.specs.declared.causes.Cause.{Cause as Refusal}
use Rattle.access.proofs.Refusals.{lane-goes-by, entry-goes-by}

pub after-lane : (s : State) (i : ℕ) → 0 ≡ first_cause (of_lane s i []) → (cs : List Cause) → first_cause (of_lane s i cs) ≡ first_cause cs
after-lane s i e cs = sym (lane-goes-by s i cs 0 e (first_cause cs) (omega arith) refl)

pub after-entry : (s : State) (i c d t : ℕ) → 0 ≡ first_cause (of_entry s i c d t []) → (cs : List Cause) → first_cause (of_entry s i c d t cs) ≡ first_cause cs
after-entry s i c d t e cs = sym (entry-goes-by s i c d t cs 0 e (first_cause cs) (omega arith) refl)

-- ---- None, made a cause x by `ok_or`, which is handed on

pub none-refused : {T : Type 0} (o : Option T) (x e : Refusal) (r : Result (List ℕ) Refusal) → o ≡ None → Err e ≡ ok_or o x → IsErrAnd r (λ d. d ≡ e)
    → IsErrAnd r (λ d. d ≡ x)
none-refused {T} o x e r q v h = subst (λ (y : Refusal). IsErrAnd r (λ d. d ≡ y)) (go o q v) h
  where
    go : (y : Option T) → y ≡ None → Err e ≡ ok_or y x → e ≡ x
    go None q v = cc
    go (Some t) q v = absurd cc
