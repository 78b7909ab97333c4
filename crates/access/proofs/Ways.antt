-- The three ways out of a call: the memory is not legal, a cause refuses it, or none does.
use Prim.Native.Nat.{ℕ, zero, suc, ◌≤◌, ◌<◌}
use mathlib.Core.Path.{◌≡◌, refl, sym, ap, ◌∙◌}
use mathlib.Core.Bool.{Bool, true, false, not}
use mathlib.Core.List.{List}
use native.Mathlib.Omega.{arith}
use lib.ListN.{length}
use Rattle.std.specs.Prelude.{Result, Err}
use Rattle.std.specs.Result.{IsErrAnd}
use Rattle.std.proofs.lemmas.Result.{err_from_is_err_and}
use borrow.Author.Tests.{not-true}
use Rattle.model.specs.Layout.{total}
use Rattle.model.specs.Rules.{Op, refused, refusal, answer, answer_of as answer_by, next, next_of, result, performed}
use Rattle.model.specs.Memory.{sizes, state}
use Rattle.model.specs.Legal.{legal}
use Rattle.model.specs.Calls.{on_state, stored}
use Rattle.representation.proofs.Sentences.Facts.{SizesFit}
use Rattle.representation.proofs.WellFormed.{WellFormed}
use Rattle.representation.proofs.FromState.Standing.{fit}
use Rattle.representation.proofs.Round.{ready, stored-state}
use Rattle.representation.proofs.MemoryCalls.{reply-illegal, left-illegal, reply-legal, left-legal}
use Rattle.representation.specs.Sound.{Sound}
use Rattle.representation.proofs.Causes.Accepted.{Accepted, accepts}
use Rattle.changes.proofs.Shows.{Shows, shows-state}
use Rattle.access.specs.declared.Answer.{Answer}
use Rattle.access.specs.declared.causes.Cause.{Cause}
use Rattle.access.specs.declared.causes.Cause.TheVariants.{NotLegal}
use Rattle.access.specs.Causes.{number_of, answer_of}
use Rattle.access.specs.Contract.{five, Does}
use Rattle.access.proofs.Numbers.{numbered}

module _ (m : List ℕ) (k : Op) where
  -- by the legality check b
  pub illegal : (b : Bool) → b ≡ legal m → not b ≡ true → Does (on_state k) m (answer_of (Err NotLegal)) m
  illegal b q t =
      let h : legal m ≡ false = sym q ∙ not-true b t in
      record { answer = sym (reply-illegal m k h); memory = sym (left-illegal m k h) }

  module _ (v : Sound m) where
    -- by any number above 0
    pub refuses : (x : ℕ) (r : Answer) → x ≡ refusal (state m) k → 0 < x → five r ≡ refused x → Does (on_state k) m r m
    unfolding answer next
    refuses zero r e b f = absurd (omega arith)
    refuses (suc x) r e b f = record {
      answer = f ∙ sym (reply-legal m k v.lawful ∙ ap (λ (y : ℕ). answer_by (state m) y k) (sym e));
      memory = sym (left-legal m k v.lawful v.words ∙ ap (λ (y : ℕ). stored (next_of (state m) y k) m) (sym e) ∙ stored-state m v.lawful v.words);
    }

    -- by the cause that the code answers
    pub cause-refuses : (e : Cause) (r : Result (List ℕ) Cause) → number_of e ≡ refusal (state m) k → IsErrAnd r (λ d. d ≡ e) → Does (on_state k) m (answer_of r) m
    cause-refuses e r q h = let p = err_from_is_err_and r h in rw (p.1, p.2) (refuses (number_of e) (answer_of (Err e)) q (omega (arith, numbered e)) refl)

    pub performs : 0 ≡ refusal (state m) k → (r : Answer) (n : List ℕ) → five r ≡ result (state m) k → n ≡ stored (performed (state m) k) m
        → Does (on_state k) m r n
    unfolding answer next
    performs e r n f g = record {
      answer = f ∙ sym (reply-legal m k v.lawful ∙ ap (λ (y : ℕ). answer_by (state m) y k) (sym e));
      memory = g ∙ sym (left-legal m k v.lawful v.words ∙ ap (λ (y : ℕ). stored (next_of (state m) y k) m) (sym e));
    }

-- what is known of a call that no cause refuses
pub passed : (m : List ℕ) (k : Op) → 0 ≡ refusal (state m) k → Accepted (state m) k
passed m k e = accepts (state m) k (sym e)

-- ---- what a legal memory has

module _ (m : List ℕ) (v : Sound m) where
  pub shown : Shows m (state m)
  shown = shows-state m v.lawful v.words

  pub well_formed : WellFormed (state m)
  well_formed = (ready m v.lawful v.words).well_formed

  pub in_range : SizesFit (sizes m)
  unfolding state
  in_range = fit (state m) well_formed

  pub long : total (sizes m) ≤ length m
  long = (ready m v.lawful v.words).long
