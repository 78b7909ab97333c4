-- A line and its answer: the ways through `put_call` and `answer_line`, and the line that has not ended.
use Prim.Native.Nat.{ℕ, ◌+◌}
use mathlib.Core.List.{List, [], ◌∷◌, append-nil}
use mathlib.Core.Path.{◌≡◌, refl, sym, ap, subst, ◌∙◌}
use native.Mathlib.Omega.{arith}
use lib.ListN.{length, length-append}
use Rattle.std.specs.Prelude.{None, Some}
use Rattle.std.specs.Option.{unwrap_or}
use Rattle.std.specs.declared.option.Option.{Option}
use Rattle.model.specs.Calls.{Call}
use Rattle.access.specs.declared.Answer.{Answer}
use Rattle.access.specs.Contract.{five, Does}
use Rattle.calls.specs.declared.Call as code-call
use Rattle.listing_text.specs.Call.{Parsed, bad, call, parsed}
use Rattle.listing_text.specs.Answer.{line_length, bad_length, line_text, bad_text, Puts}
use Rattle.listing_text.specs.Arguments.{parsed_of}
use Rattle.listing_text.specs.LineReading.{Reads, Finishes}
use Rattle.listing_text.specs.declared.line.Line.{Line}
use Rattle.listing.specs.Output.{answered, after, answered_all, after_all}
use Rattle.listing.specs.ProgramContract.{Prints, Holds, AnswersLine}

-- ---- a line that has ended

-- the five words of a call
pub prints-call : {m m' xs ys : List ℕ} (k : Call) (r : Answer) → Does k m r m' → Puts line_length xs (line_text (five r)) ys → Prints m (call k) xs m' ys
unfolding answered after
prints-call {m} {m'} {xs} {ys} k r d t =
    record { text = subst (λ (w : List ℕ). Puts line_length xs w ys) (ap line_text d.answer) t; memory = d.memory }

pub prints-bad : {m xs ys : List ℕ} → Puts bad_length xs bad_text ys → Prints m bad xs m ys
unfolding answered after
prints-bad t = record { text = record { text = t.text; short = omega (arith, t.short) }; memory = refl }

-- a line that has been read asks for what its bytes say
pub answers-line : {m m' xs ys : List ℕ} (l : Line) (r : Option code-call.Call) (q : Parsed) → Finishes l r → parsed_of r ≡ q → Prints m q xs m' ys
    → AnswersLine l m xs m' ys
answers-line {m} {m'} {xs} {ys} l r q f e t =
    record {
      prints = λ p h. subst (λ (x : Parsed). Prints m x xs m' ys) (sym e ∙ f.reads p h) t;
      short =
          let n : length ys ≡ length xs + length (answered m q) = ap length t.text.text ∙ simp length-append in
          omega (arith, t.text.short);
    }

-- ---- one line, and none

module _ (m : List ℕ) where
  pub answered-one : (q : List ℕ) → answered_all m (q ∷ []) ≡ answered m (parsed q)
  unfolding answered_all
  answered-one q = append-nil (answered m (parsed q))

  pub after_one : (q : List ℕ) → after_all m (q ∷ []) ≡ after m (parsed q)
  unfolding after_all
  after_one q = refl

  pub answered-nothing : answered_all m [] ≡ []
  unfolding answered_all
  answered-nothing = refl

  pub after_nothing : after_all m [] ≡ m
  unfolding after_all
  after_nothing = refl

-- ---- the line that has not ended

pub holds_as : (u : Option Line) {p q : List ℕ} → p ≡ q → Holds u p → Holds u q
holds_as u e h = subst (Holds u) e h

-- the line that goes on, or a new one
pub holds-reads : (u : Option Line) (n : Line) (p : List ℕ) → Reads n [] → Holds u p → Reads (unwrap_or u n) p
holds-reads None n p h e = subst (Reads n) (sym e) h
holds-reads (Some l) n p h k = k.0
