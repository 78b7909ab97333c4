-- The generations of a well-formed state's engine are as legality asks.
use Prim.Native.Nat.{ℕ, ◌<◌}
use mathlib.Core.Path.{◌≡◌, sym, ap₂, ◌∙◌}
use mathlib.Core.Logic.{◌⊎◌, inl, inr}
use mathlib.Core.Bool.{Bool, true, false}
use native.Mathlib.Omega.{arith}
use lib.Dec.{eqb}
use borrow.Author.Tests.{eq-eqb}
use Rattle.model.specs.Word.{word_limit, up, down, later}
use Rattle.model.specs.Lists.{is_empty}
use Rattle.model.specs.State.{Queues, Lane, Engine}
use Rattle.model.specs.Engine.{runs}
use Rattle.model.specs.Legal.{largest_fits}
use Rattle.laws.specs.Tests.{clash, or_left, or_right}
use Rattle.laws.specs.Generations.{later-self, later-up, later-up-up, up_word}
use Rattle.representation.proofs.Discipline.Ages.{none as none_a, old, now, soon, Age, Strict, Clean, Level, rests, goes}
use Rattle.representation.proofs.Sentences.Facts.{Near, NearGlobal}

module _ (e : Engine) where
  -- with b saying whether a period runs
  pub largest-fits : (b : Bool) → b ≡ runs e → e.current < word_limit → Level e → largest_fits e.current e.largest b ≡ true
  largest-fits b q w (rests r h p) = let d : e.largest ≡ down e.current = omega arith in rw (q, r) (eq-eqb e.largest (down e.current) d)
  largest-fits b q w (goes r (inl p)) = rw (q, r) (or_left (eqb e.largest e.current) (eqb e.largest (up e.current)) (eq-eqb _ _ p))
  largest-fits b q w (goes r (inr p)) = rw (q, r) (or_right (eqb e.largest e.current) (eqb e.largest (up e.current)) (eq-eqb _ _ p))

  -- the generation before the current is not later than the largest
  old-not-later : (g : ℕ) → g < word_limit → up g ≡ e.current → Level e → later g e.largest ≡ false
  old-not-later g b p (rests r c q) = let x : e.largest ≡ g = omega arith in rw x (later-self b)
  old-not-later g b p (goes r (inl q)) = rw (q, ← p) (later-up b)
  old-not-later g b p (goes r (inr q)) = rw (q, ← p) (later-up-up b)

  now-not-later : (g : ℕ) → e.current < word_limit → g ≡ e.current → (e.largest ≡ e.current) ⊎ (e.largest ≡ up e.current) → later g e.largest ≡ false
  now-not-later g w p (inl q) = ap₂ later p q ∙ later-self w
  now-not-later g w p (inr q) = ap₂ later p q ∙ later-up w

  soon-not-later : (g : ℕ) → g ≡ up e.current → e.largest ≡ up e.current → later g e.largest ≡ false
  soon-not-later g p q = ap₂ later p q ∙ later-self (up_word e.current)

  pub lane-near : (b : Bool) (l : Lane) → b ≡ runs e → e.current < word_limit → Level e → Strict e l → is_empty l.queues.current ≡ false
      → Near e.current e.largest b l
  lane-near b l r w v (none_a a d) h = clash a h
  lane-near b l r w v (old a d) h = record {
    near = inl (omega (arith, d.word, d.before));
    not_later = old-not-later l.queues.generation d.word d.before v;
    awaited = λ p q. d.waits (sym r ∙ q);
  }
  lane-near b l r w v (now a d k) h = record {
    near = inr (inl d);
    not_later = now-not-later l.queues.generation w d k;
    awaited = λ p q. absurd (omega arith);
  }
  lane-near b l r w v (soon a d k) h = record {
    near = inr (inr d);
    not_later = soon-not-later l.queues.generation d k;
    awaited = λ p q. absurd (omega arith);
  }

  pub global-near : e.current < word_limit → Clean e e.global → is_empty e.global.current ≡ false → NearGlobal e.current e.largest e.global
  global-near w (none_a a d) h = clash a h
  global-near w (old a d) h = absurd d
  global-near w (now a d k) h = record { near = inl d; not_later = now-not-later e.global.generation w d k }
  global-near w (soon a d k) h = record { near = inr d; not_later = soon-not-later e.global.generation d k }

  pub at_rest : {O : Type 0} (c n : ℕ) (q : Queues) → Age O c n q → is_empty q.current ≡ true → q.generation ≡ 0
  at_rest c n q (none_a a b) h = b
  at_rest c n q (old a b) h = clash h a
  at_rest c n q (now a b d) h = clash h a
  at_rest c n q (soon a b d) h = clash h a
