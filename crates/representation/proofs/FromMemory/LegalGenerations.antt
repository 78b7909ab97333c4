-- The generations that legality allows are those of a well-formed state's engine.
use Prim.Native.Nat.{ℕ, ◌<◌}
use mathlib.Core.Path.{◌≡◌, refl, sym, ap, ◌∙◌}
use mathlib.Core.Logic.{◌⊎◌, inl, inr}
use mathlib.Core.Bool.{Bool, true, false}
use native.Mathlib.Omega.{arith}
use lib.Dec.{eqb}
use borrow.Author.Tests.{eqb-true}
use Rattle.model.specs.Word.{word_limit, up, down, later}
use Rattle.model.specs.Lists.{is_empty}
use Rattle.model.specs.State.{Lane, Engine}
use Rattle.model.specs.Engine.{runs}
use Rattle.model.specs.Legal.{largest_fits}
use Rattle.laws.specs.Tests.{clash, or_cases}
use Rattle.laws.specs.Generations.{up-down, up-later, up-up-later}
use Rattle.representation.proofs.Discipline.Ages.{none as none_a, old, now, soon, Strict, Clean, Level, rests, goes}
use Rattle.representation.proofs.Sentences.Facts.{Near, NearGlobal}

module _ (e : Engine) (w : e.current < word_limit) where
  pub level : (b : Bool) → b ≡ runs e → e.largest < word_limit → largest_fits e.current e.largest b ≡ true → Level e
  level true q h f =
      goes (sym q) (or_cases (eqb e.largest e.current) (eqb e.largest (up e.current)) f (λ x. inl (eqb-true _ _ x)) (λ x. inr (eqb-true _ _ x)))
  level false q h f = let d : e.largest ≡ down e.current = eqb-true e.largest (down e.current) f in rests (sym q) h (omega arith)

  -- a generation not later than the largest says where the largest stands
  largest-now : Level e → (g : ℕ) → g ≡ e.current → later g e.largest ≡ false → (e.largest ≡ e.current) ⊎ (e.largest ≡ up e.current)
  largest-now (goes r d) g q h = d
  largest-now (rests r b p) g q h = let k : later g e.largest ≡ true = rw (q, ← p) (up-later b) in clash k h

  largest-soon : Level e → (g : ℕ) → g ≡ up e.current → later g e.largest ≡ false → e.largest ≡ up e.current
  largest-soon (goes r (inr d)) g q h = d
  largest-soon (goes r (inl d)) g q h = let k : later g e.largest ≡ true = rw (q, d) (up-later w) in clash k h
  largest-soon (rests r b p) g q h = let k : later g e.largest ≡ true = rw (q, ← p) (up-up-later b) in clash k h

  pub strict : (b : Bool) (l : Lane) → b ≡ runs e → Level e → (is_empty l.queues.current ≡ true → l.queues.generation ≡ 0)
      → (is_empty l.queues.current ≡ false → Near e.current e.largest b l) → Strict e l
  strict b l q v r f = go (is_empty l.queues.current) refl
    where
      placed : is_empty l.queues.current ≡ false → (n : Near e.current e.largest b l)
          → (l.queues.generation ≡ down e.current) ⊎ ((l.queues.generation ≡ e.current) ⊎ (l.queues.generation ≡ up e.current)) → Strict e l
      placed p n (inl x) = old p (record { word = omega arith; before = ap up x ∙ up-down w; waits = λ c. n.awaited x (q ∙ c) })
      placed p n (inr (inl x)) = now p x (largest-now v l.queues.generation x n.not_later)
      placed p n (inr (inr x)) = soon p x (largest-soon v l.queues.generation x n.not_later)

      go : (c : Bool) → is_empty l.queues.current ≡ c → Strict e l
      go true p = none_a p (r p)
      go false p = placed p (f p) (f p).near

  pub clean : Level e → (is_empty e.global.current ≡ true → e.global.generation ≡ 0)
      → (is_empty e.global.current ≡ false → NearGlobal e.current e.largest e.global) → Clean e e.global
  clean v r f = go (is_empty e.global.current) refl
    where
      placed : is_empty e.global.current ≡ false → NearGlobal e.current e.largest e.global
          → (e.global.generation ≡ e.current) ⊎ (e.global.generation ≡ up e.current) → Clean e e.global
      placed p n (inl x) = now p x (largest-now v e.global.generation x n.not_later)
      placed p n (inr x) = soon p x (largest-soon v e.global.generation x n.not_later)

      go : (c : Bool) → is_empty e.global.current ≡ c → Clean e e.global
      go true p = none_a p (r p)
      go false p = placed p (f p) (f p).near
