-- The cases of the machine's steps, as equations: what the code does at each byte, and what becomes of a line that is bad.
use Prim.Native.Nat.{ℕ, ◌+◌, ◌-◌, ◌*◌, ◌^◌, ◌≤◌, ◌<◌}
use mathlib.Core.Bool.{Bool, true, false, cond}
use mathlib.Core.List.{List, [], ◌∷◌, ◌++◌}
use mathlib.Core.Path.{◌≡◌, refl, sym, ap, ◌∙◌}
use native.Mathlib.Omega.{arith}
use lib.ListN.{length}
use lib.Dec.{ltb}
use borrow.Author.Tests.{lt-ltb, le-ltb, eq-eqb, ne_eqb}
use Rattle.std.specs.Prelude.{None, Some, SomeIff}
use Rattle.std.specs.declared.option.Option.{Option}
use Rattle.model.specs.Digits.{is_digit}
use Rattle.listing_text.specs.Call.{bad}
use Rattle.listing_text.specs.Machine.{naming, started, arguing, so_far, with_digit, grown, argued, ended, fed, fed_all, requested}
use Rattle.listing_text.specs.LineReading.{Reads, Feeds}
use Rattle.listing_text.specs.declared.command.Command.{Command}
use Rattle.listing_text.specs.declared.line.Line.{Line}
use Rattle.listing_text.specs.declared.line.Line.TheVariants.{Bad, Naming, Arguing}

-- ---- a digit

module _ (v : Option ℕ) (b : ℕ) where
  pub digit_none : is_digit b ≡ false → None ≡ with_digit v b
  unfolding with_digit
  digit_none e = rw e

  -- where the number before it is too large already, and where the sum is
  pub digit_wide : 2 ^ 64 ≤ so_far v * 10 → None ≡ with_digit v b
  unfolding with_digit
  digit_wide h = go (is_digit b)
    where
      go : (t : Bool) → None ≡ cond t (cond (ltb (so_far v * 10 + (b - 48)) (2 ^ 64)) (Some (so_far v * 10 + (b - 48))) None) None
      go true = rw (le-ltb (so_far v * 10 + (b - 48)) (2 ^ 64) (omega arith))
      go false = refl

  pub digit_summed : (r : Option ℕ) → is_digit b ≡ true → SomeIff r (so_far v * 10 + (b - 48) < 2 ^ 64) (so_far v * 10 + (b - 48)) → r ≡ with_digit v b
  unfolding with_digit
  digit_summed None e h = rw (e, le-ltb (so_far v * 10 + (b - 48)) (2 ^ 64) (omega arith))
  digit_summed (Some n) e h = rw (e, lt-ltb (so_far v * 10 + (b - 48)) (2 ^ 64) h.0, h.1)

-- ---- the end of an argument

module _ (c : Command) (vs : List ℕ) (n : ℕ) where
  pub argued-more : (vs' : List ℕ) → length vs < 4 → vs' ≡ vs ++ n ∷ [] → Arguing c vs' None ≡ argued c vs n
  unfolding argued
  argued-more vs' h e = rw (lt-ltb (length vs) 4 h) (ap (λ (xs : List ℕ). arguing c xs None) e)

  pub argued-full : 4 ≤ length vs → Bad ≡ argued c vs n
  unfolding argued
  argued-full h = rw (le-ltb (length vs) 4 h)

-- ---- a byte of a word, and the end of one

module _ (b : ℕ) where
  pub grown-letter : (w w' : List ℕ) → length w < 7 → w' ≡ w ++ b ∷ [] → Naming w' ≡ grown (Naming w) b
  unfolding grown
  grown-letter w w' h e = rw (lt-ltb (length w) 7 h) (ap naming e)

  pub grown-long : (w : List ℕ) → 7 ≤ length w → Bad ≡ grown (Naming w) b
  unfolding grown
  grown-long w h = rw (le-ltb (length w) 7 h)

module _ (l : Line) (b : ℕ) where
  pub fed-space : b ≡ 32 → fed l b ≡ ended l
  unfolding fed
  fed-space e = rw (eq-eqb b 32 e)

  pub fed-other : (b ≡ 32 → ⊥) → fed l b ≡ grown l b
  unfolding fed
  fed-other e = rw (ne_eqb b 32 e)

-- ---- words

-- the bytes of a word, none of them a space
unfoldable pub grown_all : Line → List ℕ → Line
grown_all l [] = l
grown_all l (b ∷ w) = grown_all (grown l b) w

-- words, each with its end
unfoldable pub words_fed : Line → List (List ℕ) → Line
words_fed l [] = l
words_fed l (w ∷ ws) = words_fed (ended (grown_all l w)) ws

-- a bad line stays what it is

pub grown_all-bad : (w : List ℕ) → grown_all Bad w ≡ Bad
unfolding grown_all grown
grown_all-bad [] = refl
grown_all-bad (b ∷ w) = grown_all-bad w

pub words_fed-bad : (ws : List (List ℕ)) → words_fed Bad ws ≡ Bad
unfolding words_fed ended
words_fed-bad [] = refl
words_fed-bad (w ∷ ws) = ap (λ (x : Line). words_fed (ended x) ws) (grown_all-bad w) ∙ words_fed-bad ws

-- a word whose end made the line bad, or that did: the words after it do not matter
pub end-bad : (l : Line) (w : List ℕ) (ws : List (List ℕ)) → ended (grown_all l w) ≡ Bad → requested (words_fed l (w ∷ ws)) ≡ bad
unfolding words_fed requested
end-bad l w ws e = ap (λ (x : Line). requested (words_fed x ws)) e ∙ ap requested (words_fed-bad ws)

pub word-bad : (l : Line) (w : List ℕ) (ws : List (List ℕ)) → grown_all l w ≡ Bad → requested (words_fed l (w ∷ ws)) ≡ bad
unfolding ended
word-bad l w ws e = end-bad l w ws (ap ended e)

-- ---- bytes one after the other

pub fed_all-append : (l : Line) (u w : List ℕ) → fed_all l (u ++ w) ≡ fed_all (fed_all l u) w
fed_all-append l [] w = refl
fed_all-append l (b ∷ u) w = fed_all-append (fed l b) u w

pub reads-append : {l r : Line} (w : List ℕ) → r ≡ fed_all l w → (bs : List ℕ) → Reads l bs → Reads r (bs ++ w)
reads-append w e bs h = e ∙ ap (λ (x : Line). fed_all x w) h ∙ sym (fed_all-append started bs w)

pub reads-fed : {l r : Line} (b : ℕ) → r ≡ fed l b → (bs : List ℕ) → Reads l bs → Reads r (bs ++ b ∷ [])
reads-fed b e bs h = reads-append (b ∷ []) e bs h

pub feeds : {l : Line} {b : ℕ} {r : Line} → r ≡ fed l b → Feeds l b r
feeds {l} {b} e = record { machine = e; reads = reads-fed b e }
