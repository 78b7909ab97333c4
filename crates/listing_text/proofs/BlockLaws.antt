-- A block up to its first newline, fed to a line.
use Prim.Native.Nat.{ℕ, suc, ◌+◌, ◌-◌, ◌<◌}
use mathlib.Core.Bool.{Bool, false}
use mathlib.Core.List.{List, [], ◌∷◌, ◌++◌}
use mathlib.Core.Path.{◌≡◌, refl, sym, ap, subst, ◌∙◌}
use native.Mathlib.Decide.{ℕ_discrete, dec_lt}
use native.Mathlib.Omega.{arith}
use lib.ListN.{length, take, drop, length-drop}
use lib.Seq.{take-length}
use lib.Dec.{eqb}
use denote.Ref.{Bor}
use borrow.Author.Tests.{eq-eqb, ne_eqb, lt-ltb, le-ltb}
use Rattle.std.specs.Prelude.{None, Some, position}
use Rattle.std.specs.declared.option.Option.{Option}
use Rattle.std.specs.List.{position_or_len}
use Rattle.model.specs.Lists.{member}
use Rattle.listing_text.specs.Number.{newline}
use Rattle.listing_text.specs.Machine.{fed_all}
use Rattle.listing_text.specs.LineReading.{first_line, BlockFeeds}
use Rattle.listing_text.specs.declared.line.Line.{Line}
use Rattle.listing_text.proofs.MachineLaws.{reads-append}

-- the first newline of a block stands at i, if it has one
abbrev StandsAt : List ℕ → Option ℕ → Type 0
StandsAt bs None = (member newline bs ≡ false) × (first_line bs ≡ bs)
StandsAt bs (Some i) = (first_line bs ≡ take i bs) × (bs ≡ take i bs ++ newline ∷ drop (suc i) bs)

abbrev is_newline : ℕ → Bool
is_newline b = eqb b newline

module _ (b : ℕ) (bs : List ℕ) where
  stands-first : b ≡ newline → StandsAt (b ∷ bs) (Some 0)
  unfolding first_line
  stands-first e = (rw (eq-eqb newline b (sym e)), ap (λ (x : ℕ). x ∷ bs) e)

  stands-later : (k n : ℕ) → n ≡ suc k → (b ≡ newline → ⊥) → StandsAt bs (Some k) → StandsAt (b ∷ bs) (Some n)
  unfolding first_line
  stands-later k n e h s =
      rw (e, ne_eqb newline b (λ q. h (sym q))) (ap (λ (l : List ℕ). b ∷ l) s.0, ap (λ (l : List ℕ). b ∷ l) s.1)

  stands-nowhere : (b ≡ newline → ⊥) → StandsAt bs None → StandsAt (b ∷ bs) None
  unfolding first_line member
  stands-nowhere h s = rw (ne_eqb newline b (λ q. h (sym q))) (s.0, ap (λ (l : List ℕ). b ∷ l) s.1)

stands-at : (bs : List ℕ) → StandsAt bs (position is_newline bs)
unfolding first_line member
stands-at [] = (refl, refl)
stands-at (b ∷ bs) = go (ℕ_discrete b newline) (dec_lt (position_or_len is_newline bs) (length bs)) (stands-at bs)
  where
    k : ℕ
    k = position_or_len is_newline bs

    go : Dec (b ≡ newline) → Dec (k < length bs) → StandsAt bs (position is_newline bs) → StandsAt (b ∷ bs) (position is_newline (b ∷ bs))
    go (yes h) d s = rw (eq-eqb b newline h, lt-ltb 0 (suc (length bs)) (omega arith)) (stands-first b bs h)
    go (no h) (yes d) s =
        rw (ne_eqb b newline h, lt-ltb (1 + k) (suc (length bs)) (omega arith))
        (stands-later b bs k (1 + k) (omega arith) h (rw (lt-ltb k (length bs) d) at s))
    go (no h) (no d) s =
        rw (ne_eqb b newline h, le-ltb (1 + k) (suc (length bs)) (omega arith)) (stands-nowhere b bs h (rw (le-ltb k (length bs) (omega arith)) at s))

-- ---- the block fed to a line

module _ (l : Line) (block : List ℕ) (at : Option ℕ) (p : at ≡ position is_newline block) where
  here : StandsAt block at
  here = subst (StandsAt block) (sym p) (stands-at block)

  pub fed_ended : (i : ℕ) (r : Line) (rest : Bor (List ℕ)) → at ≡ Some i → r ≡ fed_all l (take i block)
      → rest.now ≡ take (length block - (i + 1)) (drop (i + 1) block) → BlockFeeds l block (record { line = r; rest = Some rest })
  fed_ended i r rest e f g =
      let s : StandsAt block (Some i) = subst (StandsAt block) e here in
      let m : r ≡ fed_all l (first_line block) = f ∙ ap (fed_all l) (sym s.0) in
      let n : i + 1 ≡ suc i = omega arith in
      let d : rest.now ≡ drop (suc i) block =
      g
      ∙ ap (λ (k : ℕ). take k (drop (i + 1) block)) (sym (length-drop (i + 1) block))
      ∙ take-length (drop (i + 1) block)
      ∙ ap (λ (k : ℕ). drop k block) n in
      record {
        machine = m;
        rest = s.1 ∙ ap (λ (t : List ℕ). t ++ newline ∷ drop (suc i) block) (sym s.0) ∙ ap (λ (t : List ℕ). first_line block ++ newline ∷ t) (sym d);
        reads = reads-append (first_line block) m;
      }

  pub fed_whole : (r : Line) → at ≡ None → r ≡ fed_all l block → BlockFeeds l block (record { line = r; rest = None })
  fed_whole r e f =
      let s : StandsAt block None = subst (StandsAt block) e here in
      let m : r ≡ fed_all l (first_line block) = f ∙ ap (fed_all l) (sym s.1) in
      record { machine = m; rest = s.0; reads = reads-append (first_line block) m }
