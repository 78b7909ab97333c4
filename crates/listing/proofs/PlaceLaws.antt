-- From place to place of a block: the ways through `answer_part` and round `answer_block`.
use Prim.Native.Nat.{ℕ, ◌+◌, ◌<◌}
use mathlib.Core.Bool.{false}
use mathlib.Core.List.{List, [], ◌∷◌, ◌++◌, append-nil, append_assoc}
use mathlib.Core.Path.{◌≡◌, refl, sym, ap, subst, ◌∙◌}
use native.Mathlib.Omega.{arith}
use lib.ListN.{length, length-append}
use denote.Ref.{Bor}
use Rattle.std.specs.Prelude.{None, Some}
use Rattle.std.specs.Option.{unwrap_or}
use Rattle.std.specs.declared.option.Option.{Option}
use Rattle.model.specs.Lists.{member}
use Rattle.listing_text.specs.Number.{newline}
use Rattle.listing_text.specs.Call.{parsed}
use Rattle.listing_text.specs.LineReading.{Reads, first_line, Follows, BlockFeeds}
use Rattle.listing_text.specs.declared.line.Line.{Line}
use Rattle.listing_text.specs.declared.line.Fed.{Fed}
use Rattle.listing.specs.Output.{answered_all, after_all, ended, unended}
use Rattle.listing.specs.ProgramContract.{Prints, Answers, Goes, GoesOn, AnswersLine}
use Rattle.listing.specs.declared.answers.Place.{Place}
use Rattle.listing.proofs.LinesInParts.{ended-append, unended-append, answered_all-append, after_all-append}
use Rattle.listing.proofs.LinesInParts.{line-ended, line-unended, first-whole, part-ended, part-unended}
use Rattle.listing.proofs.AnswerLaws.{holds_as, holds-reads, answered-one, after_one, answered-nothing, after_nothing}

-- one part after another
pub answers_then : {m xs p s m₁ ys t m₂ zs : List ℕ} {u v : Option Line} → Answers m xs p s m₁ ys u → Answers m₁ ys (unended p s) t m₂ zs v
    → Answers m xs p (s ++ t) m₂ zs v
answers_then {m} {xs} {p} {s} {m₁} {ys} {t} {v = v} x y =
    let ls : List (List ℕ) = ended p s in
    let ks : List (List ℕ) = ended (unended p s) t in
    let e : ended p (s ++ t) ≡ ls ++ ks = ended-append p s t in
    let a : answered_all m ls ++ answered_all m₁ ks ≡ answered_all m (ended p (s ++ t)) =
    ap (λ (w : List ℕ). answered_all m ls ++ answered_all w ks) x.memory ∙ sym (ap (answered_all m) e ∙ answered_all-append m ls ks) in
    record {
      unended = holds_as v (sym (unended-append p s t)) y.unended;
      text =
          y.text
          ∙ ap (λ (w : List ℕ). w ++ answered_all m₁ ks) x.text
          ∙ append_assoc xs (answered_all m ls) (answered_all m₁ ks)
          ∙ ap (λ (w : List ℕ). xs ++ w) a;
      memory = y.memory ∙ ap (λ (w : List ℕ). after_all w ks) x.memory ∙ sym (ap (after_all m) e ∙ after_all-append m ls ks);
    }

module _ (m xs : List ℕ) (a : Place) where
  pub goes_none : Goes m xs a m xs a
  unfolding ended unended answered_all after_all
  goes_none =
      record { part = []; on = refl; answers = λ p u. record { unended = u; text = sym (append-nil xs); memory = refl }; paced = omega arith }

  pub goes_then : {m₁ ys m₂ zs : List ℕ} {b c : Place} → Goes m xs a m₁ ys b → Goes m₁ ys b m₂ zs c → Goes m xs a m₂ zs c
  goes_then {m₁} {ys} {m₂} {zs} {b} {c} g h =
      let n : length (g.part ++ h.part) ≡ length g.part + length h.part = length-append g.part h.part in
      record {
        part = g.part ++ h.part;
        on = g.on ∙ ap (λ (l : List ℕ). g.part ++ l) h.on ∙ sym (append_assoc g.part h.part c.rest.now);
        answers = λ p u. answers_then (g.answers p u) (h.answers _ (g.answers p u).unended);
        paced = omega (arith, g.paced, h.paced);
      }

  -- a line ended and was answered
  pub goes-line : {m' ys : List ℕ} (n : Line) (f : Fed) (rest : Bor (List ℕ)) → Reads n [] → BlockFeeds (unwrap_or a.unended n) a.rest.now f
      → f.rest ≡ Some rest → AnswersLine f.line m xs m' ys → GoesOn m xs a m' ys (record { unended = None; rest = rest })
  goes-line {m'} {ys} n f rest o d e l =
      let s : List ℕ = first_line a.rest.now in
      let follows : a.rest.now ≡ s ++ newline ∷ rest.now = subst (Follows a.rest.now) e d.rest in
      let long : length a.rest.now ≡ length (s ++ newline ∷ []) + length rest.now = ap length follows ∙ simp length-append (omega arith) in
      let more : length (s ++ newline ∷ []) ≡ length s + 1 = simp length-append in
      record {
        goes = record {
          part = s ++ newline ∷ [];
          on = follows ∙ sym (append_assoc s (newline ∷ []) rest.now);
          answers = λ p v. one p (l.prints _ (d.reads p (holds-reads a.unended n p o v)));
          paced = omega (arith, l.short);
        };
        further = omega arith;
      }
    where
      one : (p : List ℕ) → Prints m (parsed (p ++ first_line a.rest.now)) xs m' ys
          → Answers m xs p (first_line a.rest.now ++ newline ∷ []) m' ys None
      one p r =
          let q : List ℕ = p ++ first_line a.rest.now in
          let e : ended p (first_line a.rest.now ++ newline ∷ []) ≡ q ∷ [] = line-ended p a.rest.now in
          record {
            unended = line-unended p a.rest.now;
            text = r.text.text ∙ ap (λ (t : List ℕ). xs ++ t) (sym (ap (answered_all m) e ∙ answered-one m q));
            memory = r.memory ∙ sym (ap (after_all m) e ∙ after_one m q);
          }

  -- the block ended first
  pub goes-part : (n : Line) (f : Fed) (rest : Bor (List ℕ)) → Reads n [] → BlockFeeds (unwrap_or a.unended n) a.rest.now f → f.rest ≡ None
      → 0 < length a.rest.now → rest.now ≡ [] → GoesOn m xs a m xs (record { unended = Some f.line; rest = rest })
  goes-part n f rest o d e h k =
      let s : List ℕ = a.rest.now in
      let lacks : member newline a.rest.now ≡ false = subst (Follows a.rest.now) e d.rest in
      record {
        goes = record {
          part = s;
          on = sym (ap (λ (l : List ℕ). s ++ l) k ∙ append-nil s);
          answers = λ p v. still p lacks (subst (λ (l : List ℕ). Reads f.line (p ++ l)) (first-whole s lacks) (d.reads p (holds-reads a.unended n p o v)));
          paced = omega arith;
        };
        further = omega (arith, ap length k);
      }
    where
      still : (p : List ℕ) → member newline a.rest.now ≡ false → Reads f.line (p ++ a.rest.now) → Answers m xs p a.rest.now m xs (Some f.line)
      still p lacks r =
          let none : ended p a.rest.now ≡ [] = part-ended p a.rest.now lacks in
          let long : length (p ++ a.rest.now) ≡ length p + length a.rest.now = length-append p a.rest.now in
          record {
            unended = holds_as (Some f.line) (sym (part-unended p a.rest.now lacks)) (r, omega arith);
            text = sym (ap (λ (ls : List (List ℕ)). xs ++ answered_all m ls) none ∙ ap (λ (t : List ℕ). xs ++ t) (answered-nothing m) ∙ append-nil xs);
            memory = sym (ap (after_all m) none ∙ after_nothing m);
          }
