-- A whole block, place by place, the end of the input, and one read after another: the ways through `serve_block`, `end_input` and `serve_all`.
use Prim.Native.Nat.{ℕ, ◌+◌, ◌<◌}
use mathlib.Core.List.{List, [], ◌∷◌, ◌++◌, append-nil, append_assoc}
use mathlib.Core.Path.{◌≡◌, refl, sym, ap, subst, ◌∙◌}
use native.Mathlib.Omega.{arith}
use lib.ListN.{length, take, length-append}
use lib.Seq.{take_at}
use Rattle.std.specs.Prelude.{None, Some}
use Rattle.std.specs.declared.option.Option.{Option}
use Rattle.std.specs.Io.KnownBytes.{Appends, Consumes, IsAtEnd}
use Rattle.model.specs.Lists.{is_empty}
use Rattle.listing_text.specs.declared.line.Line.{Line}
use Rattle.listing_text.specs.Call.{parsed}
use Rattle.listing.specs.Output.{answered, answered_all, after_all, ended, unended, last_line, lines_of, output, lent}
use Rattle.listing.specs.ProgramContract.{Holds, Answers, Goes, AnswersLine, Served, ServesBlock, WritesBlock, ServesPart}
use Rattle.listing.specs.ProgramContract.{EndsInput, WritesEnd, ServesInput, ServesListing}
use Rattle.listing.specs.declared.answers.Place.{Place}
use Rattle.listing.proofs.LinesInParts.{ended-append, unended-append, answered_all-append, after_all-append}
use Rattle.listing.proofs.AnswerLaws.{holds_as, answered-one, after_one, after_nothing}

-- ---- bytes that are known, of a reader and of a writer

pub appends-none : (held : Option (List ℕ)) → Appends held held []
appends-none None = tt
appends-none (Some xs) = sym (append-nil xs)

pub appends_then : (a b c : Option (List ℕ)) (xs ys : List ℕ) → Appends a b xs → Appends b c ys → Appends a c (xs ++ ys)
appends_then None b c xs ys h k = tt
appends_then (Some u) None c xs ys h k = absurd h
appends_then (Some u) (Some v) None xs ys h k = absurd k
appends_then (Some u) (Some v) (Some w) xs ys h k = k ∙ ap (λ (l : List ℕ). l ++ ys) h ∙ append_assoc u xs ys

pub appends_as : (a b : Option (List ℕ)) {xs ys : List ℕ} → xs ≡ ys → Appends a b xs → Appends a b ys
appends_as a b e h = subst (λ (l : List ℕ). Appends a b l) e h

pub consumes-none : (known : Option (List ℕ)) → Consumes known known []
consumes-none None = tt
consumes-none (Some xs) = refl

pub consumes_then : (a b c : Option (List ℕ)) (xs ys : List ℕ) → Consumes a b xs → Consumes b c ys → Consumes a c (xs ++ ys)
consumes_then None b c xs ys h k = tt
consumes_then (Some u) None c xs ys h k = absurd h
consumes_then (Some u) (Some v) None xs ys h k = absurd k
consumes_then (Some u) (Some v) (Some w) xs ys h k = h ∙ ap (λ (l : List ℕ). xs ++ l) k ∙ sym (append_assoc xs ys w)

-- ---- a block

-- a text after another
served_then : {m p s m₁ t m₂ : List ℕ} {u v : Option Line} → Served m p s m₁ u → Served m₁ (unended p s) t m₂ v → Served m p (s ++ t) m₂ v
served_then {m} {p} {s} {m₁} {t} {v = v} x y =
    let ks : List (List ℕ) = ended (unended p s) t in
    record {
      unended = holds_as v (sym (unended-append p s t)) y.unended;
      memory =
          y.memory
          ∙ ap (λ (w : List ℕ). after_all w ks) x.memory
          ∙ sym (ap (after_all m) (ended-append p s t) ∙ after_all-append m (ended p s) ks);
    }

appends-more : {m p s m₁ ys : List ℕ} {u : Option Line} (t : List ℕ) (a b c : Option (List ℕ)) → Served m p s m₁ u → Appends a b (answered_all m (ended p s))
    → Appends b c ys → ys ≡ answered_all m₁ (ended (unended p s) t) → Appends a c (answered_all m (ended p (s ++ t)))
appends-more {m} {p} {s} {m₁} {ys} t a b c x v w e =
    let ks : List (List ℕ) = ended (unended p s) t in
    appends_as a c (ap (λ (z : List ℕ). answered_all m (ended p s) ++ z) e
    ∙ ap (λ (z : List ℕ). answered_all m (ended p s) ++ answered_all z ks) x.memory
    ∙ sym (ap (answered_all m) (ended-append p s t) ∙ answered_all-append m (ended p s) ks))
    (appends_then a b c (answered_all m (ended p s)) ys v w)

-- a block is answered up to a place, and the answers are written
pub record Serving (m block : List ℕ) (u : Option Line) (held : Option (List ℕ)) (m' : List ℕ) (held' : Option (List ℕ)) (a : Place) : Type 0 where
  pub part : List ℕ
  pub on : block ≡ part ++ a.rest.now
  pub served : (p : List ℕ) → Holds u p → Served m p part m' a.unended
  pub written : (p : List ℕ) → Holds u p → Appends held held' (answered_all m (ended p part))

answers-served : {m p s m' ys : List ℕ} {u : Option Line} → Answers m [] p s m' ys u → Served m p s m' u
answers-served a = record { unended = a.unended; memory = a.memory }

pub serving-none : (m : List ℕ) (held : Option (List ℕ)) (a : Place) → Serving m a.rest.now a.unended held m held a
unfolding ended unended answered_all after_all
serving-none m held a =
    record { part = []; on = refl; served = λ p h. record { unended = h; memory = refl }; written = λ p h. appends-none held }

module _ {m block m₁ xs m₂ ys : List ℕ} {u : Option Line} {held held₁ : Option (List ℕ)} {a b : Place} (s : Serving m block u held m₁ held₁ a)
    (z : xs ≡ []) (go : Goes m₁ xs a m₂ ys b) where
  g : Goes m₁ [] a m₂ ys b
  g = subst (λ (w : List ℕ). Goes m₁ w a m₂ ys b) z go

  on : block ≡ (s.part ++ g.part) ++ b.rest.now
  on = s.on ∙ ap (λ (l : List ℕ). s.part ++ l) g.on ∙ sym (append_assoc s.part g.part b.rest.now)

  served : (p : List ℕ) → Holds u p → Served m p (s.part ++ g.part) m₂ b.unended
  served p h = served_then (s.served p h) (answers-served (g.answers _ (s.served p h).unended))

  pub serving-more : {held₂ : Option (List ℕ)} → Appends held₁ held₂ ys → Serving m block u held m₂ held₂ b
  serving-more {held₂} w =
      record {
        part = s.part ++ g.part;
        on = on;
        served = served;
        written = λ p h. appends-more g.part held held₁ held₂ (s.served p h) (s.written p h) w (g.answers _ (s.served p h).unended).text;
      }

  -- what was answered, whether or not the answers could be written
  pub serves-part : ServesPart m block u m₂
  serves-part =
      let t : List ℕ = s.part ++ g.part in
      let k : length block ≡ length t + length b.rest.now = ap length on ∙ length-append t b.rest.now in
      let front : take (length t) block ≡ t = ap (take (length t)) on ∙ take_at t b.rest.now (length t) refl in
      record {
        bytes = length t;
        inside = omega arith;
        memory = λ p h. (served p h).memory ∙ ap (λ (w : List ℕ). after_all m (ended p w)) (sym front);
      }

-- ---- the end of the input

pub end_none : {m p : List ℕ} → p ≡ [] → m ≡ after_all m (last_line p)
unfolding is_empty last_line
end_none {m} e = rw e (sym (after_nothing m))

pub ends-none : (m : List ℕ) → EndsInput m None m
ends-none m = record { memory = λ p h. end_none h }

pub writes-none : (m : List ℕ) (held : Option (List ℕ)) → WritesEnd m None held held
unfolding is_empty last_line answered_all
writes-none m held = record { written = λ p h. rw h (appends-none held) }

last-one : (p : List ℕ) → 0 < length p → last_line p ≡ p ∷ []
unfolding is_empty last_line
last-one [] h = absurd (omega arith)
last-one (b ∷ p) h = refl

module _ {m m' xs ys : List ℕ} {l : Line} (a : AnswersLine l m xs m' ys) where
  pub ends-line : EndsInput m (Some l) m'
  ends-line = record { memory = λ p h. (a.prints p h.0).memory ∙ sym (ap (after_all m) (last-one p h.1) ∙ after_one m p) }

  pub writes-line : (held held' : Option (List ℕ)) → xs ≡ [] → Appends held held' ys → WritesEnd m (Some l) held held'
  writes-line held held' e w =
      record {
        written = λ p h.
            appends_as held held' ((a.prints p h.0).text.text
            ∙ ap (λ (z : List ℕ). z ++ answered m (parsed p)) e
            ∙ sym (ap (answered_all m) (last-one p h.1) ∙ answered-one m p)) w;
      }

-- ---- one read after another

-- the first bytes of an input were read and served
pub record Reading (m : List ℕ) (known held : Option (List ℕ)) (m' : List ℕ) (known' held' : Option (List ℕ)) (u : Option Line) : Type 0 where
  pub part : List ℕ
  pub read : Consumes known known' part
  pub served : Served m [] part m' u
  pub written : Appends held held' (answered_all m (ended [] part))

pub reading-none : (m : List ℕ) (known held : Option (List ℕ)) → Reading m known held m known held None
unfolding ended unended answered_all after_all
reading-none m known held =
    record { part = []; read = consumes-none known; served = record { unended = refl; memory = refl }; written = appends-none held }

module _ {m m₁ : List ℕ} {known known₁ held held₁ : Option (List ℕ)} {u : Option Line} (s : Reading m known held m₁ known₁ held₁ u) where
  pub reading-more : {m₂ : List ℕ} {known₂ held₂ : Option (List ℕ)} {v : Option Line} (block : List ℕ) → Consumes known₁ known₂ block
      → ServesBlock m₁ block u m₂ v → WritesBlock m₁ block u held₁ held₂ → Reading m known held m₂ known₂ held₂ v
  reading-more {m₂} {known₂} {held₂} block r x w =
      record {
        part = s.part ++ block;
        read = consumes_then known known₁ known₂ s.part block s.read r;
        served = served_then s.served (x.served _ s.served.unended);
        written = appends-more block held held₁ held₂ s.served s.written (w.written _ s.served.unended) refl;
      }

  -- the reader is at its end, and the last line was served
  pub reading-end : {m₂ : List ℕ} {known₂ held₂ : Option (List ℕ)} → Consumes known₁ known₂ [] → IsAtEnd known₂ → EndsInput m₁ u m₂
      → WritesEnd m₁ u held₁ held₂ → ServesInput m known held m₂ known₂ held₂
  unfolding lines_of output
  reading-end {m₂} {known₂} {held₂} r e x w =
      let p : List ℕ = s.part in
      let ls : List (List ℕ) = last_line (unended [] p) in
      record {
        input = p;
        read = subst (λ (z : List ℕ). Consumes known known₂ z) (append-nil p) (consumes_then known known₁ known₂ p [] s.read r);
        end = e;
        memory =
            x.memory _ s.served.unended
            ∙ ap (λ (z : List ℕ). after_all z ls) s.served.memory
            ∙ sym (after_all-append m (ended [] p) ls);
        written =
            appends_as held held₂ (ap (λ (z : List ℕ). answered_all m (ended [] p) ++ answered_all z ls) s.served.memory
            ∙ sym (answered_all-append m (ended [] p) ls))
            (appends_then held held₁ held₂ (answered_all m (ended [] p)) (answered_all m₁ ls) s.written (w.written _ s.served.unended));
      }

pub listing-served : {known held : Option (List ℕ)} {m' : List ℕ} {known' held' : Option (List ℕ)} → ServesInput lent known held m' known' held'
    → ServesListing known held known' held'
listing-served s = record { input = s.input; read = s.read; end = s.end; written = s.written }
