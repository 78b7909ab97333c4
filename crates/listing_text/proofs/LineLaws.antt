-- The machine reads what `parsed` says: `parses`. Its bytes are taken word by word; the first names the command, the others are its arguments.
use Prim.Native.Nat.{ℕ, ◌≤◌}
use mathlib.Core.Bool.{Bool, true, false, cond}
use mathlib.Core.List.{List, [], ◌∷◌, map}
use mathlib.Core.Path.{◌≡◌, refl, sym, ap, ◌∙◌}
use native.Mathlib.Decide.{dec_le}
use native.Mathlib.Omega.{arith}
use lib.ListN.{length}
use lib.Dec.{eqb}
use Rattle.std.specs.Prelude.{None, Some}
use Rattle.std.specs.declared.option.Option.{Option}
use Rattle.model.specs.Lists.{all}
use Rattle.model.specs.Digits.{value}
use Rattle.calls.specs.declared.Call as code-call
use Rattle.listing_text.specs.Number.{space, is_number}
use Rattle.listing_text.specs.Call.{Parsed, bad, Command, unknown, commands, lookup, longer, words_of, asked, of_words, parsed}
use Rattle.listing_text.specs.Machine.{started, grown, named, begun, ended, fed, fed_all, requested, finished}
use Rattle.listing_text.specs.Arguments.{parsed_of}
use Rattle.listing_text.specs.LineReading.{Finishes}
use Rattle.listing_text.specs.declared.command.Command as named-command
use Rattle.listing_text.specs.declared.line.Line.{Line}
use Rattle.listing_text.proofs.Bools.{cond_same}
use Rattle.listing_text.proofs.MachineLaws.{grown_all, words_fed, words_fed-bad, word-bad}
use Rattle.listing_text.proofs.CommandLaws.{entry_or, lookup-named, asked-unknown, unknown-long, name-short, name-long}
use Rattle.listing_text.proofs.ArgumentLaws.{asks, arguments-read}

-- ---- words

-- what a line asks for whose first word names no command
asks-unknown : (w : List ℕ) (ws : List (List ℕ)) → lookup w commands ≡ unknown → bad ≡ of_words (w ∷ ws)
unfolding of_words
asks-unknown w ws e =
    sym (ap (λ (c : Command). cond (all is_number ws) (asked c (map value ws)) bad) e
    ∙ ap (λ (p : Parsed). cond (all is_number ws) p bad) (asked-unknown (map value ws))
    ∙ cond_same (all is_number ws) bad)

-- the line after a first word that is not too long
named-read : (w : List ℕ) (ws : List (List ℕ)) (c : Option named-command.Command) → lookup w commands ≡ entry_or c
    → requested (words_fed (begun c) ws) ≡ of_words (w ∷ ws)
unfolding of_words requested
named-read w ws None e = ap requested (words_fed-bad ws) ∙ asks-unknown w ws e
named-read w ws (Some c) e = arguments-read c ws [] (omega arith) ∙ ap (λ (d : Command). asks d [] ws) (sym e)

-- the words of a line, one at least
pub words-read : (w : List ℕ) (ws : List (List ℕ)) → requested (words_fed started (w ∷ ws)) ≡ of_words (w ∷ ws)
unfolding words_fed ended
words-read w ws = go (dec_le (length w) 7)
  where
    go : Dec (length w ≤ 7) → requested (words_fed started (w ∷ ws)) ≡ of_words (w ∷ ws)
    go (yes h) = ap (λ (l : Line). requested (words_fed (ended l) ws)) (name-short w [] (omega arith)) ∙ named-read w ws (named w) (lookup-named w)
    go (no h) = word-bad started w ws (name-long w [] (omega arith) (omega arith)) ∙ asks-unknown w ws (unknown-long w (omega arith))

-- ---- bytes: the machine on them is the machine on their words

record Cons (ws : List (List ℕ)) : Type 0 where
  first : List ℕ
  rest : List (List ℕ)
  is : ws ≡ first ∷ rest

longer-cons : (b : ℕ) (ws : List (List ℕ)) → Cons (longer b ws)
unfolding longer
longer-cons b [] = record { first = b ∷ []; rest = []; is = refl }
longer-cons b (w ∷ ws) = record { first = b ∷ w; rest = ws; is = refl }

cond-cons : (t : Bool) (b : ℕ) (ws : List (List ℕ)) → Cons (cond t ([] ∷ ws) (longer b ws))
cond-cons true b ws = record { first = []; rest = ws; is = refl }
cond-cons false b ws = longer-cons b ws

words-cons : (bs : List ℕ) → Cons (words_of bs)
unfolding words_of
words-cons [] = record { first = []; rest = []; is = refl }
words-cons (b ∷ bs) = cond-cons (eqb b space) b (words_of bs)

longer-fed : (l : Line) (b : ℕ) (ws : List (List ℕ)) → Cons ws → words_fed (grown l b) ws ≡ words_fed l (longer b ws)
unfolding words_fed grown_all longer
longer-fed l b ws k = rw k.is

abbrev Fuses : Line → List ℕ → Type 0
Fuses l bs = finished (fed_all l bs) ≡ requested (words_fed l (words_of bs))

bytes-words : (l : Line) (bs : List ℕ) → Fuses l bs
unfolding finished fed words_of words_fed grown_all
bytes-words l [] = refl
bytes-words l (b ∷ bs) = go (eqb b space) refl (bytes-words (ended l) bs) (bytes-words (grown l b) bs)
  where
    go : (t : Bool) → eqb b space ≡ t → Fuses (ended l) bs → Fuses (grown l b) bs
        → finished (fed_all (fed l b) bs) ≡ requested (words_fed l (cond (eqb b space) ([] ∷ words_of bs) (longer b (words_of bs))))
    go true e p q = rw e p
    go false e p q = rw e (q ∙ ap requested (longer-fed l b (words_of bs) (words-cons bs)))

-- a line fed byte by byte, from the start, asks for what it parses as
pub parses : (bs : List ℕ) → finished (fed_all started bs) ≡ parsed bs
unfolding parsed
parses bs =
    let k : Cons (words_of bs) = words-cons bs in
    bytes-words started bs
    ∙ ap (λ (ws : List (List ℕ)). requested (words_fed started ws)) k.is
    ∙ words-read k.first k.rest
    ∙ ap of_words (sym k.is)

pub finishes : {l : Line} {r : Option code-call.Call} → parsed_of r ≡ finished l → Finishes l r
finishes e = record { machine = e; reads = λ bs h. e ∙ ap finished h ∙ parses bs }
