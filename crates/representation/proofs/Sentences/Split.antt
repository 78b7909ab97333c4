-- A legal memory's facts, and facts that make a memory legal; the sentences of its sizes and contents.
use Prim.Native.Nat.{ℕ}
use mathlib.Core.Path.{◌≡◌, refl}
use mathlib.Core.Bool.{Bool, true, false, cond}
use mathlib.Core.List.{List}
use native.Mathlib.Omega.{arith}
use native.Mathlib.Nat.{mul-le-mul}
use lib.ListN.{length, take}
use borrow.Author.Tests.{leb-true, le-leb}
use Rattle.model.specs.Lists.{every}
use Rattle.model.specs.State.{Sizes}
use Rattle.model.specs.Layout.{max_yards, max_cabinets, max_places, max_slots, contents_length, total}
use Rattle.model.specs.Memory.{sizes, state, contents}
use Rattle.model.specs.Legal.{sizes_fit, contents_sentences, contents_agree, sentences, legal}
use Rattle.laws.specs.Tests.{◌&◌, clash, every_true, every-intro, same_true, same_self}
use Rattle.representation.proofs.Sentences.Facts.{SizesFit, ContentsFit, Legal}
use Rattle.representation.proofs.Sentences.FactsSaid.{facts}
use Rattle.representation.proofs.Sentences.SentencesHold.{sentences-hold}

-- ---- sizes and contents

pub sizes-fit : (z : Sizes) → sizes_fit z ≡ true → SizesFit z
unfolding sizes_fit
sizes-fit z h =
    let (some_y, (few_y, (some_c, (few_c, (some_p, (few_p, (some_s, (few_s, rest)))))))) = every_true _ h in
    let y = leb-true z.yards max_yards few_y in
    let c = leb-true z.cabinets max_cabinets few_c in
    let p = leb-true z.places max_places few_p in
    record {
      some_yards = leb-true 1 z.yards some_y;
      few_yards = y;
      some_cabinets = leb-true 1 z.cabinets some_c;
      few_cabinets = c;
      some_places = leb-true 1 z.places some_p;
      few_places = p;
      some_slots = leb-true 1 z.slots some_s;
      few_slots = leb-true z.slots max_slots few_s;
      all_cabinets = mul-le-mul y c;
      few_lanes = mul-le-mul (mul-le-mul y c) p;
    }

contents-fit : (m : List ℕ) → contents_agree m ≡ true → ContentsFit m
unfolding contents_agree
contents-fit m h =
    let (present, (in_range, (agree, (long, rest)))) = every_true (contents_sentences m) h in
    record { in_range = in_range; agree = same_true (take contents_length m) (contents (sizes m)) agree; long = leb-true (total (sizes m)) (length m) long }

contents-agree : (m : List ℕ) → ContentsFit m → contents_agree m ≡ true
unfolding contents_agree
contents-agree m c =
    every-intro (contents_sentences m)
    (le-leb contents_length (length m) (omega (arith, c.long))
    & c.in_range
    & rw c.agree (same_self (contents (sizes m)))
    & le-leb (total (sizes m)) (length m) c.long
    & tt)

-- ---- legal

pub legal-facts : (m : List ℕ) → legal m ≡ true → Legal m
unfolding legal
legal-facts m h = go (contents_agree m) refl h
  where
    go : (b : Bool) → contents_agree m ≡ b → ◌≡◌ {A = Bool} (cond b (every (sentences m (state m))) false) true → Legal m
    go false q e = clash e refl
    go true q e = record { contents = contents-fit m q; facts = facts m (state m) (every_true (sentences m (state m)) e) }

pub facts-legal : (m : List ℕ) → Legal m → legal m ≡ true
unfolding legal
facts-legal m l = rw (contents-agree m l.contents) (every-intro (sentences m (state m)) (sentences-hold m (state m) l.facts))
