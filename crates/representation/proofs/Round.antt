-- Legal memories of words, up to what follows the total, and well-formed states are one to one: `words` and `state` carry them to each other.
use Prim.Native.Nat.{ℕ, ◌≤◌, ◌<◌}
use mathlib.Core.Path.{◌≡◌, refl, sym, ap, subst, ◌∙◌}
use mathlib.Core.Bool.{Bool, true, false}
use mathlib.Core.List.{List, [], ◌++◌}
use native.Mathlib.Omega.{arith}
use lib.ListN.{length, take, drop, length-append, take-append-drop}
use lib.Seq.{take_at, drop_at, get_or-take}
use Rattle.model.specs.State.{State}
use Rattle.model.specs.Layout.{cabinets_at, places_at, slots_at, yards_at, total}
use Rattle.model.specs.Memory.{at, Words, sizes, words, state}
use Rattle.model.specs.Legal.{legal}
use Rattle.model.specs.Calls.{stored}
use Rattle.representation.proofs.WellFormed.{WellFormed}
use Rattle.representation.proofs.Sentences.Facts.{WordsTo}
use Rattle.representation.proofs.Addresses.Fields.{value}
use Rattle.representation.proofs.Addresses.Writes.{Image, length-words, length-stored, stored-image, writes-none, writes-done}
use Rattle.representation.proofs.Sentences.Split.{legal-facts}
use Rattle.representation.proofs.FromMemory.Represent.{state-image}
use Rattle.representation.proofs.FromState.Reread.{reread}
use Rattle.representation.proofs.FromState.Lawful.{lawful}
use Rattle.representation.proofs.FromMemory.OfLegal.{legal-well_formed-facts}
use Rattle.representation.proofs.FromState.Worded.{words-words}

-- ---- from a memory to its state

-- what a legal memory of words gives: it is long enough, its fields are those of its state, and that is well-formed
pub record Ready (m : List ℕ) : Type 0 where
  pub long : total (sizes m) ≤ length m
  pub image : Image (sizes m) m (value (state m))
  pub well_formed : WellFormed (state m)

ready-to : (m : List ℕ) → legal m ≡ true → WordsTo (total (sizes m)) m → Ready m
ready-to m h w =
    let l = legal-facts m h in
    record { long = l.contents.long; image = state-image m l w; well_formed = legal-well_formed-facts m l w }

pub ready : (m : List ℕ) → legal m ≡ true → Words m → Ready m
ready m h w = ready-to m h (λ i b. w i)

pub legal-well_formed : (m : List ℕ) → legal m ≡ true → Words m → WellFormed (state m)
legal-well_formed m h w = (ready m h w).well_formed

-- the state's words, then what follows the total, are the memory
stored-ready : (m : List ℕ) → Ready m → stored (state m) m ≡ m
unfolding state
stored-ready m r = sym (writes-done (state m) m m (value (state m)) r.long (writes-none (sizes m) m r.long (value (state m)) r.image) (λ f p. refl))

pub stored-state : (m : List ℕ) → legal m ≡ true → Words m → stored (state m) m ≡ m
stored-state m h w = stored-ready m (ready m h w)

-- a legal memory holds the words of its state
words-ready : (m : List ℕ) → Ready m → words (state m) ≡ take (total (sizes m)) m
unfolding state
words-ready m r =
    sym (take_at (words (state m)) (drop (total (sizes m)) m) (total (sizes m)) (length-words (state m))) ∙ ap (take (total (sizes m))) (stored-ready m r)

pub words-state : (m : List ℕ) → legal m ≡ true → Words m → words (state m) ≡ take (total (sizes m)) m
words-state m h w = words-ready m (ready m h w)

-- ---- from a state to a memory

pub round : (s : State) (m : List ℕ) → WellFormed s → total s.sizes ≤ length m
    → (legal (stored s m) ≡ true) × (state (stored s m) ≡ s) × (length (stored s m) ≡ length m)
round s m w long = (
  lawful s (stored s m) w (stored-image s m long) (omega (arith, length-stored s m long)),
  reread s (stored s m) w (stored-image s m long),
  length-stored s m long,
)

-- a well-formed state's words, whatever follows them: they are total long, legal, and read back as the state
pub record ReadsBack (s : State) (rest : List ℕ) : Type 0 where
  pub long : length (words s) ≡ total s.sizes
  pub lawful : legal (words s ++ rest) ≡ true
  pub read : state (words s ++ rest) ≡ s
  pub words : Words rest → Words (words s ++ rest)

pub state-words : (s : State) (rest : List ℕ) → WellFormed s → ReadsBack s rest
state-words s rest w = record {
  long = length-words s;
  lawful = subst (λ (n : List ℕ). legal n ≡ true) kept r.0;
  read = subst (λ (n : List ℕ). state n ≡ s) kept r.1;
  words = words-words s w rest;
}
  where
    m : List ℕ
    m = words s ++ rest

    long : total s.sizes ≤ length m
    long = omega (arith, length-append (words s) rest, length-words s)

    r : (legal (stored s m) ≡ true) × (state (stored s m) ≡ s) × (length (stored s m) ≡ length m)
    r = round s m w long

    kept : stored s m ≡ m
    kept = ap (λ (n : List ℕ). words s ++ n) (drop_at (words s) rest (total s.sizes) (length-words s))

-- ---- what follows the total

-- two memories agree up to their totals
abbrev pub Agree : List ℕ → List ℕ → Type 0
Agree m n = take (total (sizes m)) m ≡ take (total (sizes n)) n

module _ (m n : List ℕ) (a : Agree m n) where
  -- word i of both, where each total is past it
  agree_at : (i : ℕ) → i < total (sizes m) → i < total (sizes n) → at m i ≡ at n i
  agree_at i b c = sym (get_or-take (total (sizes m)) m i 0 b) ∙ ap (λ (x : List ℕ). at x i) a ∙ get_or-take (total (sizes n)) n i 0 c

  -- the contents are below every total: so the sizes are the same, and so are the totals
  agree-total : total (sizes m) ≡ total (sizes n)
  agree-total =
      rw (
        agree_at yards_at (omega arith) (omega arith),
        agree_at cabinets_at (omega arith) (omega arith),
        agree_at places_at (omega arith) (omega arith),
        agree_at slots_at (omega arith) (omega arith),
      )

  agree-words : WordsTo (total (sizes m)) m → WordsTo (total (sizes n)) n
  agree-words w i b = let c : i < total (sizes m) = omega (arith, agree-total) in rw (agree_at i c b) at (w i c)

  -- m is legal: n begins with the words of its state, and those are legal whatever follows them
  agree-legal : WordsTo (total (sizes m)) m → legal m ≡ true → legal n ≡ true
  agree-legal w h =
      let r = ready-to m h w in
      let e : words (state m) ++ drop (total (sizes n)) n ≡ n =
      ap (λ (x : List ℕ). x ++ drop (total (sizes n)) n) (words-ready m r ∙ a) ∙ take-append-drop (total (sizes n)) n in
      subst (λ (x : List ℕ). legal x ≡ true) e (state-words (state m) (drop (total (sizes n)) n) r.well_formed).lawful

-- legality does not depend on what follows the total, words or not: memories that agree up to it are legal together
pub legal-past : (m n : List ℕ) → Agree m n → WordsTo (total (sizes m)) m → legal m ≡ legal n
legal-past m n a w = go (legal m) (legal n) (agree-legal m n a w) (agree-legal n m (sym a) (agree-words m n a w))
  where
    go : (b c : Bool) → (b ≡ true → c ≡ true) → (c ≡ true → b ≡ true) → b ≡ c
    go true c f g = sym (f refl)
    go false true f g = g refl
    go false false f g = refl

-- ---- one to one

pub record OneToOne : Type 0 where
  -- every legal memory of words reads as a well-formed state
  pub into : (m : List ℕ) → legal m ≡ true → Words m → WellFormed (state m)
  -- every well-formed state is read from a legal memory of words
  pub onto : (s : State) → WellFormed s → (m : List ℕ) × (legal m ≡ true) × Words m × (state m ≡ s)
  -- memories that read as one state agree up to their totals
  pub injective : (m n : List ℕ) → legal m ≡ true → Words m → legal n ≡ true → Words n → state m ≡ state n → Agree m n
  -- and memories that agree up to their totals read as one state
  pub whole : (m n : List ℕ) → legal m ≡ true → Words m → legal n ≡ true → Words n → Agree m n → state m ≡ state n

pub one-to-one : OneToOne
one-to-one = record {
  into = legal-well_formed;
  onto = λ s w. let r = state-words s [] w in (words s ++ [], r.lawful, r.words (λ a. omega arith), r.read);
  injective = λ m n h v k u e. sym (words-state m h v) ∙ ap words e ∙ words-state n k u;
  whole = λ m n h v k u e.
      sym (state-words (state m) [] (legal-well_formed m h v)).read
      ∙ ap (λ (x : List ℕ). state (x ++ [])) (words-state m h v ∙ e ∙ sym (words-state n k u))
      ∙ (state-words (state n) [] (legal-well_formed n k u)).read;
}
