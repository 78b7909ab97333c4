-- The words of a lane after its lookup's, each the field of a lane: what the last sentences of legality say of them, and what set-up, on and off make of
-- them. There are none so far. The laws name them by their place, so that one more changes this file, and of this crate no other.
use Prim.Native.Nat.{ℕ, ◌+◌, ◌-◌, ◌<◌}
use mathlib.Core.Path.{◌≡◌}
use mathlib.Core.Bool.{Bool, true}
use mathlib.Core.List.{List}
use native.Mathlib.Omega.{arith}
use lib.ListN.{drop}
use Rattle.model.specs.Word.{word_limit}
use Rattle.model.specs.State.{Lane, State}
use Rattle.model.specs.Layout.{position_at, lane_length}
use Rattle.model.specs.Engine.{fresh_lane, lane_at, set_online, emptied}
use Rattle.model.specs.Memory.{lane_words}
use Rattle.model.specs.Legal.{sentences}
use Rattle.laws.specs.Tests.{Every}
use Rattle.laws.specs.Elements.{Each}

abbrev pub Word : ℕ → Type 0
Word w = w < word_limit

-- ---- the words

abbrev pub extra_at : ℕ
extra_at = position_at + 1

abbrev pub extra_count : ℕ
extra_count = lane_length - extra_at

abbrev pub extra_words : Lane → List ℕ
extra_words l = drop extra_at (lane_words l)

-- what legality asks of them
abbrev pub ExtraFits : Lane → Type 0
ExtraFits l = Unit {0}

pub extra-words : (l : Lane) → ExtraFits l → Each Word (extra_words l)
unfolding lane_words
extra-words l f = omega arith

-- a lane is what its other fields and these words say
pub lane-path : {l k : Lane} → l.online ≡ k.online → l.reading ≡ k.reading → l.lookup ≡ k.lookup → l.quiescent ≡ k.quiescent
    → l.snapshot ≡ k.snapshot → l.pending ≡ k.pending → l.queues ≡ k.queues → extra_words l ≡ extra_words k → l ≡ k
unfolding lane_words
lane-path o r h c s p q x = λ j. record {
  online = o j;
  reading = r j;
  lookup = h j;
  quiescent = c j;
  snapshot = s j;
  pending = p j;
  queues = q j;
}

-- ---- the calls

pub extra-fresh : ExtraFits fresh_lane
extra-fresh = omega arith

pub extra-on : (l : Lane) → ExtraFits l → ExtraFits (set_online true l)
extra-on l f = f

pub extra-off : (l : Lane) → ExtraFits l → ExtraFits (emptied l)
extra-off l f = f

-- ---- the sentences

-- the sentences that speak of other words
abbrev pub sentence_count : ℕ
sentence_count = 21

abbrev pub extra_sentences : List ℕ → State → List Bool
extra_sentences m s = drop sentence_count (sentences m s)

module _ (m : List ℕ) (s : State) where
  pub extra-said : Every (extra_sentences m s) → (i : ℕ) → ExtraFits (lane_at s.engine i)
  extra-said h i = tt

  pub extra-hold : ((i : ℕ) → ExtraFits (lane_at s.engine i)) → Every (extra_sentences m s)
  extra-hold f = tt
