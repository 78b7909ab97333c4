-- A lane drops its snapshot; it drops its bit; the period ends where no lane is awaited any more.
use Prim.Native.Nat.{ℕ, zero, suc}
use mathlib.Core.Bool.{Bool, true, false, not, cond}
use mathlib.Core.Path.{◌≡◌, refl, ap, sym, ◌∙◌}
use mathlib.Core.List.{List, [], ◌∷◌, ◌++◌}
use lib.ListN.{get_or}
use lib.Dec.{eqb}
use Rattle.model.specs.Lists.{update, concat_map}
use Rattle.model.specs.State.{unheld, Lane, State}
use Rattle.model.specs.Engine.{fresh_lane, set_pending, runs, ended}
use Rattle.model.specs.Rules.{with_engine}
use Rattle.model.specs.Memory.{flags, lane_words, lane_queues}
use Rattle.model.specs.Calls.{stored}
use Rattle.changes.proofs.Shows.{Shows, stored-shown}
use Rattle.changes.proofs.Shape.{LaneAtEach}
use Rattle.changes.proofs.OfLanes.LaneRecords.{holding}
use Rattle.representation.proofs.FromState.Periods.{yard_mask-runs}
use Rattle.engine.specs.Period.{ended_words}
use Rattle.engine.proofs.PeriodLaws.{mask-shown, ended-stored}
use Rattle.engine.specs.Release.{over_words}

-- ---- the snapshot

-- the lane drops its snapshot, and keeps its bit
abbrev pub unsampled : Lane → Lane
unsampled k = holding unheld k

-- ---- the bit

-- the lane's bit goes
abbrev pub unawaited : Lane → Lane
unawaited k = set_pending false k.snapshot k

pub words-unawaited : (ls : List Lane) (i j : ℕ) → lane_words (get_or (update ls i unawaited) j fresh_lane) ≡ lane_words (get_or ls j fresh_lane)
unfolding update lane_words flags
words-unawaited [] i j = refl
words-unawaited (l ∷ ls) zero zero = refl
words-unawaited (l ∷ ls) zero (suc j) = refl
words-unawaited (l ∷ ls) (suc i) zero = refl
words-unawaited (l ∷ ls) (suc i) (suc j) = words-unawaited ls i j

-- a change of a lane that keeps its queues keeps all
pub queues-alike : (f : Lane → Lane) → ((l : Lane) → lane_queues (f l) ≡ lane_queues l) → (ls : List Lane) (i : ℕ)
    → concat_map lane_queues (update ls i f) ≡ concat_map lane_queues ls
unfolding concat_map update
queues-alike f e [] i = refl
queues-alike f e (l ∷ ls) zero = ap (λ (r : List (List ℕ)). r ++ concat_map lane_queues ls) (e l)
queues-alike f e (l ∷ ls) (suc i) = ap (λ (r : List (List ℕ)). lane_queues l ++ r) (queues-alike f e ls i)

-- if no lane is awaited any more, the period ends
pub over-stored : (s : State) (m : List ℕ) → Shows m s → LaneAtEach s
    → over_words m s.sizes ≡ stored (with_engine s (cond (not (runs s.engine)) (ended s.engine) s.engine)) m
unfolding over_words
over-stored s m shows each =
    ap (λ (d : Bool). cond d (ended_words m s.sizes) m) (ap (λ (w : ℕ). eqb w 0) (mask-shown s m shows) ∙ yard_mask-runs s each)
    ∙ go (not (runs s.engine))
  where
    go : (b : Bool) → cond b (ended_words m s.sizes) m ≡ stored (with_engine s (cond b (ended s.engine) s.engine)) m
    go true = ended-stored s m shows each
    go false = sym (stored-shown s m shows)
