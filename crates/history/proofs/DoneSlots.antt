-- What the clocks' fourth numbers add up to (document 02, request 6): over every list the slots that clocks and offs moved into done queues are those
-- that stand there and those that were handed back.
use Prim.Native.Nat.{ℕ, zero, suc, ◌+◌, ◌<◌}
use mathlib.Core.Path.{◌≡◌, refl}
use mathlib.Core.Bool.{Bool, true, false, cond, ◌&&◌}
use mathlib.Core.List.{List, [], ◌∷◌, map}
use native.Mathlib.Omega.{arith}
use lib.ListN.{length, get_or, replicate}
use lib.Dec.{eqb}
use borrow.Author.Tests.{ne_eqb}
use Rattle.model.specs.Lists.{update, is_empty, first, tail}
use Rattle.model.specs.State.{lane_count, running, Lane, Engine, State}
use Rattle.model.specs.Engine.{fresh_lane, lane_at, set_online, set_reading, set_lookup, awaiting, at_lane, counted}
use Rattle.model.specs.Table.{chain_of, slot_of}
use Rattle.model.specs.Rules.{Op, add, replace, delete, begin, end, start, step, pass, clock, on, off, hand_back, awaited, Answer, refused, Outcome, going, found}
use Rattle.model.specs.Rules.{absent, outcome, outcome_answer, stepped, leaving, retiring, reclaiming, performed, result, answer, next, fresh}
use Rattle.model.specs.Memory.{state}
use Rattle.model.specs.Calls.{Call, set_up, on_state, reply, left, left_all}
use Rattle.model.specs.Ledger.{events, RefusesSetUps, done_in, done_slots, Moving, clocks, hands_back, other, goes_off, moving, clock_told, off_moved, handed_one}
use Rattle.model.specs.Ledger.{moved_by_clocks, hand_backs, moved_by_offs, DoneCounted}
use Rattle.laws.specs.Tests.{clash}
use Rattle.representation.proofs.Causes.Accepted.{Accepted, accepts, HandBackAccepted}
use Rattle.representation.proofs.Causes.Passed.{call-cases}
use Rattle.representation.proofs.MemoryCalls.{refused-keeps}
use Rattle.representation.proofs.WellFormed.{WellFormed}
use Rattle.representation.proofs.Discipline.Done.{lane_done, counted-clocked, counted-went_off}
use Rattle.history.proofs.OverLists.Stands.{Stands, reply-on, stands-next}
use Rattle.history.proofs.Demand3.{set-up-stands}

-- ---- the lanes' done queues

done_in-changed : (i : ℕ) (ls : List Lane) (f : Lane → Lane) → i < length ls
    → done_in (update ls i f) + lane_done (get_or ls i fresh_lane) ≡ done_in ls + lane_done (f (get_or ls i fresh_lane))
unfolding done_in update
done_in-changed i [] f h = absurd (omega arith)
done_in-changed zero (l ∷ ls) f h = omega arith
done_in-changed (suc i) (l ∷ ls) f h = omega (arith, done_in-changed i ls f (omega arith))

done_in-awaits : (ls : List Lane) → done_in (map awaiting ls) ≡ done_in ls
unfolding done_in
done_in-awaits [] = refl
done_in-awaits (l ∷ ls) = omega (arith, done_in-awaits ls)

done_in-fresh : (n : ℕ) → done_in (replicate n fresh_lane) ≡ 0
unfolding done_in
done_in-fresh zero = refl
done_in-fresh (suc n) = omega (arith, done_in-fresh n)

-- ---- one call

-- a call o on s answered r and left t
abbrev Counts : State → Op → State → Answer → Type 0
Counts s o t r =
    done_slots t.engine + cond (eqb r.status 0) (handed_one (moving (on_state o))) 0
    ≡ done_slots s.engine + clock_told (moving (on_state o)) r + cond (eqb r.status 0) (off_moved (moving (on_state o)) s.engine) 0

-- a refused call tells of no slot
told-refused : (k : Moving) (n : ℕ) → clock_told k (refused n) ≡ 0
unfolding clock_told
told-refused clocks n = refl
told-refused hands_back n = refl
told-refused other n = refl
told-refused (goes_off i) n = refl

length-tail : (xs : List ℕ) → is_empty xs ≡ false → length (tail xs) + 1 ≡ length xs
unfolding is_empty tail
length-tail [] h = clash refl h
length-tail (x ∷ xs) h = omega arith

module _ (s : State) (w : WellFormed s) where
  abbrev e : Engine
  e = s.engine

  inside : (i : ℕ) → i < lane_count s.sizes → i < length e.lanes
  inside i k = omega (arith, k, w.lanes)

  -- a lane that keeps its done queue
  lane-kept : (i : ℕ) → i < lane_count s.sizes → (f : Lane → Lane) → lane_done (f (lane_at e i)) ≡ lane_done (lane_at e i) → done_slots (at_lane i f e) ≡ done_slots e
  lane-kept i k f h = omega (arith, done_in-changed i e.lanes f (inside i k), h)

  -- one slot fewer in the lane's done queue, or in the global one
  one_fewer : (i : ℕ) → HandBackAccepted s i → done_slots (performed s (hand_back i)).engine + 1 ≡ done_slots e
  unfolding performed
  one_fewer i a = go (is_empty (lane_at e i).queues.done) refl (is_empty e.global.done) refl
    where
      go : (b : Bool) → is_empty (lane_at e i).queues.done ≡ b → (c : Bool) → is_empty e.global.done ≡ c
          → done_slots (performed s (hand_back i)).engine + 1 ≡ done_slots e
      go false p c q = rw p (omega (arith, done_in-changed i e.lanes reclaiming (inside i a.lane.known), length-tail (lane_at e i).queues.done p))
      go true p false q = rw p (omega (arith, length-tail e.global.done q))
      go true p true q = let z : (true && true) ≡ false = rw (p, q) at a.done in clash refl z

  -- the outcome of a step tells of no slot either
  step-status : (o : Outcome) → (outcome_answer o).status ≡ 0
  unfolding outcome_answer
  step-status going = refl
  step-status (found r) = refl
  step-status absent = refl

  counts-performed : (o : Op) → Accepted s o → Counts s o (performed s o) (result s o)
  unfolding performed result moving clock_told off_moved handed_one counted
  counts-performed (add i c d m) a = omega arith
  counts-performed (replace i c d m) a = omega (arith, lane-kept i a.lane.known (retiring (slot_of s.table c)) refl)
  counts-performed (delete i c) a = omega (arith, lane-kept i a.lane.known (retiring (slot_of s.table c)) refl)
  counts-performed (start i c) a = omega (arith, lane-kept i a.lane.known (set_lookup (running c (first (chain_of s.table c)))) refl)
  counts-performed (pass i k) a = omega (arith, lane-kept i a.lane.known (counted k) refl)
  counts-performed (begin i) a = omega (arith, lane-kept i a.lane.known (set_reading true) refl)
  counts-performed (end i) a = omega (arith, lane-kept i a.lane.known leaving refl)
  counts-performed (step i) a = rw (step-status (outcome s.table (lane_at e i).lookup)) (omega (arith, lane-kept i a.lane.known (stepped s.table) refl))
  counts-performed (clock i) a = omega (arith, counted-clocked i done_in (done_in-changed i) done_in-awaits e (inside i a.known))
  counts-performed (on i) a = omega (arith, lane-kept i a.known (set_online true) refl)
  counts-performed (off i) a = omega (arith, counted-went_off i done_in (done_in-changed i) done_in-awaits e (inside i a.lane.known))
  counts-performed (hand_back i) a = omega (arith, one_fewer i a)
  counts-performed awaited a = omega arith

  counts-next : (o : Op) → Counts s o (next s o) (answer s o)
  counts-next o =
      call-cases (Counts s o) s o (λ z. counts-performed o (accepts s o z))
      (λ m. rw (ne_eqb (suc m) 0 (λ z. omega arith), told-refused (moving (on_state o)) (suc m)) (omega arith))

-- ---- a list

counts-list : (ks : List Call) (s : State) (m : List ℕ) → Stands s m → RefusesSetUps m ks
    → done_slots s.engine + (moved_by_clocks (events m ks) + moved_by_offs m ks) ≡ done_slots (state (left_all m ks)).engine + hand_backs (events m ks)
unfolding events left_all moved_by_clocks hand_backs moved_by_offs RefusesSetUps moving clock_told off_moved handed_one
counts-list [] s m v r = rw v.read (omega arith)
counts-list (set_up z ∷ ks) s m v (f, r) =
    let same = refused-keeps m (set_up z) f in
    rw (ne_eqb (reply m (set_up z)).status 0 f, same) (omega (arith, counts-list ks s m v (rw same at r)))
counts-list (on_state o ∷ ks) s m v r =
    let one = counts-next s v.well_formed o in
    let rest = counts-list ks (next s o) (left m (on_state o)) (stands-next v o) r in
    rw (reply-on v o, v.read) (omega (arith, one, rest))

pub done-counted : DoneCounted
unfolding fresh
done-counted m z ok ks r =
    omega (arith, counts-list ks (fresh z) (left m (set_up z)) (set-up-stands m z ok) r, done_in-fresh (lane_count z))
