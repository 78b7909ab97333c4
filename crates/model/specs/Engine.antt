-- Document 01, "Generations and passes", in its order: the rules of the engine on its part of the state.
use Rattle.std.specs.Prelude.{ℕ, ◌+◌, Bool, true, false, not, cond, ◌&&◌, List, [], ◌∷◌, ◌++◌, map, length, get_or}
use Rattle.model.specs.Word.{up_to, up, later}
use Rattle.model.specs.Lists.{update, is_empty, any, same}
use Rattle.model.specs.State.{Lookup, idle, Snapshot, unheld, held, Queues, Lane, Engine, is_held}
use Rattle.model.specs.Layout.{count_limit}

abbrev pub no_queues : Queues
no_queues = record { next = []; current = []; done = []; generation = 0 }

-- a lane as set-up leaves it
abbrev pub fresh_lane : Lane
fresh_lane = record { online = true; reading = false; lookup = idle; quiescent = 0 ∷ 0 ∷ 0 ∷ 0 ∷ []; snapshot = unheld; pending = false; queues = no_queues }

abbrev pub lane_at : Engine → ℕ → Lane
lane_at e i = get_or e.lanes i fresh_lane

-- ---- one field anew

abbrev pub set_online : Bool → Lane → Lane
set_online b l =
    record { online = b; reading = l.reading; lookup = l.lookup; quiescent = l.quiescent; snapshot = l.snapshot; pending = l.pending; queues = l.queues }

abbrev pub set_reading : Bool → Lane → Lane
set_reading b l =
    record { online = l.online; reading = b; lookup = l.lookup; quiescent = l.quiescent; snapshot = l.snapshot; pending = l.pending; queues = l.queues }

abbrev pub set_lookup : Lookup → Lane → Lane
set_lookup k l =
    record { online = l.online; reading = l.reading; lookup = k; quiescent = l.quiescent; snapshot = l.snapshot; pending = l.pending; queues = l.queues }

abbrev pub set_quiescent : List ℕ → Lane → Lane
set_quiescent c l =
    record { online = l.online; reading = l.reading; lookup = l.lookup; quiescent = c; snapshot = l.snapshot; pending = l.pending; queues = l.queues }

abbrev pub set_pending : Bool → Snapshot → Lane → Lane
set_pending b s l =
    record { online = l.online; reading = l.reading; lookup = l.lookup; quiescent = l.quiescent; snapshot = s; pending = b; queues = l.queues }

abbrev pub set_queues : Queues → Lane → Lane
set_queues q l =
    record { online = l.online; reading = l.reading; lookup = l.lookup; quiescent = l.quiescent; snapshot = l.snapshot; pending = l.pending; queues = q }

abbrev pub set_next : List ℕ → Queues → Queues
set_next xs q = record { next = xs; current = q.current; done = q.done; generation = q.generation }

abbrev pub set_done : List ℕ → Queues → Queues
set_done xs q = record { next = q.next; current = q.current; done = xs; generation = q.generation }

abbrev pub with_current : ℕ → Engine → Engine
with_current g e = record { current = g; largest = e.largest; lanes = e.lanes; global = e.global }

abbrev pub with_largest : ℕ → Engine → Engine
with_largest g e = record { current = e.current; largest = g; lanes = e.lanes; global = e.global }

abbrev pub with_lanes : List Lane → Engine → Engine
with_lanes ls e = record { current = e.current; largest = e.largest; lanes = ls; global = e.global }

abbrev pub with_global : Queues → Engine → Engine
with_global q e = record { current = e.current; largest = e.largest; lanes = e.lanes; global = q }

-- lane i changed by f
abbrev pub at_lane : ℕ → (Lane → Lane) → Engine → Engine
at_lane i f e = with_lanes (update e.lanes i f) e

-- ---- grace periods

abbrev pub is_pending : Lane → Bool
is_pending l = l.pending

-- a period runs while a lane is pending
abbrev pub runs : Engine → Bool
runs e = any is_pending e.lanes

-- the lane becomes pending if it is on
abbrev pub awaiting : Lane → Lane
awaiting l = set_pending l.online l.snapshot l

-- begin period: set the bits of all on lanes
unfoldable pub started : Engine → Engine
started e = with_lanes (map awaiting e.lanes) e

-- end period: current generation plus 1; if the largest requested is not earlier, begin a period
unfoldable pub ended : Engine → Engine
ended e = let f = with_current (up e.current) e in cond (later f.current f.largest) f (started f)

-- drop lane i's snapshot and bit, ending the period if none remain
unfoldable pub released : ℕ → Engine → Engine
released i e =
    let f = at_lane i (set_pending false unheld) e in
    cond ((lane_at e i).pending && not (runs f)) (ended f) f

-- ---- pass

-- a quiescent state of kind k: that count goes up and wraps
unfoldable pub counted : ℕ → Lane → Lane
counted k l = set_quiescent (update l.quiescent k (up_to count_limit)) l

-- ---- advance

-- the current queue's generation is earlier than g, the current one
abbrev pub is_over : ℕ → Queues → Bool
is_over g q = not (is_empty q.current) && later g q.generation

-- then that queue is appended to done
unfoldable pub settled : ℕ → Queues → Queues
settled g q = cond (is_over g q) (record { next = q.next; current = []; done = q.done ++ q.current; generation = 0 }) q

-- and so many slots move into done
unfoldable pub settling : ℕ → Queues → ℕ
settling g q = cond (is_over g q) (length q.current) 0

-- current is empty and next is not
unfoldable pub ready : Queues → Bool
ready q = is_empty q.current && not (is_empty q.next)

-- the generation whose end a batch that begins to wait now has to see: the current, or one more if a period runs
unfoldable pub target : Engine → ℕ
target e = cond (runs e) (up e.current) e.current

-- next becomes current, with generation g
abbrev pub batched : ℕ → Queues → Queues
batched g q = record { next = []; current = q.next; done = q.done; generation = g }

-- raise the largest requested if g is later; if no period runs, begin one (document 000's rc_reg_gen)
unfoldable pub requested : ℕ → Engine → Engine
requested g e =
    let f = with_largest (cond (later g e.largest) g e.largest) e in
    cond (runs f) f (started f)

-- advance a lane
unfoldable pub advanced_lane : ℕ → Engine → Engine
advanced_lane i e =
    let q = settled e.current (lane_at e i).queues in
    cond (ready q) (requested (target e) (at_lane i (set_queues (batched (target e) q)) e)) (at_lane i (set_queues q) e)

-- advance the global queues
unfoldable pub advanced_global : Engine → Engine
advanced_global e =
    let q = settled e.current e.global in
    cond (ready q) (requested (target e) (with_global (batched (target e) q) e)) (with_global q e)

-- ---- clock

-- a snapshot is held, and some of these counts differs from it
unfoldable pub differs : Snapshot → List ℕ → Bool
differs unheld counts = false
differs (held c) counts = not (same counts c)

-- the lane went through a quiescent state since its snapshot
abbrev pub quiesced : Lane → Bool
quiesced l = differs l.snapshot l.quiescent

-- if the bit is set and no snapshot is held, copy the counts
unfoldable pub sampled : Lane → Lane
sampled l = cond (l.pending && not (is_held l.snapshot)) (set_pending true (held l.quiescent) l) l

-- compare: a lane that quiesced is released
abbrev pub compared : ℕ → Engine → Engine
compared i e = cond (quiesced (lane_at e i)) (released i e) e

-- compare, advance the lane, advance the global queues, copy
unfoldable pub clocked : ℕ → Engine → Engine
clocked i e = at_lane i sampled (advanced_global (advanced_lane i (compared i e)))

-- the slots that it moves into done queues, the lane's and the global one (document 02, request 6)
unfoldable pub clock_moves : ℕ → Engine → ℕ
clock_moves i e =
    let f = compared i e in
    let g = advanced_lane i f in
    settling f.current (lane_at f i).queues + settling g.current g.global

-- ---- off

-- a leaving lane's current queue, then its next, go to the global next queue g, and its done queue to the global done queue
abbrev pub taken : Queues → Queues → Queues
taken g q = record { next = g.next ++ q.current ++ q.next; current = g.current; done = g.done ++ q.done; generation = g.generation }

-- the lane is off, with no queues
abbrev pub emptied : Lane → Lane
emptied l = set_online false (set_queues no_queues l)

-- mark off; hand the queues over; drop snapshot and bit
abbrev pub left_by : ℕ → Engine → Engine
left_by i e = let f = with_global (taken e.global (lane_at e i).queues) e in released i (at_lane i emptied f)

-- then advance the global queues
unfoldable pub went_off : ℕ → Engine → Engine
went_off i e = advanced_global (left_by i e)

-- the slots that it moves into the global done queue, those of the lane's done queue apart
unfoldable pub off_moves : ℕ → Engine → ℕ
off_moves i e = let f = left_by i e in settling f.current f.global
