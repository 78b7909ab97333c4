-- What document 02's request 6 asks of the clocks' fourth numbers, of the functions for C, and that it holds (`done-holds`).
use Rattle.std.specs.Prelude.{ℕ, ◌+◌, ◌≡◌, List}
use Rattle.model.specs.State.{Sizes}
use Rattle.model.specs.Memory.{state}
use Rattle.model.specs.Calls.{Call, set_up, left_all}
use Rattle.model.specs.Ledger.{events, done_slots, moved_by_clocks, hand_backs, moved_by_offs}
use Rattle.history.proofs.DoneSlots.{done-counted}
use Rattle.product_table.specs.Called.{Called}
use Rattle.demands.specs.Demands.{Run, Ran, last_memory, NoSetUps, calls_of, events_of}
use Rattle.demands.specs.Runs.{ran-events, ran-left}
use Rattle.demands.specs.Proved.{on-calls}

-- over every list, and so at each instant of one: the slots moved by all clocks so far, by their answers, with those that offs moved, are the slots that
-- stand in done queues now, with those handed back so far
abbrev pub DoneSlots : Type 0
DoneSlots =
    (z : Sizes) (m a m₀ b : List ℕ) → Called (set_up z) m a m₀ b 0 → (xs : List Run) → Ran m₀ xs → NoSetUps xs
    → moved_by_clocks (events_of xs) + moved_by_offs m₀ (calls_of xs) ≡ done_slots (state (last_memory m₀ xs)).engine + hand_backs (events_of xs)

pub done-holds : DoneSlots
done-holds z m a m₀ b h xs ran ups =
    rw (ran-events m₀ xs ran, ran-left m₀ xs ran)
    (on-calls
    (λ (w : List ℕ) (ks : List Call). moved_by_clocks (events w ks) + moved_by_offs w ks ≡ done_slots (state (left_all w ks)).engine + hand_backs (events w ks))
    done-counted z m a m₀ b h xs ran ups)
