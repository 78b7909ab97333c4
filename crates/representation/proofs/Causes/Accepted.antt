-- What is known of a call that no cause refuses: a record a call, a field for each of its causes, in the order of their tests. The list of causes is taken
-- apart here and nowhere else, so that a cause more is a field more.
use Prim.Native.Nat.{ℕ, ◌<◌}
use mathlib.Core.Path.{◌≡◌}
use mathlib.Core.Bool.{true, false, not, ◌&&◌}
use mathlib.Core.List.{[]}
use native.Mathlib.Omega.{arith}
use lib.Dec.{leb}
use borrow.Author.Tests.{leb-false, not-false}
use Rattle.model.specs.Lists.{is_empty, any}
use Rattle.model.specs.State.{State, lane_count, is_running}
use Rattle.model.specs.CheckDigit.{right_check_digit}
use Rattle.model.specs.Engine.{set_online, at_lane}
use Rattle.model.specs.Table.{present}
use Rattle.model.specs.Rules.{Op, add, replace, delete, begin, end, start, step, pass, clock, on, off, hand_back, awaited}
use Rattle.model.specs.Rules.{first_cause, wrong_code, wrong_product, wrong_kind, is_online, lane_of, of_lane, causes, refusal}
use Rattle.representation.proofs.Causes.Passed.{clear}

-- the lane is in the table and on
pub record OnLane (s : State) (i : ℕ) : Type 0 where
  pub known : i < lane_count s.sizes
  pub online : (lane_of s i).online ≡ true

pub record AddAccepted (s : State) (i c d m : ℕ) : Type 0 where
  pub lane : OnLane s i
  pub in_range : wrong_product c d m ≡ false
  pub digit : right_check_digit c ≡ true
  pub missing : present s.table c ≡ false
  pub free : is_empty s.table.free ≡ false

pub record ReplaceAccepted (s : State) (i c d m : ℕ) : Type 0 where
  pub lane : OnLane s i
  pub in_range : wrong_product c d m ≡ false
  pub digit : right_check_digit c ≡ true
  pub present : present s.table c ≡ true
  pub free : is_empty s.table.free ≡ false

pub record DeleteAccepted (s : State) (i c : ℕ) : Type 0 where
  pub lane : OnLane s i
  pub in_range : wrong_code c ≡ false
  pub present : present s.table c ≡ true

pub record StartAccepted (s : State) (i c : ℕ) : Type 0 where
  pub lane : OnLane s i
  pub reading : (lane_of s i).reading ≡ true
  pub idle : is_running (lane_of s i).lookup ≡ false
  pub in_range : wrong_code c ≡ false

pub record PassAccepted (s : State) (i k : ℕ) : Type 0 where
  pub lane : OnLane s i
  pub closed : (lane_of s i).reading ≡ false
  pub in_range : wrong_kind k ≡ false

pub record BeginAccepted (s : State) (i : ℕ) : Type 0 where
  pub lane : OnLane s i
  pub closed : (lane_of s i).reading ≡ false

pub record EndAccepted (s : State) (i : ℕ) : Type 0 where
  pub lane : OnLane s i
  pub reading : (lane_of s i).reading ≡ true

pub record StepAccepted (s : State) (i : ℕ) : Type 0 where
  pub lane : OnLane s i
  pub running : is_running (lane_of s i).lookup ≡ true

pub record OnAccepted (s : State) (i : ℕ) : Type 0 where
  pub known : i < lane_count s.sizes
  pub offline : (lane_of s i).online ≡ false

pub record OffAccepted (s : State) (i : ℕ) : Type 0 where
  pub lane : OnLane s i
  pub closed : (lane_of s i).reading ≡ false
  pub another : any is_online (at_lane i (set_online false) s.engine).lanes ≡ true

pub record HandBackAccepted (s : State) (i : ℕ) : Type 0 where
  pub lane : OnLane s i
  pub done : (is_empty (lane_of s i).queues.done && is_empty s.engine.global.done) ≡ false

module _ (s : State) where
  abbrev pub Accepted : Op → Type 0
  Accepted (add i c d m) = AddAccepted s i c d m
  Accepted (replace i c d m) = ReplaceAccepted s i c d m
  Accepted (delete i c) = DeleteAccepted s i c
  Accepted (start i c) = StartAccepted s i c
  Accepted (pass i k) = PassAccepted s i k
  Accepted (begin i) = BeginAccepted s i
  Accepted (end i) = EndAccepted s i
  Accepted (step i) = StepAccepted s i
  Accepted (clock i) = OnLane s i
  Accepted (on i) = OnAccepted s i
  Accepted (off i) = OffAccepted s i
  Accepted (hand_back i) = HandBackAccepted s i
  Accepted awaited = Unit {0}

  on-lane : (i : ℕ) → leb (lane_count s.sizes) i ≡ false → not (lane_of s i).online ≡ false → OnLane s i
  on-lane i k o = record { known = leb-false (lane_count s.sizes) i k; online = not-false (lane_of s i).online o }

  -- causes 4 and 5 alone
  pub lane-accepted : (i : ℕ) → first_cause (of_lane s i []) ≡ 0 → OnLane s i
  lane-accepted i h = let (k, (o, _)) = clear (of_lane s i []) (omega arith) h in on-lane i k o

  pub accepts : (k : Op) → refusal s k ≡ 0 → Accepted k
  unfolding causes
  accepts (add i c d m) h =
      let (k, (o, (r, (g, (p, (f, _)))))) = clear (causes s (add i c d m)) (omega arith) h in
      record { lane = on-lane i k o; in_range = r; digit = not-false (right_check_digit c) g; missing = p; free = f }
  accepts (replace i c d m) h =
      let (k, (o, (r, (g, (p, (f, _)))))) = clear (causes s (replace i c d m)) (omega arith) h in
      record { lane = on-lane i k o; in_range = r; digit = not-false (right_check_digit c) g; present = not-false (present s.table c) p; free = f }
  accepts (delete i c) h =
      let (k, (o, (r, (p, _)))) = clear (causes s (delete i c)) (omega arith) h in
      record { lane = on-lane i k o; in_range = r; present = not-false (present s.table c) p }
  accepts (start i c) h =
      let (k, (o, (w, (l, (r, _))))) = clear (causes s (start i c)) (omega arith) h in
      record { lane = on-lane i k o; reading = not-false (lane_of s i).reading w; idle = l; in_range = r }
  accepts (pass i n) h =
      let (k, (o, (w, (r, _)))) = clear (causes s (pass i n)) (omega arith) h in
      record { lane = on-lane i k o; closed = w; in_range = r }
  accepts (begin i) h =
      let (k, (o, (w, _))) = clear (causes s (begin i)) (omega arith) h in
      record { lane = on-lane i k o; closed = w }
  accepts (end i) h =
      let (k, (o, (w, _))) = clear (causes s (end i)) (omega arith) h in
      record { lane = on-lane i k o; reading = not-false (lane_of s i).reading w }
  accepts (step i) h =
      let (k, (o, (l, _))) = clear (causes s (step i)) (omega arith) h in
      record { lane = on-lane i k o; running = not-false (is_running (lane_of s i).lookup) l }
  accepts (clock i) h = lane-accepted i h
  accepts (on i) h =
      let (k, (o, _)) = clear (causes s (on i)) (omega arith) h in
      record { known = leb-false (lane_count s.sizes) i k; offline = o }
  accepts (off i) h =
      let (k, (o, (w, (a, _)))) = clear (causes s (off i)) (omega arith) h in
      record { lane = on-lane i k o; closed = w; another = not-false (any is_online (at_lane i (set_online false) s.engine).lanes) a }
  accepts (hand_back i) h =
      let (k, (o, (d, _))) = clear (causes s (hand_back i)) (omega arith) h in
      record { lane = on-lane i k o; done = d }
  accepts awaited h = tt
