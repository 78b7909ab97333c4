-- A lane's lookup in its words: what the words of a running one say, and that the stores of start are the words of a lookup at the head of its chain.
use Prim.Native.Nat.{ℕ, ◌+◌}
use mathlib.Core.Path.{◌≡◌, refl, ap, ap₂, sym, subst, ◌∙◌}
use mathlib.Core.Bool.{Bool, true, false}
use mathlib.Core.List.{List}
use native.Mathlib.Omega.{arith}
use lib.ListN.{set}
use Rattle.std.specs.Prelude.{Option, Some, None, is_some, unwrap_or}
use Rattle.model.specs.Word.{none}
use Rattle.model.specs.Lists.{first}
use Rattle.model.specs.State.{Sizes, Lookup, idle, running, is_running}
use Rattle.model.specs.Layout.{flags_at, lookup_at, position_at, lane_address, lookup_bit}
use Rattle.model.specs.Table.{chain_of}
use Rattle.model.specs.Engine.{set_lookup}
use Rattle.model.specs.Rules.{start, zeros, refusal, lane_of, Outcome, outcome, result}
use Rattle.model.specs.Memory.{at, wide, whole_of, low, high, flags, lookup_code, lookup_position, lane_words, sizes, state}
use Rattle.model.specs.Calls.{on_state}
use Rattle.representation.proofs.WellFormed.{SlotOrNone, LookupFits}
use Rattle.words.specs.Lent.{sizes_of}
use Rattle.chains.specs.Outcome.{outcome_at}
use Rattle.changes.proofs.Shape.{well_formed-shape}
use Rattle.changes.proofs.OfChains.Find.{outcome-shown}
use Rattle.changes.proofs.OfLanes.OneLane.{stored_from}
use Rattle.changes.proofs.OfLanes.LaneWords.{lookup_words}
use Rattle.changes.proofs.OfLanes.LaneCalls.{start-stored}
use Rattle.access.specs.declared.Answer.{Answer}
use Rattle.access.specs.declared.Lane.{Lane}
use Rattle.access.specs.Contract.{five, Does}
use Rattle.access.specs.Flags.{flag_put}
use Rattle.access.specs.Lanes.{Named, LaneIn}
use Rattle.access.proofs.Ways.{performs, passed, shown, well_formed}
use Rattle.access.proofs.LaneLaws.{lane-known}
use Rattle.access.proofs.FlagLaws.{word-shown, flags-shown, flags-lookup}
use Rattle.readers.specs.declared.Lookup as code
use Rattle.readers.specs.Lookups.{lookup_of, lookup_stored, Looking}

-- ---- a lookup is stored

-- by the flags n that were put, and the words of what the code handed on
pub lookup-by : (m n : List ℕ) (a : ℕ) (o : Option code.Lookup) (b : Bool) (l : code.Lookup) (x y : ℕ) → b ≡ is_some o → n ≡ flag_put m a lookup_bit b
    → l ≡ unwrap_or o (record { code = 0; position = none }) → x ≡ low l.code → y ≡ high l.code
    → set (set (set n (a + lookup_at) x) (a + lookup_at + 1) y) (a + position_at) l.position ≡ lookup_stored m a (lookup_of o)
unfolding is_running lookup_code lookup_position
lookup-by m n a (Some k) b l x y eb en el ex ey = rw (en, eb, ex, ey, el)
lookup-by m n a None b l x y eb en el ex ey = rw (en, eb, ex, ey, el)

-- the lookup k, with the lane's flags
pub lookup-stored : (m : List ℕ) (l : Lane) (k : Lookup) → LaneIn m l
    → lookup_stored m l.address k ≡ stored_from m (lane_address (sizes m) l.number) (lookup_words (flags (set_lookup k (lane_of (state m) l.number))) k)
lookup-stored m l k h =
    let a = lane_address (sizes m) l.number in
    let e : a + flags_at ≡ a = omega arith in
    let d : a + (lookup_at + 1) ≡ a + lookup_at + 1 = omega arith in
    rw (h.named.address, e, d, flags-shown m h.named.sound l.number h.known, flags-lookup (lane_of (state m) l.number) k)

-- ---- start

pub start-done : (m : List ℕ) (l : Lane) (c : ℕ) → Named m l → 0 ≡ refusal (state m) (start l.number c)
    → (p : ℕ) (r : Answer) (n : List ℕ) → p ≡ first (chain_of (state m).table c) → five r ≡ zeros → n ≡ lookup_stored m l.address (running c p)
    → Does (on_state (start l.number c)) m r n
unfolding result state
start-done m l c k e p r n ep er en =
    let v = k.sound in
    let w = lane-known m l k (passed m (start l.number c) e).lane.known in
    performs m (start l.number c) v e r n er
    (en ∙ ap (λ (x : ℕ). lookup_stored m l.address (running c x)) ep
    ∙ lookup-stored m l (running c (first (chain_of (state m).table c))) w
    ∙ start-stored (state m) m (shown m v) (well_formed m v) l.number c w.known)

-- ---- a running lookup

-- a running lookup is its code and its position
by_parts : (k : Lookup) → is_running k ≡ true → k ≡ running (lookup_code k) (lookup_position k)
unfolding is_running lookup_code lookup_position
by_parts (running c p) e = refl
by_parts idle e = let z : ◌≡◌ {A = Bool} false true = e in cc

module _ (m : List ℕ) (l : Lane) (k : Looking m l) where
  abbrev own : Lookup
  own = (lane_of (state m) l.number).lookup

  -- its code and its position stand in the lane's record
  pub lookup-shown : own ≡ running (wide m (l.address + lookup_at)) (at m (l.address + position_at))
  unfolding lane_words
  lookup-shown =
      let a = lane_address (sizes m) l.number in
      let word = word-shown m k.lane.named.sound l.number k.lane.known in
      let d : a + lookup_at + 1 ≡ a + (lookup_at + 1) = omega arith in
      let q : lookup_code own ≡ whole_of (low (lookup_code own)) (high (lookup_code own)) = omega arith in
      by_parts own k.running
      ∙ ap₂ running (q ∙ sym (ap₂ whole_of (word lookup_at (omega arith)) (ap (at m) d ∙ word (lookup_at + 1) (omega arith))))
      (sym (word position_at (omega arith)))
      ∙ ap (λ (y : ℕ). running (wide m (y + lookup_at)) (at m (y + position_at))) (sym k.lane.named.address)

  -- and the position is a slot or none
  pub position-fits : SlotOrNone (sizes m).slots (at m (l.address + position_at))
  unfolding state
  position-fits =
      (subst (LookupFits (sizes m).slots (lane_of (state m) l.number).reading) lookup-shown
      ((well_formed m k.lane.named.sound).fits l.number).lookup).2

  -- by what the code read
  pub outcome-by : (c : ℕ) (o : Outcome) → c ≡ wide m (l.address + lookup_at) → o ≡ outcome_at m (sizes_of l.sizes) c (at m (l.address + position_at))
      → o ≡ outcome (state m).table own
  unfolding state
  outcome-by c o ec eo =
      let v = k.lane.named.sound in
      eo ∙ ap₂ (λ (z : Sizes) (y : ℕ). outcome_at m z y (at m (l.address + position_at))) k.lane.named.sizes ec
      ∙ outcome-shown (state m) m (shown m v) (well_formed-shape (state m) (well_formed m v)) _ _ position-fits
      ∙ ap (outcome (state m).table) (sym lookup-shown)
