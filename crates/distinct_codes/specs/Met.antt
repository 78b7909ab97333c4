-- What a slot leaves that is met, of the slots that the code hands on. Clients cite `code_of`, `Listed`, `Room` and `Meets`.
use Rattle.model.specs.Layout.{max_slots}
use Rattle.std.specs.Prelude.{ℕ, ◌+◌, ◌≤◌, ◌<◌, Bool, true, false, ◌≡◌, List, get_or, length}
use Rattle.distinct_codes.specs.declared.slots.Slots.{Slots}
use Rattle.distinct_codes.specs.Cells.{CellCount, spread, code_at, clash, held, meet}

module _ (t : Slots) where
  -- the code of a slot
  abbrev pub code_of : ℕ → ℕ
  code_of = code_at t.memory.now t.base

  -- a has numbers of slots, no more than a table may have
  pub record Listed (a : List ℕ) : Type 0 where
    pub members : (j : ℕ) → j < length a → get_or a j 0 < t.count
    pub few : length a ≤ max_slots

  -- a has numbers of slots, and so have the R cells k, in which 0 stands for none and each number is one more than its slot's
  pub record Room (R : ℕ) (k a : List ℕ) : Type 0 where
    pub count : CellCount R
    pub cells : R ≤ length k
    pub holders : (q : ℕ) → get_or k q 0 ≤ t.count
    pub members : (j : ℕ) → j < length a → get_or a j 0 < t.count

  -- slot i meets the R cells k, with the slots a put aside: they are l and b now; or (r is false) its code is its cell's holder's
  pub record Meets (R i : ℕ) (k a : List ℕ) (r : Bool) (l b : List ℕ) : Type 0 where
    pub good : r ≡ true → meet code_of (spread R) i (held k a) ≡ held l b
    pub bad : r ≡ false → meet code_of (spread R) i (held k a) ≡ clash
    pub room : Room R l b
    pub most : length b ≤ length a + 1
