-- The first step: cells that hold 0 or a slot's number plus 1, the first slot met whose code spreads there. A slot that meets a held cell is
-- compared with its holder and put aside. Clients cite `meets`, `code_at` and `spread`.
use Rattle.std.specs.Prelude.{ℕ, zero, suc, ◌+◌, ◌*◌, ◌/◌, ◌%◌, ◌≤◌, ◌<◌, cond, ◌≡◌, List, [], ◌∷◌, ◌++◌, get_or, set, eqb}
use Rattle.model.specs.Layout.{slot_length}
use Rattle.model.specs.Memory.{wide, low, high}

-- the largest number of cells in which codes begin
abbrev pub many_cells : ℕ
many_cells = 4096

-- R may be their number
pub record CellCount (R : ℕ) : Type 0 where
  pub some : 0 < R
  pub most : R ≤ many_cells

-- the cell of a code, of n. The laws hold for any function; this one keeps codes in regular steps apart, and its factors' sum is below 2^32.
abbrev pub low_factor : ℕ
low_factor = 1306944375

abbrev pub high_factor : ℕ
high_factor = 1969992241

abbrev pub dropped : ℕ
dropped = 1048576

abbrev pub spread : ℕ → ℕ → ℕ
spread n c = (low c * low_factor + high c * high_factor) / dropped % n

-- code c begins in cell r, of R
pub record Begins (R c r : ℕ) : Type 0 where
  pub cell : r ≡ spread R c
  pub below : r < R

-- the code of slot i, slot 0's words beginning at base
abbrev pub code_at : List ℕ → ℕ → ℕ → ℕ
code_at m base i = wide m (base + slot_length * i)

-- the cells and the slots put aside; or two slots with one code were met
pub data Held : Type 0 where
  clash : Held
  held : List ℕ → List ℕ → Held

-- the codes of slots are f, the cell of a code is g
module _ (f g : ℕ → ℕ) where
  -- slot i meets its cell, which holds the first number
  unfoldable pub meet_cell : ℕ → ℕ → List ℕ → List ℕ → Held
  meet_cell zero i k a = held (set k (g (f i)) (i + 1)) a
  meet_cell (suc v) i k a = cond (eqb (f v) (f i)) clash (held k (a ++ (i ∷ [])))

  unfoldable pub meet : ℕ → Held → Held
  meet i clash = clash
  meet i (held k a) = meet_cell (get_or k (g (f i)) 0) i k a

  -- the slots of a list, one after the other
  unfoldable pub meets : List ℕ → Held → Held
  meets [] h = h
  meets (i ∷ is) h = meets is (meet i h)
