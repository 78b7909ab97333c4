-- The second step: the numbers below n by their codes, a tree in cells that hold 0 or such a number plus 1. A code begins in one of R cells; a
-- number that stands in a cell has sixteen cells of its own, from R + 16 × it, and a code that is not its own goes on in the one of its next digit.
use Rattle.std.specs.Prelude.{ℕ, suc, ◌+◌, ◌*◌, ◌/◌, ◌%◌, ◌≤◌, ◌<◌, Bool, true, false, ◌≡◌, List, get_or, length}
use Rattle.model.specs.Layout.{chain_count}

-- the cells of a number's own, and the base of the digits
abbrev pub branches : ℕ
branches = 16

-- the cell in which code c begins, of R
abbrev pub root : ℕ → ℕ → ℕ
root R c = (c % R + c / chain_count % R) % R

-- code c begins in cell r, of R
pub record Rooted (R c r : ℕ) : Type 0 where
  pub cell : r ≡ root R c
  pub below : r < R

-- nothing stands in a cell
abbrev pub Empty : List ℕ → Type 0
Empty k = (q : ℕ) → get_or k q 0 ≡ 0

-- l has what k has, and perhaps more
abbrev pub Keeps : List ℕ → List ℕ → Type 0
Keeps k l = (q v : ℕ) → get_or k q 0 ≡ suc v → get_or l q 0 ≡ suc v

module _ (R : ℕ) where
  -- number t is met from cell p on, by the digits of d
  pub data Path (k : List ℕ) : ℕ → ℕ → ℕ → Type 0 where
    here : {p d t : ℕ} → get_or k p 0 ≡ suc t → Path k p d t
    down : {p d t v : ℕ} → get_or k p 0 ≡ suc v → Path k (R + branches * v + d % branches) (d / branches) t → Path k p d t

  -- the numbers in cells are below n, and each stands before its own cells
  pub record Shape (n : ℕ) (k : List ℕ) : Type 0 where
    pub within : (q : ℕ) → get_or k q 0 ≤ n
    pub order : (q v : ℕ) → get_or k q 0 ≡ suc v → q < R + branches * v

-- the code of a number is f
module _ (R : ℕ) (f : ℕ → ℕ) where
  -- number t is found by its code
  abbrev pub In : List ℕ → ℕ → Type 0
  In k t = Path R k (root R (f t)) (f t / R) t

  -- l is k with number n, whose code is none's of k
  pub record New (n : ℕ) (k l : List ℕ) : Type 0 where
    pub shape : Shape R (n + 1) l
    pub size : length l ≡ length k
    pub keeps : Keeps k l
    pub entered : In l n
    pub apart : (t : ℕ) → In k t → f t ≡ f n → ⊥

  -- one in k has number n's code
  pub record Old (n : ℕ) (k : List ℕ) : Type 0 where
    pub slot : ℕ
    pub cell : ℕ
    pub stands : get_or k cell 0 ≡ suc slot
    pub equal : f slot ≡ f n

  -- number n is new to k, and l has it besides; or (r is false) its code is there already
  pub record Entered (n : ℕ) (k : List ℕ) (r : Bool) (l : List ℕ) : Type 0 where
    pub new : r ≡ true → New n k l
    pub old : r ≡ false → Old n k
