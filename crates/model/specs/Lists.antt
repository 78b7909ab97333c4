-- What the rules ask of lists, beside the library's `map`, `get_or`, `set`, `take`, `drop` and `length`.
use Rattle.std.specs.Prelude.{ℕ, zero, suc, ◌+◌, ◌*◌, Bool, true, false, cond, ◌&&◌, ◌||◌, List, [], ◌∷◌, ◌++◌, eqb}
use Rattle.model.specs.Word.{none}

module _ {A : Type 0} where
  -- the n-th changed by f; nothing where there is no n-th
  unfoldable pub update : List A → ℕ → (A → A) → List A
  update [] n f = []
  update (x ∷ xs) zero f = f x ∷ xs
  update (x ∷ xs) (suc n) f = x ∷ update xs n f

  unfoldable pub is_empty : List A → Bool
  is_empty [] = true
  is_empty (x ∷ xs) = false

  -- some element has p
  unfoldable pub any : (A → Bool) → List A → Bool
  any p [] = false
  any p (x ∷ xs) = p x || any p xs

  -- each element has p
  unfoldable pub all : (A → Bool) → List A → Bool
  all p [] = true
  all p (x ∷ xs) = p x && all p xs

  -- all but the first
  unfoldable pub tail : List A → List A
  tail [] = []
  tail (x ∷ xs) = xs

  -- the elements that do not have p
  unfoldable pub drops : (A → Bool) → List A → List A
  drops p [] = []
  drops p (x ∷ xs) = cond (p x) (drops p xs) (x ∷ drops p xs)

  unfoldable pub concat : List (List A) → List A
  concat [] = []
  concat (x ∷ xs) = x ++ concat xs

-- all of them are true
unfoldable pub every : List Bool → Bool
every [] = true
every (b ∷ bs) = b && every bs

unfoldable pub concat_map : {A B : Type 0} → (A → List B) → List A → List B
concat_map f [] = []
concat_map f (x ∷ xs) = f x ++ concat_map f xs

-- a, a + 1, .., n of them
unfoldable pub from : ℕ → ℕ → List ℕ
from a zero = []
from a (suc n) = a ∷ from (suc a) n

-- the first element, none of an empty list
unfoldable pub first : List ℕ → ℕ
first [] = none
first (x ∷ xs) = x

-- the last element, none of an empty list
unfoldable pub last : List ℕ → ℕ
last [] = none
last (x ∷ []) = x
last (x ∷ (y ∷ xs)) = last (y ∷ xs)

-- how often i stands in the list
unfoldable pub count : ℕ → List ℕ → ℕ
count i [] = 0
count i (x ∷ xs) = cond (eqb i x) 1 0 + count i xs

unfoldable pub member : ℕ → List ℕ → Bool
member i [] = false
member i (x ∷ xs) = eqb i x || member i xs

-- the two lists are equal
unfoldable pub same : List ℕ → List ℕ → Bool
same [] [] = true
same [] (y ∷ ys) = false
same (x ∷ xs) [] = false
same (x ∷ xs) (y ∷ ys) = eqb x y && same xs ys

-- no element twice
unfoldable pub distinct : List ℕ → Bool
distinct [] = true
distinct (x ∷ xs) = cond (member x xs) false (distinct xs)

-- what stands after i in xs, none at its end; d where i is not in xs
unfoldable pub successor : List ℕ → ℕ → ℕ → ℕ
successor [] i d = d
successor (x ∷ xs) i d = cond (eqb x i) (first xs) (successor xs i d)

-- the same over several lists, of which at most one holds i
unfoldable pub successor_in : List (List ℕ) → ℕ → ℕ → ℕ
successor_in [] i d = d
successor_in (xs ∷ xss) i d = successor xs i (successor_in xss i d)

-- xs less its first i
unfoldable pub without : ℕ → List ℕ → List ℕ
without i [] = []
without i (x ∷ xs) = cond (eqb x i) xs (x ∷ without i xs)

-- xs with j in the place of its first i
unfoldable pub swapped : ℕ → ℕ → List ℕ → List ℕ
swapped i j [] = []
swapped i j (x ∷ xs) = cond (eqb x i) (j ∷ xs) (x ∷ swapped i j xs)

unfoldable pub bit : Bool → ℕ
bit true = 1
bit false = 0

-- the mask whose bit p is flag p of the list
unfoldable pub mask : List Bool → ℕ
mask [] = 0
mask (b ∷ bs) = bit b + 2 * mask bs
