-- The largest table, eight yards of eight cabinets of eight lanes, taken on the state: no bound of fewer than 512 lanes is left.
use Rattle.std.specs.Prelude.{ℕ, ◌≡◌, refl, List, [], ◌∷◌, ◌++◌, map, replicate}
use Rattle.model.specs.State.{Sizes, State}
use Rattle.model.specs.Rules.{Op, add, delete, begin, end, pass, clock, awaited, fresh, answer, next}
use Rattle.model.specs.Memory.{lane_masks, cabinet_masks, yard_mask}
use Rattle.model.specs.Calls.{sized}
use Rattle.scripts.specs.Scripts.{answered, five_words}

abbrev pub largest : Sizes
largest = sized 8 8 8 1

-- a row: calls, their answers, and the lane masks after them
pub data Stage : Type 0 where
  stage : (calls : List Op) (answers : List (List ℕ)) (masks : List ℕ) → Stage

-- the yard mask and the cabinet masks have all their bits
abbrev pub all_bits : ℕ
all_bits = 255

abbrev pub owed : Stage → List (List ℕ)
owed (stage ks rs ms) = rs ++ ((all_bits ∷ []) ∷ replicate 8 all_bits ∷ ms ∷ [])

abbrev pub masks_of : State → List (List ℕ)
masks_of s = (yard_mask s ∷ []) ∷ cabinet_masks s ∷ lane_masks s ∷ []

unfoldable pub answers_of : State → List Op → List (List ℕ)
answers_of s [] = []
answers_of s (k ∷ ks) = five_words (answer s k) ∷ answers_of (next s k) ks

unfoldable pub after_calls : State → List Op → State
after_calls s [] = s
after_calls s (k ∷ ks) = after_calls (next s k) ks

unfoldable pub shown : State → List Stage → List (List (List ℕ))
unfolding answered answer next answers_of after_calls
shown s [] = []
shown s (stage ks rs ms ∷ ss) =
    let t = after_calls s ks in
    (answers_of s ks ++ masks_of t) ∷ shown t ss

abbrev pub zeros : List ℕ
zeros = 0 ∷ 0 ∷ 0 ∷ 0 ∷ 0 ∷ []

abbrev pub runs : List ℕ
runs = 0 ∷ 1 ∷ 1 ∷ 1 ∷ 0 ∷ []

-- Lane 511 is the last. It begins a period, which waits for all lanes, and is through; then lane 0
abbrev pub stages : List Stage
stages =
    stage
    (begin 512 ∷ begin 511 ∷ end 511 ∷ add 511 17 25 1 ∷ delete 511 17 ∷ clock 511 ∷ awaited ∷ [])
    ((4 ∷ 0 ∷ 0 ∷ 0 ∷ 0 ∷ []) ∷ zeros ∷ zeros ∷ zeros ∷ zeros ∷ runs ∷ (0 ∷ 512 ∷ 0 ∷ 0 ∷ 1 ∷ []) ∷ [])
    (replicate 64 all_bits)
    ∷ stage
    (pass 511 0 ∷ clock 511 ∷ awaited ∷ [])
    (zeros ∷ runs ∷ (0 ∷ 511 ∷ 0 ∷ 0 ∷ 1 ∷ []) ∷ [])
    (replicate 63 all_bits ++ (127 ∷ []))
    ∷ stage
    (clock 0 ∷ pass 0 0 ∷ clock 0 ∷ awaited ∷ [])
    (runs ∷ zeros ∷ runs ∷ (0 ∷ 510 ∷ 1 ∷ 0 ∷ 1 ∷ []) ∷ [])
    (254 ∷ replicate 62 all_bits ++ (127 ∷ []))
    ∷ []

-- each row comes out
pub largest-holds : shown (fresh largest) stages ≡ map owed stages
unfolding fresh shown
largest-holds = refl
