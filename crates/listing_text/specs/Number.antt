-- Words of digits, and decimal numbers written with no zero in front.
use Rattle.std.specs.Prelude.{ℕ, zero, suc, ◌/◌, ◌%◌, Bool, not, cond, ◌&&◌, List, [], ◌∷◌, ◌++◌, ltb}
use Rattle.model.specs.Lists.{is_empty, all}
use Rattle.model.specs.Digits.{ten, is_digit, byte_of}

abbrev pub space : ℕ
space = 32

abbrev pub newline : ℕ
newline = 10

-- one digit or more, and nothing else
unfoldable pub is_number : List ℕ → Bool
is_number w = not (is_empty w) && all is_digit w

-- the digits of n; at most k stand after the first
unfoldable pub decimal_in : ℕ → ℕ → List ℕ
decimal_in zero n = byte_of n ∷ []
decimal_in (suc k) n =
    let more = decimal_in k (n / ten) ++ (byte_of (n % ten) ∷ []) in
    cond (ltb n ten) (byte_of n ∷ []) more

-- the digits of n, no zero in front
unfoldable pub decimal : ℕ → List ℕ
decimal n = decimal_in n n
