-- Decimal digits, counted from the left: the last ones of a number, the number that digits say, and their ASCII bytes.
use Rattle.std.specs.Prelude.{ℕ, zero, suc, ◌+◌, ◌-◌, ◌*◌, ◌/◌, ◌%◌, Bool, ◌&&◌, List, [], ◌∷◌, ◌++◌, map, leb}
use Prim.Native.Char.{code}
use Prim.Native.String.{String, [] as []ˢ, ◌∷◌ as ◌∷ˢ◌}

abbrev pub ten : ℕ
ten = 10

-- the last n digits of a number, zeros included
unfoldable pub digits : ℕ → ℕ → List ℕ
digits zero c = []
digits (suc n) c = digits n (c / ten) ++ (c % ten ∷ [])

-- the number that digits say after a number v
unfoldable pub number_from : ℕ → List ℕ → ℕ
number_from v [] = v
number_from v (d ∷ ds) = number_from (v * ten + d) ds

abbrev pub number : List ℕ → ℕ
number ds = number_from 0 ds

-- ---- texts

-- the bytes of an ASCII text
unfoldable pub bytes : String → List ℕ
bytes []ˢ = []
bytes (c ∷ˢ s) = code c ∷ bytes s

-- the bytes of the digits 0 and 9
abbrev pub digit_zero : ℕ
digit_zero = 48

abbrev pub digit_nine : ℕ
digit_nine = 57

abbrev pub is_digit : ℕ → Bool
is_digit b = leb digit_zero b && leb b digit_nine

-- the digit of a byte, and the byte of a digit
abbrev pub digit_of : ℕ → ℕ
digit_of b = b - digit_zero

abbrev pub byte_of : ℕ → ℕ
byte_of d = d + digit_zero

-- the number that a text of digits says, after a number v
unfoldable pub value_from : ℕ → List ℕ → ℕ
value_from v text = number_from v (map digit_of text)

unfoldable pub value : List ℕ → ℕ
value text = value_from 0 text
