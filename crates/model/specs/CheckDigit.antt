-- The check digit of a code, GS1's (document 02, requests 1 and 2). Clients cite `right_digits`, of any number of digits, and `right_check_digit`.
use Rattle.std.specs.Prelude.{ℕ, ◌+◌, ◌*◌, ◌%◌, Bool, true, List, [], ◌∷◌, reverse, eqb}
use Rattle.model.specs.Digits.{ten, digits}

-- how many digits a code has, filled with zeros on the left
abbrev pub code_digits : ℕ
code_digits = 14

-- the weights of the digit next to the check digit and of the one next to that
abbrev pub first_weight : ℕ
first_weight = 3

abbrev pub second_weight : ℕ
second_weight = 1

-- the sum of digits that weigh w, v, w, v and so on
unfoldable pub weighed : ℕ → ℕ → List ℕ → ℕ
weighed w v [] = 0
weighed w v (d ∷ ds) = w * d + weighed v w ds

-- digits in the order from the right: leaving out the check digit, weights run 3, 1, 3; the check digit brings the sum to a multiple of ten
unfoldable pub right_from_right : List ℕ → Bool
right_from_right [] = true
right_from_right (check ∷ ds) = eqb ((weighed first_weight second_weight ds + check) % ten) 0

-- whether digits end with a right check digit
unfoldable pub right_digits : List ℕ → Bool
right_digits ds = right_from_right (reverse ds)

-- whether a code's check digit is right
unfoldable pub right_check_digit : ℕ → Bool
right_check_digit c = right_digits (digits code_digits c)
