-- Labels of eight, thirteen and fourteen digits (document 02, request 2): what the reader and the writer answer, and the writer's text. A text is the bytes
-- lent for it. Neither has a memory, so neither is a call of a list.
use Rattle.std.specs.Prelude.{ℕ, zero, suc, ◌-◌, ◌^◌, Bool, not, cond, ◌||◌, List, [], ◌∷◌, ◌++◌, map, length, drop, replicate, ltb, eqb}
use Rattle.model.specs.Lists.{any}
use Rattle.model.specs.Digits.{ten, digits, number, is_digit, digit_of, byte_of}
use Rattle.model.specs.CheckDigit.{code_digits}
use Rattle.model.specs.Rules.{Answer, accepted, refused, Cause, cause, first_cause, wrong_code}
use Rattle.model.specs.Memory.{low, high}

-- ---- the three lengths: GTIN-8, GTIN-13 and GTIN-14

abbrev pub gtin8 : ℕ
gtin8 = 8

abbrev pub gtin13 : ℕ
gtin13 = 13

abbrev pub gtin14 : ℕ
gtin14 = code_digits

abbrev pub is_label_length : ℕ → Bool
is_label_length n = eqb n gtin8 || eqb n gtin13 || eqb n gtin14

-- ---- the reader

abbrev pub no_digit : ℕ → Bool
no_digit b = not (is_digit b)

-- a text of another length or with a byte that is no ASCII digit
unfoldable pub no_label : List ℕ → Bool
no_label text = not (is_label_length (length text)) || any no_digit text

-- digits filled with zeros on the left to fourteen
abbrev pub filled : List ℕ → List ℕ
filled ds = replicate (code_digits - length ds) 0 ++ ds

-- ASCII digits turned into a code
unfoldable pub label_code : List ℕ → ℕ
label_code text = number (filled (map digit_of text))

abbrev pub wrong_label : Bool → Cause
wrong_label b = cause 18 b

-- the number of the cause that refuses to read a text; 0 where none does
unfoldable pub read_refusal : List ℕ → ℕ
read_refusal text = first_cause (wrong_label (no_label text) ∷ [])

-- the answer where cause n refuses; n is 0 where none does
unfoldable pub read_reply_of : ℕ → List ℕ → Answer
read_reply_of (suc n) text = refused (suc n)
read_reply_of zero text = accepted (low (label_code text)) (high (label_code text)) 0 0

-- the answer to reading a text
unfoldable pub read_reply : List ℕ → Answer
read_reply text = read_reply_of (read_refusal text) text

-- ---- the writer

-- the shortest of the three lengths that holds a code
unfoldable pub label_length : ℕ → ℕ
label_length c = cond (ltb c (ten ^ gtin8)) gtin8 (cond (ltb c (ten ^ gtin13)) gtin13 gtin14)

-- the label of a code
unfoldable pub label_text : ℕ → List ℕ
label_text c = map byte_of (digits (label_length c) c)

-- the number of the cause that refuses to write a code's label into a text: the code is out of range, or the text is shorter than the label
unfoldable pub write_refusal : List ℕ → ℕ → ℕ
write_refusal text c = first_cause (cause 11 (wrong_code c) ∷ wrong_label (ltb (length text) (label_length c)) ∷ [])

unfoldable pub write_reply_of : ℕ → ℕ → Answer
write_reply_of (suc n) c = refused (suc n)
write_reply_of zero c = accepted (label_length c) 0 0 0

-- the text after it: a refusal leaves it as it was, and the bytes after the label stay
unfoldable pub written_of : ℕ → List ℕ → ℕ → List ℕ
written_of (suc n) text c = text
written_of zero text c = label_text c ++ drop (label_length c) text

-- the answer to writing a code's label into a text
unfoldable pub write_reply : List ℕ → ℕ → Answer
write_reply text c = write_reply_of (write_refusal text c) c

-- the text after it
unfoldable pub written : List ℕ → ℕ → List ℕ
written text c = written_of (write_refusal text c) text c
