-- What a function for C leaves behind: the status, the words of the memory or the bytes of the text, and the words of the answer, for every input (document
-- 01, "Parts and sources"; document 02, request 2).
use Rattle.std.specs.Prelude.{ℕ, ◌≡◌, cond, List, [], ◌∷◌, ◌++◌, length, drop, ltb}
use Rattle.model.specs.Rules.{Answer as Reply}
use Rattle.model.specs.Calls.{Call, reply, left}
use Rattle.model.specs.Labels.{read_reply, write_reply, written}

-- how many words an answer has
abbrev pub answer_length : ℕ
answer_length = 5

-- the status of a call that was lent fewer
abbrev pub short_answer : ℕ
short_answer = 4294967295

-- the words of an answer, the status first
abbrev pub answer_words : Reply → List ℕ
answer_words r = r.status ∷ r.a ∷ r.b ∷ r.c ∷ r.d ∷ []

-- what a call leaves: its status, the memory or the text that was lent to it, and the words lent for the answer
pub record Outcome : Type 0 where
  pub status : ℕ
  pub memory : List ℕ
  pub answer : List ℕ

abbrev pub outcome : ℕ → List ℕ → List ℕ → Outcome
outcome s n b = record { status = s; memory = n; answer = b }

-- the answer r with the words a lent for it, and n made of m: fewer than five words, and nothing is done; else the answer's words go into the first five,
-- and those past them stay
unfoldable pub answering : Reply → List ℕ → List ℕ → List ℕ → Outcome
answering r m n a =
    cond (ltb (length a) answer_length)
    (outcome short_answer m a)
    (outcome r.status n (answer_words r ++ drop answer_length a))

-- the call k on m and a returned s and left n and b
abbrev pub Called : Call → List ℕ → List ℕ → List ℕ → List ℕ → ℕ → Type 0
Called k m a n b s = outcome s n b ≡ answering (reply m k) m (left m k) a

-- ---- labels, which have no memory

-- to read the label in a text, with the words a lent, returned s and left b
abbrev pub LabelRead : List ℕ → List ℕ → List ℕ → ℕ → Type 0
LabelRead text a b s = outcome s text b ≡ answering (read_reply text) text text a

-- to write the label of c into a text, with the words a lent, returned s and left `after` and b
abbrev pub LabelWritten : ℕ → List ℕ → List ℕ → List ℕ → List ℕ → ℕ → Type 0
LabelWritten c text a after b s = outcome s after b ≡ answering (write_reply text c) text (written text c) a
