-- The two ways out of a function for C: too few words for its answer, or its work is done and its answer written.
use Prim.Native.Nat.{ℕ, ◌≤◌, ◌<◌}
use mathlib.Core.Path.{◌≡◌, refl}
use mathlib.Core.List.{List, ◌++◌}
use lib.ListN.{length, drop}
use borrow.Author.Tests.{lt-ltb, le-ltb}
use Rattle.model.specs.Rules.{Answer as Reply}
use Rattle.model.specs.Calls.{Call}
use Rattle.model.specs.Labels.{read_reply}
use Rattle.access.specs.declared.Answer.{Answer}
use Rattle.access.specs.Contract.{five, Does}
use Rattle.labels.specs.Writing.{Writes}
use Rattle.product_table.specs.Called.{answer_length, short_answer, answer_words, outcome, answering, Called, LabelRead, LabelWritten}

module _ (a : List ℕ) where
  -- fewer than five words are lent
  pub too_short : length a < answer_length → (r : Reply) (m n : List ℕ) → outcome short_answer m a ≡ answering r m n a
  unfolding answering
  too_short h r m n = rw (lt-ltb (length a) answer_length h)

  -- the work is done, and its five words and its status are handed on
  module _ (h : answer_length ≤ length a) (r : Answer) (ws : List ℕ) (s : ℕ) (ew : ws ≡ answer_words (five r)) (es : s ≡ r.status) where
    done : (w : Reply) → five r ≡ w → (m n o : List ℕ) → n ≡ o → outcome s n (ws ++ drop answer_length a) ≡ answering w m o a
    unfolding answering
    done w d m n o p = rw (le-ltb (length a) answer_length h) (cc (d, p, ew, es))

    pub answered : (k : Call) (m n : List ℕ) → Does k m r n → Called k m a n (ws ++ drop answer_length a) s
    answered k m n d = done _ d.answer m n _ d.memory

    pub answered-read : (text : List ℕ) → five r ≡ read_reply text → LabelRead text a (ws ++ drop answer_length a) s
    answered-read text d = done _ d text text text refl

    pub answered-written : (c : ℕ) (text after : List ℕ) → Writes text c r after → LabelWritten c text a after (ws ++ drop answer_length a) s
    answered-written c text after d = done _ d.answer text after _ d.text
