-- What document 02's request 2 asks of the reader and the writer of labels, of the functions for C, and that it holds (`labels-hold`). They ask nothing but
-- the functions' contracts: `LabelRead text a b s` and `LabelWritten c text a after b s` (crate `product_table`).
use Prim.Native.Nat.{ℕ, zero, suc, ◌≤◌, ◌<◌}
use Rattle.std.specs.Prelude.{◌≡◌, false, List, ◌++◌, length, get_or, take, drop}
use Rattle.std.proofs.Math.Path.{refl}
use Rattle.std.proofs.Common.{sym, ap, subst, ◌∙◌, arith, lt-ltb, le-ltb, ltb-false}
use Rattle.model.specs.Layout.{max_code}
use Rattle.model.specs.Rules.{Answer, accepted, refused}
use Rattle.model.specs.Memory.{low, high, whole_of}
use Rattle.model.specs.Labels.{no_label, label_code, read_refusal, read_reply_of, read_reply}
use Rattle.model.specs.Labels.{label_length, label_text, write_refusal, write_reply_of, written_of, write_reply, written}
use Rattle.labels.proofs.ReadLaws.{read-accepted, label-accepted}
use Rattle.labels.proofs.WriteLaws.{fits, write-accepted}
use Rattle.labels.proofs.RoundTrip.{Shortest, length-shortest, label-fits, label-no-shorter, written_read}
use Rattle.product_table.specs.Called.{answer_length, LabelRead, LabelWritten}
use Rattle.demands.specs.Demands.{NotMade, Answered, answer_in}
use Rattle.demands.specs.Runs.{short-answer, made-memory, made-answer, made-long}

-- ---- what is asked

-- the reader: nothing is done with fewer than five words; the first cause's number and four zeros; else the code's low and high word
pub record ReadsByTheRule (text a b : List ℕ) (s : ℕ) : Type 0 where
  pub short : length a < answer_length → NotMade text a text b s
  pub broken : answer_length ≤ length a → (n : ℕ) → read_refusal text ≡ suc n → Answered (refused (suc n)) a b s
  pub kept : answer_length ≤ length a → read_refusal text ≡ 0 → Answered (accepted (low (label_code text)) (high (label_code text)) 0 0) a b s

-- the writer: a refusal and a short answer leave the text as it was; else the label stands in its first bytes, and those after it are as they were
pub record WritesByTheRule (c : ℕ) (text a after b : List ℕ) (s : ℕ) : Type 0 where
  pub short : length a < answer_length → NotMade text a after b s
  pub broken : answer_length ≤ length a → (n : ℕ) → write_refusal text c ≡ suc n → Answered (refused (suc n)) a b s × (after ≡ text)
  pub kept : answer_length ≤ length a → write_refusal text c ≡ 0
      → Answered (accepted (label_length c) 0 0 0) a b s × (after ≡ label_text c ++ drop (label_length c) text)

-- the code and the length in an answer's words
abbrev pub code_in : List ℕ → ℕ
code_in b = whole_of (get_or b 1 0) (get_or b 2 0)

abbrev pub length_in : List ℕ → ℕ
length_in b = get_or b 1 0

pub record Labels : Type 0 where
  pub reads : (text a b : List ℕ) (s : ℕ) → LabelRead text a b s → ReadsByTheRule text a b s
  pub writes : (c : ℕ) (text a after b : List ℕ) (s : ℕ) → LabelWritten c text a after b s → WritesByTheRule c text a after b s
  -- the writer's length is the shortest of the three that holds the code
  pub shortest : (c : ℕ) (text a after b : List ℕ) → LabelWritten c text a after b 0 → Shortest c (length_in b)
  -- what the writer puts is read back as the same code
  pub read_back : (c : ℕ) (text a after b : List ℕ) → LabelWritten c text a after b 0 → (a' b' : List ℕ) (s : ℕ) → answer_length ≤ length a'
      → LabelRead (take (length_in b) after) a' b' s → (s ≡ 0) × (code_in b' ≡ c)
  -- a label that was read is rewritten into any text as long as itself, and read again is the same code
  pub rewrites : (label a b : List ℕ) → LabelRead label a b 0 → (text a' after b' : List ℕ) (s : ℕ) → answer_length ≤ length a' → length label ≤ length text
      → LabelWritten (code_in b) text a' after b' s → s ≡ 0
  pub again : (label a b : List ℕ) → LabelRead label a b 0 → (text a₁ after b₁ : List ℕ) → LabelWritten (code_in b) text a₁ after b₁ 0
      → (a₂ b₂ : List ℕ) (s : ℕ) → answer_length ≤ length a₂ → LabelRead (take (length_in b₁) after) a₂ b₂ s → Answered (answer_in b) a₂ b₂ s

-- ---- that it holds

read_answer : (text a b : List ℕ) (s : ℕ) → LabelRead text a b s → answer_length ≤ length a → Answered (read_reply text) a b s
read_answer text a b s h l = made-answer (read_reply text) text text a text b s h (le-ltb (length a) answer_length l)

reads-by-the-rule : (text a b : List ℕ) (s : ℕ) → LabelRead text a b s → ReadsByTheRule text a b s
unfolding read_reply read_reply_of
reads-by-the-rule text a b s h = record {
  short = λ l. short-answer (read_reply text) text text a text b s h (lt-ltb (length a) answer_length l);
  broken = λ l n e. by l e;
  kept = λ l e. by l e;
}
  where
    by : {n : ℕ} → answer_length ≤ length a → read_refusal text ≡ n → Answered (read_reply_of n text) a b s
    by l e = subst (λ (r : Answer). Answered r a b s) (ap (λ (x : ℕ). read_reply_of x text) e) (read_answer text a b s h l)

writes-by-the-rule : (c : ℕ) (text a after b : List ℕ) (s : ℕ) → LabelWritten c text a after b s → WritesByTheRule c text a after b s
unfolding write_reply write_reply_of written written_of
writes-by-the-rule c text a after b s h = record {
  short = λ l. short-answer (write_reply text c) text (written text c) a after b s h (lt-ltb (length a) answer_length l);
  broken = λ l n e. (by l e, left l e);
  kept = λ l e. (by l e, left l e);
}
  where
    by : {n : ℕ} → answer_length ≤ length a → write_refusal text c ≡ n → Answered (write_reply_of n c) a b s
    by l e =
        subst (λ (r : Answer). Answered r a b s) (ap (λ (x : ℕ). write_reply_of x c) e)
        (made-answer (write_reply text c) text (written text c) a after b s h (le-ltb (length a) answer_length l))

    left : {n : ℕ} → answer_length ≤ length a → write_refusal text c ≡ n → after ≡ written_of n text c
    left l e =
        made-memory (write_reply text c) text (written text c) a after b s h (le-ltb (length a) answer_length l) ∙ ap (λ (x : ℕ). written_of x text c) e

-- a writer's call that returned 0
module _ (c : ℕ) (text a after b : List ℕ) (h : LabelWritten c text a after b 0) where
  five-lent : answer_length ≤ length a
  five-lent = ltb-false (length a) answer_length (made-long (write_reply text c) text (written text c) a after b 0 h refl)

  accepted-write : write_refusal text c ≡ 0
  unfolding write_reply write_reply_of
  accepted-write = go (write_refusal text c) (made-answer (write_reply text c) text (written text c) a after b 0 h (le-ltb (length a) answer_length five-lent)).status
    where
      go : (n : ℕ) → 0 ≡ (write_reply_of n c).status → n ≡ 0
      go zero e = refl
      go (suc n) e = absurd (omega arith)

  length-in : length_in b ≡ label_length c
  length-in = ap length_in ((writes-by-the-rule c text a after b 0 h).kept five-lent accepted-write).0.answer

  after_is : after ≡ written text c
  after_is = made-memory (write_reply text c) text (written text c) a after b 0 h (le-ltb (length a) answer_length five-lent)

  pub range : (c ≤ max_code) × (label_length c ≤ length text)
  range = write-accepted text c accepted-write

  -- its first bytes are read as the code
  read_first : read_reply (take (length_in b) after) ≡ accepted (low c) (high c) 0 0
  read_first = rw (length-in, after_is) (written_read c range.0 text range.1)

-- an answer that is a code's
code-in : (c : ℕ) (a b : List ℕ) (s : ℕ) → Answered (accepted (low c) (high c) 0 0) a b s → (s ≡ 0) × (code_in b ≡ c)
code-in c a b s h = (h.status, ap code_in h.answer ∙ omega arith)

-- a reader's call that returned 0
module _ (label a b : List ℕ) (h : LabelRead label a b 0) where
  read-lent : answer_length ≤ length a
  read-lent = ltb-false (length a) answer_length (made-long (read_reply label) label label a label b 0 h refl)

  is-label : no_label label ≡ false
  unfolding read_reply read_reply_of
  is-label = read-accepted label (go (read_refusal label) (read_answer label a b 0 h read-lent).status)
    where
      go : (n : ℕ) → 0 ≡ (read_reply_of n label).status → n ≡ 0
      go zero e = refl
      go (suc n) e = absurd (omega arith)

  code_read : code_in b ≡ label_code label
  code_read = (code-in (label_code label) a b 0 ((reads-by-the-rule label a b 0 h).kept read-lent (label-accepted label is-label))).1

-- what a writer put, read
written-first : (c : ℕ) (text a after b : List ℕ) → LabelWritten c text a after b 0 → (a' b' : List ℕ) (s : ℕ) → answer_length ≤ length a'
    → LabelRead (take (length_in b) after) a' b' s → Answered (accepted (low c) (high c) 0 0) a' b' s
written-first c text a after b h a' b' s l k =
    subst (λ (r : Answer). Answered r a' b' s) (read_first c text a after b h) (read_answer (take (length_in b) after) a' b' s k l)

rewrites-label : (label a b : List ℕ) → LabelRead label a b 0 → (text a' after b' : List ℕ) (s : ℕ) → answer_length ≤ length a' → length label ≤ length text
    → LabelWritten (code_in b) text a' after b' s → s ≡ 0
rewrites-label label a b h text a' after b' s l k w =
    let c = code_in b in
    let e = code_read label a b h in
    let f = is-label label a b h in
    let none : write_refusal text c ≡ 0 =
    rw e (fits text (label_code label) (label-fits label f) (omega (arith, label-no-shorter label f))) in
    ((writes-by-the-rule c text a' after b' s w).kept l none).0.status

read_again : (label a b : List ℕ) → LabelRead label a b 0 → (text a₁ after b₁ : List ℕ) → LabelWritten (code_in b) text a₁ after b₁ 0
    → (a₂ b₂ : List ℕ) (s : ℕ) → answer_length ≤ length a₂ → LabelRead (take (length_in b₁) after) a₂ b₂ s → Answered (answer_in b) a₂ b₂ s
read_again label a b h text a₁ after b₁ w a₂ b₂ s l k =
    let first = ((reads-by-the-rule label a b 0 h).kept (read-lent label a b h) (label-accepted label (is-label label a b h))).answer in
    let same : accepted (low (code_in b)) (high (code_in b)) 0 0 ≡ answer_in b =
    ap (λ (c : ℕ). accepted (low c) (high c) 0 0) (code_read label a b h) ∙ sym (ap answer_in first) in
    subst (λ (r : Answer). Answered r a₂ b₂ s) same (written-first (code_in b) text a₁ after b₁ w a₂ b₂ s l k)

pub labels-hold : Labels
labels-hold = record {
  reads = reads-by-the-rule;
  writes = writes-by-the-rule;
  shortest = λ c text a after b h. rw (length-in c text a after b h) (length-shortest c (range c text a after b h).0);
  read_back = λ c text a after b h a' b' s l k. code-in c a' b' s (written-first c text a after b h a' b' s l k);
  rewrites = rewrites-label;
  again = read_again;
}
