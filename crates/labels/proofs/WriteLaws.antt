-- The loop that puts a code's digits, from the right: the digits left, followed by the bytes from there on, are the text that is wanted; and the ways out of the
-- writer.
use Prim.Native.Nat.{ℕ, suc, ◌-◌, ◌/◌, ◌%◌, ◌^◌, ◌≤◌, ◌<◌}
use mathlib.Core.Path.{◌≡◌, refl, ap, sym, ◌∙◌}
use mathlib.Core.Bool.{Bool, true, false, cond}
use mathlib.Core.List.{List, [], ◌∷◌, ◌++◌, map, map-append, append-nil}
use native.Mathlib.Omega.{arith}
use lib.ListN.{length, take, drop, set, length-set, length-take, drop_of_length-le}
use lib.Seq.{drop-cons, drop-set-lt, get_or-set_same, append_snoc}
use lib.Dec.{ltb}
use Rattle.std.specs.Prelude.{Ok, Err}
use borrow.Author.Tests.{lt-ltb, le-ltb, ltb-false}
use Rattle.model.specs.Layout.{max_code}
use Rattle.model.specs.Digits.{ten, digits, byte_of}
use Rattle.model.specs.Rules.{first_cause}
use Rattle.model.specs.Labels.{gtin8, gtin13, gtin14, label_length, label_text, write_refusal, write_reply_of, written_of, write_reply, written}
use Rattle.laws.specs.Tests.{cond_cases}
use Rattle.access.specs.declared.causes.Cause.TheVariants.{OutOfRange, WrongLabel}
use Rattle.access.specs.Causes.{answer_of}
use Rattle.labels.specs.Writing.{Writes}

-- ---- the loop

-- the bytes of a code's last n digits, and then what a text has after them
abbrev pub put_into : List ℕ → ℕ → ℕ → List ℕ
put_into text n code = map byte_of (digits n code) ++ drop n text

-- in `now` the last `left` digits of rest are still to be put; `wanted` is what it becomes
module _ (now wanted : List ℕ) (rest left : ℕ) (k : put_into now left rest ≡ wanted) where
  -- the last of the digits that are left goes to its byte
  put_one : (j : ℕ) → j < length now → put_into (set now j (byte_of (rest % ten))) j (rest / ten) ≡ put_into now (suc j) rest
  unfolding digits
  put_one j h = ap (λ (l : List ℕ). map byte_of (digits j (rest / ten)) ++ l) stored ∙ sym (append_snoc front b (drop (suc j) now)) ∙ sym one
    where
      b : ℕ
      b = byte_of (rest % ten)

      front : List ℕ
      front = map byte_of (digits j (rest / ten))

      stored : drop j (set now j b) ≡ b ∷ drop (suc j) now
      stored =
          drop-cons (set now j b) j 0 (omega (arith, length-set now j b))
          ∙ rw (get_or-set_same now j b 0 h, drop-set-lt (suc j) now j b (omega arith))

      one : put_into now (suc j) rest ≡ (front ++ b ∷ []) ++ drop (suc j) now
      one = ap (λ (l : List ℕ). l ++ drop (suc j) now) (map-append byte_of (digits j (rest / ten)) (rest % ten ∷ []))

  pub putting-on : 0 < left → left ≤ length now → put_into (set now (left - 1) (byte_of (rest % ten))) (left - 1) (rest / ten) ≡ wanted
  putting-on h l = let e : suc (left - 1) ≡ left = omega arith in put_one (left - 1) (omega arith) ∙ ap (λ (j : ℕ). put_into now j rest) e ∙ k

  pub putting-done : left ≤ 0 → now ≡ wanted
  unfolding digits
  putting-done h = let e : left ≡ 0 = omega arith in sym (ap (λ (j : ℕ). put_into now j rest) e) ∙ k

-- all digits are to be put
pub put-whole : (text : List ℕ) (code : ℕ) → put_into text (length text) code ≡ map byte_of (digits (length text) code)
put-whole text code =
    ap (λ (l : List ℕ). map byte_of (digits (length text) code) ++ l) (drop_of_length-le text {i = length text} (omega arith))
    ∙ append-nil (map byte_of (digits (length text) code))

-- ---- the writer's length

pub length-8 : (c : ℕ) → c < ten ^ gtin8 → gtin8 ≡ label_length c
unfolding label_length
length-8 c h = rw (lt-ltb c (ten ^ gtin8) h)

pub length-13 : (c : ℕ) → ten ^ gtin8 ≤ c → c < ten ^ gtin13 → gtin13 ≡ label_length c
unfolding label_length
length-13 c h k = rw (le-ltb c (ten ^ gtin8) h, lt-ltb c (ten ^ gtin13) k)

pub length-14 : (c : ℕ) → ten ^ gtin8 ≤ c → ten ^ gtin13 ≤ c → gtin14 ≡ label_length c
unfolding label_length
length-14 c h k = rw (le-ltb c (ten ^ gtin8) h, le-ltb c (ten ^ gtin13) k)

-- ---- the ways out of the writer

-- no label is longer than fourteen bytes
pub length-few : (c : ℕ) → label_length c ≤ gtin14
unfolding label_length
length-few c =
    cond_cases (λ (n : ℕ). n ≤ gtin14) (ltb c (ten ^ gtin8)) (λ _. omega arith)
    (λ _. cond_cases (λ (n : ℕ). n ≤ gtin14) (ltb c (ten ^ gtin13)) (λ _. omega arith) (λ _. omega arith))

module _ (text : List ℕ) (c : ℕ) where
  -- none of the causes applies
  pub fits : c ≤ max_code → label_length c ≤ length text → write_refusal text c ≡ 0
  unfolding write_refusal first_cause
  fits h k = rw (le-ltb max_code c h, le-ltb (length text) (label_length c) k)

  pub write-accepted : write_refusal text c ≡ 0 → (c ≤ max_code) × (label_length c ≤ length text)
  unfolding write_refusal first_cause
  write-accepted h =
      let (e, f) = go (ltb max_code c) (ltb (length text) (label_length c)) h in
      (ltb-false max_code c e, ltb-false (length text) (label_length c) f)
    where
      go : (a b : Bool) → ◌≡◌ {A = ℕ} (cond a 11 (cond b 18 0)) 0 → (a ≡ false) × (b ≡ false)
      go true b e = absurd (omega arith)
      go false true e = absurd (omega arith)
      go false false e = (refl, refl)

  pub write-far : max_code < c → Writes text c (answer_of (Err OutOfRange)) text
  unfolding write_reply written write_refusal first_cause write_reply_of written_of
  write-far h = record { answer = rw (lt-ltb max_code c h); text = rw (lt-ltb max_code c h) }

  module _ (h : c ≤ max_code) (n : ℕ) (e : n ≡ label_length c) where
    pub write-short : length text < n → Writes text c (answer_of (Err WrongLabel)) text
    unfolding write_reply written write_refusal first_cause write_reply_of written_of
    write-short k =
        let short = lt-ltb (length text) (label_length c) (omega arith) in
        record { answer = rw (le-ltb max_code c h, short); text = rw (le-ltb max_code c h, short) }

    pub write-put : n ≤ length text → (part : List ℕ) → part ≡ map byte_of (digits (length (take n text)) c)
        → Writes text c (answer_of (Ok (n ∷ 0 ∷ 0 ∷ 0 ∷ []))) (part ++ drop n text)
    unfolding write_reply written write_reply_of written_of label_text
    write-put k part p =
        let none = fits h (omega arith) in
        let l : length (take n text) ≡ n = omega (arith, length-take n text) in
        record { answer = rw (none, e); text = rw (p, l, none, e) }
