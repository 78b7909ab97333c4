-- The lines of a text that is read in parts, and the first line of a block.
use Prim.Native.Nat.{ℕ}
use mathlib.Core.Bool.{Bool, true, false, ◌||◌}
use mathlib.Core.List.{List, [], ◌∷◌, ◌++◌, append-nil, append_assoc}
use mathlib.Core.Path.{◌≡◌, refl, sym, ap, ◌∙◌}
use native.Mathlib.Omega.{arith}
use lib.Dec.{eqb}
use Rattle.model.specs.Lists.{member, concat}
use Rattle.listing_text.specs.Number.{newline}
use Rattle.listing_text.specs.Call.{parsed}
use Rattle.listing_text.specs.LineReading.{first_line}
use Rattle.listing.specs.Output.{answered, after, answered_all, after_all, ended, unended, last_line, lines_of, output, printed_in}

-- ---- a text after another

pub ended-append : (p xs ys : List ℕ) → ended p (xs ++ ys) ≡ ended p xs ++ ended (unended p xs) ys
unfolding ended unended
ended-append p [] ys = refl
ended-append p (b ∷ xs) ys = go (eqb newline b) refl (ended-append [] xs ys) (ended-append (p ++ b ∷ []) xs ys)
  where
    go : (t : Bool) → eqb newline b ≡ t → ended [] (xs ++ ys) ≡ ended [] xs ++ ended (unended [] xs) ys
        → ended (p ++ b ∷ []) (xs ++ ys) ≡ ended (p ++ b ∷ []) xs ++ ended (unended (p ++ b ∷ []) xs) ys
        → ended p (b ∷ xs ++ ys) ≡ ended p (b ∷ xs) ++ ended (unended p (b ∷ xs)) ys
    go true e h k = rw e (ap (λ (ls : List (List ℕ)). p ∷ ls) h)
    go false e h k = rw e k

pub unended-append : (p xs ys : List ℕ) → unended p (xs ++ ys) ≡ unended (unended p xs) ys
unfolding unended
unended-append p [] ys = refl
unended-append p (b ∷ xs) ys = go (eqb newline b) refl (unended-append [] xs ys) (unended-append (p ++ b ∷ []) xs ys)
  where
    go : (t : Bool) → eqb newline b ≡ t → unended [] (xs ++ ys) ≡ unended (unended [] xs) ys
        → unended (p ++ b ∷ []) (xs ++ ys) ≡ unended (unended (p ++ b ∷ []) xs) ys
        → unended p (b ∷ xs ++ ys) ≡ unended (unended p (b ∷ xs)) ys
    go true e h k = rw e h
    go false e h k = rw e k

-- ---- lines after others

pub answered_all-append : (m : List ℕ) (ks ls : List (List ℕ)) → answered_all m (ks ++ ls) ≡ answered_all m ks ++ answered_all (after_all m ks) ls
unfolding answered_all after_all
answered_all-append m [] ls = refl
answered_all-append m (k ∷ ks) ls =
    ap (λ (t : List ℕ). answered m (parsed k) ++ t) (answered_all-append (after m (parsed k)) ks ls)
    ∙ sym (append_assoc (answered m (parsed k)) (answered_all (after m (parsed k)) ks) (answered_all (after_all (after m (parsed k)) ks) ls))

pub after_all-append : (m : List ℕ) (ks ls : List (List ℕ)) → after_all m (ks ++ ls) ≡ after_all (after_all m ks) ls
unfolding after_all
after_all-append m [] ls = refl
after_all-append m (k ∷ ks) ls = after_all-append (after m (parsed k)) ks ls

-- ---- the first line of a text

-- with a newline it is one line
pub line-ended : (p s : List ℕ) → ended p (first_line s ++ newline ∷ []) ≡ (p ++ first_line s) ∷ []
unfolding ended first_line
line-ended p [] = ap (λ (l : List ℕ). l ∷ []) (sym (append-nil p))
line-ended p (b ∷ bs) = go (eqb newline b) refl (line-ended (p ++ b ∷ []) bs)
  where
    go : (t : Bool) → eqb newline b ≡ t → ended (p ++ b ∷ []) (first_line bs ++ newline ∷ []) ≡ (p ++ b ∷ [] ++ first_line bs) ∷ []
        → ended p (first_line (b ∷ bs) ++ newline ∷ []) ≡ (p ++ first_line (b ∷ bs)) ∷ []
    go true e k = rw e (ap (λ (l : List ℕ). l ∷ []) (sym (append-nil p)))
    go false e k = rw (e, e) (k ∙ ap (λ (l : List ℕ). l ∷ []) (append_assoc p (b ∷ []) (first_line bs)))

pub line-unended : (p s : List ℕ) → unended p (first_line s ++ newline ∷ []) ≡ []
unfolding unended first_line
line-unended p [] = refl
line-unended p (b ∷ bs) = go (eqb newline b) refl (line-unended (p ++ b ∷ []) bs)
  where
    go : (t : Bool) → eqb newline b ≡ t → unended (p ++ b ∷ []) (first_line bs ++ newline ∷ []) ≡ [] → unended p (first_line (b ∷ bs) ++ newline ∷ []) ≡ []
    go true e k = rw e refl
    go false e k = rw (e, e) k

-- where there is no newline it is all of the text, and no line yet

other : (b : ℕ) (bs : List ℕ) → member newline (b ∷ bs) ≡ false → (eqb newline b ≡ false) × (member newline bs ≡ false)
unfolding member
other b bs h = go (eqb newline b) (member newline bs) h
  where
    go : (t u : Bool) → t || u ≡ false → (t ≡ false) × (u ≡ false)
    go false u e = (refl, e)
    go true u e = absurd (let w : ◌≡◌ {A = ℕ} 0 1 = cc in omega arith)

pub first-whole : (s : List ℕ) → member newline s ≡ false → first_line s ≡ s
unfolding first_line
first-whole [] h = refl
first-whole (b ∷ bs) h = let k = other b bs h in rw k.0 (ap (λ (l : List ℕ). b ∷ l) (first-whole bs k.1))

pub part-ended : (p s : List ℕ) → member newline s ≡ false → ended p s ≡ []
unfolding ended
part-ended p [] h = refl
part-ended p (b ∷ bs) h = let k = other b bs h in rw k.0 (part-ended (p ++ b ∷ []) bs k.1)

pub part-unended : (p s : List ℕ) → member newline s ≡ false → unended p s ≡ p ++ s
unfolding unended
part-unended p [] h = sym (append-nil p)
part-unended p (b ∷ bs) h = let k = other b bs h in rw k.0 (part-unended (p ++ b ∷ []) bs k.1 ∙ append_assoc p (b ∷ []) bs)

-- ---- the output of an input that is read in blocks

blocks-printed : (m p : List ℕ) (bs : List (List ℕ)) → printed_in m p bs ≡ answered_all m (ended p (concat bs) ++ last_line (unended p (concat bs)))
unfolding printed_in concat ended unended
blocks-printed m p [] = refl
blocks-printed m p (b ∷ bs) =
    let c : List ℕ = concat bs in
    let q : List ℕ = unended p b in
    ap (λ (t : List ℕ). answered_all m (ended p b) ++ t) (blocks-printed (after_all m (ended p b)) q bs)
    ∙ sym (answered_all-append m (ended p b) (ended q c ++ last_line (unended q c)))
    ∙ ap (answered_all m) (sym (append_assoc (ended p b) (ended q c) (last_line (unended q c))))
    ∙ ap (λ (ls : List (List ℕ)). answered_all m (ls ++ last_line (unended q c))) (sym (ended-append p b c))
    ∙ ap (λ (l : List ℕ). answered_all m (ended p (b ++ c) ++ last_line l)) (sym (unended-append p b c))

-- however the reads part an input, what is printed is its output
pub blocks-output : (m : List ℕ) (bs : List (List ℕ)) → printed_in m [] bs ≡ output m (concat bs)
unfolding output lines_of
blocks-output m bs = blocks-printed m [] bs
