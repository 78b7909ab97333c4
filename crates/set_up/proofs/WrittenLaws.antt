-- Runs written one after another, or one within the other, and rows: two runs that meet are one.
use Prim.Native.Nat.{ℕ, zero, suc, ◌+◌, ◌*◌, ◌≤◌}
use mathlib.Core.Path.{◌≡◌, refl, ap, ap₂, sym, ◌∙◌}
use mathlib.Core.List.{List, [], ◌∷◌, ◌++◌, append-nil, append_assoc}
use native.Mathlib.Omega.{arith}
use native.Mathlib.Nat.{mul-suc}
use lib.ListN.{length, set, take, drop, replicate, length-append, length-replicate}
use lib.Seq.{sets, sets-eq}
use borrow.Rule.Slice.PartMut.{put_mid}
use Rattle.std.proofs.lemmas.Grind.{common_steps}
use Rattle.std.proofs.lemmas.List.{take_all}
use Rattle.std.proofs.lemmas.Slice.{put_mid-paste}
use Rattle.model.specs.Lists.{concat_map, from}
use Rattle.laws.specs.Stores.{sets-append, sets-sets}
use Rattle.set_up.specs.Written.{Written, rows}

pub store : (m : List ℕ) (a v : ℕ) → Written m a (v ∷ []) (set m a v)
store m a v = record { is = refl }

-- a run, then the run after it
pub after : {m n p xs ys : List ℕ} {a b : ℕ} → Written m a xs n → Written n b ys p → b ≡ a + length xs → Written m a (xs ++ ys) p
after {m} {n} {p} {xs} {ys} {a} {b} w v e = record { is = v.is ∙ rw (w.is, e) (sets-append xs ys m a) }

-- a run, then one within it, k words after its first
pub inside : {m n p xs ys : List ℕ} {a b : ℕ} (k : ℕ) → Written m a xs n → Written n b ys p → b ≡ a + k → k + length ys ≤ length xs
    → Written m a (sets xs k ys) p
inside {m} {n} {p} {xs} {ys} {a} {b} k w v e h = record { is = v.is ∙ rw (w.is, e) (sets-sets ys xs m a k h) }

-- the same run by another name
pub renamed : {m n xs ys : List ℕ} {a : ℕ} → Written m a xs n → xs ≡ ys → Written m a ys n
renamed {m} {n} {xs} {ys} {a} w e = record { is = w.is ∙ ap (sets m a) e }

-- a run from the first word on
pub written-front : {m n ws : List ℕ} → Written m 0 ws n → length ws ≤ length m → n ≡ ws ++ drop (length ws) m
written-front {m} {n} {ws} w h =
    let e : 0 + length ws ≡ length ws = omega arith in
    w.is ∙ sets-eq ws m 0 (omega arith) ∙ ap (λ (k : ℕ). ws ++ drop k m) e

-- a part of k words, which is filled
pub filled : (m w : List ℕ) (at n k v : ℕ) → at + n ≤ length m → k ≡ n → w ≡ replicate (length (take k (drop at m))) v
    → Written m at (replicate n v) (put_mid at k m w)
filled m w at n k v h e f =
    let s = replicate n v in
    let l : n ≡ length s = sym (length-replicate n v) in
    let part : length (take k (drop at m)) ≡ n = grind (arith, common_steps) in
    record {
      is =
          put_mid-paste at k m w s n (f ∙ ap (λ (j : ℕ). replicate j v) part) (sym e) l
          ∙ ap₂ (λ (x : List ℕ) (j : ℕ). take at m ++ x ++ drop (at + j) m) (take_all n s (omega arith)) l
          ∙ sym (sets-eq s m at (omega arith));
    }

-- ---- rows

pub rows-suc : (f : ℕ → List ℕ) (n : ℕ) → rows f n ++ f n ≡ rows f (n + 1)
unfolding concat_map from
rows-suc f n =
    let e : 0 + n ≡ n = omega arith in
    let e' : suc n ≡ n + 1 = omega arith in
    ap (λ (k : ℕ). rows f n ++ f k) (sym e) ∙ go 0 n ∙ ap (rows f) e'
  where
    go : (a n : ℕ) → concat_map f (from a n) ++ f (a + n) ≡ concat_map f (from a (suc n))
    go a zero = let e : a + 0 ≡ a = omega arith in rw e (sym (append-nil (f a)))
    go a (suc n) =
        let e : a + suc n ≡ suc a + n = omega arith in
        append_assoc (f a) (concat_map f (from (suc a) n)) (f (a + suc n)) ∙ rw e (ap (λ (r : List ℕ). f a ++ r) (go (suc a) n))

pub length-rows : (f : ℕ → List ℕ) (w n : ℕ) → ((i : ℕ) → length (f i) ≡ w) → length (rows f n) ≡ w * n
unfolding concat_map from
length-rows f w n h = go 0 n
  where
    go : (a n : ℕ) → length (concat_map f (from a n)) ≡ w * n
    go a zero = omega arith
    go a (suc n) = omega (arith, length-append (f a) (concat_map f (from (suc a) n)), go (suc a) n, h a, mul-suc w n)

pub no-rows : (m : List ℕ) (a : ℕ) (f : ℕ → List ℕ) → Written m a (rows f 0) m
unfolding concat_map from
no-rows m a f = record { is = refl }

-- row n, after those before it, each of w words
pub next-row : {m n p : List ℕ} {a b : ℕ} (f : ℕ → List ℕ) (w i : ℕ) → ((i : ℕ) → length (f i) ≡ w)
    → Written m a (rows f i) n → b ≡ a + w * i → Written n b (f i) p → Written m a (rows f (i + 1)) p
next-row f w i l before e row = renamed (after before row (omega (arith, e, length-rows f w i l))) (rows-suc f i)

pub rows_alike : (f g : ℕ → List ℕ) (n : ℕ) → ((i : ℕ) → suc i ≤ n → f i ≡ g i) → rows f n ≡ rows g n
unfolding concat_map from
rows_alike f g n h = go 0 n (λ i k. h i (omega arith))
  where
    go : (a n : ℕ) → ((i : ℕ) → suc i ≤ a + n → f i ≡ g i) → concat_map f (from a n) ≡ concat_map g (from a n)
    go a zero h = refl
    go a (suc n) h = rw (h a (omega arith), go (suc a) n (λ i k. h i (omega arith)))
