-- The queue links that a state with the queues xss gives its slots, `successor_in xss j none`, when queue k of them changes: each law has the one
-- link that differs. A slot stands once in all queues at most.
use Prim.Native.Nat.{ℕ, ◌+◌, ◌≤◌, ◌<◌}
use mathlib.Core.Bool.{cond}
use mathlib.Core.Path.{◌≡◌, refl, ap, sym, ◌∙◌}
use mathlib.Core.Logic.{◌≢◌}
use mathlib.Core.List.{List, [], ◌∷◌, ◌++◌}
use native.Mathlib.Omega.{arith}
use native.Mathlib.Decide.{dec_lt}
use lib.ListN.{length, get_or}
use lib.Dec.{eqb}
use borrow.Author.Tests.{ne_eqb}
use Rattle.model.specs.Word.{none}
use Rattle.model.specs.Lists.{update, concat, first, last, tail, count, successor, successor_in}
use Rattle.laws.specs.Tests.{same, other, decide}
use Rattle.laws.specs.ListLaws.{length-update, get_or-update-same, get_or-update-other}
use Rattle.laws.specs.Counts.{count-append, count-concat-update, count-concat-get_or}
use Rattle.laws.specs.Successors.{successor-out, count-last, successor-append, successor-append-right, successor_in-update, successor_in-one, successor_in-out}

-- queue k changed by f, and j in it: the changed queue answers
in-changed : (xss : List (List ℕ)) (k j : ℕ) (f : List ℕ → List ℕ) → k < length xss → 0 < count j (f (get_or xss k [])) → count j (concat (update xss k f)) ≤ 1
    → successor_in (update xss k f) j none ≡ successor (f (get_or xss k [])) j none
in-changed xss k j f b h u =
    let e = get_or-update-same [] xss k f b in
    successor_in-one (update xss k f) k j none (rw e h) u ∙ ap (λ (r : List ℕ). successor r j none) e

-- a run ys that is in no queue is appended to queue k
module _ (xss : List (List ℕ)) (k : ℕ) (ys : List ℕ) (inside : k < length xss) (once : (i : ℕ) → count i (concat xss) ≤ 1) (ones : (i : ℕ) → count i ys ≤ 1)
    (out : (i : ℕ) → 0 < count i ys → count i (concat xss) ≡ 0) where
  abbrev q : List ℕ
  q = get_or xss k []

  abbrev more : List ℕ → List ℕ
  more r = r ++ ys

  count-more : (j : ℕ) → count j (concat (update xss k more)) ≡ count j (concat xss) + count j ys
  count-more j = omega (arith, count-concat-update xss k j more inside, count-append j q ys)

  once_more : (j : ℕ) → count j (concat (update xss k more)) ≤ 1
  once_more j =
      elim (dec_lt 0 (count j ys)) [
        | yes h ↦ omega (arith, count-more j, out j h, ones j)
        | no h ↦ omega (arith, count-more j, once j)
      ]

  -- a slot of the run
  more-run : (j : ℕ) → j ≢ none → 0 < count j ys → successor_in (update xss k more) j none ≡ cond (eqb j (last q)) (first ys) (successor ys j none)
  more-run j n h =
      let o : count j q ≡ 0 = omega (arith, count-concat-get_or xss k j, out j h) in
      in-changed xss k j more inside (omega (arith, count-append j q ys)) (once_more j)
      ∙ successor-append-right q ys j none o
      ∙ sym (rw (ne_eqb j (last q) (λ e. omega (arith, count-last q j n e))))

  -- any other
  more-other : (j : ℕ) → j ≢ none → count j ys ≡ 0 → successor_in (update xss k more) j none ≡ cond (eqb j (last q)) (first ys) (successor_in xss j none)
  more-other j n h =
      let u : count j q ≤ 1 = omega (arith, count-concat-get_or xss k j, once j) in
      elim (decide j (last q)) [
        | same e t s ↦
            let l : 0 < count j q = count-last q j n e in
            in-changed xss k j more inside (omega (arith, count-append j q ys)) (once_more j) ∙ successor-append q ys j none n u h ∙ rw t
        | other e t s ↦ rw t (successor_in-update xss k j more none (λ d. successor-append q ys j d n u h ∙ rw t))
      ]

-- a slot that is in no queue is appended to queue k: the link of its last
module _ (xss : List (List ℕ)) (k o : ℕ) (inside : k < length xss) (once : (i : ℕ) → count i (concat xss) ≤ 1) (out : count o (concat xss) ≡ 0) where
  pub append-links : (j : ℕ) → j ≢ none
      → successor_in (update xss k (λ r. r ++ (o ∷ []))) j none ≡ cond (eqb j (last (get_or xss k []))) o (successor_in xss j none)
  unfolding count first successor
  append-links j n =
      elim (decide j o) [
        | same e t s ↦
            more-run xss k (o ∷ []) inside once ones outs j n (rw t (omega arith))
            ∙ ap (cond (eqb j (last (get_or xss k []))) o) (rw s (sym (successor_in-out xss j none (ap (λ (i : ℕ). count i (concat xss)) e ∙ out))))
        | other e t s ↦ more-other xss k (o ∷ []) inside once ones outs j n (rw t (omega arith))
      ]
    where
      ones : (i : ℕ) → count i (o ∷ []) ≤ 1
      ones i = elim (decide i o) [ same e t s ↦ rw t (omega arith) | other e t s ↦ rw t (omega arith) ]

      outs : (i : ℕ) → 0 < count i (o ∷ []) → count i (concat xss) ≡ 0
      outs i h =
          elim (decide i o) [
            | same e t s ↦ ap (λ (l : ℕ). count l (concat xss)) e ∙ out
            | other e t s ↦ absurd (let z : 0 < 0 + 0 = rw t at h in omega arith)
          ]

-- queue l is appended to queue k, and is empty afterwards: the link of the last of queue k
module _ (xss : List (List ℕ)) (k l : ℕ) (apart : k ≢ l) (inside_k : k < length xss) (inside_l : l < length xss) (once : (i : ℕ) → count i (concat xss) ≤ 1) where
  abbrev ys : List ℕ
  ys = get_or xss l []

  abbrev none_left : List ℕ → List ℕ
  none_left r = []

  abbrev emptied : List (List ℕ)
  emptied = update xss l none_left

  count-emptied : (j : ℕ) → count j (concat emptied) + count j ys ≡ count j (concat xss)
  unfolding count
  count-emptied j = omega (arith, count-concat-update xss l j none_left inside_l)

  q-emptied : get_or emptied k [] ≡ get_or xss k []
  q-emptied = get_or-update-other [] xss l none_left k apart

  inside_e : k < length emptied
  inside_e = omega (arith, length-update xss l none_left)

  pub join-links : (j : ℕ) → j ≢ none
      → successor_in (update emptied k (λ r. r ++ ys)) j none ≡ cond (eqb j (last (get_or xss k []))) (first ys) (successor_in xss j none)
  unfolding successor
  join-links j n =
      elim (dec_lt 0 (count j ys)) [
        | yes h ↦
            more-run emptied k ys inside_e onces ones outs j n h
            ∙ rw (q-emptied, successor_in-one xss l j none h (once j))
        | no h ↦
            let o : count j ys ≡ 0 = omega arith in
            more-other emptied k ys inside_e onces ones outs j n o
            ∙ rw (q-emptied, successor_in-update xss l j none_left none (λ d. sym (successor-out ys j d o)))
      ]
    where
      onces : (i : ℕ) → count i (concat emptied) ≤ 1
      onces i = omega (arith, count-emptied i, once i)

      ones : (i : ℕ) → count i ys ≤ 1
      ones i = omega (arith, count-emptied i, once i)

      outs : (i : ℕ) → 0 < count i ys → count i (concat emptied) ≡ 0
      outs i h = omega (arith, count-emptied i, once i)

-- the first of queue k leaves: its own link
module _ (xss : List (List ℕ)) (k : ℕ) (inside : k < length xss) (once : (i : ℕ) → count i (concat xss) ≤ 1) where
  pub take-links : (j : ℕ) → j ≢ none → successor_in (update xss k tail) j none ≡ cond (eqb j (first (get_or xss k []))) none (successor_in xss j none)
  unfolding count first successor tail
  take-links j n = go (get_or xss k []) refl
    where
      go : (r : List ℕ) → get_or xss k [] ≡ r → successor_in (update xss k tail) j none ≡ cond (eqb j (first (get_or xss k []))) none (successor_in xss j none)
      go [] e = rw (e, ne_eqb j none n) (successor_in-update xss k j tail none (λ d. rw e))
      go (x ∷ xs) e =
          rw e
          (elim (decide j x) [
            | same a t s ↦
                let z : count j (concat (update xss k tail)) + count j (x ∷ xs) ≡ count j (concat xss) + count j xs =
                rw e at (count-concat-update xss k j tail inside) in
                let w : 1 + count j xs ≡ count j (x ∷ xs) = rw t in
                rw t (successor_in-out (update xss k tail) j none (omega (arith, once j)))
            | other a t s ↦ rw t (successor_in-update xss k j tail none (λ d. rw (e, s)))
          ])
