-- The chain links that a table with the chains xss gives its slots, the model's `link_of`, when chain k of them changes: each law has the links that
-- differ. A slot stands once in all chains at most; a slot outside them keeps the link of `kept`.
use Prim.Native.Nat.{ℕ, ◌+◌, ◌≤◌, ◌<◌}
use mathlib.Core.Bool.{cond}
use mathlib.Core.Path.{◌≡◌, ap, sym, ◌∙◌}
use mathlib.Core.Logic.{◌≢◌}
use mathlib.Core.List.{List, [], ◌∷◌}
use native.Mathlib.Omega.{arith}
use lib.ListN.{length, get_or, set}
use lib.Seq.{get_or-set_same, get_or-set_other}
use lib.Dec.{eqb}
use borrow.Author.Tests.{ne_eqb}
use Rattle.model.specs.Word.{none}
use Rattle.model.specs.Lists.{update, concat, first, count, successor, successor_in, without, swapped}
use Rattle.laws.specs.Tests.{same, other, decide, eqb-self}
use Rattle.laws.specs.ListLaws.{get_or-update-same}
use Rattle.laws.specs.Counts.{mark, mark-self, mark-other, count-self, count-without, count-swapped, count-concat-update, count-concat-get_or}
use Rattle.laws.specs.Successors.{successor_in-update, successor_in-one, successor_in-out}
use Rattle.laws.specs.Removals.{before_in, before_in-self, before_in-in, first-without, successor-without}
use Rattle.chains.proofs.Swaps.{first-swapped, successor-swapped}

-- the link of slot j
abbrev pub link_in : List (List ℕ) → List ℕ → ℕ → ℕ
link_in xss kept j = successor_in xss j (get_or kept j none)

-- chain k changed by f, and j in it: the changed chain answers
in-changed : (xss : List (List ℕ)) (k j d : ℕ) (f : List ℕ → List ℕ) → k < length xss → 0 < count j (f (get_or xss k [])) → count j (concat (update xss k f)) ≤ 1
    → successor_in (update xss k f) j d ≡ successor (f (get_or xss k [])) j none
in-changed xss k j d f b h u =
    let e = get_or-update-same [] xss k f b in
    successor_in-one (update xss k f) k j d (rw e h) u ∙ ap (λ (r : List ℕ). successor r j none) e

module _ (xss : List (List ℕ)) (k : ℕ) (inside : k < length xss) (once : (i : ℕ) → count i (concat xss) ≤ 1) where
  abbrev q : List ℕ
  q = get_or xss k []

  -- ---- slot s, which is in no chain, linked at the head of chain k

  pub add-links : (s j d : ℕ) → count s (concat xss) ≡ 0 → successor_in (update xss k (◌∷◌ s)) j d ≡ cond (eqb j s) (first q) (successor_in xss j d)
  unfolding count successor
  add-links s j d out =
      elim (decide j s) [
        | same e t u ↦
            rw (t, e)
            (in-changed xss k s d (◌∷◌ s) inside (omega (arith, count-self s q)) (omega (arith, count-concat-update xss k s (◌∷◌ s) inside, count-self s q))
            ∙ rw (eqb-self s))
        | other e t u ↦ rw t (successor_in-update xss k j (◌∷◌ s) d (λ x. rw u))
      ]

  -- ---- slot o of chain k

  module _ (kept : List ℕ) (o : ℕ) (no_none : count none (concat xss) ≡ 0) (in_chain : 0 < count o q) (within : o < length kept) where
    abbrev p : ℕ
    p = before_in o q none

    -- the links kept once o has left
    abbrev leaving : List ℕ
    leaving = set kept o (link_in xss kept o)

    in_all : (i : ℕ) → count i q ≤ count i (concat xss)
    in_all i = count-concat-get_or xss k i

    once-o : count o q ≡ 1
    once-o = omega (arith, in_all o, once o)

    o-some : none ≢ o
    o-some e = let z : count o (concat xss) ≡ 0 = rw e at no_none in omega (arith, in_all o)

    next-of-o : link_in xss kept o ≡ successor q o none
    next-of-o = successor_in-one xss k o (get_or kept o none) in_chain (once o)

    not-before : o ≢ p
    not-before e = before_in-self q o none o-some (sym e)

    before-inside : (j : ℕ) → j ≢ none → j ≡ p → 0 < count j q
    before-inside j n e = before_in-in q o none j (sym e) (λ z. n (sym z)) in_chain

    default-o : get_or leaving o none ≡ link_in xss kept o
    default-o = get_or-set_same kept o (link_in xss kept o) none within

    default : (j : ℕ) → j ≢ o → get_or leaving j none ≡ get_or kept j none
    default j n = get_or-set_other kept o j (link_in xss kept o) none n

    -- o is unlinked

    count_less : (j : ℕ) → count j (concat (update xss k (without o))) + count j q ≡ count j (concat xss) + count j (without o q)
    count_less j = count-concat-update xss k j (without o) inside

    pub unlink-head : first (without o q) ≡ cond (eqb none p) (link_in xss kept o) (first q)
    unlink-head = first-without q o none none once-o (omega (arith, in_all none)) ∙ rw next-of-o

    pub unlink-links : (j : ℕ) → j ≢ none → link_in (update xss k (without o)) leaving j ≡ cond (eqb j p) (link_in xss kept o) (link_in xss kept j)
    unlink-links j n =
        elim (decide j o) [
          | same e t u ↦
              rw (e, ne_eqb o p not-before)
              (successor_in-out (update xss k (without o)) o (get_or leaving o none)
              (omega (arith, count_less o, count-without o o q in_chain, mark-self o, once o))
              ∙ default-o)
          | other e t u ↦
              rw (default j e)
              (elim (decide j p) [
                | same f t' u' ↦
                    let h : 0 < count j q = before-inside j n f in
                    rw t'
                    (in-changed xss k j (get_or kept j none) (without o) inside
                    (omega (arith, count-without j o q in_chain, mark-other j o e))
                    (omega (arith, count_less j, count-without j o q in_chain, once j))
                    ∙ successor-without q o j none none e n once-o (omega (arith, in_all j, once j)) ∙ rw (t', next-of-o))
                | other f t' u' ↦
                    rw t'
                    (successor_in-update xss k j (without o) (get_or kept j none)
                    (λ d. successor-without q o j none d e n once-o (omega (arith, in_all j, once j)) ∙ rw t'))
              ])
        ]

    -- slot s, which is in no chain, is put in its place

    module _ (s : ℕ) (out : count s (concat xss) ≡ 0) (s-some : s ≢ none) where
      o-not-s : o ≢ s
      o-not-s e = let z : count o (concat xss) ≡ 0 = ap (λ (j : ℕ). count j (concat xss)) e ∙ out in omega (arith, in_all o)

      s-out : count s q ≡ 0
      s-out = omega (arith, in_all s)

      count-swap : (j : ℕ) → count j (concat (update xss k (swapped o s))) + count j q ≡ count j (concat xss) + count j (swapped o s q)
      count-swap j = count-concat-update xss k j (swapped o s) inside

      swapped_at : (j d : ℕ) → j ≢ o → j ≢ none → successor (swapped o s q) j d ≡ cond (eqb j p) s (cond (eqb j s) (successor q o d) (successor q j d))
      swapped_at j d e n = successor-swapped q o s j none d e n once-o s-out (omega (arith, in_all j, once j))

      pub replace-head : first (swapped o s q) ≡ cond (eqb none p) s (first q)
      replace-head = first-swapped q o s none once-o (omega (arith, in_all none))

      pub replace-links : (j : ℕ) → j ≢ none
          → link_in (update xss k (swapped o s)) leaving j ≡ cond (eqb j p) s (cond (eqb j s) (link_in xss kept o) (link_in xss kept j))
      replace-links j n =
          elim (decide j o) [
            | same e t u ↦
                rw (e, ne_eqb o p not-before, ne_eqb o s o-not-s)
                (successor_in-out (update xss k (swapped o s)) o (get_or leaving o none)
                (omega (arith, count-swap o, count-swapped o o s q in_chain, mark-self o, mark-other o s o-not-s, once o))
                ∙ default-o)
            | other e t u ↦
                rw (default j e)
                (elim (decide j p) [
                  | same f t' u' ↦
                      let h : 0 < count j q = before-inside j n f in
                      let m : j ≢ s = λ z. let w : count j q ≡ 0 = ap (λ (i : ℕ). count i q) z ∙ s-out in omega arith in
                      rw t'
                      (in-changed xss k j (get_or kept j none) (swapped o s) inside
                      (omega (arith, count-swapped j o s q in_chain, mark-other j o e))
                      (omega (arith, count-swap j, count-swapped j o s q in_chain, mark-other j s m, once j))
                      ∙ swapped_at j none e n ∙ rw t')
                  | other f t' u' ↦
                      rw t'
                      (elim (decide j s) [
                        | same g t'' u'' ↦
                            let one : mark j s ≡ 1 = ap (λ (i : ℕ). mark i s) g ∙ mark-self s in
                            let z : count j (concat xss) ≡ 0 = ap (λ (i : ℕ). count i (concat xss)) g ∙ out in
                            rw t''
                            (in-changed xss k j (get_or kept j none) (swapped o s) inside
                            (omega (arith, count-swapped j o s q in_chain, mark-other j o e))
                            (omega (arith, count-swap j, count-swapped j o s q in_chain, mark-other j o e))
                            ∙ swapped_at j none e n ∙ rw (t', t'', next-of-o))
                        | other g t'' u'' ↦
                            rw t''
                            (successor_in-update xss k j (swapped o s) (get_or kept j none) (λ d. swapped_at j d e n ∙ rw (t', t'')))
                      ])
                ])
          ]
