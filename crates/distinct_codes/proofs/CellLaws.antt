-- Codes stand twice among the slots met exactly where they do among those put aside: each code met is its cell's holder's or was put aside, and
-- one put aside is not the holder's. It holds for any codes f and any spreading function g, as equal codes share a cell and a cell has one holder.
use Prim.Native.Nat.{ℕ, zero, suc, ◌+◌, ◌≤◌, ◌<◌}
use mathlib.Core.Bool.{Bool, true, false, cond}
use mathlib.Core.Path.{◌≡◌, refl, ap, sym, ◌∙◌, subst}
use mathlib.Core.List.{List, [], ◌∷◌, ◌++◌, map}
use native.Mathlib.Omega.{arith}
use native.Mathlib.Decide.{dec_lt}
use lib.ListN.{get_or, set, length, length-set}
use lib.Dec.{eqb}
use lib.Seq.{get_or-set_same, get_or-set_other}
use borrow.Author.Tests.{eq-eqb, ne_eqb}
use Rattle.model.specs.Lists.{count, member, distinct}
use Rattle.laws.specs.Tests.{same, other, decide, clash as contradiction}
use Rattle.laws.specs.Counts.{count-self, member-true, member-false}
use Rattle.distinct_codes.specs.Cells.{Held, clash, held, meet_cell, meet, meets}

unlike : false ≡ true → ⊥
unlike e = let z : ◌≡◌ {A = ℕ} 0 1 = cc in omega arith

-- ---- no value twice, by counts

pub distinct-once : (xs : List ℕ) → distinct xs ≡ true → (c : ℕ) → count c xs ≤ 1
unfolding distinct count
distinct-once [] h c = omega arith
distinct-once (x ∷ xs) h c = go (λ r. distinct-once xs r c) (member x xs) refl
  where
    go : (distinct xs ≡ true → count c xs ≤ 1) → (b : Bool) → member x xs ≡ b → count c (x ∷ xs) ≤ 1
    go ih true q = absurd (unlike (rw (q, distinct) at h))
    go ih false q =
        let rest : distinct xs ≡ true = rw (q, distinct) at h in
        elim (decide c x) [
          | same e t u ↦ elim (dec_lt 0 (count x xs)) [
            | yes p ↦ contradiction (member-true x xs p) q
            | no p ↦ rw t (omega (arith, ap (λ (y : ℕ). count y xs) e))
          ]
          | other e t u ↦ rw t (omega (arith, ih rest))
        ]

pub once-distinct : (xs : List ℕ) → ((c : ℕ) → count c xs ≤ 1) → distinct xs ≡ true
unfolding distinct count
once-distinct [] h = refl
once-distinct (x ∷ xs) h =
    rw (member-false x xs (omega (arith, h x, count-self x xs)), distinct) (once-distinct xs (λ c. omega (arith, h c)))

-- ---- the slots met

pub meets-clash : (f g : ℕ → ℕ) (xs : List ℕ) → meets f g xs clash ≡ clash
unfolding meets meet
meets-clash f g [] = refl
meets-clash f g (x ∷ xs) = meets-clash f g xs

pub meets-append : (f g : ℕ → ℕ) (xs ys : List ℕ) (h : Held) → meets f g (xs ++ ys) h ≡ meets f g ys (meets f g xs h)
unfolding meets
meets-append f g [] ys h = refl
meets-append f g (x ∷ xs) ys h = meets-append f g xs ys (meet f g x h)

never : {k a : List ℕ} → clash ≡ held k a → ⊥
never h = let z : ◌≡◌ {A = ℕ} 0 1 = cc in omega arith

module _ (f g : ℕ → ℕ) where
  -- 1 where the number in a cell is that of a slot with code c
  unfoldable sits : ℕ → ℕ → ℕ
  sits zero c = 0
  sits (suc v) c = cond (eqb c (f v)) 1 0

  -- N c slots with code c were met
  record Stands (N : ℕ → ℕ) (k a : List ℕ) : Type 0 where
    told : (c : ℕ) → N c ≡ sits (get_or k (g c) 0) c + count c (map f a)
    aside : (c : ℕ) → 0 < count c (map f a) → (0 < get_or k (g c) 0) × (sits (get_or k (g c) 0) c ≡ 0)
    size : (c : ℕ) → g c < length k

  -- 1 where slot i has code c
  abbrev one : ℕ → ℕ → ℕ
  one i c = cond (eqb c (f i)) 1 0

  count-snoc : (c i : ℕ) (a : List ℕ) → count c (map f (a ++ (i ∷ []))) ≡ count c (map f a) + one i c
  unfolding count
  count-snoc c i [] = omega arith
  count-snoc c i (x ∷ a) = omega (arith, count-snoc c i a)

  module _ (N : ℕ → ℕ) (k a : List ℕ) (s : Stands N k a) (i : ℕ) where
    -- what a slot that is met leaves
    data Next : Held → Type 0 where
      on : {l b : List ℕ} → Stands (λ (c : ℕ). N c + one i c) l b → Next (held l b)
      twice : 2 ≤ N (f i) + one i (f i) → Next clash

    holds : get_or k (g (f i)) 0 ≡ 0 → Stands (λ (c : ℕ). N c + one i c) (set k (g (f i)) (i + 1)) a
    unfolding sits
    holds z = record { told = told; aside = aside; size = λ c. omega (arith, s.size c, length-set k (g (f i)) (i + 1)) }
      where
        l : List ℕ
        l = set k (g (f i)) (i + 1)

        stored : (c : ℕ) → g c ≡ g (f i) → get_or l (g c) 0 ≡ suc i
        stored c e = ap (λ (q : ℕ). get_or l q 0) e ∙ get_or-set_same k (g (f i)) (i + 1) 0 (s.size (f i)) ∙ omega arith

        told : (c : ℕ) → N c + one i c ≡ sits (get_or l (g c) 0) c + count c (map f a)
        told c =
            elim (decide (g c) (g (f i))) [
              | same e t u ↦
                  let old : sits (get_or k (g c) 0) c ≡ 0 = ap (λ (v : ℕ). sits v c) (ap (λ (q : ℕ). get_or k q 0) e ∙ z) in
                  let new : sits (get_or l (g c) 0) c ≡ one i c = ap (λ (v : ℕ). sits v c) (stored c e) in
                  omega (arith, s.told c, old, new)
              | other e t u ↦
                  let new : sits (get_or l (g c) 0) c ≡ sits (get_or k (g c) 0) c = ap (λ (v : ℕ). sits v c) (get_or-set_other k (g (f i)) (g c) (i + 1) 0 e) in
                  let no : one i c ≡ 0 = ap (λ (b : Bool). cond b 1 0) (ne_eqb c (f i) (λ q. e (ap g q))) in
                  omega (arith, s.told c, new, no)
            ]

        aside : (c : ℕ) → 0 < count c (map f a) → (0 < get_or l (g c) 0) × (sits (get_or l (g c) 0) c ≡ 0)
        aside c p =
            let was = s.aside c p in
            elim (decide (g c) (g (f i))) [
              | same e t u ↦ absurd (omega (arith, was.0, ap (λ (q : ℕ). get_or k q 0) e, z))
              | other e t u ↦
                  let q : get_or l (g c) 0 ≡ get_or k (g c) 0 = get_or-set_other k (g (f i)) (g c) (i + 1) 0 e in
                  (omega (arith, was.0, q), ap (λ (v : ℕ). sits v c) q ∙ was.1)
            ]

    differs : (v : ℕ) → get_or k (g (f i)) 0 ≡ suc v → (f v ≡ f i → ⊥) → Stands (λ (c : ℕ). N c + one i c) k (a ++ (i ∷ []))
    unfolding sits
    differs v e d = record { told = λ c. omega (arith, s.told c, count-snoc c i a); aside = aside; size = s.size }
      where
        mine : (c : ℕ) → c ≡ f i → (0 < get_or k (g c) 0) × (sits (get_or k (g c) 0) c ≡ 0)
        mine c q =
            let h : get_or k (g c) 0 ≡ suc v = ap (λ (x : ℕ). get_or k (g x) 0) q ∙ e in
            (omega (arith, h), ap (λ (x : ℕ). sits x c) h ∙ ap (λ (b : Bool). cond b 1 0) (ne_eqb c (f v) (λ y. d (sym y ∙ q))))

        aside : (c : ℕ) → 0 < count c (map f (a ++ (i ∷ []))) → (0 < get_or k (g c) 0) × (sits (get_or k (g c) 0) c ≡ 0)
        aside c p =
            elim (decide c (f i)) [
              | same q t u ↦ mine c q
              | other q t u ↦
                  let no : one i c ≡ 0 = ap (λ (b : Bool). cond b 1 0) t in
                  s.aside c (omega (arith, p, count-snoc c i a, no))
            ]

    equals : (v : ℕ) → get_or k (g (f i)) 0 ≡ suc v → f v ≡ f i → 2 ≤ N (f i) + one i (f i)
    unfolding sits
    equals v e q =
        let h : sits (get_or k (g (f i)) 0) (f i) ≡ 1 = ap (λ (x : ℕ). sits x (f i)) e ∙ ap (λ (b : Bool). cond b 1 0) (eq-eqb (f i) (f v) (sym q)) in
        let o : one i (f i) ≡ 1 = ap (λ (b : Bool). cond b 1 0) (eq-eqb (f i) (f i) refl) in
        omega (arith, s.told (f i), h, o)

    next : Next (meet f g i (held k a))
    unfolding meet meet_cell
    next = go (get_or k (g (f i)) 0) refl
      where
        go : (v : ℕ) → get_or k (g (f i)) 0 ≡ v → Next (meet_cell f g v i k a)
        go zero e = on (holds e)
        go (suc v) e =
            elim (decide (f v) (f i)) [
              | same q t u ↦ rw (t, cond) (twice (equals v e q))
              | other q t u ↦ rw (t, cond) (on (differs v e q))
            ]

  alike : {N N' : ℕ → ℕ} {k a : List ℕ} → ((c : ℕ) → N c ≡ N' c) → Stands N k a → Stands N' k a
  alike h s = record { told = λ c. sym (h c) ∙ s.told c; aside = s.aside; size = s.size }

  stands_on : (xs : List ℕ) (N : ℕ → ℕ) (k a l b : List ℕ) → Stands N k a → meets f g xs (held k a) ≡ held l b
      → Stands (λ (c : ℕ). N c + count c (map f xs)) l b
  unfolding meets count
  stands_on [] N k a l b s e =
      let x : k ≡ l = cc in
      let y : a ≡ b = cc in
      subst (λ (z : List ℕ). Stands (λ (c : ℕ). N c + 0) z b) x (subst (λ (z : List ℕ). Stands (λ (c : ℕ). N c + 0) k z) y (alike (λ c. omega arith) s))
  stands_on (x ∷ xs) N k a l b s e = go (λ j d t e. stands_on xs (λ (c : ℕ). N c + one x c) j d l b t e) (meet f g x (held k a)) (next N k a s x) e
    where
      go : ((j d : List ℕ) → Stands (λ (c : ℕ). N c + one x c) j d → meets f g xs (held j d) ≡ held l b
          → Stands (λ (c : ℕ). N c + one x c + count c (map f xs)) l b)
          → (h : Held) → Next N k a s x h → meets f g xs h ≡ held l b → Stands (λ (c : ℕ). N c + (one x c + count c (map f xs))) l b
      go ih clash (twice t) e = absurd (never (sym (meets-clash f g xs) ∙ e))
      go ih (held j d) (on t) e = alike (λ c. omega arith) (ih j d t e)

  stands-twice : (xs : List ℕ) (N : ℕ → ℕ) (k a : List ℕ) → Stands N k a → meets f g xs (held k a) ≡ clash → (c : ℕ) × (2 ≤ N c + count c (map f xs))
  unfolding meets count
  stands-twice [] N k a s e = absurd (never (sym e))
  stands-twice (x ∷ xs) N k a s e = go (λ j d t e. stands-twice xs (λ (c : ℕ). N c + one x c) j d t e) (meet f g x (held k a)) (next N k a s x) e
    where
      go : ((j d : List ℕ) → Stands (λ (c : ℕ). N c + one x c) j d → meets f g xs (held j d) ≡ clash → (c : ℕ) × (2 ≤ N c + one x c + count c (map f xs)))
          → (h : Held) → Next N k a s x h → meets f g xs h ≡ clash → (c : ℕ) × (2 ≤ N c + (one x c + count c (map f xs)))
      go ih clash (twice t) e = (f x, omega (arith, t))
      go ih (held j d) (on t) e = let w = ih j d t e in (w.0, omega (arith, w.1))

  -- ---- from empty cells

  module _ (k : List ℕ) (z : (q : ℕ) → get_or k q 0 ≡ 0) (size : (c : ℕ) → g c < length k) (xs : List ℕ) where
    start : Stands (λ (c : ℕ). 0) k []
    unfolding sits count
    start = record { told = λ c. sym (ap (λ (v : ℕ). sits v c + 0) (z (g c))); aside = λ c p. absurd (omega arith); size = size }

    -- codes stand twice where they do among those put aside
    pub meets-told : (l b : List ℕ) → meets f g xs (held k []) ≡ held l b → distinct (map f xs) ≡ distinct (map f b)
    unfolding sits
    meets-told l b e = both (distinct (map f xs)) (distinct (map f b))
        (λ d. once-distinct (map f b) (λ c. omega (arith, s.told c, distinct-once (map f xs) d c)))
        (λ d. once-distinct (map f xs) (λ c. most c (distinct-once (map f b) d c)))
      where
        s : Stands (λ (c : ℕ). 0 + count c (map f xs)) l b
        s = stands_on xs (λ (c : ℕ). 0) k [] l b start e

        few : (v c : ℕ) → sits v c ≤ 1
        few zero c = omega arith
        few (suc v) c = elim (decide c (f v)) [ same q t u ↦ rw t (omega arith) | other q t u ↦ rw t (omega arith) ]

        most : (c : ℕ) → count c (map f b) ≤ 1 → count c (map f xs) ≤ 1
        most c h =
            elim (dec_lt 0 (count c (map f b))) [
              | yes p ↦ omega (arith, s.told c, (s.aside c p).1)
              | no p ↦ omega (arith, s.told c, few (get_or l (g c) 0) c)
            ]

        both : (a b : Bool) → (a ≡ true → b ≡ true) → (b ≡ true → a ≡ true) → a ≡ b
        both true b h i = sym (h refl)
        both false true h i = i refl
        both false false h i = refl

    -- two slots with one code were met
    pub meets-twice : meets f g xs (held k []) ≡ clash → distinct (map f xs) ≡ true → ⊥
    meets-twice e d = let w = stands-twice xs (λ (c : ℕ). 0) k [] start e in omega (arith, w.1, distinct-once (map f xs) d w.0)
