-- The tree of codes: a code on its way through the cells, and the numbers entered one after the other.
use Prim.Native.Nat.{ℕ, suc, ◌+◌, ◌*◌, ◌-◌, ◌/◌, ◌%◌, ◌≤◌, ◌<◌}
use mathlib.Core.Bool.{Bool, true, false}
use mathlib.Core.Path.{◌≡◌, refl, ap, sym, ◌∙◌, subst}
use mathlib.Core.List.{List, [], ◌∷◌, map}
use native.Mathlib.Omega.{arith}
use native.Mathlib.Decide.{dec_lt}
use lib.ListN.{get_or, set, length, take, length-set}
use lib.Seq.{get_or-set_same, get_or-set_other}
use Rattle.model.specs.Lists.{count, from, member, distinct}
use Rattle.laws.specs.Tests.{same, other, decide}
use Rattle.laws.specs.ListLaws.{map-map-from, take-map-from}
use Rattle.laws.specs.Counts.{count-from, count-from-below}
use Rattle.laws.specs.Repeats.{distinct-map, distinct-map-intro}
use Rattle.distinct_codes.specs.Tree.{branches, root, Empty, Path, here, down, Keeps, Shape, In, New, Old, Entered}

unlike : false ≡ true → ⊥
unlike e = let z : ◌≡◌ {A = ℕ} 0 1 = cc in omega arith

-- a test that cannot hold fails
refuted : (b : Bool) → (b ≡ true → ⊥) → false ≡ b
refuted true h = absurd (h refl)
refuted false h = refl

-- no number stands twice among those below n
once-below : (n i : ℕ) → count i (from 0 n) ≤ 1
once-below n i =
    elim (dec_lt 0 (count i (from 0 n))) [
      | yes p ↦ omega (arith, count-from i 0 n (omega arith) (count-from-below i 0 n p))
      | no p ↦ omega arith
    ]

pub keep : {R : ℕ} {k l : List ℕ} {p d t : ℕ} → Keeps k l → Path R k p d t → Path R l p d t
keep h (here e) = here (h _ _ e)
keep h (down e r) = down (h _ _ e) (keep h r)

-- ---- the loop of a code on its way

module _ (R : ℕ) (f : ℕ → ℕ) (n : ℕ) (k : List ℕ) where
  pub record Way (p d : ℕ) : Type 0 where
    pub behind : (l : List ℕ) → Keeps k l → Path R l p d n → In R f l n
    pub ahead : (t : ℕ) → In R f k t → f t ≡ f n → Path R k p d t

  past : {p d t v : ℕ} → get_or k p 0 ≡ suc v → (t ≡ v → ⊥) → Path R k p d t → Path R k (R + branches * v + d % branches) (d / branches) t
  past e h (here g) = absurd (h (omega arith))
  past {d = d} {t = t} {v = v} e h (down {v = w} g r) =
      let q : w ≡ v = omega arith in subst (λ (u : ℕ). Path R k (R + branches * u + d % branches) (d / branches) t) q r

  pub way_on : {p d v : ℕ} → Way p d → get_or k p 0 ≡ suc v → (f v ≡ f n → ⊥) → Way (R + branches * v + d % branches) (d / branches)
  way_on {v = v} w e h = record {
    behind = λ l g r. w.behind l g (down (g _ _ e) r);
    ahead = λ t r q. past e (λ z. h (ap f (sym z) ∙ q)) (w.ahead t r q);
  }

  -- the same by the code's numbers: v is what the cell holds
  module _ (p v : ℕ) (e : v ≡ get_or k p 0) (b : 0 < v) where
    holds : get_or k p 0 ≡ suc (v - 1)
    holds = omega arith

    pub step-on : (F : ℕ) → F ≡ R → {d : ℕ} → Way p d → (f (v - 1) ≡ f n → ⊥) → Way (F + branches * (v - 1) + d % branches) (d / branches)
    step-on F q {d} w h = subst (λ (x : ℕ). Way (x + branches * (v - 1) + d % branches) (d / branches)) (sym q) (way_on w holds h)

    pub step-below : Shape R n k → p < R + branches * (v - 1)
    step-below s = s.order p (v - 1) holds

  pub ended : {p d t : ℕ} → get_or k p 0 ≡ 0 → Path R k p d t → ⊥
  ended e (here g) = omega arith
  ended e (down g r) = omega arith

  module _ (p : ℕ) (e : get_or k p 0 ≡ 0) (i : p < length k) (s : Shape R n k) (b : p < R + branches * n) where
    abbrev l : List ℕ
    l = set k p (n + 1)

    stored : get_or l p 0 ≡ suc n
    stored = get_or-set_same k p (n + 1) 0 i ∙ omega arith

    others : (q : ℕ) → (q ≡ p → ⊥) → get_or l q 0 ≡ get_or k q 0
    others q h = get_or-set_other k p q (n + 1) 0 h

    keeps : Keeps k l
    keeps q v g = others q (λ z. absurd (omega (arith, ap (λ (x : ℕ). get_or k x 0) z))) ∙ g

    within : (q : ℕ) → get_or l q 0 ≤ n + 1
    within q =
        elim (decide q p) [
          | same z t u ↦ omega (arith, ap (λ (x : ℕ). get_or l x 0) z, stored)
          | other z t u ↦ omega (arith, others q z, s.within q)
        ]

    order : (q v : ℕ) → get_or l q 0 ≡ suc v → q < R + branches * v
    order q v g =
        elim (decide q p) [
          | same z t u ↦ omega (arith, ap (λ (x : ℕ). get_or l x 0) z, stored)
          | other z t u ↦ s.order q v (sym (others q z) ∙ g)
        ]

    pub way-new : (d : ℕ) → Way p d → New R f n k l
    way-new d w = record {
      shape = record { within = within; order = order };
      size = length-set k p (n + 1);
      keeps = keeps;
      entered = w.behind l keeps (here stored);
      apart = λ t r q. ended e (w.ahead t r q);
    }

    pub step-new : (d : ℕ) → Way p d → Entered R f n k true l
    step-new d w = record { new = λ z. way-new d w; old = λ z. absurd (unlike (sym z)) }

-- ---- the numbers, one after the other

module _ (R c : ℕ) (f : ℕ → ℕ) where
  -- the numbers below n stand in k, of c cells, and have different codes
  pub record Sofar (n : ℕ) (k : List ℕ) : Type 0 where
    pub size : length k ≡ c
    pub shape : Shape R n k
    pub found : (t : ℕ) → t < n → In R f k t
    pub apart : (i j : ℕ) → i < n → j < n → f i ≡ f j → i ≡ j

  module _ (n : ℕ) (k : List ℕ) (s : Sofar n k) (r : Bool) (l : List ℕ) (w : Entered R f n k r l) where
    pub sofar-on : r ≡ true → Sofar (n + 1) l
    sofar-on h = record { size = new.size ∙ s.size; shape = new.shape; found = found; apart = apart }
      where
        new : New R f n k l
        new = w.new h

        found : (t : ℕ) → t < n + 1 → In R f l t
        found t b =
            elim (decide t n) [
              | same z u v ↦ subst (λ (x : ℕ). In R f l x) (sym z) new.entered
              | other z u v ↦ keep new.keeps (s.found t (omega arith))
            ]

        apart : (i j : ℕ) → i < n + 1 → j < n + 1 → f i ≡ f j → i ≡ j
        apart i j b c q =
            elim (decide i n) [
              | same z u v ↦ elim (decide j n) [
                | same y t x ↦ z ∙ sym y
                | other y t x ↦ absurd (new.apart j (s.found j (omega arith)) (sym q ∙ ap f z))
              ]
              | other z u v ↦ elim (decide j n) [
                | same y t x ↦ absurd (new.apart i (s.found i (omega arith)) (q ∙ ap f y))
                | other y t x ↦ s.apart i j (omega arith) (omega arith) q
              ]
            ]

    pub sofar-fails : r ≡ false → (N : ℕ) → n < N → false ≡ distinct (map f (from 0 N))
    sofar-fails h N b = refuted (distinct (map f (from 0 N))) never
      where
        old : Old R f n k
        old = w.old h

        never : distinct (map f (from 0 N)) ≡ true → ⊥
        never d =
            let u : old.slot < n = omega (arith, s.shape.within old.cell, old.stands) in
            let e : old.slot ≡ n = distinct-map f (from 0 N) d old.slot n (omega (arith, count-from old.slot 0 N (omega arith) (omega arith)))
            (omega (arith, count-from n 0 N (omega arith) (omega arith))) old.equal in
            omega arith

  pub sofar-end : (n : ℕ) (k : List ℕ) → Sofar n k → (N : ℕ) → N ≤ n → true ≡ distinct (map f (from 0 N))
  sofar-end n k s N h =
      sym (distinct-map-intro f (from 0 N) (once-below N)
      (λ i j b c q. s.apart i j (omega (arith, count-from-below i 0 N b)) (omega (arith, count-from-below j 0 N c)) q))

-- ---- the slots of a list, by their places

module _ (f : ℕ → ℕ) where
  pub apart-listed : (a : List ℕ) → (r : Bool) → r ≡ distinct (map (λ (t : ℕ). f (get_or a t 0)) (from 0 (length a)))
      → r ≡ distinct (map f a)
  apart-listed a r e =
      e ∙ ap distinct (sym (map-map-from f (λ (t : ℕ). get_or a t 0) 0 (length a))
      ∙ ap (map f) (sym (take-map-from a (length a) (omega arith)) ∙ take-all a))
    where
      take-all : (xs : List ℕ) → take (length xs) xs ≡ xs
      take-all [] = refl
      take-all (x ∷ xs) = ap (λ (ys : List ℕ). x ∷ ys) (take-all xs)

  -- one code or none
  pub apart-short : (a : List ℕ) → length a < 2 → true ≡ distinct (map f a)
  unfolding distinct member
  apart-short [] h = refl
  apart-short (x ∷ []) h = refl
  apart-short (x ∷ (y ∷ a)) h = absurd (omega arith)
