-- Laws of a tree of masks, each by one induction over the levels: after a bit is cleared up the levels they are the masks of the flags less that one, and
-- levels that are set by those below them are the masks of the lowest level's flags.
use Prim.Native.Nat.{ℕ, zero, suc, ◌+◌, ◌*◌, ◌/◌, ◌≤◌, ◌<◌}
use mathlib.Core.Bool.{Bool, true, false, not, cond}
use mathlib.Core.Path.{◌≡◌, refl, ap, ap₂, sym, ◌∙◌, subst, fun_ext}
use mathlib.Core.Logic.{◌≢◌}
use mathlib.Core.List.{List, [], ◌∷◌}
use native.Mathlib.Omega.{arith}
use native.Mathlib.Nat.{suc-mul}
use lib.ListN.{length, set, length-set}
use lib.Seq.{get_or-set_same, get_or-set_other}
use lib.Arith.{digits_lt, digits_div}
use lib.Dec.{eqb}
use borrow.Author.Tests.{eq-eqb, ne_eqb, eqb-true}
use Rattle.model.specs.Lists.{mask}
use Rattle.model.specs.Memory.{at, is_not_zero, group_mask, standing}
use Rattle.laws.specs.Tests.{clash, cond_cases, same, other, decide}
use Rattle.laws.specs.ListLaws.{map-from-alike}
use Rattle.laws.specs.Elements.{Each}
use Rattle.masks.specs.Bits.{width, without_bit}
use Rattle.masks.proofs.BitLaws.{without_bit-from, without_bit-zero}
use Rattle.mask_tree.specs.Tree.{Level, Masked, Apart, Inside, Rung, levels, mask_at, Climbs, cleared, cleared_up, Cleared, but}
use Rattle.mask_tree.specs.Tree.{standing_at, standing_mask, raised_to, raised_up, Stacked}

-- ---- levels

-- a word is no mask of a level
abbrev pub Off : ℕ → Level → Type 0
Off a l = (g : ℕ) → g < l.count → a ≢ l.first + g

-- a mask of l is none of the levels that are apart from l
off-each : (l : Level) (ks : List Level) → Apart (l ∷ ks) → (g : ℕ) → g < l.count → Each (Off (l.first + g)) ks
off-each l [] h g b = tt
off-each l (k ∷ ks) h g b = (λ c d. h.0.0 g c b d, off-each l ks (h.0.1, h.1.1) g b)

-- the masks of the level l are those of the flags f
abbrev pub LevelMasked : List ℕ → Level → (ℕ → Bool) → Type 0
LevelMasked m l f = (g : ℕ) → g < l.count → at m (l.first + g) ≡ group_mask l.wide f g

pub masked-alike : (m : List ℕ) (ls : List Level) (f h : ℕ → Bool) → ((i : ℕ) → f i ≡ h i) → Masked m ls f → Masked m ls h
masked-alike m ls f h e = subst (Masked m ls) (fun_ext e)

-- a store elsewhere
masked-set : (m : List ℕ) (a x : ℕ) (ls : List Level) (f : ℕ → Bool) → Each (Off a) ls → Masked m ls f → Masked (set m a x) ls f
masked-set m a x [] f o k = tt
masked-set m a x (l ∷ ls) f o k =
    (λ g b. get_or-set_other m a (l.first + g) x 0 (λ e. o.0 g b (sym e)) ∙ k.0 g b, masked-set m a x ls (standing l.wide f) o.1 k.1)

inside-kept : (m n : List ℕ) (ls : List Level) → length n ≡ length m → Inside m ls → Inside n ls
inside-kept m n ls e h = subst (λ (c : ℕ). Each (λ (l : Level). l.first + l.count ≤ c) ls) (sym e) h

-- ---- the flags but one, group by group

module _ (w : ℕ) (f : ℕ → Bool) (i g p : ℕ) (there : i ≡ g * w + p) (inside : p < w) (fits : w ≤ width) where
  eqb-place : (q : ℕ) → eqb (g * w + q) i ≡ eqb q p
  eqb-place q =
      elim (decide q p) [
        | same e t u ↦ eq-eqb (g * w + q) i (omega (arith, there, e)) ∙ sym t
        | other e t u ↦ ne_eqb (g * w + q) i (λ z. e (omega (arith, there, z))) ∙ sym t
      ]

  -- the flag's own group loses its bit
  but-here : group_mask w (but i f) g ≡ without_bit p (group_mask w f g)
  but-here =
      sym (without_bit-from (λ (q : ℕ). f (g * w + q)) (λ (q : ℕ). but i f (g * w + q)) w p fits inside
      (λ q. ap (λ (b : Bool). cond b false (f (g * w + q))) (eqb-place q)))

  -- all other groups stay
  but-else : (k : ℕ) → k ≢ g → group_mask w (but i f) k ≡ group_mask w f k
  but-else k n =
      ap mask (map-from-alike _ _ 0 w
      (λ q a b. ap (λ (t : Bool). cond t false (f (k * w + q))) (ne_eqb (k * w + q) i
      (λ z. n (sym (digits_div k {m = w} {r = q} (omega arith)) ∙ ap (λ (x : ℕ). x / w) (z ∙ there) ∙ digits_div g inside)))))

  -- the level above: its flag of the group goes with the last bit
  standing-gone : without_bit p (group_mask w f g) ≡ 0 → (k : ℕ) → but g (standing w f) k ≡ standing w (but i f) k
  standing-gone z k =
      elim (decide k g) [
        | same e t u ↦
            ap (λ (b : Bool). cond b false (standing w f k)) t
            ∙ sym (ap (standing w (but i f)) e ∙ ap is_not_zero (but-here ∙ z))
        | other e t u ↦ ap (λ (b : Bool). cond b false (standing w f k)) t ∙ sym (ap is_not_zero (but-else k e))
      ]

  -- and stays while one is left
  standing-left : without_bit p (group_mask w f g) ≢ 0 → (k : ℕ) → standing w f k ≡ standing w (but i f) k
  standing-left n k =
      elim (decide k g) [
        | same e t u ↦
            ap (standing w f) e
            ∙ ap not (ne_eqb (group_mask w f g) 0 (λ z. n (ap (without_bit p) z ∙ without_bit-zero p (omega arith))))
            ∙ sym (ap (standing w (but i f)) e ∙ ap not (ne_eqb (group_mask w (but i f) g) 0 (λ z. n (sym but-here ∙ z))))
        | other e t u ↦ sym (ap is_not_zero (but-else k e))
      ]

-- ---- a bit cleared

pub length-cleared_up : (m : List ℕ) (rs : List Rung) → length (cleared_up m rs) ≡ length m
unfolding cleared_up
length-cleared_up m [] = refl
length-cleared_up m (r ∷ rs) =
    let x : ℕ = without_bit r.place (at m (mask_at r)) in
    let n = set m (mask_at r) x in
    cond_cases (λ (y : List ℕ). length y ≡ length m) (eqb x 0) (λ t. length-cleared_up n rs ∙ length-set m (mask_at r) x) (λ t. length-set m (mask_at r) x)

-- a word that is the mask of no rung
pub cleared_up-else : (m : List ℕ) (rs : List Rung) (a : ℕ) → Each (λ r. a ≢ mask_at r) rs → at (cleared_up m rs) a ≡ at m a
unfolding cleared_up
cleared_up-else m [] a o = refl
cleared_up-else m (r ∷ rs) a o =
    let x : ℕ = without_bit r.place (at m (mask_at r)) in
    let n = set m (mask_at r) x in
    let e : at n a ≡ at m a = get_or-set_other m (mask_at r) a x 0 o.0 in
    cond_cases (λ (y : List ℕ). at y a ≡ at m a) (eqb x 0) (λ t. cleared_up-else n rs a o.1 ∙ e) (λ t. e)

-- a word that is no mask of the levels is the mask of no rung
off-rungs : (a i : ℕ) (rs : List Rung) → Climbs i rs → Each (Off a) (levels rs) → Each (λ r. a ≢ mask_at r) rs
off-rungs a i [] c o = tt
off-rungs a i (r ∷ rs) c o = (o.0 r.group c.3, off-rungs a r.group rs c.4 o.1)

-- one level
module _ (f : ℕ → Bool) (m : List ℕ) (i : ℕ) (r : Rung) (rs : List Rung) (c : Climbs i (r ∷ rs)) (o : Apart (levels (r ∷ rs))) (s : Inside m (levels (r ∷ rs)))
    (k : Masked m (levels (r ∷ rs)) f) where
  abbrev l : Level
  l = r.level

  abbrev left : ℕ
  left = without_bit r.place (at m (mask_at r))

  abbrev n : List ℕ
  n = cleared m (mask_at r) r.place

  left-of : left ≡ without_bit r.place (group_mask l.wide f r.group)
  left-of = ap (without_bit r.place) (k.0 r.group c.3)

  level-masked : LevelMasked n l (but i f)
  level-masked g b =
      elim (decide g r.group) [
        | same e t u ↦
            ap (λ (h : ℕ). at n (l.first + h)) e
            ∙ get_or-set_same m (mask_at r) left 0 (omega (arith, s.0, c.3))
            ∙ left-of
            ∙ sym (ap (group_mask l.wide (but i f)) e ∙ but-here l.wide f i r.group r.place c.0 c.1 c.2)
        | other e t u ↦
            get_or-set_other m (mask_at r) (l.first + g) left 0 (λ z. e (omega (arith, z)))
            ∙ k.0 g b
            ∙ sym (but-else l.wide f i r.group r.place c.0 c.1 c.2 g e)
      ]

  above-masked : Masked n (levels rs) (standing l.wide f)
  above-masked = masked-set m (mask_at r) left (levels rs) (standing l.wide f) (off-each l (levels rs) o r.group c.3) k.1

  -- the mask became 0, and the levels above followed
  level-gone : left ≡ 0 → Masked (cleared_up n rs) (levels rs) (but r.group (standing l.wide f)) → Masked (cleared_up n rs) (levels (r ∷ rs)) (but i f)
  level-gone z h = (
    λ g b. cleared_up-else n rs (l.first + g) (off-rungs (l.first + g) r.group rs c.4 (off-each l (levels rs) o g b)) ∙ level-masked g b,
    masked-alike (cleared_up n rs) (levels rs) _ _ (standing-gone l.wide f i r.group r.place c.0 c.1 c.2 (sym left-of ∙ z)) h,
  )

  -- a bit of it is left
  level-left : left ≢ 0 → Masked n (levels (r ∷ rs)) (but i f)
  level-left z = (
    level-masked,
    masked-alike n (levels rs) _ _ (standing-left l.wide f i r.group r.place c.0 c.1 c.2 (λ e. z (left-of ∙ e))) above-masked,
  )

pub cleared_up-masked : (f : ℕ → Bool) (m : List ℕ) (i : ℕ) (rs : List Rung)
    → Climbs i rs → Apart (levels rs) → Inside m (levels rs) → Masked m (levels rs) f → Masked (cleared_up m rs) (levels rs) (but i f)
unfolding cleared_up
cleared_up-masked f m i [] c o s k = tt
cleared_up-masked f m i (r ∷ rs) c o s k =
    let x : ℕ = without_bit r.place (at m (mask_at r)) in
    let n = set m (mask_at r) x in
    cond_cases (λ (y : List ℕ). Masked y (levels (r ∷ rs)) (but i f)) (eqb x 0)
    (λ t.
    level-gone f m i r rs c o s k (eqb-true x 0 t)
    (cleared_up-masked (standing r.level.wide f) n r.group rs c.4 o.1
    (inside-kept m n (levels rs) (length-set m (mask_at r) x) s.1)
    (above-masked f m i r rs c o s k)))
    (λ t. level-left f m i r rs c o s k (λ e. clash (eq-eqb x 0 e) t))

-- ---- the climb, a level at a time: a bit was cleared at a, and it goes on while the mask is 0

module _ (m n : List ℕ) (r : Rung) (rs : List Rung) (a : ℕ) (b : Bool) (e : a ≡ mask_at r) (c : Cleared m a r.place b n) where
  first : n ≡ cleared m (mask_at r) r.place
  first = c.memory ∙ ap (λ (i : ℕ). cleared m i r.place) e

  last : b ≡ eqb (without_bit r.place (at m (mask_at r))) 0
  last = c.last ∙ ap (λ (i : ℕ). eqb (without_bit r.place (at m i)) 0) e

  by : cond b (cleared_up n rs) n ≡ cleared_up m (r ∷ rs)
  unfolding cleared_up
  by = ap₂ (λ (d : Bool) (x : List ℕ). cond d (cleared_up x rs) x) last first

  pub climb-goes : b ≡ true → (x : List ℕ) → x ≡ cleared_up n rs → x ≡ cleared_up m (r ∷ rs)
  climb-goes t x q = q ∙ ap (λ (d : Bool). cond d (cleared_up n rs) n) (sym t) ∙ by

  pub climb-ends : b ≡ false → n ≡ cleared_up m (r ∷ rs)
  climb-ends t = ap (λ (d : Bool). cond d (cleared_up n rs) n) (sym t) ∙ by

  -- at the highest level
  pub climb-top : rs ≡ [] → n ≡ cleared_up m (r ∷ rs)
  unfolding cleared_up
  climb-top t = go b ∙ ap (λ (xs : List Rung). cond b (cleared_up n xs) n) (sym t) ∙ by
    where
      go : (d : Bool) → n ≡ cond d (cleared_up n []) n
      go true = refl
      go false = refl

-- ---- masks set by those below them

pub length-raised_to : (m : List ℕ) (b : ℕ) (l : Level) (n : ℕ) → length (raised_to m b l n) ≡ length m
unfolding raised_to
length-raised_to m b l zero = refl
length-raised_to m b l (suc n) = length-set (raised_to m b l n) (l.first + n) _ ∙ length-raised_to m b l n

-- a word that is no mask of the level
pub raised_to-else : (m : List ℕ) (b : ℕ) (l : Level) (n a : ℕ) → ((g : ℕ) → g < n → a ≢ l.first + g) → at (raised_to m b l n) a ≡ at m a
unfolding raised_to
raised_to-else m b l zero a o = refl
raised_to-else m b l (suc n) a o =
    get_or-set_other (raised_to m b l n) (l.first + n) a _ 0 (o n (omega arith)) ∙ raised_to-else m b l n a (λ g h. o g (omega arith))

-- each of the first n masks is that of the masks below it, where none of those below is one of them
pub raised_to-there : (m : List ℕ) (b : ℕ) (l : Level) (n : ℕ) → l.first + n ≤ length m
    → ((h k : ℕ) → h < n * l.wide → k < n → b + h ≢ l.first + k)
    → (g : ℕ) → g < n → at (raised_to m b l n) (l.first + g) ≡ standing_mask m (b + g * l.wide) l.wide
unfolding raised_to
raised_to-there m b l zero s o g h = absurd (omega arith)
raised_to-there m b l (suc n) s o g h =
    elim (decide g n) [
      | same e t u ↦
          ap (λ (i : ℕ). at (set x (l.first + n) v) (l.first + i)) e
          ∙ get_or-set_same x (l.first + n) v 0 (omega (arith, length-raised_to m b l n))
          ∙ as_it_was
          ∙ ap (λ (i : ℕ). standing_mask m (b + i * l.wide) l.wide) (sym e)
      | other e t u ↦
          get_or-set_other x (l.first + n) (l.first + g) v 0 (λ z. e (omega (arith, z)))
          ∙ raised_to-there m b l n (omega arith) (λ i k p q. o i k (omega (arith, suc-mul n l.wide)) (omega arith)) g (omega arith)
    ]
  where
    x : List ℕ
    x = raised_to m b l n

    v : ℕ
    v = standing_mask x (b + n * l.wide) l.wide

    -- the masks below have not changed
    as_it_was : v ≡ standing_mask m (b + n * l.wide) l.wide
    as_it_was =
        ap mask (map-from-alike (standing_at x (b + n * l.wide)) (standing_at m (b + n * l.wide)) 0 l.wide
        (λ p a c. ap is_not_zero (raised_to-else m b l n (b + n * l.wide + p)
        (λ k d e. o (n * l.wide + p) k (omega (arith, suc-mul n l.wide)) (omega arith) (omega (arith, e))))))

pub length-raised_up : (m : List ℕ) (l : Level) (ks : List Level) → length (raised_up m l ks) ≡ length m
unfolding raised_up
length-raised_up m l [] = refl
length-raised_up m l (k ∷ ks) = length-raised_up (raised_to m l.first k k.count) k ks ∙ length-raised_to m l.first k k.count

-- a word that is no mask of the levels above l
pub raised_up-else : (m : List ℕ) (l : Level) (ks : List Level) (a : ℕ) → Each (Off a) ks → at (raised_up m l ks) a ≡ at m a
unfolding raised_up
raised_up-else m l [] a o = refl
raised_up-else m l (k ∷ ks) a o = raised_up-else (raised_to m l.first k k.count) k ks a o.1 ∙ raised_to-else m l.first k k.count a o.0

-- one level: k's masks are those of the flags that l's masks stand for
module _ (f : ℕ → Bool) (m : List ℕ) (l k : Level) (full : k.count * k.wide ≡ l.count)
    (apart : (g h : ℕ) → g < l.count → h < k.count → l.first + g ≢ k.first + h) (inside : k.first + k.count ≤ length m) (masked : LevelMasked m l f) where
  raised-masked : LevelMasked (raised_to m l.first k k.count) k (standing l.wide f)
  raised-masked g h =
      raised_to-there m l.first k k.count inside (λ i j p q. apart i j (omega (arith, full)) q) g h
      ∙ ap mask (map-from-alike _ _ 0 k.wide
      (λ p a b. ap is_not_zero
      (ap (at m) (let e : l.first + g * k.wide + p ≡ l.first + (g * k.wide + p) = omega arith in e)
      ∙ masked (g * k.wide + p) (let d = digits_lt {q = g} {m = k.count} {r = p} {c = k.wide} h (omega arith) in omega (arith, full)))))

pub raised_up-masked : (f : ℕ → Bool) (m : List ℕ) (l : Level) (ks : List Level)
    → Stacked l ks → Apart (l ∷ ks) → Inside m (l ∷ ks) → LevelMasked m l f → Masked (raised_up m l ks) (l ∷ ks) f
unfolding raised_up
raised_up-masked f m l [] t o s k = (k, tt)
raised_up-masked f m l (j ∷ ks) t o s k =
    let n = raised_to m l.first j j.count in (
      λ g b. raised_up-else m l (j ∷ ks) (l.first + g) (off-each l (j ∷ ks) o g b) ∙ k g b,
      raised_up-masked (standing l.wide f) n j ks t.1 o.1
          (inside-kept m n (j ∷ ks) (length-raised_to m l.first j j.count) s.1)
          (raised-masked f m l j t.0 o.0.0 s.1.0 k),
    )
