-- A tree of masks in lent words: levels of masks, the lowest first, in which a bit of a level stands for a mask of the level below. Any number of levels,
-- each of any width up to 32; where the masks stand is the caller's.
use Rattle.std.specs.Prelude.{ℕ, zero, suc, ◌+◌, ◌*◌, ◌≤◌, ◌<◌, Bool, false, cond, ◌≡◌, ◌≢◌, List, [], ◌∷◌, map, length, set, eqb}
use Rattle.model.specs.Lists.{from, mask}
use Rattle.model.specs.Memory.{at, is_not_zero, group_mask, standing}
use Rattle.laws.specs.Elements.{Each}
use Rattle.masks.specs.Bits.{width, without_bit}
use Rattle.mask_tree.specs.declared.Level as code

-- a level: `count` masks, which stand from `first` on, of `wide` flags each
pub record Level : Type 0 where
  pub first : ℕ
  pub wide : ℕ
  pub count : ℕ

abbrev pub level_of : code.Level → Level
level_of l = record { first = l.first; wide = l.wide; count = l.count }

-- the masks of these levels are those of the flags f of the lowest
abbrev pub Masked : List ℕ → List Level → (ℕ → Bool) → Type 0
Masked m [] f = Unit {0}
Masked m (l ∷ ls) f = ((g : ℕ) → g < l.count → at m (l.first + g) ≡ group_mask l.wide f g) × Masked m ls (standing l.wide f)

-- no word is a mask of two levels, and all masks are lent
abbrev pub Apart : List Level → Type 0
Apart [] = Unit {0}
Apart (l ∷ ls) = Each (λ (k : Level). (g h : ℕ) → g < l.count → h < k.count → l.first + g ≢ k.first + h) ls × Apart ls

abbrev pub Inside : List ℕ → List Level → Type 0
Inside m ls = Each (λ (l : Level). l.first + l.count ≤ length m) ls

-- ---- a bit cleared

-- a bit: place p of mask `group` of a level
pub record Rung : Type 0 where
  pub level : Level
  pub group : ℕ
  pub place : ℕ

abbrev pub levels : List Rung → List Level
levels rs = map (λ (r : Rung). r.level) rs

abbrev pub mask_at : Rung → ℕ
mask_at r = r.level.first + r.group

-- the bits from flag i of the lowest level up: each is that of the mask below it
abbrev pub Climbs : ℕ → List Rung → Type 0
Climbs i [] = Unit {0}
Climbs i (r ∷ rs) =
    (i ≡ r.group * r.level.wide + r.place) × (r.place < r.level.wide) × (r.level.wide ≤ width) × (r.group < r.level.count) × Climbs r.group rs

-- one bit cleared
abbrev pub cleared : List ℕ → ℕ → ℕ → List ℕ
cleared m a p = set m a (without_bit p (at m a))

-- the bit goes; with the last of its mask the bit above it goes, and so on, as far up as masks become 0
unfoldable pub cleared_up : List ℕ → List Rung → List ℕ
cleared_up m [] = m
cleared_up m (r ∷ rs) =
    let n = cleared m (mask_at r) r.place in
    cond (eqb (without_bit r.place (at m (mask_at r))) 0) (cleared_up n rs) n

-- the flags f but flag i
abbrev pub but : ℕ → (ℕ → Bool) → ℕ → Bool
but i f j = cond (eqb j i) false (f j)

-- what the function that clears one bit does: the memory is n afterwards, and r says whether the mask is 0
pub record Cleared (m : List ℕ) (a p : ℕ) (r : Bool) (n : List ℕ) : Type 0 where
  pub memory : n ≡ cleared m a p
  pub last : r ≡ eqb (without_bit p (at m a)) 0

-- ---- masks set by those below them

-- whether the p-th of the words from a on is not 0, and the mask of w of them
abbrev pub standing_at : List ℕ → ℕ → ℕ → Bool
standing_at m a p = is_not_zero (at m (a + p))

abbrev pub standing_mask : List ℕ → ℕ → ℕ → ℕ
standing_mask m a w = mask (map (standing_at m a) (from 0 w))

-- the mask of the first n of these words
abbrev pub mask_of : List ℕ → ℕ → ℕ
mask_of ws n = mask (map (λ (p : ℕ). is_not_zero (at ws p)) (from 0 n))

-- the first n masks of a level, by those of the level below, which stand from b on
unfoldable pub raised_to : List ℕ → ℕ → Level → ℕ → List ℕ
raised_to m b l zero = m
raised_to m b l (suc n) = let x = raised_to m b l n in set x (l.first + n) (standing_mask x (b + n * l.wide) l.wide)

-- all levels above l
unfoldable pub raised_up : List ℕ → Level → List Level → List ℕ
raised_up m l [] = m
raised_up m l (k ∷ ks) = raised_up (raised_to m l.first k k.count) k ks

-- a level has a bit for each mask of the one below
abbrev pub Stacked : Level → List Level → Type 0
Stacked l [] = Unit {0}
Stacked l (k ∷ ks) = (k.count * k.wide ≡ l.count) × Stacked k ks
