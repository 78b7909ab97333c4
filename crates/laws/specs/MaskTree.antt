-- Masks over masks: flags by groups, a flag of the next level a group, and so on, for any number of levels and any width of each. `ws` are the widths of the
-- levels, the lowest first; a flag of the highest stands for `span ws` of the lowest. By one induction over the levels: a flag stands exactly while one of the
-- lowest below it does, those are counted by the ones of the lowest masks, and the first of them is found by the lowest bit of a mask a level.
use Rattle.std.specs.Prelude.{ℕ, ◌+◌, ◌*◌, ◌≤◌, ◌<◌, Bool, true, false, not, ◌≡◌, List, [], ◌∷◌, map, length, get_or}
use Rattle.std.proofs.Math.Path.{ap, sym}
use Rattle.std.proofs.Common.{◌∙◌, arith, add-mul, mul_assoc, mul_comm}
use Rattle.std.proofs.lemmas.List.{length-map}
use Rattle.std.specs.Int.Count.{ones, count_trailing_zeros}
use Rattle.model.specs.Word.{word_bits}
use Rattle.model.specs.Lists.{any, concat, from, mask}
use Rattle.model.specs.Memory.{group_mask, standing}
use Rattle.laws.specs.Tests.{not-not}
use Rattle.laws.specs.ListLaws.{length-map-from, get_or-map-below, map-map-from, map-from-alike}
use Rattle.laws.specs.Elements.{Each, each_map}
use Rattle.laws.specs.Sums.{sum, sum-of-map}
use Rattle.laws.specs.Masks.{some, mask-zero}
use Rattle.laws.specs.MaskFlags.{trues, first_true, first_true-lt, get_or-first_true, trailing-mask}
use Rattle.laws.specs.Levels.{concat-rows, upper, some-concat, trues-concat, first_true-concat}

-- ---- a level

-- the flags of group g
abbrev pub group : ℕ → (ℕ → Bool) → ℕ → List Bool
group w f g = map (λ (p : ℕ). f (g * w + p)) (from 0 w)

pub standing-some : (w : ℕ) (f : ℕ → Bool) (g : ℕ) → standing w f g ≡ some (group w f g)
standing-some w f g = ap not (mask-zero (group w f g)) ∙ not-not (some (group w f g))

-- ---- levels, one above another

unfoldable pub span : List ℕ → ℕ
span [] = 1
span (w ∷ ws) = span ws * w

-- the flags of the highest level
unfoldable pub raised : List ℕ → (ℕ → Bool) → ℕ → Bool
raised [] f g = f g
raised (w ∷ ws) f g = raised ws (standing w f) g

-- the flags of the lowest level below flag g of the highest
abbrev pub leaves : List ℕ → (ℕ → Bool) → ℕ → List Bool
leaves ws f g = group (span ws) f g

module _ (w : ℕ) (ws : List ℕ) (f : ℕ → Bool) (g : ℕ) where
  -- group by group
  abbrev row : ℕ → List Bool
  row c = group w f (g * span ws + c)

  abbrev rows : List (List Bool)
  rows = map row (from 0 (span ws))

  -- flag p of the group's group c
  within : (c p : ℕ) → (g * span ws + c) * w + p ≡ g * (span ws * w) + (c * w + p)
  within c p = omega (arith, add-mul (g * span ws) c w, mul_assoc g (span ws) w)

  leaves-rows : leaves (w ∷ ws) f g ≡ concat rows
  unfolding span
  leaves-rows =
      sym (concat-rows (λ (i : ℕ). f (g * (span ws * w) + i)) w (span ws))
      ∙ ap concat
      (map-from-alike _ row 0 (span ws) (λ c a b. map-from-alike _ _ 0 w (λ p u v. ap f (sym (within c p)))))

  -- the level above has a flag a group
  leaves-upper : leaves ws (standing w f) g ≡ upper rows
  leaves-upper =
      map-from-alike _ (λ (c : ℕ). some (row c)) 0 (span ws) (λ c a b. standing-some w f (g * span ws + c)) ∙ sym (map-map-from some row 0 (span ws))

  length-upper : length (upper rows) ≡ span ws
  length-upper = length-map rows some ∙ length-map-from row 0 (span ws)

-- ---- a flag stands exactly while one of the lowest below it does

pub raised-some : (ws : List ℕ) (f : ℕ → Bool) (g : ℕ) → raised ws f g ≡ some (leaves ws f g)
unfolding raised span from any
raised-some [] f g = go (f g) (ap f (let e : g ≡ g * 1 + 0 = omega arith in e))
  where
    go : (b : Bool) → b ≡ f (g * 1 + 0) → b ≡ some (f (g * 1 + 0) ∷ [])
    go true e = rw (sym e)
    go false e = rw (sym e)
raised-some (w ∷ ws) f g =
    raised-some ws (standing w f) g ∙ ap some (leaves-upper w ws f g) ∙ sym (ap some (leaves-rows w ws f g) ∙ some-concat (rows w ws f g))

-- ---- counted by the lowest masks

pub trues-leaves : (w : ℕ) (ws : List ℕ) (f : ℕ → Bool) (g : ℕ)
    → trues (leaves (w ∷ ws) f g) ≡ sum (λ (c : ℕ). ones (group_mask w f (g * span ws + c))) (from 0 (span ws))
trues-leaves w ws f g =
    ap trues (leaves-rows w ws f g) ∙ trues-concat (rows w ws f g) ∙ sum-of-map (λ (r : List Bool). ones (mask r)) (row w ws f g) (from 0 (span ws))

-- ---- the first of them, from the highest mask down

unfoldable pub lowest : List ℕ → (ℕ → Bool) → ℕ → ℕ
lowest [] f g = g
lowest (w ∷ ws) f g = let k = lowest ws (standing w f) g in k * w + count_trailing_zeros word_bits (group_mask w f k)

-- each mask is a word
abbrev pub Narrow : List ℕ → Type 0
Narrow ws = Each (λ (w : ℕ). w ≤ word_bits) ws

pub lowest-first : (ws : List ℕ) → Narrow ws → (f : ℕ → Bool) (g : ℕ) → raised ws f g ≡ true → lowest ws f g ≡ g * span ws + first_true (leaves ws f g)
unfolding lowest raised span first_true from
lowest-first [] n f g h = rw (ap f (let e : g * 1 + 0 ≡ g = omega arith in e)) (rw h (omega arith))
lowest-first (w ∷ ws) n f g h = down (lowest-first ws n.1 (standing w f) g h)
  where
    us : List Bool
    us = upper (rows w ws f g)

    some-us : some us ≡ true
    some-us = ap some (sym (leaves-upper w ws f g)) ∙ sym (raised-some ws (standing w f) g) ∙ h

    -- the first group that stands
    j : ℕ
    j = first_true us

    below : j < span ws
    below = omega (arith, first_true-lt us some-us, length-upper w ws f g)

    there : get_or (rows w ws f g) j [] ≡ row w ws f g j
    there = get_or-map-below (row w ws f g) (span ws) j [] below

    some-there : some (row w ws f g j) ≡ true
    some-there =
        sym
        (ap (λ (bs : List Bool). get_or bs j false) (map-map-from some (row w ws f g) 0 (span ws))
        ∙ get_or-map-below (λ (c : ℕ). some (row w ws f g c)) (span ws) j false below)
        ∙ get_or-first_true us some-us

    length-row : (c : ℕ) → length (row w ws f g c) ≡ w
    length-row c = length-map-from (λ (p : ℕ). f ((g * span ws + c) * w + p)) 0 w

    all : first_true (leaves (w ∷ ws) f g) ≡ w * j + first_true (row w ws f g j)
    all =
        ap first_true (leaves-rows w ws f g)
        ∙ first_true-concat w (rows w ws f g) (each_map (λ r. length r ≡ w) (row w ws f g) (from 0 (span ws)) length-row) some-us
        ∙ ap (λ (r : List Bool). w * j + first_true r) there

    down : lowest ws (standing w f) g ≡ g * span ws + first_true (leaves ws (standing w f) g)
        → (let k = lowest ws (standing w f) g in k * w + count_trailing_zeros word_bits (group_mask w f k)) ≡ g * (span ws * w) + first_true (leaves (w ∷ ws) f g)
    down e =
        let q : lowest ws (standing w f) g ≡ g * span ws + j = e ∙ ap (λ (bs : List Bool). g * span ws + first_true bs) (leaves-upper w ws f g) in
        ap (λ (k : ℕ). k * w + count_trailing_zeros word_bits (group_mask w f k)) q
        ∙ omega (
          arith,
          all,
          trailing-mask word_bits (row w ws f g j) (omega (arith, length-row j, n.0)) some-there,
          within w ws f g j 0,
          mul_comm w j,
        )
