-- What the functions leave, by what their callees answer.
use Prim.Native.Nat.{ℕ, suc, ◌+◌, ◌*◌, ◌≤◌, ◌<◌}
use mathlib.Core.Path.{◌≡◌, ap, sym, ◌∙◌}
use mathlib.Core.List.{List}
use native.Mathlib.Omega.{arith}
use native.Mathlib.Nat.{suc-mul, mul-le-mul_right}
use lib.ListN.{length, set, take, drop}
use Rattle.std.proofs.lemmas.List.{length-take, length-drop}
use Rattle.model.specs.Lists.{mask}
use Rattle.model.specs.Memory.{at, is_not_zero}
use Rattle.laws.specs.ListLaws.{map-from-alike}
use Rattle.laws.specs.Stores.{get_or_part}
use Rattle.mask_tree.specs.Tree.{Level, standing_at, standing_mask, mask_of, raised_to}

-- ---- a level's masks, one after another

-- the masks below mask g are masks of the level below
pub group-within : (g n w : ℕ) → g < n → g * w + w ≤ n * w
group-within g n w h = omega (arith, suc-mul g w, mul-le-mul_right {m = suc g} {n = n} w h)

-- the mask of a part of the words, which begins at a
part-mask : (m : List ℕ) (a w k : ℕ) → k ≡ w → a + w ≤ length m
    → mask_of (take k (drop a m)) (length (take k (drop a m))) ≡ standing_mask m a w
part-mask m a w k e h =
    let l : length (take k (drop a m)) ≡ w = omega (arith, length-take k (drop a m), length-drop a m) in
    ap (mask_of (take k (drop a m))) l
    ∙ ap mask (map-from-alike (λ (p : ℕ). is_not_zero (at (take k (drop a m)) p)) (standing_at m a) 0 w
    (λ p b c. ap is_not_zero (get_or_part m a k p 0 (omega arith))))

-- n is m with the first g masks set, and x is the next
pub raised-on : (m : List ℕ) (b : ℕ) (l : Level) (n : List ℕ) (g k x : ℕ) → n ≡ raised_to m b l g → k ≡ l.wide → b + g * l.wide + l.wide ≤ length n
    → x ≡ mask_of (take k (drop (b + g * l.wide) n)) (length (take k (drop (b + g * l.wide) n)))
    → set n (l.first + g) x ≡ raised_to m b l (g + 1)
unfolding raised_to
raised-on m b l n g k x e w h q =
    let next : g + 1 ≡ suc g = omega arith in
    ap (set n (l.first + g)) (q ∙ part-mask n (b + g * l.wide) l.wide k w h)
    ∙ ap (λ (y : List ℕ). set y (l.first + g) (standing_mask y (b + g * l.wide) l.wide)) e
    ∙ ap (raised_to m b l) (sym next)
