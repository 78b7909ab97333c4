-- A list in cells of a fixed number: the first are the list, and the others are blank, so that the cells say no more than the list.
use Prim.Native.Nat.{ℕ, ◌+◌, ◌-◌, ◌≤◌, ◌<◌}
use mathlib.Core.List.{List, ◌++◌}
use mathlib.Core.Path.{◌≡◌, sym, ap, ◌∙◌}
use native.Mathlib.Omega.{arith}
use lib.ListN.{length, take, drop, set, replicate, length-set}
use lib.Seq.{drop-drop}
use Rattle.std.proofs.lemmas.List.{take-append-drop, length-take-le, drop-replicate, drop-set-lt}

module _ {T : Type 0} where
  -- the first n of the N cells are in use, and the others are blank
  pub record Padded (N : ℕ) (blank : T) (cells : List T) (n : ℕ) : Type 0 where
    pub fits : n ≤ N
    pub count : length cells ≡ N
    pub rest : drop n cells ≡ replicate (N - n) blank

module _ {T : Type 0} {N : ℕ} {blank : T} {cells : List T} {n : ℕ} (p : Padded N blank cells n) where
  pub length_back : length (take n cells) ≡ n
  length_back = length-take-le n cells (omega (arith, p.fits, p.count))

  -- the list gives the cells back
  pub cells_back : take n cells ++ replicate (N - length (take n cells)) blank ≡ cells
  cells_back =
      ap (λ (k : ℕ). take n cells ++ replicate (N - k) blank) length_back
      ∙ ap (λ (l : List T). take n cells ++ l) (sym p.rest)
      ∙ take-append-drop n cells

  -- one element more
  pub pushed : (x : T) → n < N → Padded N blank (set cells n x) (n + 1)
  pushed x h = record {
    fits = omega (arith, h);
    count = length-set cells n x ∙ p.count;
    rest =
        drop-set-lt (n + 1) cells n x (omega arith)
        ∙ sym (drop-drop 1 n cells)
        ∙ ap (drop 1) p.rest
        ∙ drop-replicate 1 (N - n) blank
        ∙ ap (λ (k : ℕ). replicate k blank) (omega arith);
  }
