-- The table of contents: what `contents_agree` says, and the order in which the check asks it. The contents of a memory's sizes are compared with its own
-- first words.
use Prim.Native.Nat.{ℕ, ◌≤◌, ◌<◌}
use mathlib.Core.Bool.{Bool, true, false, ◌&&◌}
use mathlib.Core.Path.{◌≡◌, refl, ap, ap₂, sym, ◌∙◌}
use mathlib.Core.List.{List, [], ◌∷◌}
use lib.ListN.{length, take, replicate}
use lib.Dec.{leb, eqb}
use lib.Seq.{sets}
use lib.Pointwise.{pointwise}
use borrow.Author.Tests.{le-leb, lt-leb, leb-true}
use Rattle.model.specs.Lists.{every, same}
use Rattle.model.specs.Memory.{sizes, contents}
use Rattle.model.specs.Layout.{contents_length, total}
use Rattle.model.specs.Legal.{sizes_fit, contents_agree}
use Rattle.laws.specs.Tests.{and-true-right, every_true, decide}
use Rattle.laws.specs.Tests.Same.{same as is_same, other}
use Rattle.model.specs.State.{Sizes}
use Rattle.words.specs.declared.sizes.NamedSizes.{NamedSizes}
use Rattle.words.specs.Lent.{named, sizes_in, Lent}
use Rattle.words.proofs.LentLaws.{few-fits}

-- a test of two numbers either way round
turned : (a b : ℕ) → eqb a b ≡ eqb b a
turned a b = elim (decide a b) [ is_same e t u ↦ t ∙ sym u | other e t u ↦ t ∙ sym u ]

-- the library's test of two lists is the model's, the other way round
pointwise-same : (xs ys : List ℕ) → pointwise eqb ys xs ≡ same xs ys
unfolding same
pointwise-same [] [] = refl
pointwise-same [] (y ∷ ys) = refl
pointwise-same (x ∷ xs) [] = refl
pointwise-same (x ∷ xs) (y ∷ ys) = ap₂ ◌&&◌ (turned y x) (pointwise-same xs ys)

-- the contents of sizes, as they are written to words of 0
abbrev pub written : Sizes → List ℕ
written z = sets (replicate contents_length 0) 0 (contents z)

-- ---- the ways out of the check

module _ (m : List ℕ) where
  pub contents-short : length m < contents_length → false ≡ contents_agree m
  unfolding contents_agree every
  contents-short h = rw (lt-leb contents_length (length m) h)

  module _ (l : contents_length ≤ length m) (n : NamedSizes) (en : n ≡ sizes_in m) where
    fit : (b : Bool) → sizes_fit (named n) ≡ b → sizes_fit (sizes m) ≡ b
    fit b e = sym (ap (λ (x : NamedSizes). sizes_fit (named x)) en) ∙ e

    pub contents-unsized : sizes_fit (named n) ≡ false → false ≡ contents_agree m
    unfolding contents_agree every
    contents-unsized e = rw (le-leb contents_length (length m) l, fit false e)

    module _ (z : Sizes) (ez : z ≡ named n) (e : sizes_fit (named n) ≡ true) (ws : List ℕ) (o : ws ≡ written z) where
      read : z ≡ sizes m
      read = ez ∙ ap named en

      abbrev long : Bool
      long = leb (total (sizes m)) (length m)

      -- m begins with them
      abbrev pub begun : Bool
      begun = pointwise eqb ws (take (length ws) m)

      alike : begun ≡ same (take contents_length m) (contents (sizes m))
      unfolding contents
      alike =
          ap (λ (xs : List ℕ). pointwise eqb xs (take (length xs) m)) (o ∙ ap written read)
          ∙ pointwise-same (take contents_length m) (contents (sizes m))

      -- what is left of the sentences
      rest : (begun && long) ≡ contents_agree m
      unfolding contents_agree every
      rest =
          ap (λ (b : Bool). b && long) alike
          ∙ ap (λ (b : Bool). same (take contents_length m) (contents (sizes m)) && b) (sym (and-true-right long))
          ∙ sym (rw (le-leb contents_length (length m) l, fit true e))

      module _ (v : Bool) (k : v ≡ begun) where
        pub contents-other : v ≡ false → v ≡ contents_agree m
        contents-other h = h ∙ ap (λ (b : Bool). b && long) (sym h ∙ k) ∙ rest

        pub contents-decided : v ≡ true → (i : ℕ) → i ≡ total z → leb i (length m) ≡ contents_agree m
        contents-decided h i t =
            ap (λ (x : ℕ). leb x (length m)) (t ∙ ap total read) ∙ ap (λ (b : Bool). b && long) (sym h ∙ k) ∙ rest

  pub contents-lent : contents_agree m ≡ true → Lent m (sizes m)
  unfolding contents_agree
  contents-lent h = let e = every_true _ h in record { few = few-fits (sizes m) e.1.0; long = leb-true _ _ e.1.1.1.0 }
