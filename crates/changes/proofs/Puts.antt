-- Laws of `put`, by which stores are values of fields, and of values with other links or heads.
use Prim.Native.Nat.{ℕ, zero, suc, ◌<◌}
use mathlib.Core.Bool.{Bool, true, false, cond, ◌&&◌}
use mathlib.Core.Path.{◌≡◌, refl, ap, ap₂, sym, ◌∙◌}
use mathlib.Core.List.{List}
use lib.Dec.{eqb}
use borrow.Author.Tests.{eqb-true}
use Rattle.model.specs.State.{Sizes}
use Rattle.model.specs.Layout.{chain_count}
use Rattle.laws.specs.Tests.{and-true, same, other, decide}
use Rattle.representation.proofs.Addresses.Fields.{Field, top, head, end, mask, lane, slot, yard, Inside, area, row, column, same_field}
use Rattle.representation.proofs.Addresses.Writes.{Writes, put}

-- ---- the same field

-- area, row and column tell the field
field_at : ℕ → ℕ → ℕ → Field
field_at zero i k = top k
field_at (suc zero) i k = head i
field_at (suc (suc zero)) i k = end k
field_at (suc (suc (suc zero))) i k = mask i
field_at (suc (suc (suc (suc zero)))) i k = lane i k
field_at (suc (suc (suc (suc (suc zero))))) i k = slot i k
field_at (suc (suc (suc (suc (suc (suc n)))))) i k = yard i

field_at-field : (f : Field) → field_at (area f) (row f) (column f) ≡ f
unfolding field_at
field_at-field (top k) = refl
field_at-field (head k) = refl
field_at-field (end k) = refl
field_at-field (mask c) = refl
field_at-field (lane i k) = refl
field_at-field (slot i k) = refl
field_at-field (yard y) = refl

pub same_field-same : (f g : Field) → same_field f g ≡ true → f ≡ g
same_field-same f g e =
    let t = and-true (eqb (area f) (area g) && eqb (column f) (column g)) (eqb (row f) (row g)) e in
    let u = and-true (eqb (area f) (area g)) (eqb (column f) (column g)) t.0 in
    sym (field_at-field f)
    ∙ ap (λ (a : ℕ). field_at a (row f) (column f)) (eqb-true (area f) (area g) u.0)
    ∙ ap₂ (field_at (area g)) (eqb-true (row f) (row g) t.1) (eqb-true (column f) (column g) u.1)
    ∙ field_at-field g

-- ---- put

-- what is put there already
pub put_same : (v : Field → ℕ) (g : Field) (x : ℕ) → v g ≡ x → (f : Field) → put v g x f ≡ v f
put_same v g x e f = go (same_field f g) refl
  where
    go : (b : Bool) → same_field f g ≡ b → cond b x (v f) ≡ v f
    go true t = sym (ap v (same_field-same f g t) ∙ e)
    go false t = refl

-- over values that agree
pub put-over : (v w : Field → ℕ) (g : Field) (x : ℕ) (f : Field) → v f ≡ w f → put v g x f ≡ put w g x f
put-over v w g x f e = ap (cond (same_field f g) x) e

-- ---- one column of the slots, and the chain heads

-- the values v, with h in column c of the slots
abbrev pub linked : ℕ → (ℕ → ℕ) → (Field → ℕ) → Field → ℕ
linked c h v (top k) = v (top k)
linked c h v (head k) = v (head k)
linked c h v (end k) = v (end k)
linked c h v (mask k) = v (mask k)
linked c h v (lane i k) = v (lane i k)
linked c h v (yard y) = v (yard y)
linked c h v (slot i k) = cond (eqb k c) (h i) (v (slot i k))

module _ (z : Sizes) (c : ℕ) where
  pub linked-alike : (h k : ℕ → ℕ) (v : Field → ℕ) → ((j : ℕ) → j < z.slots → h j ≡ k j) → (f : Field) → Inside z f → linked c h v f ≡ linked c k v f
  linked-alike h k v e (top i) b = refl
  linked-alike h k v e (head i) b = refl
  linked-alike h k v e (end i) b = refl
  linked-alike h k v e (mask i) b = refl
  linked-alike h k v e (lane j i) b = refl
  linked-alike h k v e (yard y) b = refl
  linked-alike h k v e (slot j i) b = ap (λ (x : ℕ). cond (eqb i c) x (v (slot j i))) (e j b.0)

  -- nothing else than stood there
  pub linked-same : (h : ℕ → ℕ) (v : Field → ℕ) → ((j : ℕ) → j < z.slots → h j ≡ v (slot j c)) → (f : Field) → Inside z f → linked c h v f ≡ v f
  linked-same h v e (top k) b = refl
  linked-same h v e (head k) b = refl
  linked-same h v e (end k) b = refl
  linked-same h v e (mask k) b = refl
  linked-same h v e (lane j k) b = refl
  linked-same h v e (yard y) b = refl
  linked-same h v e (slot j k) b =
      elim (decide k c) [
        | same q t u ↦ rw t (e j b.0 ∙ ap (λ (k : ℕ). v (slot j k)) (sym q))
        | other q t u ↦ rw t
      ]

  -- one of them put
  pub linked-put : (h k : ℕ → ℕ) (v : Field → ℕ) (i x : ℕ) → ((j : ℕ) → j < z.slots → h j ≡ cond (eqb j i) x (k j))
      → (f : Field) → Inside z f → linked c h v f ≡ put (linked c k v) (slot i c) x f
  linked-put h k v i x e (top j) b = refl
  linked-put h k v i x e (head j) b = refl
  linked-put h k v i x e (end j) b = refl
  linked-put h k v i x e (mask j) b = refl
  linked-put h k v i x e (lane j l) b = refl
  linked-put h k v i x e (yard y) b = refl
  linked-put h k v i x e (slot j l) b =
      elim (decide l c) [
        | same q t u ↦ rw t (e j b.0)
        | other q t u ↦ rw t
      ]

  pub linked-put-one : (h : ℕ → ℕ) (v : Field → ℕ) (i x : ℕ) → ((j : ℕ) → j < z.slots → h j ≡ cond (eqb j i) x (v (slot j c)))
      → (f : Field) → Inside z f → linked c h v f ≡ put v (slot i c) x f
  linked-put-one h v i x e f b =
      linked-put h (λ j. v (slot j c)) v i x e f b
      ∙ put-over (linked c (λ j. v (slot j c)) v) v (slot i c) x f (linked-same (λ j. v (slot j c)) v (λ j b. refl) f b)

-- the values v, with the chain heads h
abbrev pub headed : (ℕ → ℕ) → (Field → ℕ) → Field → ℕ
headed h v (top k) = v (top k)
headed h v (head k) = h k
headed h v (end k) = v (end k)
headed h v (mask k) = v (mask k)
headed h v (lane i k) = v (lane i k)
headed h v (slot i k) = v (slot i k)
headed h v (yard y) = v (yard y)

module _ (z : Sizes) (h : ℕ → ℕ) (v : Field → ℕ) where
  pub headed-same : ((j : ℕ) → j < chain_count → h j ≡ v (head j)) → (f : Field) → Inside z f → headed h v f ≡ v f
  headed-same e (top k) b = refl
  headed-same e (head k) b = e k b
  headed-same e (end k) b = refl
  headed-same e (mask k) b = refl
  headed-same e (lane j k) b = refl
  headed-same e (slot j k) b = refl
  headed-same e (yard y) b = refl

  -- one of them put
  pub headed-put : (i x : ℕ) → ((j : ℕ) → j < chain_count → h j ≡ cond (eqb j i) x (v (head j))) → (f : Field) → Inside z f → headed h v f ≡ put v (head i) x f
  headed-put i x e (top k) b = refl
  headed-put i x e (head k) b = e k b
  headed-put i x e (end k) b = refl
  headed-put i x e (mask k) b = refl
  headed-put i x e (lane j k) b = refl
  headed-put i x e (slot j k) b = refl
  headed-put i x e (yard y) b = refl

-- ---- stores, by other values that agree
pub writes-alike : {z : Sizes} {m n : List ℕ} {v : Field → ℕ} (w : Field → ℕ) → ((f : Field) → Inside z f → v f ≡ w f) → Writes z m n v → Writes z m n w
writes-alike w e p = record { long = p.long; image = λ f b. p.image f b ∙ e f b; beyond = p.beyond }
