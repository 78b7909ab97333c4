-- Words and states by their fields: the words of a state hold its fields, and a memory to which some fields are stored holds the words of the state
-- with those fields. A call's memory is proved by one `writes-put` a store, and its state by what each field holds.
use Prim.Native.Nat.{ℕ, ◌+◌, ◌-◌, ◌≤◌, ◌<◌}
use mathlib.Core.Bool.{Bool, true, false, cond}
use mathlib.Core.Path.{◌≡◌, refl, ap, ap₂, sym, ◌∙◌}
use mathlib.Core.List.{List, [], ◌∷◌, ◌++◌, append_assoc, append-nil}
use native.Mathlib.Omega.{arith}
use native.Mathlib.Decide.{dec_lt}
use lib.ListN.{get_or, length, set, drop, length-append, length-set, length-drop, get_or-append}
use lib.Seq.{get_or-set_other, get_or-drop, ext_get_or}
use Rattle.model.specs.Lists.{concat_map, from}
use Rattle.model.specs.State.{Sizes, cabinet_count, lane_count, State}
use Rattle.model.specs.Layout.{total}
use Rattle.model.specs.Memory.{at, words, contents, global_words, lane_mask, lane_masks, cabinet_mask, cabinet_masks, lane_words, lane_words_at, slot_words, head_of}
use Rattle.model.specs.Calls.{stored}
use Rattle.laws.specs.ListLaws.{get_or-right, concat_map-single}
use Rattle.laws.specs.Areas.{Area, extent_at, no_area, laid_out, laid_out-append, length-laid_out, get_or-laid_out}
use Rattle.representation.proofs.Addresses.Fields.{Field, top, head, end, mask, lane, slot, yard, Inside, address, value, top_words, end_words, area, row}
use Rattle.representation.proofs.Addresses.Fields.{column, layout, address-of, within_of, extent-of, address_below, place, same_field, load}

-- ---- the words of a state, field by field

module _ (s : State) where
  abbrev z : Sizes
  z = s.sizes

  -- the areas of the layout, with what they hold
  fixed_areas : List Area
  unfolding contents
  fixed_areas =
      record { place = extent_at (layout z) 0; row = λ i. top_words s; filled = λ i. refl }
      ∷ record { place = extent_at (layout z) 1; row = λ k. head_of s.table k ∷ []; filled = λ i. refl }
      ∷ record { place = extent_at (layout z) 2; row = λ i. end_words s; filled = λ i. refl }
      ∷ []

  sized_areas : List Area
  unfolding lane_words slot_words
  sized_areas =
      record { place = extent_at (layout z) 3; row = λ c. lane_mask s c ∷ []; filled = λ i. refl }
      ∷ record { place = extent_at (layout z) 4; row = lane_words_at s; filled = λ i. refl }
      ∷ record { place = extent_at (layout z) 5; row = slot_words s; filled = λ i. refl }
      ∷ record { place = extent_at (layout z) 6; row = λ y. cabinet_mask s y ∷ []; filled = λ i. refl }
      ∷ []

  words-areas : words s ≡ laid_out (fixed_areas ++ sized_areas)
  unfolding fixed_areas sized_areas words global_words concat_map from
  words-areas =
      sym
      (laid_out-append fixed_areas sized_areas
      ∙ ap₂ (λ (xs ys : List ℕ). laid_out fixed_areas ++ (xs ++ (lanes ++ (slots ++ ys)))) (concat_map-single (lane_mask s) (from 0 (cabinet_count z)))
      (append-nil _ ∙ concat_map-single (cabinet_mask s) (from 0 z.yards))
      ∙ sym
      (append_assoc (laid_out fixed_areas ++ lane_masks s ++ lanes) slots (cabinet_masks s)
      ∙ append_assoc (laid_out fixed_areas ++ lane_masks s) lanes (slots ++ cabinet_masks s)
      ∙ append_assoc (laid_out fixed_areas) (lane_masks s) (lanes ++ (slots ++ cabinet_masks s))))
    where
      lanes : List ℕ
      lanes = concat_map (lane_words_at s) (from 0 (lane_count z))

      slots : List ℕ
      slots = concat_map (slot_words s) (from 0 z.slots)

  pub length-words : length (words s) ≡ total z
  unfolding fixed_areas sized_areas
  length-words = ap length words-areas ∙ length-laid_out (fixed_areas ++ sized_areas) ∙ extent-of z

  pub words-field : (f : Field) → Inside z f → at (words s) (address z f) ≡ value s f
  unfolding fixed_areas sized_areas
  words-field f h =
      ap₂ at words-areas (address-of z f) ∙ get_or-laid_out (fixed_areas ++ sized_areas) (area f) (row f) (column f) (within_of z f h) ∙ held f h
    where
      held : (f : Field) → Inside z f → get_or ((get_or (fixed_areas ++ sized_areas) (area f) no_area).row (row f)) (column f) 0 ≡ value s f
      held (top k) h = refl
      held (head k) h = refl
      held (end k) h = refl
      held (mask c) h = refl
      held (lane i k) h = refl
      held (slot i k) h = refl
      held (yard y) h = refl

-- ---- memories by their fields

-- the fields of m hold v
abbrev pub Image : Sizes → List ℕ → (Field → ℕ) → Type 0
Image z m v = (f : Field) → Inside z f → at m (address z f) ≡ v f

-- a memory whose fields are those of s, and whose words past the total are those of m
pub by-fields : (s : State) (m n : List ℕ) → total s.sizes ≤ length m → length n ≡ length m
    → Image s.sizes n (value s) → ((a : ℕ) → total s.sizes ≤ a → at n a ≡ at m a) → n ≡ stored s m
by-fields s m n t l p q = ext_get_or 0 n (stored s m) (l ∙ sym (length-append (words s) (drop T m) ∙ omega (arith, length-words s, length-drop T m))) each
  where
    T : ℕ
    T = total s.sizes

    each : (a : ℕ) → a < length n → at n a ≡ at (stored s m) a
    each a h =
        elim (dec_lt a T) [
          | yes b ↦
              let f = place s.sizes a b in
              ap (at n) f.there ∙ p f.field f.inside ∙ sym (words-field s f.field f.inside) ∙ sym (ap (at (words s)) f.there)
              ∙ sym (get_or-append (words s) (drop T m) 0 a (omega (arith, length-words s)))
          | no b ↦
              let e : a ≡ length (words s) + (a - T) = omega (arith, length-words s) in
              let e' : T + (a - T) ≡ a = omega arith in
              q a (omega arith) ∙ sym (get_or-right (words s) (drop T m) a (a - T) e ∙ get_or-drop T m (a - T) 0 ∙ ap (at m) e')
        ]

-- the words of s in the place of the first total words of m
module _ (s : State) (m : List ℕ) (long : total s.sizes ≤ length m) where
  pub length-stored : length (stored s m) ≡ length m
  length-stored = length-append (words s) (drop (total s.sizes) m) ∙ omega (arith, length-words s, length-drop (total s.sizes) m)

  pub stored-image : Image s.sizes (stored s m) (value s)
  stored-image f b =
      get_or-append (words s) (drop (total s.sizes) m) 0 (address s.sizes f) (omega (arith, length-words s, address_below s.sizes f b))
      ∙ words-field s f b

-- ---- stores

-- the values v, with x at field g
abbrev pub put : (Field → ℕ) → Field → ℕ → Field → ℕ
put v g x f = cond (same_field f g) x (v f)

-- n is m with some fields stored, so that its fields are v
pub record Writes (z : Sizes) (m n : List ℕ) (v : Field → ℕ) : Type 0 where
  pub long : length n ≡ length m
  pub image : Image z n v
  pub beyond : (a : ℕ) → total z ≤ a → at n a ≡ at m a

module _ (z : Sizes) (m : List ℕ) (t : total z ≤ length m) where
  pub writes-none : (v : Field → ℕ) → Image z m v → Writes z m m v
  writes-none v i = record { long = refl; image = i; beyond = λ a h. refl }

  pub writes-put : (n : List ℕ) (v : Field → ℕ) (g : Field) (a x : ℕ) → a ≡ address z g → Inside z g → Writes z m n v → Writes z m (set n a x) (put v g x)
  writes-put n v g a x e p w =
      rw e
      (record {
        long = length-set n (address z g) x ∙ w.long;
        image = λ f q. load z f g q p n x (omega (arith, w.long)) ∙ ap (cond (same_field f g) x) (w.image f q);
        beyond = λ b h. get_or-set_other n (address z g) b x 0 (λ q. omega (arith, address_below z g p)) ∙ w.beyond b h;
      })

  pub writes-if : (b : Bool) (n₁ n₂ : List ℕ) (v₁ v₂ : Field → ℕ) → (b ≡ true → Writes z m n₁ v₁) → (b ≡ false → Writes z m n₂ v₂)
      → Writes z m (cond b n₁ n₂) (λ f. cond b (v₁ f) (v₂ f))
  writes-if true n₁ n₂ v₁ v₂ f g = f refl
  writes-if false n₁ n₂ v₁ v₂ f g = g refl

-- the stores make the memory that holds s
pub writes-done : (s : State) (m n : List ℕ) (v : Field → ℕ) → total s.sizes ≤ length m → Writes s.sizes m n v
    → ((f : Field) → Inside s.sizes f → value s f ≡ v f) → n ≡ stored s m
writes-done s m n v t w h = by-fields s m n t w.long (λ f p. w.image f p ∙ sym (h f p)) w.beyond
