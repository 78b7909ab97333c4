-- The words of a well-formed state are words: each is below 2 ^ 32.
use Prim.Native.Nat.{ℕ, ◌+◌, ◌*◌, ◌-◌, ◌^◌, ◌<◌, ◌≤◌}
use mathlib.Core.Path.{sym, ap, subst, ◌∙◌}
use mathlib.Core.Logic.{inl, inr}
use mathlib.Core.Bool.{Bool}
use mathlib.Core.List.{List, [], ◌∷◌, ◌++◌}
use native.Mathlib.Omega.{arith}
use native.Mathlib.Decide.{dec_lt}
use lib.ListN.{drop, get_or-append}
use lib.Seq.{get_or-drop}
use lib.Pow.{pow-lt}
use Rattle.model.specs.State.{Sizes, Lookup, idle, running, Snapshot, unheld, held, Lane, Engine, State, is_held, is_running}
use Rattle.model.specs.Layout.{count_limit, total}
use Rattle.model.specs.Engine.{lane_at}
use Rattle.model.specs.Word.{word_bits}
use Rattle.model.specs.Memory.{Words, at, low, high, contents, flags, group_mask, lane_bit, cabinet_bit, yard_bit, lane_words, slot_words, lookup_code, snapshot_count, words}
use Rattle.model.specs.Calls.{stored}
use Rattle.laws.specs.Tests.{◌&◌}
use Rattle.laws.specs.ListLaws.{get_or-right}
use Rattle.laws.specs.Elements.{Each, each-get_or}
use Rattle.laws.specs.Masks.{mask_lt, mask-from-lt}
use Rattle.representation.proofs.Discipline.Ages.{none as none_a, old, now, soon, Level, rests, goes, Strict, Clean}
use Rattle.representation.proofs.ExtraWords.{Word, extra-words}
use Rattle.representation.proofs.WellFormed.{WellFormed, LookupFits, SnapshotFits, SlotOrNone}
use Rattle.representation.proofs.Addresses.Fields.{Field, top, head, end, mask as mask_f, lane, slot, yard, Inside, value, place, top_words, end_words}
use Rattle.representation.proofs.Addresses.Writes.{length-words, words-field}
use Rattle.representation.proofs.FromState.Standing.{fit, head-range, chain_link-range, queue_link-range}
use Rattle.representation.proofs.FromState.Standing.{position-range, free-ends, global-ends, lane-ends}

module _ (s : State) (w : WellFormed s) where
  abbrev e : Engine
  e = s.engine

  abbrev z : Sizes
  z = s.sizes

  -- ---- numbers

  slot-word : (x : ℕ) → SlotOrNone z.slots x → Word x
  slot-word x (inl h) = omega (arith, (fit s w).few_slots)
  slot-word x (inr h) = omega arith

  length-word : (x : ℕ) → x ≤ z.slots → Word x
  length-word x h = omega (arith, (fit s w).few_slots)

  mask_word : (f : ℕ → Bool) (n g : ℕ) → n < word_bits → Word (group_mask n f g)
  mask_word f n g h = let p : 2 ^ n < 2 ^ word_bits = pow-lt {j = word_bits} h in omega (arith, mask-from-lt (λ (p : ℕ). f (g * n + p)) n)

  largest-word : Level e → Word e.largest
  largest-word (rests r b p) = b
  largest-word (goes r (inl p)) = omega (arith, w.generations.word)
  largest-word (goes r (inr p)) = omega arith

  lane-generation : (l : Lane) → Strict e l → Word l.queues.generation
  lane-generation l (none_a a b) = omega arith
  lane-generation l (old a b) = b.word
  lane-generation l (now a b d) = omega (arith, w.generations.word)
  lane-generation l (soon a b d) = omega arith

  global-generation : Clean e e.global → Word e.global.generation
  global-generation (none_a a b) = omega arith
  global-generation (old a b) = absurd b
  global-generation (now a b d) = omega (arith, w.generations.word)
  global-generation (soon a b d) = omega arith

  record CodeWords (k : Lookup) : Type 0 where
    low : Word (low (lookup_code k))
    high : Word (high (lookup_code k))

  code-words : (r : Bool) (k : Lookup) → LookupFits z.slots r k → CodeWords k
  unfolding lookup_code
  code-words r idle f = record { low = omega arith; high = omega arith }
  code-words r (running c p) f = record { low = omega arith; high = omega (arith, f.1) }

  snapshot-counts : (b : Bool) (d : Snapshot) → SnapshotFits b d → (k : ℕ) → snapshot_count d k < count_limit
  unfolding snapshot_count
  snapshot-counts b unheld f k = omega arith
  snapshot-counts b (held c) f k = f.1.words k

  -- both words of a count
  low_word : (c : ℕ) → Word (low c)
  low_word c = omega arith

  high_word : (c : ℕ) → c < count_limit → Word (high c)
  high_word c h = omega arith

  -- ---- fields

  -- the contents' fifteen words are bounded by the sizes
  top-words : Each Word (top_words s)
  unfolding contents
  top-words =
      let f = fit s w in
      omega arith & omega arith & omega arith & omega arith
      & omega arith & omega arith
      & omega arith & omega arith
      & omega arith & omega arith
      & omega arith & omega arith
      & omega arith & omega arith
      & omega arith
      & w.generations.word
      & largest-word w.generations.largest
      & mask_word (yard_bit s) z.yards 0 (omega (arith, f.few_yards))
      & tt

  end-words : Each Word (end_words s)
  end-words =
      let f = free-ends s w in
      let g = global-ends s w in
      slot-word _ f.first & slot-word _ f.last & length-word _ f.few
      & slot-word _ g.next.first & slot-word _ g.next.last & length-word _ g.next.few
      & slot-word _ g.current.first & slot-word _ g.current.last & length-word _ g.current.few
      & slot-word _ g.done.first & slot-word _ g.done.last & length-word _ g.done.few
      & global-generation w.generations.global
      & tt

  lane-words : (i : ℕ) → Each Word (lane_words (lane_at e i))
  unfolding lane_words flags
  lane-words i =
      let l = lane_at e i in
      let f = w.fits i in
      let r = lane-ends s w i in
      let c = f.counts.words in
      let d = snapshot-counts l.pending l.snapshot f.snapshot in
      let k = code-words l.reading l.lookup f.lookup in
      let v : Word (flags l) = omega (arith, mask_lt (l.online ∷ l.reading ∷ is_running l.lookup ∷ is_held l.snapshot ∷ [])) in
      v
      & low_word _ & high_word _ (c 0) & low_word _ & high_word _ (c 1) & low_word _ & high_word _ (c 2) & low_word _ & high_word _ (c 3)
      & low_word _ & high_word _ (d 0) & low_word _ & high_word _ (d 1) & low_word _ & high_word _ (d 2) & low_word _ & high_word _ (d 3)
      & lane-generation l (w.generations.lanes i)
      & slot-word _ r.next.first & slot-word _ r.next.last & length-word _ r.next.few
      & slot-word _ r.current.first & slot-word _ r.current.last & length-word _ r.current.few
      & slot-word _ r.done.first & slot-word _ r.done.last & length-word _ r.done.few
      & k.low & k.high & slot-word _ (position-range s w i)
      & extra-words l f.extra

  slot-words : (x : ℕ) → Each Word (slot_words s x)
  unfolding slot_words
  slot-words x =
      let f = w.table.in_range x in
      omega arith & omega (arith, f.code) & omega (arith, f.deposit) & omega (arith, f.material)
      & slot-word _ (chain_link-range s w x) & slot-word _ (queue_link-range s w x) & tt

  value-word : (f : Field) → Inside z f → Word (value s f)
  unfolding contents lane_words slot_words
  value-word (top k) h = each-get_or 0 Word (top_words s) top-words k h
  value-word (head k) h = slot-word _ (head-range s w k)
  value-word (end k) h = each-get_or 0 Word (end_words s) end-words k h
  value-word (mask_f c) h = mask_word (lane_bit s) z.places c (omega (arith, (fit s w).few_places))
  value-word (yard y) h = mask_word (cabinet_bit s) z.cabinets y (omega (arith, (fit s w).few_cabinets))
  value-word (lane i k) h = each-get_or 0 Word (lane_words (lane_at e i)) (lane-words i) k h.1
  value-word (slot i k) h = each-get_or 0 Word (slot_words s i) (slot-words i) k h.1

  -- ---- a memory of words stays one

  pub words-words : (rest : List ℕ) → Words rest → Words (words s ++ rest)
  words-words rest h a =
      elim (dec_lt a (total z)) [
        | yes b ↦
            let f = place z a b in
            subst Word
            (sym (get_or-append (words s) rest 0 a (omega (arith, length-words s)) ∙ ap (at (words s)) f.there ∙ words-field s f.field f.inside))
            (value-word f.field f.inside)
        | no b ↦ subst Word (sym (get_or-right (words s) rest a (a - total z) (omega (arith, length-words s)))) (h (a - total z))
      ]

  pub stored-words : (m : List ℕ) → Words m → Words (stored s m)
  stored-words m h = words-words (drop (total z) m) (λ a. subst Word (sym (get_or-drop (total z) m a 0)) (h (total z + a)))
