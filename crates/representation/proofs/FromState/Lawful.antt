-- A memory that holds the words of a well-formed state is legal.
use Prim.Native.Nat.{ℕ, ◌+◌, ◌/◌, ◌%◌, ◌^◌, ◌≤◌, ◌<◌}
use mathlib.Core.Path.{◌≡◌, refl, sym, ap, ◌∙◌, subst}
use mathlib.Core.Bool.{true, false, not}
use mathlib.Core.List.{List, [], ◌∷◌, ◌++◌}
use native.Mathlib.Omega.{arith}
use lib.ListN.{length, get_or, drop}
use lib.Dec.{eqb}
use Rattle.model.specs.Word.{none}
use Rattle.model.specs.Lists.{last, concat, count}
use Rattle.model.specs.State.{Sizes, lane_count, is_running, is_held, Engine, Product, Table, State}
use Rattle.model.specs.Layout.{deposit_at, material_at, last_offset, length_offset, queue_width, current_offset, done_offset, yard_mask_at, lookup_bit}
use Rattle.model.specs.Layout.{free_at, snapshot_bit, flags_at, queues_at, position_at, chain_link_at, queue_link_at, lane_length, lane_address, slot_address, total}
use Rattle.model.specs.Engine.{lane_at, runs}
use Rattle.model.specs.Table.{product_at}
use Rattle.model.specs.Memory.{at, sizes, wide, flag, flags, contents, lookup_code, cabinet_bit, yard_bit, yard_mask}
use Rattle.model.specs.Memory.{is_not_zero, queue_words, lane_words, slot_words, slot_word, all_queues, read_product}
use Rattle.model.specs.Rules.{wrong_code, wrong_product}
use Rattle.model.specs.Legal.{legal, code_of, period_runs}
use Rattle.laws.specs.Tests.{not-not}
use Rattle.laws.specs.Counts.{count-append}
use Rattle.laws.specs.Repeats.{distinct-map-intro}
use Rattle.laws.specs.Successors.{successor_in-out}
use Rattle.laws.specs.Masks.{mask_lt, mask-from-lt}
use Rattle.representation.proofs.WellFormed.{WellFormed, SlotOrNone}
use Rattle.representation.proofs.Sentences.Ranges.{code-right, product-right}
use Rattle.representation.proofs.Sentences.Facts.{Agree, Facts, Blank}
use Rattle.representation.proofs.Sentences.Split.{facts-legal}
use Rattle.representation.proofs.Addresses.Fields.{top, end, mask, slot, yard, value, ends_length, end_words, queue-word}
use Rattle.representation.proofs.Addresses.Writes.{Image}
use Rattle.representation.proofs.FromState.Standing.{fit, stands, chain-once, chain_link-range, queue_link-range, position-range}
use Rattle.representation.proofs.FromState.Periods.{flag-group, flag-of, group-below, yard_mask-runs}
use Rattle.representation.proofs.FromState.RereadQueues.{sized}
use Rattle.representation.proofs.FromState.Reread.{product_is, reread-sized, at-sizes}
use Rattle.representation.proofs.FromState.LawfulGenerations.{largest-fits, lane-near, global-near, at_rest}
use Rattle.representation.proofs.FromState.LawfulLanes.{contents-fit, heads, free_ends, global_ends, word, lane_ends, lookup-code, code_fits}
use Rattle.representation.proofs.FromState.LawfulLanes.{flag_word, snapshot-rest, lookup-rest, bare, in-section, with-bit}

module _ (e : Engine) (t : Table) (m : List ℕ) (w : WellFormed (sized e t m)) (holds : Image (sizes m) m (value (sized e t m)))
    (long : total (sizes m) ≤ length m) where
  abbrev z : Sizes
  z = sizes m

  abbrev s : State
  s = sized e t m

  -- ---- masks

  mask_word : at m yard_mask_at ≡ yard_mask s
  unfolding contents
  mask_word = holds (top yard_mask_at) (omega arith)

  runs-is : period_runs m ≡ runs e
  runs-is = ap (λ (x : ℕ). not (eqb x 0)) mask_word ∙ ap not (yard_mask-runs s w.lanes) ∙ not-not (runs e)

  -- ---- slots

  product-right-at : (i : ℕ) → i < z.slots
      → wrong_product (wide m (slot_address z i)) (at m (slot_address z i + deposit_at)) (at m (slot_address z i + material_at)) ≡ false
  unfolding read_product
  product-right-at i b =
      ap (λ (p : Product). wrong_product p.code p.deposit p.material) (product_is e t m w holds i b)
      ∙ product-right (product_at t.products i) (w.table.in_range i)

  free-blank : (x : ℕ) → 0 < count x t.free → Blank m x
  unfolding read_product slot_words
  free-blank x b =
      let h : x < z.slots = w.range x (omega arith) in
      let p = product_is e t m w holds x h ∙ w.table.blanks x b in
      record {
        code = ap (λ (q : Product). q.code) p;
        deposit = ap (λ (q : Product). q.deposit) p;
        material = ap (λ (q : Product). q.material) p;
        link =
            holds (slot x chain_link_at) (h, omega arith) ∙ successor_in-out t.chains x _ (omega (arith, stands s w x))
            ∙ w.unlinked x (omega (arith, stands s w x));
      }

  chain_link-word : (i : ℕ) → i < z.slots → SlotOrNone z.slots (slot_word m chain_link_at i)
  unfolding slot_words
  chain_link-word i b = subst (SlotOrNone z.slots) (sym (holds (slot i chain_link_at) (b, omega arith))) (chain_link-range s w i)

  queue_link-word : (i : ℕ) → i < z.slots → SlotOrNone z.slots (slot_word m queue_link_at i)
  unfolding slot_words
  queue_link-word i b = subst (SlotOrNone z.slots) (sym (holds (slot i queue_link_at) (b, omega arith))) (queue_link-range s w i)

  -- ---- queues

  agree : (f : List ℕ → ℕ) (o : ℕ) → o < queue_width → ((xs : List ℕ) → get_or (queue_words xs) o 0 ≡ f xs) → Agree m s f o
  unfolding lane_words
  agree f o h is = record {
    free = of-global 0 t.free _ _ (omega arith) (omega arith) refl;
    global = record {
      next = of-global queue_width e.global.next _ _ (omega arith) (omega arith) refl;
      current = of-global (queue_width + current_offset) e.global.current _ _ (omega arith) (omega arith) refl;
      done = of-global (queue_width + done_offset) e.global.done _ _ (omega arith) (omega arith) refl;
    };
    lanes = λ i b. record {
      next = of-lane i b queues_at (lane_at e i).queues.next _ _ (omega arith) (omega arith) refl;
      current = of-lane i b (queues_at + current_offset) (lane_at e i).queues.current _ _ (omega arith) (omega arith) refl;
      done = of-lane i b (queues_at + done_offset) (lane_at e i).queues.done _ _ (omega arith) (omega arith) refl;
    };
  }
    where
      of-global : (n : ℕ) (xs rest : List ℕ) (a : ℕ) → a ≡ free_at + (n + o) → n + o < ends_length → drop n (end_words s) ≡ queue_words xs ++ rest → f xs ≡ at m a
      of-global n xs rest a k b d = sym (ap (at m) k ∙ holds (end (n + o)) b ∙ queue-word (end_words s) rest xs n o d h ∙ is xs)

      of-lane : (i : ℕ) → i < lane_count z → (n : ℕ) (xs rest : List ℕ) (a : ℕ) → a ≡ lane_address z i + (n + o) → n + o < lane_length
          → drop n (lane_words (lane_at e i)) ≡ queue_words xs ++ rest → f xs ≡ at m a
      of-lane i b n xs rest a k c d =
          sym (ap (at m) k ∙ word e t m w holds long i b (n + o) c ∙ queue-word (lane_words (lane_at e i)) rest xs n o d h ∙ is xs)

  -- ---- all facts

  all-facts : Facts m s
  unfolding flags lane_words slot_words
  all-facts = record {
    flags =
        λ i b. omega (
          arith,
          word e t m w holds long i b flags_at (omega arith),
          mask_lt ((lane_at e i).online ∷ (lane_at e i).reading ∷ is_running (lane_at e i).lookup ∷ is_held (lane_at e i).snapshot ∷ []),
        );
    yard_mask = subst (λ (x : ℕ). x < 2 ^ z.yards) (sym mask_word) (mask-from-lt _ z.yards);
    cabinet_masks = λ y b. subst (λ (x : ℕ). x < 2 ^ z.cabinets) (sym (holds (yard y) b)) (mask-from-lt _ z.cabinets);
    lane_masks = λ c b. subst (λ (x : ℕ). x < 2 ^ z.places) (sym (holds (mask c) b)) (mask-from-lt _ z.places);
    heads = heads e t m w holds long;
    free_ends = free_ends e t m w holds long;
    global_ends = global_ends e t m w holds long;
    lane_ends = lane_ends e t m w holds long;
    positions = λ i b. subst (SlotOrNone z.slots) (sym (word e t m w holds long i b position_at (omega arith))) (position-range s w i);
    chain_links = chain_link-word;
    queue_links = queue_link-word;
    products = product-right-at;
    lookup_codes = λ i b. ap wrong_code (lookup-code e t m w holds long i b) ∙ code-right (lookup_code (lane_at e i).lookup) (code_fits e t m w holds long i b);
    once = λ i b. omega (arith, count-append i (concat t.chains) (concat (all_queues s)), stands s w i, w.once i b);
    lasts = agree last last_offset (omega arith) (λ xs. refl);
    lengths = agree length length_offset (omega arith) (λ xs. refl);
    on_chain = λ k b. w.table.on_chain k;
    codes =
        distinct-map-intro (code_of s) (concat t.chains) (chain-once s w)
        (λ x y a b. w.table.distinct x y (omega (arith, stands s w x)) (omega (arith, stands s w y)));
    snapshots_rest = λ i b h. snapshot-rest e t m w holds long i b (sym (flag_word e t m w holds long i b snapshot_bit) ∙ h);
    lookups_rest = λ i b h. lookup-rest e t m w holds long i b (sym (flag_word e t m w holds long i b lookup_bit) ∙ h);
    global_rest = at_rest e _ _ e.global w.generations.global;
    lanes_rest = λ i. at_rest e _ _ (lane_at e i).queues (w.generations.lanes i);
    queue_links_rest = λ i b h. holds (slot i queue_link_at) (b, omega arith) ∙ successor_in-out (all_queues s) i none h;
    off = bare e t m w holds long;
    sections = λ i. in-section e t m w holds long (lane_at e i).reading (lane_at e i).lookup (w.fits i).lookup;
    snapshots = λ i. with-bit e t m w holds long (lane_at e i).pending (lane_at e i).snapshot (w.fits i).snapshot;
    yard_bits = λ y b. ap is_not_zero (holds (yard y) b) ∙ sym (ap (flag y) mask_word ∙ flag-group z.yards (yard_bit s) 0 y b ∙ ap (yard_bit s) (omega arith));
    cabinet_bits = λ c b.
        let some = (fit s w).some_cabinets in
        ap is_not_zero (holds (mask c) b)
        ∙ sym
        (ap (flag (c % z.cabinets)) (holds (yard (c / z.cabinets)) (group-below z.cabinets z.yards some c b))
        ∙ flag-of z.cabinets (cabinet_bit s) some c);
    free = free-blank;
    largest = largest-fits e (period_runs m) runs-is w.generations.word w.generations.largest;
    lanes_near = λ i. lane-near e (period_runs m) (lane_at e i) runs-is w.generations.word w.generations.largest (w.generations.lanes i);
    global_near = global-near e w.generations.word w.generations.global;
    extra = λ i. (w.fits i).extra;
  }

  lawful-sized : legal m ≡ true
  lawful-sized = facts-legal m (record { contents = contents-fit e t m w holds long; facts = subst (Facts m) (sym (reread-sized e t m w holds)) all-facts })

pub lawful : (s : State) (m : List ℕ) → WellFormed s → Image s.sizes m (value s) → total s.sizes ≤ length m → legal m ≡ true
lawful s m w holds long = at-sizes s m holds (λ t. total t.sizes ≤ length m → legal m ≡ true) (λ v h. lawful-sized s.engine s.table m v h) w long
