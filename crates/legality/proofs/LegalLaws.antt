-- Legality from its parts: its sentences are those about the global words, the masks and the lanes, and those about the slots.
use Prim.Native.Nat.{ℕ}
use mathlib.Core.Bool.{Bool, true, false, cond, ◌&&◌}
use mathlib.Core.Path.{◌≡◌, ap, sym, ◌∙◌}
use mathlib.Core.List.{List}
use Rattle.model.specs.Lists.{every}
use Rattle.model.specs.Memory.{state}
use Rattle.model.specs.Legal.{contents_agree, links_in_range, fields_in_range, snapshots_at_rest, lookups_at_rest, sentences, legal}
use Rattle.laws.specs.Tests.{◌&◌, iff-eq, every_true, every-intro, and-true, and_intro}
use Rattle.engine_legality.specs.WordSentences.{engine_legal}
use Rattle.legality.specs.Parts.{table_legal}

module _ (m : List ℕ) where
  -- the sentences are those of the two parts
  split : every (sentences m (state m)) ≡ true → (engine_legal m && table_legal m) ≡ true
  unfolding engine_legal table_legal links_in_range fields_in_range snapshots_at_rest lookups_at_rest
  split h =
      let (flags, (masks, (linked, (fielded, (once, (lasts, (lengths, (chained, (codes, (snapshots, (lookups, rest₁₁))))))))))) = every_true _ h in
      let (generations, (queue_links, (off, (sections, (held, (bits, (blank, (largest, (lanes, (global, _)))))))))) = rest₁₁ in
      let (heads, (free, (queues, (lane_links, (chain_links, (slot_links, _)))))) = every_true _ linked in
      let (products, lookup_codes) = and-true _ _ fielded in
      and_intro _ _
      (every-intro _ (
      flags & masks & lane_links & lookup_codes
      & every-intro _ (snapshots & lookups & tt) & generations
      & off & sections & held & bits
      & largest & lanes & global & tt
      ))
      (every-intro _ (heads & free & queues & chain_links & slot_links & products & once & lasts & lengths & chained & codes & queue_links & blank & tt))

  join : (engine_legal m && table_legal m) ≡ true → every (sentences m (state m)) ≡ true
  unfolding engine_legal table_legal links_in_range fields_in_range snapshots_at_rest lookups_at_rest
  join h =
      let (e, t) = and-true (engine_legal m) (table_legal m) h in
      let (flags, (masks, (lane_links, (lookup_codes, (rested, (generations, rest₆)))))) = every_true _ e in
      let (off, (sections, (held, (bits, (largest, (lanes, (global, _))))))) = rest₆ in
      let (snapshots, (lookups, _)) = every_true _ rested in
      let (heads, (free, (queues, (chain_links, (slot_links, (products, (once, (lasts, (lengths, rest₉))))))))) = every_true _ t in
      let (chained, (codes, (queue_links, (blank, _)))) = rest₉ in
      every-intro _ (
      flags & masks
      & every-intro _ (heads & free & queues & lane_links & chain_links & slot_links & tt)
      & and_intro _ _ products lookup_codes
      & once & lasts & lengths & chained & codes
      & snapshots & lookups & generations & queue_links
      & off & sections & held & bits & blank
      & largest & lanes & global & tt
      )

  parts-eq : (engine_legal m && table_legal m) ≡ every (sentences m (state m))
  parts-eq = iff-eq (engine_legal m && table_legal m) (every (sentences m (state m))) join split

  -- ---- the ways out of the check

  module _ (r : Bool) (q : r ≡ contents_agree m) where
    pub legal-contents : r ≡ false → false ≡ legal m
    unfolding legal
    legal-contents e = ap (λ (b : Bool). cond b (every (sentences m (state m))) false) (sym e ∙ q)

    module _ (e : r ≡ true) (r₂ : Bool) (q₂ : r₂ ≡ engine_legal m) where
      onward : (engine_legal m && table_legal m) ≡ legal m
      unfolding legal
      onward = parts-eq ∙ ap (λ (b : Bool). cond b (every (sentences m (state m))) false) (sym e ∙ q)

      pub legal-engine : r₂ ≡ false → false ≡ legal m
      legal-engine z = ap (λ (b : Bool). b && table_legal m) (sym z ∙ q₂) ∙ onward

      pub legal-table : r₂ ≡ true → (r₃ : Bool) → r₃ ≡ table_legal m → r₃ ≡ legal m
      legal-table z r₃ q₃ = q₃ ∙ ap (λ (b : Bool). b && table_legal m) (sym z ∙ q₂) ∙ onward
