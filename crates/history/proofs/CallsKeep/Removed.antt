-- The slot of a code in its chain, and what delete and replace make of the chain and of the entries.
use Prim.Native.Nat.{ℕ, ◌+◌, ◌<◌}
use mathlib.Core.Path.{◌≡◌, refl, sym, ap, ◌∙◌}
use mathlib.Core.Logic.{inl, inr, ⊎_elim, ◌≢◌}
use mathlib.Core.Bool.{true, false}
use mathlib.Core.List.{List, [], ◌∷◌, ◌++◌}
use native.Mathlib.Omega.{arith}
use lib.ListN.{get_or, set}
use lib.Seq.{get_or-set_same, get_or-set_other}
use borrow.Author.Tests.{not-true, eq-eqb}
use Rattle.model.specs.Word.{none}
use Rattle.model.specs.Lists.{count, is_empty, first, without, swapped, drops}
use Rattle.model.specs.State.{Product, Table, State}
use Rattle.model.specs.Table.{product, product_at, chain_number, chain_of, slot_of, present, link_of, replaced, deleted}
use Rattle.model.specs.Rules.{accepted}
use Rattle.model.specs.Ledger.{Entry, of_code, entry_of, search_in}
use Rattle.laws.specs.Tests.{clash, same_or}
use Rattle.laws.specs.ListLaws.{get_or-update-same, get_or-update-other}
use Rattle.laws.specs.Counts.{mark, mark-self, count-cons, count-append}
use Rattle.representation.proofs.WellFormed.{WellFormed, chained}
use Rattle.history.proofs.Ties.Halves.{searched}
use Rattle.history.proofs.ChainHalf.ChainStretches.{SameOr, link_of-chained, chained-at, Lacks, searched-here, searched-skip, searched-none, Spot, spot}
use Rattle.history.proofs.ChainHalf.TrailLeaves.{Turn, agree-ahead, turn-others, Leaves}
use Rattle.history.proofs.CallsKeep.Entries.{search-drops-other, search-drops, search-made, search-made-other}
use Rattle.history.proofs.CallsKeep.SlotFacts.{standing-once}
use Rattle.history.proofs.CallsKeep.Add.{code-new, something-new, product-other}

-- ---- the slot of a code in its chain

module _ (s : State) (w : WellFormed s) (c : ℕ) (here : present s.table c ≡ true) where
  abbrev o : ℕ
  o = slot_of s.table c

  place : Spot s.table.products c (chain_of s.table c) o
  place = spot s.table.products c (chain_of s.table c) (λ p. clash (eq-eqb o none p) (not-true _ here))

  counts : (x : ℕ) → count x (chain_of s.table c) ≡ count x place.front + (mark x o + count x place.rest)
  unfolding count
  counts x = ap (count x) place.all ∙ count-append x place.front (o ∷ place.rest)

  o-chained : 0 < chained o s.table
  o-chained = omega (arith, counts o, mark-self o, chained-at s.table c o)

  -- no other slot of the chain holds the code
  front-lacks : Lacks s.table.products c place.front
  front-lacks = place.ahead

  rest-lacks : Lacks s.table.products c place.rest
  rest-lacks x h e = twice (rw (w.table.distinct x o (omega (arith, counts x, chained-at s.table c x)) o-chained (e ∙ sym place.code)) at h)
    where
      twice : 0 < count o place.rest → ⊥
      twice q = omega (arith, counts o, mark-self o, chained-at s.table c o, standing-once w o)

  -- its link is to what follows it, and it is kept
  link-kept : get_or (set s.table.links o (link_of s.table o)) o none ≡ first place.rest
  link-kept = get_or-set_same s.table.links o (link_of s.table o) none (omega (arith, w.range o (omega (arith, o-chained)), w.table.links))
      ∙ link_of-chained s.table c o place.front place.rest place.all (omega (arith, standing-once w o))

  pub link-other : (x : ℕ) → x ≢ o → get_or (set s.table.links o (link_of s.table o)) x none ≡ get_or s.table.links x none
  link-other x n = get_or-set_other s.table.links o x (link_of s.table o) none n

  o-holds : (x : ℕ) → 0 < count x (o ∷ []) → (product_at s.table.products x).code ≡ c
  unfolding count
  o-holds x h = ⊎_elim (λ e. ap (λ (y : ℕ). (product_at s.table.products y).code) e ∙ place.code) (λ m. absurd (omega arith)) (count-cons x o [] h)

  -- ---- delete

  pub leaves-deleted : Leaves s.table (deleted c s.table) c o []
  unfolding deleted count
  leaves-deleted = record {
    turn = record {
      front = place.front;
      rest = place.rest;
      was = place.all;
      now = get_or-update-same [] s.table.chains (chain_number c) (without o) (omega (arith, w.table.chains)) ∙ place.removed;
      others = λ b e. get_or-update-other [] s.table.chains (chain_number c) (without o) (chain_number b) e;
      kept = λ x h. refl;
      olds = o-holds;
      news = λ x h. absurd (omega arith);
    };
    link = link-kept;
    ahead = front-lacks;
    few = omega arith;
  }

  pub entries-deleted : (es : List Entry) → ((b : ℕ) → search_in b es ≡ searched s.table.products b (chain_of s.table b))
      → (b : ℕ) → search_in b (drops (of_code c) es) ≡ searched (deleted c s.table).products b (chain_of (deleted c s.table) b)
  unfolding leaves-deleted
  entries-deleted es a b = go (same_or b c)
    where
      u : Table
      u = deleted c s.table

      lacks : Lacks s.table.products c (place.front ++ place.rest)
      lacks x h = part (count x place.front) refl
        where
          part : (n : ℕ) → count x place.front ≡ n → (product_at s.table.products x).code ≢ c
          part ℕ.zero e = rest-lacks x (omega (arith, count-append x place.front place.rest))
          part (ℕ.suc n) e = front-lacks x (omega arith)

      go : SameOr b c → search_in b (drops (of_code c) es) ≡ searched u.products b (chain_of u b)
      go (inl e) = rw e (search-drops c es ∙ sym (ap (searched u.products c) leaves-deleted.turn.now
          ∙ searched-none u.products c (place.front ++ place.rest) lacks))
      go (inr e) = search-drops-other b c es e.0 ∙ (a b ∙ sym (turn-others leaves-deleted.turn b e.0))

  -- ---- replace

  module _ (d n : ℕ) (f : is_empty s.table.free ≡ false) where
    abbrev p : Product
    p = product c d n

    abbrev fresh : ℕ
    fresh = first s.table.free

    turn-replaced : Turn s.table (replaced p s.table) c (o ∷ []) (fresh ∷ [])
    unfolding replaced count
    turn-replaced = record {
      front = place.front;
      rest = place.rest;
      was = place.all;
      now = get_or-update-same [] s.table.chains (chain_number c) (swapped o fresh) (omega (arith, w.table.chains)) ∙ place.exchanged fresh;
      others = λ b e. get_or-update-other [] s.table.chains (chain_number c) (swapped o fresh) (chain_number b) e;
      kept = λ x h. product-other s w p f x (omega arith);
      olds = o-holds;
      news = λ x h. ⊎_elim (λ e. ap (λ (y : ℕ). (product_at (replaced p s.table).products y).code) e ∙ code-new s w p f)
          (λ m. absurd (omega arith)) (count-cons x fresh [] h);
    }

    pub leaves-replaced : Leaves s.table (replaced p s.table) c o (fresh ∷ [])
    unfolding turn-replaced
    leaves-replaced = record {
      turn = turn-replaced;
      link = link-kept;
      ahead = λ x h. rw (agree-ahead turn-replaced x h) (front-lacks x h);
      few = omega arith;
    }

    pub entries-replaced : (es : List Entry) → ((b : ℕ) → search_in b es ≡ searched s.table.products b (chain_of s.table b))
        → (b : ℕ) → search_in b (entry_of c fresh d n ∷ drops (of_code c) es)
        ≡ searched (replaced p s.table).products b (chain_of (replaced p s.table) b)
    unfolding leaves-replaced
    entries-replaced es a b = go (same_or b c)
      where
        u : Table
        u = replaced p s.table

        own : searched u.products c (chain_of u c) ≡ accepted 1 fresh d n
        own = ap (searched u.products c) turn-replaced.now
            ∙ (searched-skip u.products c place.front (fresh ∷ place.rest) leaves-replaced.ahead
            ∙ (searched-here u.products c fresh place.rest (code-new s w p f) ∙ something-new s w p f))

        go : SameOr b c → search_in b (entry_of c fresh d n ∷ drops (of_code c) es) ≡ searched u.products b (chain_of u b)
        go (inl e) = rw e (search-made (entry_of c fresh d n) (drops (of_code c) es) ∙ sym own)
        go (inr e) =
            search-made-other b (entry_of c fresh d n) _ e.0
            ∙ (search-drops-other b c es e.0 ∙ (a b ∙ sym (turn-others turn-replaced b e.0)))
