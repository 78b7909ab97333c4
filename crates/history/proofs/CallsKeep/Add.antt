-- Add: the first free slot, which nobody can reach, comes to a chain's head.
use Prim.Native.Nat.{ℕ, ◌+◌, ◌<◌}
use mathlib.Core.Path.{◌≡◌, refl, sym, ap, ◌∙◌}
use mathlib.Core.Logic.{inl, inr, ⊎_elim}
use mathlib.Core.Bool.{false}
use mathlib.Core.List.{List, [], ◌∷◌, ◌++◌}
use native.Mathlib.Omega.{arith}
use lib.ListN.{get_or, set}
use lib.Seq.{get_or-set_same, get_or-set_other}
use Rattle.model.specs.Lists.{count, is_empty, first, drops}
use Rattle.model.specs.State.{Product, Table, State}
use Rattle.model.specs.Table.{blank, product, product_at, chain_number, chain_of, added}
use Rattle.model.specs.Rules.{accepted, with}
use Rattle.model.specs.Ledger.{Ledger, of_code, entry_of, entry_made, search}
use Rattle.laws.specs.Tests.{same_or}
use Rattle.laws.specs.ListLaws.{get_or-update-same, get_or-update-other}
use Rattle.laws.specs.Counts.{mark-self, count-first, count-cons}
use Rattle.representation.proofs.Discipline.Frame.{queued}
use Rattle.representation.proofs.Causes.SlotCounts.{in-added}
use Rattle.representation.proofs.WellFormed.{WellFormed, chained}
use Rattle.history.proofs.Ties.Halves.{something, searched}
use Rattle.history.proofs.Ties.Invariant.{Tied, in_chain}
use Rattle.history.proofs.ChainHalf.ChainStretches.{SameOr, searched-here}
use Rattle.history.proofs.ChainHalf.TrailLeaves.{Turn, turn-others}
use Rattle.history.proofs.CallsKeep.Entries.{search-drops-other, search-made, search-made-other}
use Rattle.history.proofs.CallsKeep.SlotFacts.{standing-once, retains-queued}
use Rattle.history.proofs.CallsKeep.Respects.{heads, Respects, sections-same, outs-same, Keeps}

-- ---- the first free slot

module _ (s : State) (w : WellFormed s) (p : Product) (f : is_empty s.table.free ≡ false) where
  abbrev pub new : ℕ
  new = first s.table.free

  new-free : 0 < count new s.table.free
  new-free = omega (arith, count-first new s.table.free f, mark-self new)

  new-range : new < s.sizes.slots
  new-range = w.range new (omega (arith, new-free))

  pub product-new : product_at (set s.table.products new p) new ≡ p
  product-new = get_or-set_same s.table.products new p blank (omega (arith, new-range, w.table.products))

  pub code-new : (product_at (set s.table.products new p) new).code ≡ p.code
  code-new = ap (λ (q : Product). q.code) product-new

  pub something-new : something (set s.table.products new p) new ≡ accepted 1 new p.deposit p.material
  something-new = ap (λ (q : Product). accepted 1 new q.deposit q.material) product-new

  -- a slot that is chained or queued is not the free one, and holds what it held
  pub product-other : (x : ℕ) → 0 < chained x s.table + queued x s.engine
      → product_at (set s.table.products new p) x ≡ product_at s.table.products x
  product-other x h = get_or-set_other s.table.products new x p blank (λ e. absurd (twice (rw e at h)))
    where
      twice : 0 < chained new s.table + queued new s.engine → ⊥
      twice q = omega (arith, new-free, standing-once w new)

-- ---- add

module _ {k : ℕ} {s : State} {g : Ledger} (v : Tied k s g)
    (c d n : ℕ) (f : is_empty s.table.free ≡ false) (w : WellFormed (with s s.engine (added (product c d n) s.table))) where
  abbrev fresh : ℕ
  fresh = first s.table.free

  abbrev u : Table
  u = added (product c d n) s.table

  abbrev g' : Ledger
  g' = entry_made (entry_of c fresh d n) g

  turn-added : Turn s.table u c [] (fresh ∷ [])
  unfolding added count
  turn-added = record {
    front = [];
    rest = chain_of s.table c;
    was = refl;
    now = get_or-update-same [] s.table.chains (chain_number c) (λ (xs : List ℕ). fresh ∷ xs) (omega (arith, v.well_formed.table.chains));
    others = λ b e. get_or-update-other [] s.table.chains (chain_number c) (λ (xs : List ℕ). fresh ∷ xs) (chain_number b) e;
    kept = λ x h. product-other s v.well_formed (product c d n) f x (omega arith);
    olds = λ x h. absurd (omega arith);
    news = λ x h. ⊎_elim (λ e. ap (λ (y : ℕ). (product_at u.products y).code) e ∙ code-new s v.well_formed (product c d n) f)
        (λ m. absurd (omega arith)) (count-cons x fresh [] h);
  }

  suffix : (b : ℕ) (xs ys : List ℕ) → chain_of s.table b ≡ xs ++ ys → (zs : List ℕ) × (chain_of u b ≡ zs ++ ys)
  unfolding turn-added
  suffix b xs ys e = go (same_or (chain_number b) (chain_number c))
    where
      go : SameOr (chain_number b) (chain_number c) → (zs : List ℕ) × (chain_of u b ≡ zs ++ ys)
      go (inl q) = (fresh ∷ xs, ap (λ (j : ℕ). get_or u.chains j []) q ∙ (turn-added.now ∙ ap (λ (l : List ℕ). fresh ∷ l) was))
        where
          was : chain_of s.table c ≡ xs ++ ys
          was = sym (ap (λ (j : ℕ). get_or s.table.chains j []) q) ∙ e
      go (inr q) = (xs, turn-added.others b q.0 ∙ e)

  respects-added : Respects k s.table u g g'
  unfolding added
  respects-added = record {
    was = λ z m o. m;
    stay = λ z m x r. (
      r,
      product-other s v.well_formed (product c d n) f x (omega (arith, retains-queued v.outs z x r)),
      refl,
    );
    kept = turn-added.kept;
    anchored = λ z x m m' h. in_chain
        (omega (arith, in-added s.table v.well_formed.table.chains x (product c d n) f, count-first x s.table.free f));
    chains = heads suffix;
  }

  entries-added : (b : ℕ) → search g' b ≡ searched u.products b (chain_of u b)
  unfolding turn-added
  entries-added b = go (same_or b c)
    where
      own : searched u.products c (chain_of u c) ≡ accepted 1 fresh d n
      own = ap (searched u.products c) turn-added.now
          ∙ (searched-here u.products c fresh (chain_of s.table c) (code-new s v.well_formed (product c d n) f)
          ∙ something-new s v.well_formed (product c d n) f)

      go : SameOr b c → search g' b ≡ searched u.products b (chain_of u b)
      go (inl e) = rw e (search-made (entry_of c fresh d n) (drops (of_code c) g.entries) ∙ sym own)
      go (inr e) =
          search-made-other b (entry_of c fresh d n) _ e.0
          ∙ (search-drops-other b c g.entries e.0 ∙ (v.entries b ∙ sym (turn-others turn-added b e.0)))

  pub keeps-add : Keeps k s (with s s.engine u) g g'
  keeps-add = record {
    tied = record {
      well_formed = w;
      entries = entries-added;
      sections = sections-same s.engine (λ i. refl) v.sections;
      outs = outs-same s.engine (λ x. refl) v.outs;
      grace = v.grace;
    };
    respects = respects-added;
  }
