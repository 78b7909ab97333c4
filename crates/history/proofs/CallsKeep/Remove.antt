-- Replace and delete, as slots that leave the chain of their code.
use Prim.Native.Nat.{ℕ, ◌<◌}
use mathlib.Core.Path.{◌≡◌, refl}
use mathlib.Core.Bool.{true, false}
use mathlib.Core.List.{[], ◌∷◌}
use native.Mathlib.Omega.{arith}
use lib.ListN.{length}
use Rattle.model.specs.Lists.{is_empty, first, drops}
use Rattle.model.specs.State.{State}
use Rattle.model.specs.Table.{product, slot_of, present, replaced, deleted}
use Rattle.model.specs.Rules.{with, retired}
use Rattle.model.specs.Ledger.{Ledger, of_code, entry_of, entry_made, entry_struck, slot_out}
use Rattle.laws.specs.Counts.{mark-other, count-first}
use Rattle.representation.proofs.Causes.SlotCounts.{in-replaced, in-deleted}
use Rattle.representation.proofs.WellFormed.{WellFormed}
use Rattle.history.proofs.Ties.Invariant.{Tied}
use Rattle.history.proofs.CallsKeep.Respects.{Keeps}
use Rattle.history.proofs.CallsKeep.Add.{product-other}
use Rattle.history.proofs.CallsKeep.Retire.{keeps-retire}
use Rattle.history.proofs.CallsKeep.Removed.{link-other, leaves-deleted, entries-deleted, leaves-replaced, entries-replaced}

-- ---- the calls

module _ {k : ℕ} {s : State} {g : Ledger} (v : Tied k s g) (i c : ℕ) (inside : i < length s.engine.lanes)
    (here : present s.table c ≡ true) where
  abbrev gone : ℕ
  gone = slot_of s.table c

  pub keeps-delete : WellFormed (with s (retired s i gone) (deleted c s.table))
      → Keeps k s (with s (retired s i gone) (deleted c s.table)) g (slot_out gone (entry_struck c g))
  unfolding deleted
  keeps-delete w = keeps-retire v i c gone (deleted c s.table) (drops (of_code c) g.entries) (record {
    well_formed = w;
    inside = inside;
    new = [];
    leaves = leaves-deleted s v.well_formed c here;
    products = λ x q. refl;
    links = λ x e. link-other s v.well_formed c here x e;
    chained = λ x e q. omega (arith, mark-other x gone e, in-deleted s.table v.well_formed.table.chains x c here);
    entries = entries-deleted s v.well_formed c here g.entries v.entries;
  })

  -- the ledger after replace
  abbrev replacing : ℕ → ℕ → Ledger
  replacing d n = slot_out gone (entry_made (entry_of c (first s.table.free) d n) g)

  pub keeps-replace : (d n : ℕ) → is_empty s.table.free ≡ false → WellFormed (with s (retired s i gone) (replaced (product c d n) s.table))
      → Keeps k s (with s (retired s i gone) (replaced (product c d n) s.table)) g (replacing d n)
  unfolding replaced
  keeps-replace d n f w =
      keeps-retire v i c gone (replaced (product c d n) s.table) (entry_of c (first s.table.free) d n ∷ drops (of_code c) g.entries) (record {
        well_formed = w;
        inside = inside;
        new = first s.table.free ∷ [];
        leaves = leaves-replaced s v.well_formed c here d n f;
        products = λ x q. product-other s v.well_formed (product c d n) f x (omega arith);
        links = λ x e. link-other s v.well_formed c here x e;
        chained = λ x e q. omega (
          arith,
          mark-other x gone e,
          count-first x s.table.free f,
          in-replaced s.table v.well_formed.table.chains x (product c d n) f here,
        );
        entries = entries-replaced s v.well_formed c here d n f g.entries v.entries;
      })
