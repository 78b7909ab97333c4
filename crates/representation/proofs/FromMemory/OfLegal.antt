-- A legal memory reads as a well-formed state.
use Prim.Native.Nat.{ℕ, ◌<◌}
use mathlib.Core.Path.{◌≡◌, ap, ◌∙◌}
use mathlib.Core.Bool.{not}
use mathlib.Core.List.{List}
use native.Mathlib.Omega.{arith}
use lib.Dec.{eqb}
use Rattle.model.specs.Word.{word_limit}
use Rattle.model.specs.State.{Engine, State}
use Rattle.model.specs.Layout.{current_generation_at, largest_generation_at, yard_mask_at, total}
use Rattle.model.specs.Engine.{lane_at, runs}
use Rattle.model.specs.Memory.{sizes, contents, state}
use Rattle.model.specs.Legal.{period_runs}
use Rattle.laws.specs.Tests.{not-not}
use Rattle.representation.proofs.Discipline.Ages.{Level}
use Rattle.representation.proofs.WellFormed.{WellFormed}
use Rattle.representation.proofs.Sentences.Facts.{WordsTo, Facts, Legal}
use Rattle.representation.proofs.Addresses.Fields.{top}
use Rattle.representation.proofs.FromMemory.Reading.{state-lanes}
use Rattle.representation.proofs.FromMemory.Represent.{state-image}
use Rattle.representation.proofs.FromState.Periods.{yard_mask-runs}
use Rattle.representation.proofs.FromMemory.LegalGenerations.{level, strict, clean}
use Rattle.representation.proofs.FromMemory.LegalLanes.{lane-fits}
use Rattle.representation.proofs.FromMemory.LegalTable.{once, range, unlinked, table_fits}

module _ (m : List ℕ) (l : Legal m) (word : WordsTo (total (sizes m)) m) where
  abbrev s : State
  s = state m

  abbrev e : Engine
  e = s.engine

  abbrev f : Facts m s
  f = l.facts

  -- ---- generations

  runs-is : period_runs m ≡ runs e
  unfolding contents state
  runs-is =
      ap (λ (x : ℕ). not (eqb x 0)) (state-image m l word (top yard_mask_at) (omega arith))
      ∙ ap not (yard_mask-runs s (state-lanes m))
      ∙ not-not (runs e)

  current-word : e.current < word_limit
  unfolding state
  current-word = word current_generation_at (omega arith)

  largest-level : Level e
  unfolding state
  largest-level = level e current-word (period_runs m) runs-is (word largest_generation_at (omega arith)) f.largest

  pub legal-well_formed-facts : WellFormed s
  unfolding state
  legal-well_formed-facts = record {
    sizes = l.contents.in_range;
    lanes = state-lanes m;
    fits = lane-fits m l word;
    table = table_fits m l;
    once = once m l;
    range = range m l;
    unlinked = unlinked m l;
    generations = record {
      word = current-word;
      largest = largest-level;
      lanes = λ i. strict e current-word (period_runs m) (lane_at e i) runs-is largest-level (f.lanes_rest i) (f.lanes_near i);
      global = clean e current-word largest-level f.global_rest f.global_near;
    };
  }
