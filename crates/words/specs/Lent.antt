-- The sizes of a table as the code hands them on, and what is lent for a table of these sizes. Contracts cite the model's sizes.
use Rattle.std.specs.Prelude.{ℕ, ◌≤◌, List, length}
use Rattle.model.specs.State.{Sizes as TableSizes}
use Rattle.model.specs.Layout.{cabinets_at, places_at, slots_at, yards_at, total}
use Rattle.model.specs.Memory.{at}
use Rattle.words.specs.declared.sizes.Sizes.{Sizes}
use Rattle.words.specs.declared.sizes.NamedSizes.{NamedSizes}
pub use Rattle.words.specs.Few.{Few}

-- the model's sizes
abbrev pub sizes_of : Sizes → TableSizes
sizes_of z = record { yards = z.yards; cabinets = z.cabinets; places = z.places; slots = z.slots }

-- the same of sizes that were named
abbrev pub named : NamedSizes → TableSizes
named z = record { yards = z.yards; cabinets = z.cabinets; places = z.places; slots = z.slots }

-- the sizes that a memory's contents name
abbrev pub sizes_in : List ℕ → NamedSizes
sizes_in m = record { yards = at m yards_at; cabinets = at m cabinets_at; places = at m places_at; slots = at m slots_at }

-- the memory holds a table of these sizes
pub record Lent (m : List ℕ) (z : TableSizes) : Type 0 where
  pub few : Few z
  pub long : total z ≤ length m
