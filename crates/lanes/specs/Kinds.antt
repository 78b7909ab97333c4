-- The kinds of quiescent states, by their numbers.
use Rattle.std.specs.Prelude.{◌≡◌, ℕ, ◌≤◌, Result, MatchResult}
use Rattle.model.specs.Layout.{kinds}
use Rattle.lanes.specs.declared.kinds.Kind.{Kind}
use Rattle.lanes.specs.declared.kinds.Kind.TheVariants.{Idle, BottleDropped, DoorOpen, ChangedOver}
use Rattle.lanes.specs.declared.kinds.UnknownKind.{UnknownKind}

abbrev pub number_of : Kind → ℕ
number_of Idle = 0
number_of BottleDropped = 1
number_of DoorOpen = 2
number_of ChangedOver = 3

-- the kind with this number, or an error where no kind has it
abbrev pub Names : ℕ → Result Kind UnknownKind → Type 0
Names n r = MatchResult r (λ kind. number_of kind ≡ n) (λ e. (e.0 ≡ n) × (kinds ≤ n))
