-- A link in range, in a table of so many slots: what `Legal.slot_or_none` says of a memory's own slots.
use Rattle.std.specs.Prelude.{ℕ, Bool, ◌||◌, ◌==◌, nat_lt}
use Rattle.model.specs.Word.{none}

-- a slot's number or none
abbrev pub slot_or_none : ℕ → ℕ → Bool
slot_or_none slots x = nat_lt x slots || x == none
