-- The lanes as if one were off.
use Rattle.std.specs.Prelude.{ℕ, false, List}
use Rattle.model.specs.State.{Lane, State}
use Rattle.model.specs.Engine.{set_online, at_lane}

abbrev pub others : State → ℕ → List Lane
others s i = (at_lane i (set_online false) s.engine).lanes
