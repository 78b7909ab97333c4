-- The sizes are read from the contents, and the address is that of the layout.
use native.Mathlib.Omega.{arith}
use Rattle.access.proofs.Ways.{long}
use Rattle.access.proofs.LaneLaws.{few-read, named_by}
use Rattle.access.proofs.Lane.at.Goals as goal

pub read-requires : goal.read-requires
read-requires c = omega (arith, long _ c.requires)

pub of_table-sizes-requires : goal.of_table-sizes-requires
of_table-sizes-requires c = few-read _ c.requires _ c.read.ensures

pub returns-clause-named : goal.returns-clause-named
returns-clause-named c = named_by _ c.requires _ _ c.read.ensures c.of_table-sizes.ensures c.lane_address-address.ensures
