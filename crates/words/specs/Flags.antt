-- The bits of a lane's flags.
use Rattle.std.specs.Prelude.{ℕ}
use Rattle.model.specs.Layout.{online_bit, reading_bit, lookup_bit, snapshot_bit}
use Rattle.words.specs.declared.flags.Flag.{Flag}
use Rattle.words.specs.declared.flags.Flag.TheVariants.{Online, Reading, Lookup, Snapshot}

abbrev pub bit_of : Flag → ℕ
bit_of Online = online_bit
bit_of Reading = reading_bit
bit_of Lookup = lookup_bit
bit_of Snapshot = snapshot_bit
