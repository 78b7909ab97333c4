-- A lane's flags: what each says of it, and the word after one of its bits is set or cleared.
use Rattle.std.specs.Prelude.{ℕ, Bool, true, false, List, set}
use Rattle.model.specs.State.{Lane, is_running, is_held}
use Rattle.model.specs.Memory.{at}
use Rattle.words.specs.declared.flags.Flag.{Flag}
use Rattle.words.specs.declared.flags.Flag.TheVariants.{Online, Reading, Lookup, Snapshot}
use Rattle.masks.specs.Bits.{with_bit, without_bit}

-- the lane has this flag
abbrev pub has_flag : Flag → Lane → Bool
has_flag Online l = l.online
has_flag Reading l = l.reading
has_flag Lookup l = is_running l.lookup
has_flag Snapshot l = is_held l.snapshot

-- the word w with b as its bit p
unfoldable pub with_flag : ℕ → Bool → ℕ → ℕ
with_flag p true w = with_bit p w
with_flag p false w = without_bit p w

-- the memory with b as bit p of its word a
abbrev pub flag_put : List ℕ → ℕ → ℕ → Bool → List ℕ
flag_put m a p b = set m a (with_flag p b (at m a))
