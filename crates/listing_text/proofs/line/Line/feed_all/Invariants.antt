-- The bytes before the next one are fed.
use Rattle.std.proofs.Common.{◌≡◌, take}
use Rattle.listing_text.specs.Machine.{fed_all}
use Rattle.listing_text.proofs.line.Line.feed_all.Given as goal

abbrev pub invariant-loop-byte : goal.invariant-loop-byte
invariant-loop-byte l = l.self ≡ fed_all l.initial.self (take l.byte-index l.bytes)
