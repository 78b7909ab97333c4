-- Its test is that of `fed`.
use Rattle.std.proofs.Common.{rules}
use Rattle.listing_text.proofs.MachineLaws.{fed-space, fed-other}
use Rattle.listing_text.proofs.line.Line.read.Goals as goal

pub returns-then-byte-eq-SPACE : goal.returns-then-byte-eq-SPACE
returns-then-byte-eq-SPACE c = search (rules, fed-space)

pub returns-else-byte-eq-SPACE : goal.returns-else-byte-eq-SPACE
returns-else-byte-eq-SPACE c = search (rules, fed-other)
