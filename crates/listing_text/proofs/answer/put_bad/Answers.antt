use Rattle.std.proofs.Common.{rules}
use Rattle.listing_text.proofs.TextLaws.{puts-bad}
use Rattle.listing_text.proofs.answer.put_bad.Goals as goal

pub returns : goal.returns
returns g c = search (rules, puts-bad)
