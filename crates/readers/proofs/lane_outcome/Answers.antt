-- The code reads what `lookup-shown` says of a running lookup, and `outcome-by` makes its outcome the model's.
use Rattle.readers.proofs.LookupLaws.{outcome-by}
use borrow.Author.Rules.{rules}
use Rattle.readers.proofs.lane_outcome.Goals as goal

pub returns : goal.returns
returns c = search (rules, outcome-by)
