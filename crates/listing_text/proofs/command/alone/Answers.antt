use Rattle.std.proofs.Common.{rules}
use Rattle.listing_text.proofs.TakenLaws.{other_count, none_taken}
use Rattle.listing_text.proofs.command.alone.Goals as goal

pub returns-then-is_empty : goal.returns-then-is_empty
returns-then-is_empty c = search (rules, none_taken)

pub returns-else-is_empty : goal.returns-else-is_empty
returns-else-is_empty c = search (rules, other_count)
