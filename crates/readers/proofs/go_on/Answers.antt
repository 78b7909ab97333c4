-- A lookup that goes on stands on a slot (`position-by`), whose chain link is the next position.
use Rattle.readers.proofs.StepLaws.{position-by, moved_by}
use borrow.Author.Rules.{rules}
use Rattle.readers.proofs.go_on.Goals as goal

pub chain_link-requires : goal.chain_link-requires
chain_link-requires c = search (rules, position-by)

pub returns : goal.returns
returns c = search (rules, moved_by)
