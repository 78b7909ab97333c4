-- A memory that the legality check refuses is left as it is, with cause 3; any other is legal, and its elements are words.
use Rattle.access.proofs.Ways.{illegal}
use borrow.Author.Rules.{rules}
use Rattle.table.proofs.make_op.Goals as goal

pub returns-then-not-legal : goal.returns-then-not-legal
returns-then-not-legal c = search (rules, illegal)
