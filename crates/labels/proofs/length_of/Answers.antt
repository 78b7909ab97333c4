-- Two limits, the shortest length first.
use Rattle.labels.proofs.WriteLaws.{length-8, length-13, length-14}
use borrow.Author.Rules.{rules}
use Rattle.labels.proofs.length_of.Goals as goal

pub returns-in-0-to-99999999 : goal.returns-in-0-to-99999999
returns-in-0-to-99999999 c = search (rules, length-8)

pub returns-in-100000000-to-9999999999999 : goal.returns-in-100000000-to-9999999999999
returns-in-100000000-to-9999999999999 c = search (rules, length-13)

pub returns-in_default : goal.returns-in_default
returns-in_default c = search (rules, length-14)
