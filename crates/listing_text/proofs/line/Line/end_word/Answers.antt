-- Its tests are those of `ended`.
use Rattle.std.proofs.Common.{rules, refl}
use Rattle.listing_text.specs.Machine.{ended}
use Rattle.listing_text.proofs.MachineLaws.{argued-more, argued-full}
use Rattle.listing_text.proofs.line.Line.end_word.Goals as goal

pub returns-in-Bad : goal.returns-in-Bad
unfolding ended
returns-in-Bad c = rw c.in-Bad.is refl

pub returns-in-Some : goal.returns-in-Some
unfolding ended
returns-in-Some c = rw c.in-Naming.is (search rules)

pub returns-in-None : goal.returns-in-None
unfolding ended
returns-in-None c = rw c.in-Naming.is (search rules)

pub returns-in-Some-value : goal.returns-in-Some-value
unfolding ended
returns-in-Some-value c = rw c.in-Arguing.is (search (rules, argued-more))

pub returns-in_default : goal.returns-in_default
unfolding ended
returns-in_default c = rw c.in-Arguing.is (search (rules, argued-full))
