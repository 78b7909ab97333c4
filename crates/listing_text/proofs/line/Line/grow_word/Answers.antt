-- Its tests are those of `grown`.
use Rattle.std.proofs.Common.{rules, refl}
use Rattle.listing_text.specs.Machine.{grown}
use Rattle.listing_text.proofs.MachineLaws.{grown-letter, grown-long}
use Rattle.listing_text.proofs.line.Line.grow_word.Goals as goal

pub returns-in-Bad : goal.returns-in-Bad
unfolding grown
returns-in-Bad c = rw c.in-Bad.is refl

pub returns-then-not-try_push : goal.returns-then-not-try_push
returns-then-not-try_push c = rw c.in-Naming.is (search (rules, grown-long))

pub returns-else-not-try_push : goal.returns-else-not-try_push
returns-else-not-try_push c = rw c.in-Naming.is (search (rules, grown-letter))

pub returns-in-Some : goal.returns-in-Some
unfolding grown
returns-in-Some c = rw c.in-Arguing.is (search rules)

pub returns-in-None : goal.returns-in-None
unfolding grown
returns-in-None c = rw c.in-Arguing.is (search rules)
