-- The last word has its end, and what the line asks for then is what `parsed` says.
use Rattle.std.proofs.Common.{rules, refl}
use Rattle.listing_text.specs.Machine.{argued, ended, requested, finished}
use Rattle.listing_text.proofs.LineLaws.{finishes}
use Rattle.listing_text.proofs.MachineLaws.{argued-full}
use Rattle.listing_text.proofs.line.Line.finish.Goals as goal

pub returns-in-Bad : goal.returns-in-Bad
unfolding requested finished ended
returns-in-Bad c = finishes (rw c.in-Bad.is refl)

pub returns-in_err-named-in-Naming : goal.returns-in_err-named-in-Naming
unfolding requested finished ended
returns-in_err-named-in-Naming c = finishes (rw c.in-Naming.is (search rules))

pub returns-in_ok-named-in-Naming : goal.returns-in_ok-named-in-Naming
unfolding requested finished ended
returns-in_ok-named-in-Naming c = finishes (rw c.in-Naming.is (search rules))

pub returns-in_err-value-in-Arguing : goal.returns-in_err-value-in-Arguing
unfolding requested finished ended
returns-in_err-value-in-Arguing c = finishes (rw c.in-Arguing.is (search rules))

pub returns-then-not-try_push : goal.returns-then-not-try_push
unfolding requested finished ended
returns-then-not-try_push c = finishes (rw c.in-Arguing.is (search (rules, argued-full)))

pub returns-else-not-try_push : goal.returns-else-not-try_push
unfolding requested finished ended argued
returns-else-not-try_push c = finishes (rw c.in-Arguing.is (search rules))
