use mathlib.Core.Path.{◌∙◌}
use Rattle.labels.proofs.WriteLaws.{putting-on, putting-done, put-whole}
use borrow.Author.Rules.{rules}
use Rattle.labels.proofs.put_digits.Goals as goal

pub loop-i-preserved : goal.loop-i-preserved
loop-i-preserved c = search (rules, putting-on)

pub returns : goal.returns
returns c = putting-done _ _ _ _ c.loop-i.invariant c.loop-i-test.false ∙ put-whole _ _
