-- The code's range is tested first, and then the text's length; only then are the digits put.
use native.Mathlib.Omega.{arith}
use Rattle.labels.proofs.WriteLaws.{length-few, write-far, write-short, write-put}
use borrow.Author.Rules.{rules}
use Rattle.labels.proofs.write.Goals as goal

pub returns-then-code-gt-MAX_CODE : goal.returns-then-code-gt-MAX_CODE
returns-then-code-gt-MAX_CODE c = search (rules, write-far)

pub returns-then-text-n : goal.returns-then-text-n
returns-then-text-n c = search (rules, write-short)

pub overflow_cast-result : goal.overflow_cast-result
overflow_cast-result c = omega (arith, c.length_of-n.ensures, length-few c.args.code)

pub returns : goal.returns
returns c = search (rules, write-put)
