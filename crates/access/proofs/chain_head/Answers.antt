-- The head stands in a legal memory, which is longer than its bodies, and holds the first slot of the chain.
use native.Mathlib.Omega.{arith}
use Rattle.access.proofs.Ways.{long}
use Rattle.access.proofs.LaneLaws.{head-by}
use borrow.Author.Rules.{rules}
use Rattle.access.proofs.chain_head.Goals as goal

pub bounds-m-a : goal.bounds-m-a
bounds-m-a c = omega (arith, c.head_address-a.ensures, long _ c.requires)

pub returns : goal.returns
returns c = search (rules, head-by)
