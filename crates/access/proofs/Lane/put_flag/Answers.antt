-- Each arm is a clause of `with_flag`.
use mathlib.Core.Path.{ap}
use lib.ListN.{set}
use Rattle.access.proofs.FlagLaws.{put-by, cleared_by}
use borrow.Author.Rules.{rules}
use Rattle.access.proofs.Lane.put_flag.Goals.{then-on, else-on}
use Rattle.access.proofs.Lane.put_flag.Goals as goal

pub returns : goal.returns
returns c =
    ap (set c.args.m.now c.args.self.address)
    (elim c.if-on.branch [ then-on w ↦ search (rules, put-by) | else-on w ↦ search (rules, cleared_by) ])
