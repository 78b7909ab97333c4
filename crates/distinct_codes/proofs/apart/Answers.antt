use Rattle.distinct_codes.proofs.TreeLaws.{apart-short}
use Rattle.distinct_codes.proofs.apart.Goals as goal

pub returns-then-aside-lt2 : goal.returns-then-aside-lt2
returns-then-aside-lt2 c = apart-short _ _ c.if-aside-lt2.true
