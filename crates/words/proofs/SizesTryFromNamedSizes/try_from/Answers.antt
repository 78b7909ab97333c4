-- Sizes that fit are not above the largest.
use Rattle.words.proofs.LentLaws.{few-tested}
use Rattle.words.proofs.SizesTryFromNamedSizes.try_from.Goals as goal

pub of_table-requires : goal.of_table-requires
of_table-requires c = few-tested _ _ c.fit.ensures c.if-fit.true
