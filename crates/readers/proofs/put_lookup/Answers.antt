use Rattle.readers.proofs.LookupLaws.{lookup-by}
use Rattle.readers.proofs.put_lookup.Goals as goal

pub returns : goal.returns
returns c = lookup-by _ _ _ c.args.lookup _ _ _ _ c.is_some.ensures c.put_flag.ensures c.unwrap_or-code.ensures c.low.ensures c.high.ensures
