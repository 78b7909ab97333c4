-- A law for each way out: too few words, sizes out of range, other contents, or the total decides.
use Rattle.std.proofs.Common.{rules}
use Rattle.engine_legality.proofs.ContentsLaws.{contents-short, contents-unsized, contents-other, contents-decided}
use Rattle.engine_legality.proofs.contents.contents_agree.Goals as goal

pub returns-then-m-lt-CONTENTS_LENGTH : goal.returns-then-m-lt-CONTENTS_LENGTH
returns-then-m-lt-CONTENTS_LENGTH c = search (rules, contents-short)

pub returns-in_default : goal.returns-in_default
returns-in_default c = search (rules, contents-unsized)

pub returns-then-starts_with : goal.returns-then-starts_with
returns-then-starts_with c =
    let ok = c.in-Ok.ensures in
    contents-decided _ c.if-m-lt-CONTENTS_LENGTH.false _ c.read.ensures _ ok.0 ok.1 _ c.write_contents.ensures
    _ c.starts_with.ensures.value c.if-starts_with.true _ c.bodies.ensures.total

pub returns-else-starts_with : goal.returns-else-starts_with
returns-else-starts_with c =
    let ok = c.in-Ok.ensures in
    contents-other _ c.if-m-lt-CONTENTS_LENGTH.false _ c.read.ensures _ ok.0 ok.1 _ c.write_contents.ensures
    _ c.starts_with.ensures.value c.if-starts_with.false
