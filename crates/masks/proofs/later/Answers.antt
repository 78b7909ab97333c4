-- `masks::later`: the difference that wraps is the model's `less`, and the two tests are those of its range.
use Rattle.std.proofs.Common.{refl, le-leb}
use borrow.Author.Tests.{lt-leb}
use Rattle.model.specs.Word.{later}
use Rattle.masks.proofs.later.Goals as goal

pub returns-then-d-ge1 : goal.returns-then-d-ge1
unfolding later
returns-then-d-ge1 c = rw (le-leb _ _ c.if-d-ge1.true) refl

pub returns-else-d-ge1 : goal.returns-else-d-ge1
unfolding later
returns-else-d-ge1 c = rw (lt-leb _ _ c.if-d-ge1.false) refl
