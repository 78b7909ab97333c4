-- A text that is no label is refused; the code of one that is goes into two words.
use mathlib.Core.Path.{sym, ◌∙◌}
use Rattle.labels.proofs.ReadLaws.{read_none, read_some}
use Rattle.labels.proofs.read.Goals as goal

pub returns-then-is_no_label : goal.returns-then-is_no_label
returns-then-is_no_label c = read_none _ (sym c.is_no_label.ensures ∙ c.if-is_no_label.true)

pub returns : goal.returns
returns c =
    rw (c.low.ensures, c.high.ensures, c.code_of-code.ensures) (read_some _ (sym c.is_no_label.ensures ∙ c.if-is_no_label.false))
