-- Fewer than five words: nothing is done. Else the label is read, and the five words are written.
use mathlib.Core.Path.{refl, ap, ◌∙◌}
use Rattle.access.specs.Contract.{five}
use Rattle.product_table.proofs.CalledLaws.{too_short, answered-read}
use Rattle.product_table.proofs.pt_label_read.Goals as goal

pub returns-in_default : goal.returns-in_default
returns-in_default c = too_short _ c.in_default.ensures.cases _ _ _

pub returns : goal.returns
returns c =
    answered-read _ (c.in-Some.ensures.variant.0 refl) _ _ _ c.write_answer.ensures.room c.write_answer.ensures.status _ (ap five c.into.ensures ∙ c.read.ensures)
