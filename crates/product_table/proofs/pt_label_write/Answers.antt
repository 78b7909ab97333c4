-- Fewer than five words: nothing is done, and the text is as it was. Else the label is written, and then the five words.
use mathlib.Core.Path.{refl, sym, subst}
use Rattle.access.specs.declared.Answer.{Answer}
use Rattle.labels.specs.Writing.{Writes}
use Rattle.product_table.proofs.CalledLaws.{too_short, answered-written}
use Rattle.product_table.proofs.pt_label_write.Goals as goal

pub returns-in_default : goal.returns-in_default
returns-in_default c = too_short _ c.in_default.ensures.cases _ _ _

pub returns : goal.returns
returns c =
    let written = subst (λ (r : Answer). Writes c.args.text.now c.args.code r c.write.new.text) (sym c.into.ensures) c.write.ensures in
    answered-written _ (c.in-Some.ensures.variant.0 refl) _ _ _ c.write_answer.ensures.room c.write_answer.ensures.status _ _ _ written
