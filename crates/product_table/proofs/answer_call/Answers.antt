-- Fewer than five words: nothing is done. Else the call is made, and its five words are written.
use mathlib.Core.Path.{refl}
use Rattle.product_table.proofs.CalledLaws.{too_short, answered}
use Rattle.product_table.proofs.answer_call.Goals as goal

pub returns-in_default : goal.returns-in_default
returns-in_default c = too_short _ c.in_default.ensures.cases _ _ _

pub returns : goal.returns
returns c = answered _ (c.in-Some.ensures.variant.0 refl) _ _ _ c.write_answer.ensures.room c.write_answer.ensures.status _ _ _ c.make_call-r.ensures
