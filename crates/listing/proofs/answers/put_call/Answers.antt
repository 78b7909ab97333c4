-- The five words are those of the call.
use Rattle.std.proofs.Common.{ℕ, List, subst}
use Rattle.listing_text.specs.Answer.{line_length, line_text, answer_of, Puts}
use Rattle.listing.proofs.AnswerLaws.{prints-call}
use Rattle.listing.proofs.answers.put_call.Goals as goal

pub returns : goal.returns
returns g c =
    prints-call _ _ c.make_call-a.ensures
    (subst (λ (w : List ℕ). Puts line_length c.args.out.now.items (line_text (answer_of w)) c.put_answer.new.out.items) c.into.ensures c.put_answer.ensures)
