-- What was asked is a call, or bad.
use mathlib.Core.Path.{ap}
use Rattle.listing_text.specs.Arguments.{parsed_of}
use Rattle.listing.proofs.AnswerLaws.{prints-bad, answers-line}
use Rattle.listing.proofs.answers.answer_line.Goals as goal

pub returns-in-Some : goal.returns-in-Some
returns-in-Some g c = answers-line _ _ _ c.finish.ensures (ap parsed_of c.in-Some.is) c.put_call.ensures

pub returns-in-None : goal.returns-in-None
returns-in-None g c = answers-line _ _ _ c.finish.ensures (ap parsed_of c.in-None.is) (prints-bad c.put_bad.ensures)
