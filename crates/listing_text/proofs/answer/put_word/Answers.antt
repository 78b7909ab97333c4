-- The digits, and then a byte.
use Rattle.listing_text.proofs.TextLaws.{puts_word}
use Rattle.listing_text.proofs.answer.put_word.Goals as goal

pub returns : goal.returns
returns g c = puts_word c.args.n c.args.after c.put_number.ensures c.push.ensures.items
