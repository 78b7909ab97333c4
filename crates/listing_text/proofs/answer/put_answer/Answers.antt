-- Five numbers one after the other, each of at most eleven bytes with the byte after it.
use Rattle.listing_text.proofs.TextLaws.{puts-answer}
use Rattle.listing_text.proofs.answer.put_answer.Goals as goal

pub returns : goal.returns
returns g c =
    puts-answer c.args.answer c.put_word.ensures c.put_word-2.ensures c.put_word-3.ensures c.put_word-4.ensures c.put_word-5.ensures
