-- The line ended and was answered, or the block ended first.
use Rattle.std.proofs.Common.{rules}
use Rattle.listing.proofs.PlaceLaws.{goes-line, goes-part}
use Rattle.listing.proofs.answers.answer_part.Goals as goal

pub returns-in-Some : goal.returns-in-Some
returns-in-Some g c = goes-line _ _ _ c.new.result c.feed_until_newline-fed.result c.in-Some.rest c.new.ensures (rw (← c.unwrap_or-line.ensures) c.feed_until_newline-fed.ensures) c.in-Some.is c.answer_line.ensures

pub returns-in-None : goal.returns-in-None
returns-in-None g c = search (rules, goes-part)
