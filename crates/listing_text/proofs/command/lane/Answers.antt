use Rattle.std.proofs.Common.{rules, arith}
use Rattle.listing_text.proofs.TakenLaws.{other_count, lane-read}
use Rattle.listing_text.proofs.command.lane.Goals as goal

pub returns-in-len1 : goal.returns-in-len1
returns-in-len1 c = lane-read _ _ (omega (arith, c.in-len1)) c.word.ensures

pub returns-in_default : goal.returns-in_default
returns-in_default c = λ k. search (rules, other_count)

pub returns-in_default-2 : goal.returns-in_default-2
returns-in_default-2 c = λ k. other_count _ k _ (λ e. omega (arith, c.in_default.len_at_least))
