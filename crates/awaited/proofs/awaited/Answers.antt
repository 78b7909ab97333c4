-- Each of the four words is counted by one function or stands in the memory, of which no word is written.
use native.Mathlib.Omega.{arith}
use Rattle.access.proofs.Ways.{long}
use Rattle.access.proofs.LaneLaws.{few-read}
use Rattle.access.proofs.TableReads.{table-read}
use Rattle.awaited.proofs.AwaitedAnswer.{answered}
use borrow.Author.Rules.{rules}
use Rattle.awaited.proofs.awaited.Goals as goal

pub read-requires : goal.read-requires
read-requires c = omega (arith, long _ c.requires)

pub of_table-z-requires : goal.of_table-z-requires
of_table-z-requires c = search (rules, few-read)

pub bounds-m : goal.bounds-m
bounds-m c = omega (arith, long _ c.requires)

pub retired_length-retired-requires : goal.retired_length-retired-requires
retired_length-retired-requires c = search (rules, table-read)

pub pending_count-requires : goal.pending_count-requires
pending_count-requires c = search (rules, table-read)

pub lowest_pending-requires : goal.lowest_pending-requires
lowest_pending-requires c = search (rules, table-read)

pub returns : goal.returns
returns c = search (rules, answered)
