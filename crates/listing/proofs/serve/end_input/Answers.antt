-- The line is answered if it has begun.
use Rattle.std.proofs.Common.{rules}
use Rattle.listing.proofs.ServeLaws.{ends-none, ends-line, writes-none, writes-line}
use Rattle.listing.proofs.serve.end_input.Goals as goal

pub returns-in_err-write_all-clause-served : goal.returns-in_err-write_all-clause-served
returns-in_err-write_all-clause-served g c = rw c.in-Some.is (ends-line c.answer_line.ensures)

pub returns-in_ok-write_all-clause-served : goal.returns-in_ok-write_all-clause-served
returns-in_ok-write_all-clause-served g c = rw c.in-Some.is (ends-line c.answer_line.ensures)

pub returns-in_ok-write_all-clause-written : goal.returns-in_ok-write_all-clause-written
returns-in_ok-write_all-clause-written g c =
    rw c.in-Some.is (writes-line c.answer_line.ensures _ _ c.new-out.ensures (rw (← c.as_slice.ensures.value) c.in_ok-write_all.ensures.bytes))

pub returns-in_default-clause-served : goal.returns-in_default-clause-served
returns-in_default-clause-served g c = search (rules, ends-none)

pub returns-in_default-clause-written : goal.returns-in_default-clause-written
returns-in_default-clause-written g c = search (rules, writes-none)
