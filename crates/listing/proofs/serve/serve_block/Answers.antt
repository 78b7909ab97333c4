use Rattle.std.proofs.Common.{rules}
use Rattle.listing.specs.ProgramContract.{ServesPart}
use Rattle.listing.proofs.ServeLaws.{serving-none, serving-more, serves-part}
use Rattle.listing.proofs.serve.serve_block.Goals as goal

pub loop-out-init : goal.loop-out-init
loop-out-init g c = serving-none _ _ _

pub loop-out-preserved : goal.loop-out-preserved
loop-out-preserved g c =
    serving-more c.loop-out.invariant c.clear.ensures c.answer_block-place.ensures.goes
    (rw (← c.as_slice.ensures.value) c.in_ok-write_all.ensures.bytes)

pub returns-in_err-write_all-clause-unwritten : goal.returns-in_err-write_all-clause-unwritten
returns-in_err-write_all-clause-unwritten g c =
    let part : ServesPart c.args.m.now c.args.block.now c.args.unended c.answer_block-place.new.m =
    serves-part c.loop-out.invariant c.clear.ensures c.answer_block-place.ensures.goes in
    search rules
