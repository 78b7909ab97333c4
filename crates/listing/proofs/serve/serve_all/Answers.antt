use Rattle.std.proofs.Common.{rules, refl, ◌≡◌, []}
use lib.ListN.{take}
use Rattle.std.specs.Prelude.{Ok}
use Rattle.std.specs.Io.KnownBytes.{Consumes, IsAtEnd}
use Rattle.std.proofs.lemmas.Result.{on_ok_weaker}
use Rattle.listing.proofs.ServeLaws.{reading-none, reading-more, reading-end}
use Rattle.listing.proofs.serve.serve_all.Goals as goal

pub loop-init : goal.loop-init
loop-init g c = reading-none _ _ _

pub returns-then-n-eq0-clause-served : goal.returns-then-n-eq0-clause-served
returns-then-n-eq0-clause-served g c =
    let got : c.read.result ≡ Ok c.in_ok-n.n = search rules in
    let consumed : Consumes (g.R.Read.remaining c.loop.from) (g.R.Read.remaining c.read.new.self) [] = (rw (got, c.if-n-eq0.true) at c.read.ensures.bytes).0 in
    let ended : IsAtEnd (g.R.Read.remaining c.read.new.self) = (rw (got, c.if-n-eq0.true) at c.read.ensures.bytes).1 refl (search rules) in
    search (rules, on_ok_weaker c.end_input.result (reading-end c.loop.invariant consumed ended c.end_input.ensures.served) c.end_input.ensures.written)

pub loop-preserved : goal.loop-preserved
loop-preserved g c =
    let got : c.read.result ≡ Ok c.in_ok-n.n = search rules in
    let consumed : Consumes (g.R.Read.remaining c.loop.from) (g.R.Read.remaining c.read.new.self) (take c.in_ok-n.n c.read.new.buf) = (rw got at c.read.ensures.bytes).0 in
    let made : c.serve_block.result ≡ Ok c.in_ok-unended.unended = search rules in
    reading-more c.loop.invariant (take c.in_ok-n.n c.read.new.buf) consumed (rw made at c.serve_block.ensures.served) (rw made at c.serve_block.ensures.written)
