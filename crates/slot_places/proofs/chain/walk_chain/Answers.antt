use native.Mathlib.Omega.{arith}
use borrow.Author.Tests.{not-true, not-false}
use Rattle.slot_places.proofs.ChainLaws.{chain-done, chain-astray, chain-twice, chain-unfit, chain-asks, chain-less}
use Rattle.slot_places.proofs.ChainLaws.{chain-repeats, chain-on}
use borrow.Author.Rules.{rules}
use Rattle.slot_places.proofs.chain.walk_chain.Goals as goal

pub returns-then-marks-c-ne0 : goal.returns-then-marks-c-ne0
returns-then-marks-c-ne0 g c = chain-twice _ _ _ _ _ _ _ _ _ _ _ c.loop-cur.invariant.0 c.loop-cur-test.true c.if-marks-c-ne0.true

pub returns-then-not-chained_fits : goal.returns-then-not-chained_fits
returns-then-not-chained_fits g c =
    chain-unfit _ _ _ _ _ _ _ _ _ _ _ c.loop-cur.invariant.0 c.loop-cur-test.true c.if-marks-c-ne0.false _
    c.chained_fits.ensures (not-true _ c.if-not-chained_fits.true-raw)

pub meet-requires : goal.meet-requires
meet-requires g c =
    let asks = chain-asks _ _ _ _ _ _ _ _ _ _ _ c.loop-cur.invariant.0 c.loop-cur-test.true c.if-marks-c-ne0.false _ c.requires.2 in
    (search rules, (asks.0, omega (arith, c.requires.0.few, c.loop-cur-test.true), asks.1, asks.2))

pub returns-then-not-meet : goal.returns-then-not-meet
returns-then-not-meet g c =
    chain-repeats _ _ _ _ _ _ _ _ _ _ _ c.loop-cur.invariant.0 c.loop-cur-test.true c.if-marks-c-ne0.false _ _ _ c.meet.ensures
    (not-true _ c.if-not-meet.true-raw)

pub overflow_sub-rest : goal.overflow_sub-rest
overflow_sub-rest g c = omega (arith, chain-less _ _ _ _ _ _ _ _ _ _ _ c.loop-cur.invariant.0 c.loop-cur-test.true c.if-marks-c-ne0.false)

pub loop-cur-smaller : goal.loop-cur-smaller
loop-cur-smaller g c = chain-less _ _ _ _ _ _ _ _ _ _ _ c.loop-cur.invariant.0 c.loop-cur-test.true c.if-marks-c-ne0.false

pub loop-cur-preserved : goal.loop-cur-preserved
loop-cur-preserved g c = (
  chain-on _ _ _ _ _ _ _ _ _ _ _ c.loop-cur.invariant.0 c.loop-cur-test.true c.if-marks-c-ne0.false _ _ _ c.meet.ensures _
      c.chained_fits.ensures (not-false _ c.if-not-chained_fits.false-raw) (not-false _ c.if-not-meet.false-raw) _ c.word-cur.ensures,
  search rules,
)

pub returns-then-cur : goal.returns-then-cur
returns-then-cur g c = chain-astray _ _ _ _ _ _ _ _ _ _ _ c.loop-cur.invariant.0 c.loop-cur-test.false c.if-cur.true

pub returns : goal.returns
returns g c = chain-done _ _ _ _ _ _ _ _ _ _ _ c.loop-cur.invariant.0 c.loop-cur-test.false c.if-cur.false
