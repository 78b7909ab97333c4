use mathlib.Core.Path.{refl}
use native.Mathlib.Omega.{arith}
use borrow.Author.Tests.{not-true, not-false}
use Rattle.slot_places.proofs.QueueLaws.{queue-start, queue-done, queue-astray, queue-twice, queue-unfit, queue-less, queue-on}
use borrow.Author.Rules.{rules}
use Rattle.slot_places.proofs.queue.walk_queue.Goals as goal

pub loop-cur-init : goal.loop-cur-init
loop-cur-init c = (queue-start _ _ _ _ _ _ refl c.requires.0, refl)

pub returns-then-marks-c-ne0 : goal.returns-then-marks-c-ne0
returns-then-marks-c-ne0 c = queue-twice _ _ _ _ _ _ _ _ _ c.loop-cur.invariant.0 c.loop-cur-test.true c.if-marks-c-ne0.true

pub returns-then-not-fits : goal.returns-then-not-fits
returns-then-not-fits c =
    queue-unfit _ _ _ _ _ _ _ _ _ c.loop-cur.invariant.0 c.loop-cur-test.true c.if-marks-c-ne0.false _ c.fits.ensures
    (not-true _ c.if-not-fits.true-raw)

pub overflow_sub-rest : goal.overflow_sub-rest
overflow_sub-rest c = omega (arith, queue-less _ _ _ _ _ _ _ _ _ c.loop-cur.invariant.0 c.loop-cur-test.true c.if-marks-c-ne0.false)

pub loop-cur-smaller : goal.loop-cur-smaller
loop-cur-smaller c = queue-less _ _ _ _ _ _ _ _ _ c.loop-cur.invariant.0 c.loop-cur-test.true c.if-marks-c-ne0.false

pub loop-cur-preserved : goal.loop-cur-preserved
loop-cur-preserved c = (
  queue-on _ _ _ _ _ _ _ _ _ c.loop-cur.invariant.0 c.loop-cur-test.true c.if-marks-c-ne0.false _ c.fits.ensures
      (not-false _ c.if-not-fits.false-raw) _ c.word-cur.ensures,
  search rules,
)

pub returns-then-cur : goal.returns-then-cur
returns-then-cur c = queue-astray _ _ _ _ _ _ _ _ _ c.loop-cur.invariant.0 c.loop-cur-test.false c.if-cur.true

pub returns : goal.returns
returns c = queue-done _ _ _ _ _ _ _ _ _ c.loop-cur.invariant.0 c.loop-cur-test.false c.if-cur.false
