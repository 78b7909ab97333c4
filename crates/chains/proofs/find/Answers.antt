use Prim.Native.Nat.{◌-◌}
use mathlib.Core.Path.{sym, ◌∙◌}
use native.Mathlib.Omega.{arith}
use Rattle.chains.proofs.SeekLaws.{seek-end, seek-none, seek_found, seek-on}
use Rattle.chains.proofs.find.Goals as goal

pub returns-then-slot-z : goal.returns-then-slot-z
returns-then-slot-z c = seek-none _ _ _ _ (c.args.z.slots - c.loop.counter) _ _ _ (omega arith) c.loop.invariant c.if-slot-z.true

pub returns-then-code_of-code : goal.returns-then-code_of-code
returns-then-code_of-code c =
    seek_found _ _ _ _ (c.args.z.slots - c.loop.counter) _ _ _ (omega arith) c.loop.invariant (omega arith) c.if-slot-z.false
    (sym c.code_of.ensures ∙ c.if-code_of-code.true)

pub loop-preserved : goal.loop-preserved
loop-preserved c =
    rw c.chain_link-slot.ensures
    (seek-on _ _ _ _ _ _ _ _ (omega arith) c.loop.invariant c.if-slot-z.false (λ q. c.if-code_of-code.false (c.code_of.ensures ∙ q)))

pub returns-else-code_of-code : goal.returns-else-code_of-code
returns-else-code_of-code c =
    seek-end _ _ _ _ _ _
    (seek-on _ _ _ _ 0 _ _ _ (omega arith) c.loop.invariant c.if-slot-z.false (λ q. c.if-code_of-code.false (c.code_of.ensures ∙ q)))
