-- Which call of the model a call of the code is: the one of the same name, with the same numbers.
use Rattle.model.specs.Rules.{Op, add, replace, delete, begin, end, start, step, pass, clock, on, off, hand_back, awaited}
use Rattle.model.specs.Calls.{Call, set_up, on_state}
use Rattle.words.specs.Lent.{named}
use Rattle.calls.specs.declared.Op as code-op
use Rattle.calls.specs.declared.Op.TheVariants.{Add, Replace, Delete, Begin, End, Start, Step, Pass, Clock, On, Off, HandBack, Awaited}
use Rattle.calls.specs.declared.Call as code
use Rattle.calls.specs.declared.Call.TheVariants.{SetUp, OnState}

abbrev pub op_of : code-op.Op → Op
op_of (Add i p) = add i p.code p.deposit p.material
op_of (Replace i p) = replace i p.code p.deposit p.material
op_of (Delete i c) = delete i c
op_of (Begin i) = begin i
op_of (End i) = end i
op_of (Start i c) = start i c
op_of (Step i) = step i
op_of (Pass i k) = pass i k
op_of (Clock i) = clock i
op_of (On i) = on i
op_of (Off i) = off i
op_of (HandBack i) = hand_back i
op_of Awaited = awaited

abbrev pub call_of : code.Call → Call
call_of (SetUp z) = set_up (named z)
call_of (OnState k) = on_state (op_of k)
