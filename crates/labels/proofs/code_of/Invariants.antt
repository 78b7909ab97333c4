-- The loop's invariant: the code so far, followed by the digits left, says the label's (`Reading`).
use Rattle.labels.proofs.ReadLaws.{Reading}
use Rattle.labels.proofs.code_of.Given as goal

abbrev pub invariant-loop-b : goal.invariant-loop-b
invariant-loop-b l = Reading l.text l.code l.b-index
