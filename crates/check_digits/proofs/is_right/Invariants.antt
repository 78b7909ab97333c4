-- The loop's invariant: what is added and what is left make the whole sum (`Adding`).
use Prim.Native.Nat.{◌-◌}
use Rattle.model.specs.CheckDigit.{code_digits}
use Rattle.check_digits.proofs.AddingLaws.{Adding}
use Rattle.check_digits.proofs.is_right.Given as goal

abbrev pub invariant-loop : goal.invariant-loop
invariant-loop l = Adding l.code l.rest l.weight l.sum (code_digits - l.counter)
