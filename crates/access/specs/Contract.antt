-- What every call promises: all five words, and every word of the memory.
use Rattle.std.specs.Prelude.{ℕ, ◌≡◌, List}
use Rattle.model.specs.Rules.{Answer as Reply}
use Rattle.model.specs.Calls.{Call, reply, left}
use Rattle.access.specs.declared.Answer.{Answer}

-- the code's answer as the model's
abbrev pub five : Answer → Reply
five r = record { status = r.status; a = r.a; b = r.b; c = r.c; d = r.d }

-- the call k on the memory m answered r and left n
pub record Does (k : Call) (m : List ℕ) (r : Answer) (n : List ℕ) : Type 0 where
  pub answer : five r ≡ reply m k
  pub memory : n ≡ left m k
