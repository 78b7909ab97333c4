-- What the writer of labels promises: all five words, and every byte of the text.
use Rattle.std.specs.Prelude.{ℕ, ◌≡◌, List}
use Rattle.model.specs.Labels.{write_reply, written}
use Rattle.access.specs.declared.Answer.{Answer}
use Rattle.access.specs.Contract.{five}

-- to write the label of c into the text t answered r and left u
pub record Writes (t : List ℕ) (c : ℕ) (r : Answer) (u : List ℕ) : Type 0 where
  pub answer : five r ≡ write_reply t c
  pub text : u ≡ written t c
