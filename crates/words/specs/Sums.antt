-- Sums of words, which wrap; differences are the model's `less`.
use Rattle.std.specs.Prelude.{ℕ, ◌+◌, ◌%◌}
use Rattle.model.specs.Word.{word_limit}

-- a and b together, wrapping
abbrev pub plus : ℕ → ℕ → ℕ
plus a b = (a + b) % word_limit
