-- Worked examples: inputs at the edges, and what is printed for them.
use mathlib.Core.List.{List, []}
use mathlib.Core.Path.{◌≡◌, refl}
use Prim.Native.Nat.{ℕ}
use Prim.Native.String.{String}
use Rattle.model.specs.Lists.{is_empty, all, same}
use Rattle.model.specs.Digits.{number_from, bytes, value, value_from}
use Rattle.listing_text.specs.Number.{is_number, decimal, decimal_in}
use Rattle.listing_text.specs.Call.{longer, words_of, commands, lookup, taken, asked, of_words, parsed}
use Rattle.listing_text.specs.Answer.{line_text, bad_text}
use Rattle.listing.specs.Output.{answered, after, answered_all, after_all, ended, unended, last_line, lines_of, output}

prints : String → List ℕ
unfolding bytes is_empty all same is_number value value_from number_from decimal decimal_in longer words_of commands lookup taken asked of_words parsed
    line_text bad_text answered after answered_all after_all ended unended last_line lines_of output
prints s = output [] (bytes s)

-- no line in, no line out
no_line : prints "" ≡ []
unfolding prints
no_line = refl

-- an empty line is a line, and a newline at the very end opens no further one
empty-line : prints "\n" ≡ bytes "bad\n"
unfolding prints bytes
empty-line = refl

-- a last line without a newline is a line
last-line : prints "\n\nx" ≡ bytes "bad\nbad\nbad\n"
unfolding prints bytes
last-line = refl
