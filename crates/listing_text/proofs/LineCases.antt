-- Worked examples: lines of document 01's listing and their calls, lines that are bad, and lines that are printed.
use mathlib.Core.Path.{◌≡◌, refl}
use Prim.Native.String.{String}
use Rattle.model.specs.Lists.{is_empty, all, same}
use Rattle.model.specs.Rules.{add, delete, start, step, awaited, accepted}
use Rattle.model.specs.Calls.{set_up, sized, on_state}
use Rattle.model.specs.Digits.{number_from, bytes, value, value_from}
use Rattle.listing_text.specs.Number.{is_number, decimal, decimal_in}
use Rattle.listing_text.specs.Call.{Parsed, bad, call, longer, words_of, commands, lookup, taken, asked, of_words, parsed}
use Rattle.listing_text.specs.Answer.{line_text, bad_text}

reads : String → Parsed
unfolding bytes is_empty all same is_number value value_from number_from longer words_of commands lookup taken asked of_words parsed
reads s = parsed (bytes s)

setup : reads "setup 1 1 2 3" ≡ call (set_up (sized 1 1 2 3))
unfolding reads
setup = refl

-- one yard, by value
setup-by-value : reads "setup 01 1 2 3" ≡ call (set_up (sized 1 1 2 3))
unfolding reads
setup-by-value = refl

-- any other is bad, as is set-up without its yards; what the other numbers may be is the call's to judge
two-yards : reads "setup 2 1 1 1" ≡ bad
unfolding reads
two-yards = refl

no-yard : reads "setup 0 1 1 1" ≡ bad
unfolding reads
no-yard = refl

yards-left-out : reads "setup 1 1 1" ≡ bad
unfolding reads
yards-left-out = refl

five-sizes : reads "setup 1 2 3 4 5" ≡ bad
unfolding reads
five-sizes = refl

no-cabinet : reads "setup 1 0 1 1" ≡ call (set_up (sized 1 0 1 1))
unfolding reads
no-cabinet = refl

added : reads "add 0 17 25 1" ≡ call (on_state (add 0 17 25 1))
unfolding reads
added = refl

deleted : reads "del 0 17" ≡ call (on_state (delete 0 17))
unfolding reads
deleted = refl

awaiting : reads "awaited" ≡ call (on_state awaited)
unfolding reads
awaiting = refl

-- judged by value: zeros in front are allowed
zeros-in-front : reads "start 1 0000000000017" ≡ call (on_state (start 1 17))
unfolding reads
zeros-in-front = refl

-- the largest code, and one more
largest-code : reads "start 1 18446744073709551615" ≡ call (on_state (start 1 18446744073709551615))
unfolding reads
largest-code = refl

past-code : reads "start 1 18446744073709551616" ≡ bad
unfolding reads
past-code = refl

-- the largest lane, and one more
largest-lane : reads "step 4294967295" ≡ call (on_state (step 4294967295))
unfolding reads
largest-lane = refl

past-lane : reads "step 4294967296" ≡ bad
unfolding reads
past-lane = refl

-- a double space, a space at an end, an empty line, a tab, a sign, a carriage return
double-space : reads "begin  1" ≡ bad
unfolding reads
double-space = refl

space-in-front : reads " begin 1" ≡ bad
unfolding reads
space-in-front = refl

space-at-the-end : reads "begin 1 " ≡ bad
unfolding reads
space-at-the-end = refl

empty : reads "" ≡ bad
unfolding reads
empty = refl

tab : reads "begin\t1" ≡ bad
unfolding reads
tab = refl

sign : reads "pass 1 +0" ≡ bad
unfolding reads
sign = refl

carriage-return : reads "begin 1\r" ≡ bad
unfolding reads
carriage-return = refl

-- a wrong count, no command
too_many : reads "awaited 1" ≡ bad
unfolding reads
too_many = refl

too_few : reads "add 0 17 25" ≡ bad
unfolding reads
too_few = refl

no-command : reads "replace 0 17 25 1" ≡ bad
unfolding reads
no-command = refl

-- the last line of the listing
awaited-line : line_text (accepted 0 4294967295 3 0) ≡ bytes "0 0 4294967295 3 0\n"
unfolding line_text decimal decimal_in bytes
awaited-line = refl

bad-line : bad_text ≡ bytes "bad\n"
unfolding bad_text bytes
bad-line = refl
