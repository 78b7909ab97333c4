-- The loop's invariant: the digits left, followed by the bytes from there on, are the text that is wanted.
use mathlib.Core.Path.{◌≡◌}
use lib.ListN.{length}
use Rattle.labels.proofs.WriteLaws.{put_into}
use Rattle.labels.proofs.put_digits.Given as goal

abbrev pub invariant-loop-i : goal.invariant-loop-i
invariant-loop-i l = put_into l.text l.i l.rest ≡ put_into l.initial.text (length l.initial.text) l.code
