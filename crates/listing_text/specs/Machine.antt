-- The machine that the code of `line` is: what a line has been read as, byte by byte. That it reads what `parsed` says is a theorem (`parses` of
-- proofs/LineLaws.antt), so nothing here needs to be believed.
use Rattle.std.specs.Prelude.{ℕ, ◌+◌, ◌*◌, cond, List, [], ◌∷◌, ◌++◌, length, ltb, eqb, None, Some}
use Rattle.std.specs.declared.option.Option.{Option}
use Rattle.std.specs.List.{find, fold}
use Rattle.std.specs.Option.{unwrap_or}
use Rattle.std.specs.Str.{bytes_eq}
use lib.Chars.{codes}
use Rattle.model.specs.Digits.{ten, is_digit, digit_of}
use Rattle.listing_text.specs.Number.{space}
use Rattle.listing_text.specs.Call.{Parsed, bad, code, Command, commands, lookup, asked}
use Rattle.listing_text.specs.declared.command.Command as named-command
use Rattle.listing_text.specs.declared.command.Command.TheVariants.{SetUp, Add, Replace, Delete, Begin, End, Start, Step, Pass, Clock, On, Off, HandBack, Awaited}
use Rattle.listing_text.specs.declared.line.Line.{Line}
use Rattle.listing_text.specs.declared.line.Line.TheVariants.{Bad, Naming, Arguing}

-- ---- names

abbrev pub name_of : named-command.Command → List ℕ
name_of SetUp = codes "setup"
name_of Add = codes "add"
name_of Replace = codes "rep"
name_of Delete = codes "del"
name_of Begin = codes "begin"
name_of End = codes "end"
name_of Start = codes "start"
name_of Step = codes "step"
name_of Pass = codes "pass"
name_of Clock = codes "clock"
name_of On = codes "on"
name_of Off = codes "off"
name_of HandBack = codes "back"
name_of Awaited = codes "awaited"

abbrev pub all_commands : List named-command.Command
all_commands =
    SetUp ∷ Add ∷ Replace ∷ Delete ∷ Begin ∷ End ∷ Start ∷ Step ∷ Pass ∷ Clock ∷ On ∷ Off ∷ HandBack ∷ Awaited ∷ []

-- what the command of that name takes and asks for
unfoldable pub entry : named-command.Command → Command
entry c = lookup (name_of c) commands

-- the command of that name, if there is one
abbrev pub named : List ℕ → Option named-command.Command
named w = find (λ c. bytes_eq w (name_of c)) all_commands

-- ---- states

-- a line whose first word is w so far
abbrev pub naming : List ℕ → Line
naming w = Naming w

-- nothing read
abbrev pub started : Line
started = naming []

-- the command c, the arguments vs, and one of value v so far, or none yet
abbrev pub arguing : named-command.Command → List ℕ → Option ℕ → Line
arguing c vs v = Arguing c vs v

-- ---- steps

-- the most letters of a command, and how many arguments a line has room for
abbrev pub letters : ℕ
letters = 7

abbrev pub room : ℕ
room = 4

abbrev pub so_far : Option ℕ → ℕ
so_far v = unwrap_or v 0

-- a digit of an argument
unfoldable pub with_digit : Option ℕ → ℕ → Option ℕ
with_digit v b =
    let n = so_far v * ten + digit_of b in
    cond (is_digit b) (cond (ltb n code) (Some n) None) None

abbrev pub counted : named-command.Command → List ℕ → Option ℕ → Line
counted c vs None = Bad
counted c vs (Some n) = Arguing c vs (Some n)

-- a byte that is no space
unfoldable pub grown : Line → ℕ → Line
grown Bad b = Bad
grown (Naming w) b = cond (ltb (length w) letters) (naming (w ++ b ∷ [])) Bad
grown (Arguing c vs v) b = counted c vs (with_digit v b)

-- the end of an argument
unfoldable pub argued : named-command.Command → List ℕ → ℕ → Line
argued c vs n = cond (ltb (length vs) room) (arguing c (vs ++ n ∷ []) None) Bad

abbrev pub begun : Option named-command.Command → Line
begun None = Bad
begun (Some c) = arguing c [] None

-- the end of a word
unfoldable pub ended : Line → Line
ended Bad = Bad
ended (Naming w) = begun (named w)
ended (Arguing c vs None) = Bad
ended (Arguing c vs (Some n)) = argued c vs n

unfoldable pub fed : Line → ℕ → Line
fed l b = cond (eqb b space) (ended l) (grown l b)

-- several bytes, one after the other
abbrev pub fed_all : Line → List ℕ → Line
fed_all l bs = fold fed l bs

-- ---- the end of a line

-- what a line whose last word has ended asks for
unfoldable pub requested : Line → Parsed
requested Bad = bad
requested (Naming w) = bad
requested (Arguing c vs v) = asked (entry c) vs

unfoldable pub finished : Line → Parsed
finished l = requested (ended l)
