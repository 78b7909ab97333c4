-- What the functions of the program ensure.
use Rattle.std.specs.Prelude.{ℕ, ◌+◌, ◌*◌, ◌≤◌, ◌<◌, List, [], ◌++◌, None, Some, ◌≡◌, length, take, ⊤, Ok, Err, Result}
use Rattle.std.specs.Io.KnownBytes.{Appends, Consumes, IsAtEnd}
use Rattle.std.specs.declared.option.Option.{Option}
use Rattle.listing_text.specs.Call.{Parsed, parsed}
use Rattle.listing_text.specs.Answer.{line_length, Puts}
use Rattle.listing_text.specs.declared.line.Line.{Line}
use Rattle.listing_text.specs.LineReading.{Reads}
use Rattle.listing.specs.Output.{answered, after, answered_all, after_all, ended, unended, last_line, lines_of, output, lent}
use Rattle.listing.specs.declared.answers.Place.{Place}
use Rattle.listing.specs.declared.serve.Failure.{Failure}
use Rattle.listing.specs.declared.serve.Failure.TheVariants.{Read, Write}

-- a memory m, where p was asked, became m', and a buffer that held xs holds ys: the text of the answer at its end
pub record Prints (m : List ℕ) (p : Parsed) (xs m' ys : List ℕ) : Type 0 where
  pub text : Puts line_length xs (answered m p) ys
  pub memory : m' ≡ after m p

-- a line that has been read asked for what its bytes say, and was answered
pub record AnswersLine (l : Line) (m xs m' ys : List ℕ) : Type 0 where
  pub prints : (p : List ℕ) → Reads l p → Prints m (parsed p) xs m' ys
  pub short : length ys ≤ length xs + line_length

-- the line that has begun and not ended is what has been read of p, and none where p is empty
abbrev pub Holds : Option Line → List ℕ → Type 0
Holds None p = p ≡ []
Holds (Some l) p = Reads l p × (0 < length p)

-- a part of a block was answered: the lines that end in it, where p is what had been read of the first
pub record Answers (m xs p part m' ys : List ℕ) (u : Option Line) : Type 0 where
  pub unended : Holds u (unended p part)
  pub text : ys ≡ xs ++ answered_all m (ended p part)
  pub memory : m' ≡ after_all m (ended p part)

-- a block was answered from the place a to the place b, into a buffer that held xs and holds ys
pub record Goes (m xs : List ℕ) (a : Place) (m' ys : List ℕ) (b : Place) : Type 0 where
  pub part : List ℕ
  pub on : a.rest.now ≡ part ++ b.rest.now
  pub answers : (p : List ℕ) → Holds a.unended p → Answers m xs p part m' ys b.unended
  -- at most a line is printed for each byte read
  pub paced : length ys ≤ length xs + line_length * length part

-- the same by at least a byte, to the end of a line or of the block
pub record GoesOn (m xs : List ℕ) (a : Place) (m' ys : List ℕ) (b : Place) : Type 0 where
  pub goes : Goes m xs a m' ys b
  pub further : length b.rest.now < length a.rest.now

-- the same to the end of the block, unless the buffer, of n bytes, has no room for a further line
pub record GoesThrough (n : ℕ) (m xs : List ℕ) (a : Place) (m' ys : List ℕ) (b : Place) : Type 0 where
  pub goes : Goes m xs a m' ys b
  pub full : 0 < length b.rest.now → n < length ys + line_length

-- a text was answered, where p is what had been read of its first line
pub record Served (m p text m' : List ℕ) (u : Option Line) : Type 0 where
  pub unended : Holds u (unended p text)
  pub memory : m' ≡ after_all m (ended p text)

-- a whole block was answered
pub record ServesBlock (m block : List ℕ) (u : Option Line) (m' : List ℕ) (v : Option Line) : Type 0 where
  pub served : (p : List ℕ) → Holds u p → Served m p block m' v

-- and the answers were written after what the writer held, where that is known
pub record WritesBlock (m block : List ℕ) (u : Option Line) (held held' : Option (List ℕ)) : Type 0 where
  pub written : (p : List ℕ) → Holds u p → Appends held held' (answered_all m (ended p block))

-- the lines that end in the first bytes of a block were answered
pub record ServesPart (m block : List ℕ) (u : Option Line) (m' : List ℕ) : Type 0 where
  pub bytes : ℕ
  pub inside : bytes ≤ length block
  pub memory : (p : List ℕ) → Holds u p → m' ≡ after_all m (ended p (take bytes block))

-- the last line was answered, if it has a byte
pub record EndsInput (m : List ℕ) (u : Option Line) (m' : List ℕ) : Type 0 where
  pub memory : (p : List ℕ) → Holds u p → m' ≡ after_all m (last_line p)

-- and the answer was written after what the writer held, where that is known
pub record WritesEnd (m : List ℕ) (u : Option Line) (held held' : Option (List ℕ)) : Type 0 where
  pub written : (p : List ℕ) → Holds u p → Appends held held' (answered_all m (last_line p))

-- an input was read to its end, its output written after what the writer held, and the memory left as its lines leave it
pub record ServesInput (m : List ℕ) (known held : Option (List ℕ)) (m' : List ℕ) (known' held' : Option (List ℕ)) : Type 0 where
  pub input : List ℕ
  pub read : Consumes known known' input
  pub end : IsAtEnd known'
  pub memory : m' ≡ after_all m (lines_of input)
  pub written : Appends held held' (output m input)

-- the same on the words that a listing lends
pub record ServesListing (known held known' held' : Option (List ℕ)) : Type 0 where
  pub input : List ℕ
  pub read : Consumes known known' input
  pub end : IsAtEnd known'
  pub written : Appends held held' (output lent input)

-- ---- what cannot be read

-- P holds where a read failed
abbrev pub IfUnread : {A : Type 0} → Result A Failure → Type 0 → Type 0
IfUnread (Ok x) P = ⊤
IfUnread (Err (Read e)) P = P
IfUnread (Err (Write e)) P = ⊤

-- a part of the input, from its start on, was read, the lines that end in it were answered, and the answers written
pub record ServedPart (m : List ℕ) (known held : Option (List ℕ)) (m' : List ℕ) (known' held' : Option (List ℕ)) : Type 0 where
  pub part : List ℕ
  pub read : Consumes known known' part
  pub memory : m' ≡ after_all m (ended [] part)
  pub written : Appends held held' (answered_all m (ended [] part))
