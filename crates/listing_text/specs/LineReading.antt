-- What the functions of `line` ensure: which call a line asks for, what has been read of a line, and which part of a block belongs to it.
use Rattle.std.specs.Prelude.{ℕ, false, cond, List, [], ◌∷◌, ◌++◌, ◌≡◌, eqb, None, Some}
use Rattle.std.specs.declared.option.Option.{Option}
use denote.Ref.{Bor}
use Rattle.model.specs.Lists.{member}
use Rattle.calls.specs.declared.Call as code-call
use Rattle.listing_text.specs.Number.{newline}
use Rattle.listing_text.specs.Call.{parsed}
use Rattle.listing_text.specs.Arguments.{parsed_of}
use Rattle.listing_text.specs.Machine.{started, fed, fed_all, finished}
use Rattle.listing_text.specs.declared.line.Line.{Line}
use Rattle.listing_text.specs.declared.line.Fed.{Fed}

-- the line l is what has been read of the bytes bs
abbrev pub Reads : Line → List ℕ → Type 0
Reads l bs = l ≡ fed_all started bs

-- r is l with a byte more
pub record Feeds (l : Line) (b : ℕ) (r : Line) : Type 0 where
  pub machine : r ≡ fed l b
  pub reads : (bs : List ℕ) → Reads l bs → Reads r (bs ++ b ∷ [])

-- r is what the line l asks for
pub record Finishes (l : Line) (r : Option code-call.Call) : Type 0 where
  pub machine : parsed_of r ≡ finished l
  pub reads : (bs : List ℕ) → Reads l bs → parsed_of r ≡ parsed bs

-- the bytes before the first newline; all where there is none
unfoldable pub first_line : List ℕ → List ℕ
first_line [] = []
first_line (b ∷ bs) = cond (eqb newline b) [] (b ∷ first_line bs)

-- r is what follows the first newline of a block, if it has one
abbrev pub Follows : List ℕ → Option (Bor (List ℕ)) → Type 0
Follows block None = member newline block ≡ false
Follows block (Some rest) = block ≡ first_line block ++ newline ∷ rest.now

-- r is l with the bytes of the block up to a newline, which ends the line, or up to the end of the block
pub record BlockFeeds (l : Line) (block : List ℕ) (r : Fed) : Type 0 where
  pub machine : r.line ≡ fed_all l (first_line block)
  pub rest : Follows block r.rest
  pub reads : (bs : List ℕ) → Reads l bs → Reads r.line (bs ++ first_line block)
